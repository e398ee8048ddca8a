-- `write_fixed_line`: nothing, or the line. Assumes nothing.
use Rattle.rules.specs.Lines.{ascii}
use Rattle.rules.proofs.StatedMasks.{one_stated, none_stated}
use Rattle.line_writer.proofs.Puts.{wrote_none}
use Rattle.text_theory.proofs.FixedLines.{no_line, a_line}
use Rattle.writer.proofs.layer.write_fixed_line.Goals as goal

pub line-requires : goal.line-requires
unfolding ascii
line-requires c =
    let (set, same) = one_stated _ c.in-Some.ensures in
    rw (c.from.ensures, same) (rw (a_line c.args.i c.args.piece set) at c.requires)

pub returns-in-Some : goal.returns-in-Some
unfolding ascii
returns-in-Some c =
    let (set, same) = one_stated _ c.in-Some.ensures in
    rw (a_line c.args.i c.args.piece set) (rw (c.from.ensures, same) at c.line.ensures)

pub returns-in_default : goal.returns-in_default
returns-in_default c = rw (no_line c.args.i c.args.piece (none_stated _ c.in_default.ensures)) (wrote_none _)
