use mathlib.Core.Path.{refl}
use Rattle.line_writer.specs.Writing.{laid, keyed_line}
use Rattle.line_writer.proofs.Laid.{laid_none, laid_room, laid_more}
use Rattle.line_writer.proofs.Writer.number_lines.Goals as goal

pub loop-key-init : goal.loop-key-init
loop-key-init c = laid_none keyed_line (laid keyed_line) (λ ls. refl) _

pub number_line-requires : goal.number_line-requires
number_line-requires c =
    laid_room keyed_line (laid keyed_line) (λ ls. refl) c.args.lines.now c.loop-key.key-index _ c.loop-key-test.true c.loop-key.invariant c.requires

pub loop-key-preserved : goal.loop-key-preserved
loop-key-preserved c =
    laid_more keyed_line (laid keyed_line) (λ ls. refl) c.args.lines.now c.loop-key.key-index _ c.loop-key-test.true c.loop-key.invariant c.number_line.ensures
