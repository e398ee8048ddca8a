-- `write_header`: the table has the six lines. Assumes nothing.
use Rattle.rules.specs.Lines.{ascii, number_lines}
use Rattle.line_writer.specs.Writing.{laid}
use Rattle.writer.proofs.layer.write_header.Goals as goal

pub number_lines-requires : goal.number_lines-requires
unfolding laid ascii number_lines
number_lines-requires c = c.requires

pub returns : goal.returns
unfolding laid ascii number_lines
returns c = c.number_lines.ensures
