-- `number_lines`: the lines passed. Assumes nothing.
use lib.ListN.{take}
use Rattle.line_writer.specs.Writing.{Wrote, laid, keyed_line}
use Rattle.line_writer.proofs.Writer.number_lines.Given as goal

abbrev pub invariant-loop-key : goal.invariant-loop-key
invariant-loop-key l = Wrote l.fn.self (laid keyed_line (take l.key-index l.lines)) l.self
