-- `numbers`: the numbers passed. Assumes nothing.
use lib.ListN.{take}
use Rattle.rules.specs.Lines.{comma_list}
use Rattle.line_writer.specs.Writing.{Wrote}
use Rattle.line_writer.proofs.Writer.numbers.Given as goal

abbrev pub invariant-loop-k : goal.invariant-loop-k
invariant-loop-k l = Wrote l.initial.self (comma_list (take l.k l.numbers)) l.self
