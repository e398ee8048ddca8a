-- `write_fixed`: the lines of the pieces passed. Assumes nothing.
use lib.ListN.{take}
use Rattle.rules.specs.LayerText.{fixed_lines}
use Rattle.line_writer.specs.Writing.{Wrote}
use Rattle.writer.proofs.layer.write_fixed.Given as goal

abbrev pub invariant-loop-i : goal.invariant-loop-i
invariant-loop-i l = Wrote l.initial.out (fixed_lines 0 (take l.i l.pieces)) l.out
