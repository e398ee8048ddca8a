-- `write_result`: a line for each mask passed. Assumes nothing.
use lib.ListN.{take}
use Rattle.rules.specs.ResultText.{mask_lines}
use Rattle.line_writer.specs.Writing.{Wrote}
use Rattle.result_writer.proofs.write_result.Given as goal

abbrev pub invariant-loop-mask : goal.invariant-loop-mask
invariant-loop-mask l = Wrote l.initial.out (mask_lines (take l.mask-index l.masks)) l.out
