-- `read_masks`: the lines before the rest are mask lines, and their masks are stored as far as there is room. The measure is the text that is
-- left. Assumes nothing.
use Prim.Native.Nat.{◌+◌, ◌≤◌}
use lib.ListN.{length}
use Rattle.score.proofs.MaskLines.{Passed}
use Rattle.score.proofs.masks.read_masks.Given as goal

abbrev pub invariant-loop-rest : goal.invariant-loop-rest
invariant-loop-rest l = (l.line + length l.rest ≤ length l.text + 1) × Passed l.text l.masks.items l.rest l.line

abbrev pub decreases-loop-rest : goal.decreases-loop-rest
decreases-loop-rest l = length l.rest
