-- The calls fall in the places left, and at a place from it to its masks.
use Prim.Native.Nat.{suc, ◌-◌, ◌*◌}
use lib.ListN.{length}
use Rattle.search.proofs.Moves.{MasksLeft}
use Rattle.search.proofs.branch.Problem.+search_masks_search_place.Given as goal

abbrev pub decreases-search_masks : goal.decreases-search_masks
decreases-search_masks l = (length l.self.now.local.fixed.now - l.p) * 2

abbrev pub decreases-search_place : goal.decreases-search_place
decreases-search_place l = suc ((length l.self.now.local.fixed.now - l.p) * 2)

abbrev pub invariant-search_masks-loop-mask : goal.invariant-search_masks-loop-mask
invariant-search_masks-loop-mask l = MasksLeft l.self l.row l.initial.walk l.p l.cost l.used l.left l.first l.last l.walk l.rest l.mask
