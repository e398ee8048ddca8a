-- `add_conflicts`: the neighbours passed are counted, each for its mask. Assumes nothing.
use mathlib.Core.Path.{◌≡◌}
use Prim.Native.Nat.{ℕ, ◌+◌, ◌*◌, ◌<◌}
use lib.ListN.{get_or, take}
use Rattle.places.specs.Local.{on_mask}
use Rattle.rows.proofs.row.add_conflicts.Given as goal

abbrev pub invariant-loop-neighbour : goal.invariant-loop-neighbour
invariant-loop-neighbour l = (m : ℕ) → m < 8 → get_or l.sums m 0 ≡ get_or l.initial.sums m 0 + l.table * on_mask l.before m (take l.neighbour-index l.neighbours)
