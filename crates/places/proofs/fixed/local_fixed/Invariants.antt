-- `local_fixed`: the fixed masks of the places passed are listed. Assumes nothing.
use mathlib.Core.List.{map}
use mathlib.Core.Path.{◌≡◌}
use lib.ListN.{take}
use Rattle.adjacency.specs.UnitGraph.{fixed_at}
use Rattle.places.proofs.fixed.local_fixed.Given as goal

abbrev pub invariant-loop-vertex : goal.invariant-loop-vertex
invariant-loop-vertex l = l.local.items ≡ map (fixed_at l.fixed) (take l.vertex-index l.order)
