-- `put_masks`: the masks that are left, put down at their vertices, are what is missing. Assumes nothing.
use mathlib.Core.Path.{◌≡◌}
use Rattle.rules.specs.Decomposition.{put_masks}
use Rattle.places.proofs.order.put_masks.Given as goal

abbrev pub invariant-loop-vertex : goal.invariant-loop-vertex
invariant-loop-vertex l = put_masks l.vertex-iterator.a.rest.now l.vertex-iterator.b.rest.now l.res ≡ put_masks l.order l.masks l.initial.res
