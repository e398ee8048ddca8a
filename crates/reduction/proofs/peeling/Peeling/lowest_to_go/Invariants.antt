-- `lowest_to_go`. The invariant: no vertex below i is there and may go. Assumes nothing.
use mathlib.Core.Bool.{◌&&◌, false}
use mathlib.Core.Path.{◌≡◌}
use Prim.Native.Nat.{ℕ, ◌≤◌, ◌<◌, ◌-◌}
use Rattle.bitset.specs.Bits.{member}
use Rattle.rules.specs.Peeling.{may_go}
use Rattle.adjacency.specs.Adjacency.{word_graph}
use Rattle.adjacency.specs.Members.{members_of}
use Rattle.adjacency.specs.UnitGraph.{fixed_at}
use Rattle.reduction.proofs.peeling.Peeling.lowest_to_go.Given as goal

abbrev pub invariant-loop-i : goal.invariant-loop-i
invariant-loop-i l = (l.i ≤ 512) × ((k : ℕ) → k < l.i → (member l.there k && may_go l.self.masks (word_graph l.self.edges.now.conflicts l.self.edges.now.stitches) (fixed_at l.self.fixed.now) (members_of l.there) k) ≡ false)

abbrev pub decreases-loop-i : goal.decreases-loop-i
decreases-loop-i l = 512 - l.i
