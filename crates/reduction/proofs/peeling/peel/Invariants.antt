-- `peel`. The invariant: what peeling makes of the set is the removals listed, in front of what it makes of those still there. The measure is how many
-- those are. Assumes nothing.
use lib.ListN.{length}
use Rattle.adjacency.specs.Adjacency.{word_graph}
use Rattle.adjacency.specs.Members.{members_of}
use Rattle.adjacency.specs.UnitGraph.{fixed_at}
use Rattle.reduction.proofs.PeelLaws.{Progress}
use Rattle.reduction.proofs.peeling.peel.Given as goal

abbrev pub invariant-loop-vertex : goal.invariant-loop-vertex
invariant-loop-vertex l = Progress l.masks (word_graph l.edges.conflicts l.edges.stitches) (fixed_at l.fixed) l.initial.there l.there l.removals.items

abbrev pub decreases-loop-vertex : goal.decreases-loop-vertex
decreases-loop-vertex l = length (members_of l.there)
