-- `search_components`: a component is found, searched and taken out, until none is left. Assumes nothing.
use mathlib.Core.List.{List}
use Prim.Native.Nat.{ℕ}
use Rattle.adjacency.specs.Adjacency.{word_graph}
use Rattle.adjacency.specs.Members.{members_of}
use Rattle.adjacency.proofs.MemberLaws.{in_members}
use Rattle.theory.proofs.Neighbours.{SameJoined, joined_same}
use Rattle.components.proofs.Taking.{fewer_left}
use Rattle.units.proofs.UnitNeighbours.{unit_neighbours}
use Rattle.core_search.specs.Core.{graph_of}
use Rattle.core_search.proofs.CoreLaws.{core_done, core_next}
use Rattle.core_search.proofs.search_components.Goals as goal
use Rattle.core_search.proofs.search_components.Goals.{In-Some}

-- a vertex is left: the edges of units join the units that the graph of units joins
module _ (c : In-Some) where
  joins : (vertices : List ℕ) → SameJoined (graph_of c.args.graph.now) (word_graph c.args.merged.now.conflicts c.args.merged.now.stitches) (members_of vertices)
  joins vertices = joined_same (unit_neighbours c.requires.merged c.requires.merged_2 (λ u m. ((in_members vertices u).0 m).0))

pub loop-v-smaller : goal.loop-v-smaller
loop-v-smaller c = fewer_left _ _ c.in-Some.ensures.0 c.in-Some.ensures.1 c.component-component.ensures c.difference-rest.ensures

pub loop-v-preserved : goal.loop-v-preserved
loop-v-preserved c =
    core_next c.loop-v.invariant (joins (goal.at.loop-v-preserved c).In-Some) c.in-Some.ensures.0 c.in-Some.ensures.1 c.component-component.ensures _ _ _ c.difference-rest.ensures c.search_one.ensures

pub returns : goal.returns
returns c = core_done c.loop-v.invariant c.in_default.ensures
