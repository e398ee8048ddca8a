use Prim.Native.Nat.{◌<◌}
use native.Mathlib.Omega.{arith}
use lib.ListN.{length}
use Rattle.adjacency.specs.Adjacency.{word_graph}
use Rattle.adjacency.specs.Members.{members_of}
use Rattle.adjacency.specs.UnitGraph.{fixed_at}
use Rattle.reduction.proofs.PeelLaws.{Progress, progress_none, progress_more, progress_end, goes_small, goes_room}
use Rattle.reduction.proofs.peeling.peel.Goals as goal
use Rattle.reduction.proofs.peeling.peel.Goals.{After-take_out}

pub loop-vertex-init : goal.loop-vertex-init
loop-vertex-init c = rw c.new-removals.ensures (progress_none _ _ _ _)

pub lowest_in-neighbour-requires : goal.lowest_in-neighbour-requires
lowest_in-neighbour-requires c = goes_small c.args.edges.now.conflicts c.args.edges.now.stitches c.loop-vertex.invariant c.in-Some.ensures

pub push-requires : goal.push-requires
push-requires c = (omega arith, goes_room c.args.edges.now.conflicts c.args.edges.now.stitches c.loop-vertex.invariant c.in-Some.ensures)

pub take_out-requires : goal.take_out-requires
take_out-requires c = goes_small c.args.edges.now.conflicts c.args.edges.now.stitches c.loop-vertex.invariant c.in-Some.ensures

-- a turn removes the vertex that was found
more : (c : After-take_out)
    → let a = c.args in
    (Progress a.masks (word_graph a.edges.now.conflicts a.edges.now.stitches) (fixed_at a.fixed.now) a.there.now c.take_out.new.self c.push.new.self.items)
    × (length (members_of c.take_out.new.self) < length (members_of c.loop-vertex.there))
more c =
    rw c.push.ensures.items
    (progress_more c.args.edges.now.conflicts c.args.edges.now.stitches c.loop-vertex.invariant c.in-Some.ensures _ c.lowest_in-neighbour.ensures c.take_out.ensures)

pub loop-vertex-smaller : goal.loop-vertex-smaller
loop-vertex-smaller c = (more (goal.at.loop-vertex-smaller c).After-take_out).1

pub loop-vertex-preserved : goal.loop-vertex-preserved
loop-vertex-preserved c = (more (goal.at.loop-vertex-preserved c).After-take_out).0

pub returns : goal.returns
returns c = progress_end c.args.edges.now.conflicts c.args.edges.now.stitches c.loop-vertex.invariant c.in_default.ensures
