-- `adjacency_row`. The invariant: the edges between j and the pieces before i were added. Assumes nothing.
use Rattle.adjacency.specs.Adjacency.{conflict_of, stitch_of, tie_of, RowTo}
use Rattle.adjacency.proofs.edge_sets.adjacency_row.Given as goal

abbrev pub invariant-loop-i : goal.invariant-loop-i
invariant-loop-i l = record {
  conflicts : RowTo (conflict_of l.layer.settings l.layer.pieces.now) l.i l.j l.initial.edges.conflicts l.edges.conflicts;
  stitches : RowTo (stitch_of l.layer.settings l.layer.pieces.now) l.i l.j l.initial.edges.stitches l.edges.stitches;
  ties : RowTo (tie_of l.layer.settings l.layer.pieces.now) l.i l.j l.initial.ties l.ties;
}
