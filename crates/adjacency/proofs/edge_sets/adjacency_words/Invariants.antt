-- `adjacency_words`. The invariant: the rows before j are in the words. Assumes nothing.
use Rattle.adjacency.specs.Adjacency.{conflict_of, stitch_of, tie_of}
use Rattle.adjacency.proofs.AdjacencyLaws.{Rows}
use Rattle.adjacency.proofs.edge_sets.adjacency_words.Given as goal

abbrev pub invariant-loop-j : goal.invariant-loop-j
invariant-loop-j l = record {
  conflicts : Rows (conflict_of l.layer.settings l.layer.pieces.now) l.j l.edges.conflicts;
  stitches : Rows (stitch_of l.layer.settings l.layer.pieces.now) l.j l.edges.stitches;
  ties : Rows (tie_of l.layer.settings l.layer.pieces.now) l.j l.ties;
}
