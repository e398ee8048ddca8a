-- What the adjacency words of a layer say: they join no pair by both kinds, and their graph has the layer's edges between its pieces.
-- Assumes nothing.
use mathlib.Core.List.{List}
use mathlib.Core.Path.{sym, ◌∙◌}
use Prim.Native.Nat.{ℕ}
use Rattle.bitset.specs.declared.matrix.Matrix.{Matrix}
use Rattle.rules.specs.declared.layer.Settings.{Settings}
use Rattle.rules.specs.declared.layer.Piece.{Piece}
use Rattle.rules.specs.Basics.{up_to}
use Rattle.rules.specs.Settings.{piece_at}
use Rattle.rules.specs.Edges.{conflict_edge, stitch_edge, graph_of}
use Rattle.rules.proofs.Edges.{one_kind}
use Rattle.rules.proofs.Lists.{in_up_to}
use Rattle.rules.proofs.Tests.{by_test}
use Rattle.adjacency.specs.Adjacency.{Adjacency, word_graph}
use Rattle.adjacency.proofs.AdjacencyLaws.{given_test, words_edges, words_exclusive}
use Rattle.places.specs.LaidOut.{Exclusive}
use Rattle.theory.proofs.SameEdges.{SameEdges}

module _ {s : Settings} {ps : List Piece} {n : ℕ} {conflicts stitches : Matrix} (adjacency : Adjacency s ps n conflicts stitches) where
  pub one_kind_each : Exclusive conflicts stitches
  one_kind_each =
      words_exclusive adjacency.conflicts adjacency.stitches λ a b e.
      let p = piece_at ps a in
      let q = piece_at ps b in
      given_test (stitch_edge s p q)
      ∙ by_test (stitch_edge s p q) (λ f. absurd (one_kind s p q (sym (given_test (conflict_edge s p q)) ∙ e) f)) (λ f. f)

  pub layer_edges : SameEdges (graph_of s ps) (word_graph conflicts stitches) (up_to n)
  layer_edges = record {
    conflicts = λ u v m k. sym (words_edges (λ a b. conflict_edge s (piece_at ps a) (piece_at ps b)) adjacency.conflicts u v ((in_up_to n u).0 m) ((in_up_to n v).0 k));
    stitches = λ u v m k. sym (words_edges (λ a b. stitch_edge s (piece_at ps a) (piece_at ps b)) adjacency.stitches u v ((in_up_to n u).0 m) ((in_up_to n v).0 k));
  }
