-- Scores: which masks count at the ends of an edge, and the words of a layer score as its graph. Assumes nothing.
use mathlib.Core.Bool.{false, not, ◌&&◌, and-true, and-false}
use mathlib.Core.List.{List}
use mathlib.Core.Path.{◌≡◌, refl, ap}
use Prim.Native.Nat.{ℕ}
use native.Mathlib.Omega.{arith}
use lib.Dec.{eqb}
use borrow.Author.Tests.{eq-eqb, ne_eqb}
use Rattle.bitset.specs.declared.matrix.Matrix.{Matrix}
use Rattle.rules.specs.declared.layer.Settings.{Settings}
use Rattle.rules.specs.declared.layer.Piece.{Piece}
use Rattle.rules.specs.Basics.{given}
use Rattle.rules.specs.Settings.{unset, piece_at}
use Rattle.rules.specs.Edges.{conflict_edge, stitch_edge, graph_of}
use Rattle.rules.specs.Score.{together, apart, conflicts_of, stitches_of, score_of}
use Rattle.rules.proofs.Sums.{pairs_ext}
use Rattle.rules.proofs.Tests.{by_test}
use Rattle.adjacency.specs.Adjacency.{Adjacency, word_graph}
use Rattle.adjacency.proofs.AdjacencyLaws.{words_edges}
use Rattle.counting.specs.Counted.{one_mask, two_masks}

-- ---- two masks

pub one_equal : {a b : ℕ} → a ≡ b → one_mask a b ≡ not (eqb b unset)
one_equal {a} {b} e = rw (e, eq-eqb b b refl) (by_test (eqb b unset) (λ t. rw t) (λ t. rw t))

pub one_other : {a b : ℕ} → (a ≡ b → ⊥) → one_mask a b ≡ false
one_other {a} {b} h = rw (ne_eqb a b h) (and-false (not (eqb a unset) && not (eqb b unset)))

pub two_equal : {a b : ℕ} → a ≡ b → two_masks a b ≡ false
two_equal {a} {b} e = rw (eq-eqb a b e) (and-false (not (eqb a unset) && not (eqb b unset)))

pub two_other : {a b : ℕ} → (a ≡ b → ⊥) → two_masks a b ≡ (not (eqb a unset) && not (eqb b unset))
two_other {a} {b} h = rw (ne_eqb a b h) (and-true (not (eqb a unset) && not (eqb b unset)))

-- ---- words and graph

pub words_score : (weight : ℕ) (s : Settings) (ps : List Piece) (n : ℕ) (conflicts stitches : Matrix) (masks : List ℕ) → Adjacency s ps n conflicts stitches
    → score_of weight (word_graph conflicts stitches) masks n ≡ score_of weight (graph_of s ps) masks n
unfolding score_of conflicts_of stitches_of
words_score weight s ps n conflicts stitches masks adjacency = rw (same-conflicts, same_stitches)
  where
    same-conflicts : conflicts_of (word_graph conflicts stitches) masks n ≡ conflicts_of (graph_of s ps) masks n
    same-conflicts =
        pairs_ext n λ u v h k. ap (given (together masks u v)) (words_edges (λ a b. conflict_edge s (piece_at ps a) (piece_at ps b)) adjacency.conflicts u v (omega arith) k)

    same_stitches : stitches_of (word_graph conflicts stitches) masks n ≡ stitches_of (graph_of s ps) masks n
    same_stitches =
        pairs_ext n λ u v h k. ap (given (apart masks u v)) (words_edges (λ a b. stitch_edge s (piece_at ps a) (piece_at ps b)) adjacency.stitches u v (omega arith) k)
