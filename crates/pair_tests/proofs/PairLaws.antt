-- Pairs of pieces. The one test of a pair says of each kind of edge, and of a tie, whether it is there: a pair has at most one of them. So what the pairs of a
-- layer count for are the counts of its graph. Assumes nothing.
use mathlib.Core.List.{List}
use mathlib.Core.Path.{◌≡◌, refl, sym, ◌∙◌}
use Prim.Native.Nat.{ℕ, ◌≤◌}
use native.Mathlib.Omega.{arith}
use Rattle.rules.specs.declared.layer.Settings.{Settings}
use Rattle.rules.specs.declared.layer.Edge.{Edge}
use Rattle.rules.specs.Basics.{given, sum_pairs}
use Rattle.rules.specs.Edges.{edge_of, graph_of}
use Rattle.rules.specs.Score.{mask_of, conflicts_of, stitches_of}
use Rattle.rules.specs.declared.layer.Piece.{Piece}
use Rattle.rules.specs.Settings.{piece_at}
use Rattle.adjacency.specs.Kinds.{is_conflict, is_stitch}
use Rattle.counting.specs.Counted.{one_mask, two_masks}
use Rattle.pair_tests.specs.PairTests.{conflict_by, stitch_by, conflict_at, stitch_at}
use Rattle.rules.proofs.ScoreBounds.{given_le, given_nothing}
use Rattle.rules.proofs.Sums.{pairs_ext}
use Rattle.adjacency.proofs.KindLaws.{conflict_kind, stitch_kind}

-- ---- what an edge adds

pub conflict_by_le : (edge : Edge) (a b : ℕ) → conflict_by edge a b ≤ 1
conflict_by_le Edge.Conflict a b = given_le (one_mask a b) (omega arith)
conflict_by_le Edge.Stitch a b = omega arith
conflict_by_le Edge.Tie a b = omega arith
conflict_by_le Edge.None a b = omega arith

pub stitch_by_le : (edge : Edge) (a b : ℕ) → stitch_by edge a b ≤ 1
stitch_by_le Edge.Conflict a b = omega arith
stitch_by_le Edge.Stitch a b = given_le (two_masks a b) (omega arith)
stitch_by_le Edge.Tie a b = omega arith
stitch_by_le Edge.None a b = omega arith

-- the masks, and then the kind, as the score has them
conflict_counts : (edge : Edge) (a b : ℕ) → conflict_by edge a b ≡ given (one_mask a b) (given (is_conflict edge) 1)
conflict_counts Edge.Conflict a b = refl
conflict_counts Edge.Stitch a b = sym (given_nothing (one_mask a b))
conflict_counts Edge.Tie a b = sym (given_nothing (one_mask a b))
conflict_counts Edge.None a b = sym (given_nothing (one_mask a b))

stitch_counts : (edge : Edge) (a b : ℕ) → stitch_by edge a b ≡ given (two_masks a b) (given (is_stitch edge) 1)
stitch_counts Edge.Conflict a b = sym (given_nothing (two_masks a b))
stitch_counts Edge.Stitch a b = refl
stitch_counts Edge.Tie a b = sym (given_nothing (two_masks a b))
stitch_counts Edge.None a b = sym (given_nothing (two_masks a b))

-- ---- the pairs of a layer

module _ (s : Settings) (ps : List Piece) (masks : List ℕ) where
  pub conflict_le : (u v : ℕ) → conflict_at s ps masks u v ≤ 1
  conflict_le u v = conflict_by_le (edge_of s (piece_at ps u) (piece_at ps v)) (mask_of masks u) (mask_of masks v)

  pub stitch_le : (u v : ℕ) → stitch_at s ps masks u v ≤ 1
  stitch_le u v = stitch_by_le (edge_of s (piece_at ps u) (piece_at ps v)) (mask_of masks u) (mask_of masks v)

  pub pairs_conflicts : (n : ℕ) → sum_pairs (conflict_at s ps masks) n ≡ conflicts_of (graph_of s ps) masks n
  unfolding conflicts_of
  pairs_conflicts n = pairs_ext n λ u v h l. conflict_counts (edge_of s (piece_at ps u) (piece_at ps v)) (mask_of masks u) (mask_of masks v)
      ∙ rw (conflict_kind s (piece_at ps u) (piece_at ps v))

  pub pairs_stitches : (n : ℕ) → sum_pairs (stitch_at s ps masks) n ≡ stitches_of (graph_of s ps) masks n
  unfolding stitches_of
  pairs_stitches n = pairs_ext n λ u v h l. stitch_counts (edge_of s (piece_at ps u) (piece_at ps v)) (mask_of masks u) (mask_of masks v)
      ∙ rw (stitch_kind s (piece_at ps u) (piece_at ps v))
