-- What was counted of a layer's pairs: the counts are small, and the score that they make is the layer's. Assumes nothing.
use mathlib.Core.List.{List}
use mathlib.Core.Path.{◌≡◌}
use Prim.Native.Nat.{ℕ, ◌≤◌}
use native.Mathlib.Omega.{arith}
use lib.ListN.{length}
use Rattle.rules.specs.declared.layer.Settings.{Settings}
use Rattle.rules.specs.declared.layer.Piece.{Piece}
use Rattle.rules.specs.Edges.{conflict_edge, stitch_edge, graph_of}
use Rattle.rules.specs.Settings.{piece_at}
use Rattle.rules.specs.Score.{conflicts_of, stitches_of, score_of, pairs_of}
use Rattle.rules.proofs.ScoreBounds.{given_le, conflicts_small, stitches_small}
use Rattle.pair_tests.specs.declared.tally.Tally.{Tally}
use Rattle.scoring.specs.MaskQuestions.{scoring_of, tallied}

module _ (s : Settings) (ps : List Piece) (masks : List ℕ) (t : Tally) (conflicts : t.conflicts ≡ conflicts_of (graph_of s ps) masks (length ps)) (stitches : t.stitches ≡ stitches_of (graph_of s ps) masks (length ps)) where
  -- the counts are small
  pub few_pairs : length ps ≤ 512 → (t.conflicts ≤ 130_816) × (t.stitches ≤ 130_816)
  few_pairs few = (
    rw conflicts (conflicts_small _ _ _ few (λ u v. given_le (conflict_edge s (piece_at ps u) (piece_at ps v)) {x = 1} (omega arith))),
    rw stitches (stitches_small _ _ _ few (λ u v. given_le (stitch_edge s (piece_at ps u) (piece_at ps v)) {x = 1} (omega arith))),
  )

  -- the answer
  pub tally_scoring : t.tested ≡ pairs_of (length ps) → tallied s.weight t ≡ scoring_of s ps masks
  unfolding score_of
  tally_scoring tested = rw (← conflicts, ← stitches, ← tested)
