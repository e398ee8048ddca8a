-- What a pair of pieces adds to a score, by the edge that its test found. Assumes nothing: these are definitions.
use Rattle.std.specs.Prelude.{List, ℕ, ◌+◌}
use Rattle.rules.specs.declared.layer.Settings.{Settings}
use Rattle.rules.specs.declared.layer.Edge.{Edge}
use Rattle.rules.specs.declared.layer.Piece.{Piece}
use Rattle.rules.specs.Basics.{given}
use Rattle.rules.specs.Edges.{edge_of}
use Rattle.rules.specs.Score.{mask_of}
use Rattle.rules.specs.Settings.{piece_at}
use Rattle.pair_tests.specs.declared.tally.Tally.{Tally}
use Rattle.counting.specs.Counted.{one_mask, two_masks}

-- 1 where an edge is a conflict between ends with these masks
abbrev pub conflict_by : Edge → ℕ → ℕ → ℕ
conflict_by Edge.Conflict a b = given (one_mask a b) 1
conflict_by Edge.Stitch a b = 0
conflict_by Edge.Tie a b = 0
conflict_by Edge.None a b = 0

-- 1 where it is a stitch
abbrev pub stitch_by : Edge → ℕ → ℕ → ℕ
stitch_by Edge.Conflict a b = 0
stitch_by Edge.Stitch a b = given (two_masks a b) 1
stitch_by Edge.Tie a b = 0
stitch_by Edge.None a b = 0

-- the tally after a test that found an edge between ends with these masks
abbrev pub tally_with : Tally → Edge → ℕ → ℕ → Tally
tally_with t edge a b = record { tested = t.tested + 1; conflicts = t.conflicts + conflict_by edge a b; stitches = t.stitches + stitch_by edge a b }

-- what pieces u and v count for
abbrev pub conflict_at : Settings → List Piece → List ℕ → ℕ → ℕ → ℕ
conflict_at s ps masks u v = conflict_by (edge_of s (piece_at ps u) (piece_at ps v)) (mask_of masks u) (mask_of masks v)

abbrev pub stitch_at : Settings → List Piece → List ℕ → ℕ → ℕ → ℕ
stitch_at s ps masks u v = stitch_by (edge_of s (piece_at ps u) (piece_at ps v)) (mask_of masks u) (mask_of masks v)
