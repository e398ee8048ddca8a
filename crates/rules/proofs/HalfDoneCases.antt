-- Worked cases of masks that are half done (RULES 17), computed from the definitions, on the layers of the cases of ties. Assumes nothing.
use mathlib.Core.List.{List, [], ◌∷◌}
use mathlib.Core.Path.{◌≡◌, refl}
use Prim.Native.Nat.{ℕ}
use Rattle.rules.specs.declared.answers.Scoring.{Scoring}
use Rattle.rules.specs.declared.layer.Piece.{Piece}
use Rattle.rules.specs.declared.refusal.Place.{Place}
use Rattle.rules.specs.Basics.{sum_to, sum_pairs, up_from, any_of, keep, find}
use Rattle.rules.specs.Settings.{settings_in_range, piece_in_range, has_area}
use Rattle.rules.specs.Edges.{overlap_x, overlap_y, gap_x, gap_y, squared_gap, conflict_edge, contact, stitch_edge, tied, overlapping}
use Rattle.rules.specs.Score.{conflicts_of, stitches_of, score_of}
use Rattle.rules.specs.Components.{reach_for, components_for}
use Rattle.rules.specs.Units.{part_of}
use Rattle.rules.specs.Questions.{Outcome, done, refused, ask_each, judge_piece, judge_record, judge_overlaps, judge_fixed, judge_records, judge_layer}
use Rattle.rules.specs.Calls.{score_masks}
use Rattle.rules.proofs.Cases.{settings_of}
use Rattle.rules.proofs.TieCases.{chain, two_stitches}

abbrev scored : List Piece → List ℕ → Outcome Scoring
scored ps masks = score_masks (settings_of 2 100) ps masks

abbrev score : ℕ → ℕ → ℕ → ℕ → Outcome Scoring
score conflicts stitches cost tested = done (record {
  score = record { conflicts = conflicts; stitches = stitches; cost = cost };
  tested = tested;
})

pub record HalfDoneCases : Type 0 where
  pub nothing_set : scored chain (255 ∷ 255 ∷ 255 ∷ 255 ∷ 255 ∷ []) ≡ score 0 0 0 10
  pub some_set : scored chain (255 ∷ 1 ∷ 1 ∷ 255 ∷ 0 ∷ []) ≡ score 1 0 10 10
  pub one_more : scored chain (255 ∷ 1 ∷ 1 ∷ 1 ∷ 0 ∷ []) ≡ score 2 0 20 10
  pub one_stitch : scored two_stitches (0 ∷ 255 ∷ 1 ∷ []) ≡ score 0 1 1 3
  -- pieces 0, 2 and 3 are one unit, and 2 is its lowest that is set
  pub split : scored chain (255 ∷ 1 ∷ 1 ∷ 0 ∷ 1 ∷ []) ≡ refused 12 (Place.Piece 3)
  pub no_other_value : scored chain (255 ∷ 1 ∷ 255 ∷ 0 ∷ 254 ∷ []) ≡ refused 8 (Place.Piece 4)

pub half_done_cases : HalfDoneCases
unfolding sum_to sum_pairs up_from any_of keep find settings_in_range piece_in_range has_area overlap_x overlap_y gap_x gap_y squared_gap conflict_edge contact stitch_edge tied overlapping conflicts_of stitches_of score_of reach_for components_for part_of ask_each judge_piece judge_record judge_overlaps judge_fixed judge_records judge_layer score_masks
half_done_cases = record {
  nothing_set = refl;
  some_set = refl;
  one_more = refl;
  one_stitch = refl;
  split = refl;
  no_other_value = refl;
}
