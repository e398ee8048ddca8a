-- Worked cases of the five-piece library (RULES 19), computed from the definitions: the two entries that the rule names, a component that needs no step, one that
-- is searched until its incumbent costs what the library says, a budget that is just enough for both, and one with a fixed piece, which it does not serve.
-- Spacing 80, margin 10, weight 10. Assumes nothing.
use mathlib.Core.List.{List, [], ◌∷◌, ◌++◌}
use mathlib.Core.Path.{◌≡◌, refl}
use Rattle.rules.specs.declared.layer.Piece.{Piece}
use Rattle.rules.specs.declared.answers.Verdict.{Verdict}
use Rattle.rules.specs.Basics.{sum_to, sum_pairs, sum_of, up_from, any_of, count_of, keep, find}
use Rattle.rules.specs.Settings.{settings_in_range, piece_in_range, has_area}
use Rattle.rules.specs.Edges.{overlap_x, overlap_y, gap_x, gap_y, squared_gap, conflict_edge, contact, stitch_edge, tied, edge_of, overlapping}
use Rattle.rules.specs.Score.{conflicts_of, stitches_of, score_of, pair_cost}
use Rattle.rules.specs.Peeling.{may_go, peel_for}
use Rattle.rules.specs.Components.{reach_for, components_for}
use Rattle.rules.specs.Units.{part_of, edges_between, spread}
use Rattle.rules.specs.Library.{least_to, least_over, least_conflicts, pair_number, bit_at, entry_of, value_of, index_of, served}
use Rattle.rules.specs.Search.{added, total_after, cheapest, first_after, first_mask, different, candidates, candidates_in, try_masks, search_places, complete_masks, complete_places}
use Rattle.rules.specs.Decomposition.{put_masks, search_all, put_back, put_back_all, decompose, complete_all, complete, steps_in_all, run}
use Rattle.rules.specs.Questions.{done, ask_each, judge_piece, judge_record, judge_overlaps, judge_fixed, judge_records, judge_layer, with_fixed}
use Rattle.rules.specs.Calls.{decompose_layer}
use Rattle.rules.proofs.Cases.{settings_of, piece, result, decomposed, square}

-- five squares, each too close to all others but for the last two
abbrev nearly : List Piece
nearly = piece 0 50 0 70 20 ∷ piece 1 50 40 70 60 ∷ piece 2 50 80 70 100 ∷ piece 3 0 40 20 60 ∷ piece 4 100 40 120 60 ∷ []

-- two components: those five, and four squares far from them
abbrev both : List Piece
both = nearly ++ (piece 5 0 1000 20 1020 ∷ piece 6 40 1000 60 1020 ∷ piece 7 0 1040 20 1060 ∷ piece 8 40 1040 60 1060 ∷ [])

pub record LibraryCases : Type 0 where
  pub entry_183 : entry_of 183 ≡ 1
  pub entry_1023 : entry_of 1023 ≡ 2
  -- the first assignment costs what the library says, so no step is due, whatever the budget
  pub square_at_0 : decomposed (settings_of 3 0) square ≡ done (result (0 ∷ 1 ∷ 2 ∷ 0 ∷ []) 1 0 10 0 Verdict.Best)
  -- the first assignment has two conflicts; after ten steps an incumbent has one, and no step more is due
  pub nearly_at_9 : decomposed (settings_of 3 9) nearly ≡ done (result (0 ∷ 1 ∷ 2 ∷ 0 ∷ 0 ∷ []) 2 0 20 9 Verdict.Open)
  pub nearly_at_10 : decomposed (settings_of 3 10) nearly ≡ done (result (0 ∷ 0 ∷ 1 ∷ 2 ∷ 2 ∷ []) 1 0 10 10 Verdict.Best)
  pub nearly_in_all : steps_in_all (settings_of 3 0) nearly ≡ 10
  -- the budget is used up, and only a component is left that needs no step
  pub both_at_10 : decomposed (settings_of 3 10) both ≡ done (result (0 ∷ 0 ∷ 1 ∷ 2 ∷ 2 ∷ 0 ∷ 1 ∷ 2 ∷ 0 ∷ []) 2 0 20 10 Verdict.Best)
  -- a component with a fixed piece is searched to its end
  pub fixed : decomposed (settings_of 3 1000) (piece 0 0 0 20 20 ∷ piece 1 25 0 45 20 ∷ with_fixed 1 (piece 2 50 0 70 20) ∷ piece 3 0 25 20 45 ∷ []) ≡ done (result (0 ∷ 1 ∷ 1 ∷ 2 ∷ []) 1 0 10 24 Verdict.Best)

pub library_cases : LibraryCases
unfolding sum_to sum_pairs sum_of up_from any_of count_of keep find settings_in_range piece_in_range has_area overlap_x overlap_y gap_x gap_y squared_gap conflict_edge contact stitch_edge tied edge_of overlapping conflicts_of stitches_of score_of pair_cost may_go peel_for reach_for components_for part_of edges_between spread least_to least_over least_conflicts pair_number bit_at value_of index_of served added total_after cheapest first_after first_mask different candidates candidates_in try_masks search_places complete_masks complete_places put_masks search_all put_back put_back_all decompose complete_all complete run ask_each judge_piece judge_record judge_overlaps judge_fixed judge_records judge_layer decompose_layer
library_cases = record {
  entry_183 = refl;
  entry_1023 = refl;
  square_at_0 = refl;
  nearly_at_9 = refl;
  nearly_at_10 = refl;
  nearly_in_all = refl;
  both_at_10 = refl;
  fixed = refl;
}
