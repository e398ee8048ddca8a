-- More worked examples, computed from the definitions: where a rule that is near the right one would show, and what refusals say. Assumes nothing.
use mathlib.Core.List.{List, [], ◌∷◌}
use mathlib.Core.Path.{◌≡◌, refl}
use lib.ListN.{replicate}
use Rattle.rules.specs.declared.layer.Edge.{Edge}
use Rattle.rules.specs.declared.layer.Piece.{Piece}
use Rattle.rules.specs.declared.refusal.Place.{Place}
use Rattle.rules.specs.declared.answers.Verdict.{Verdict}
use Rattle.rules.specs.Basics.{sum_to, sum_pairs, sum_of, up_from, any_of, count_of, keep, find}
use Rattle.rules.specs.Settings.{settings_in_range, piece_in_range, has_area, no_piece}
use Rattle.rules.specs.Edges.{overlap_x, overlap_y, gap_x, gap_y, squared_gap, conflict_edge, contact, stitch_edge, tied, edge_of, overlapping}
use Rattle.rules.specs.Score.{conflicts_of, stitches_of, score_of, pair_cost}
use Rattle.rules.specs.Peeling.{may_go, peel_for}
use Rattle.rules.specs.Components.{reach_for, components_for}
use Rattle.rules.specs.Units.{part_of, edges_between, spread}
use Rattle.rules.specs.Library.{least_to, least_over, least_conflicts, pair_number, bit_at, value_of, index_of, served}
use Rattle.rules.specs.Search.{added, total_after, cheapest, first_after, first_mask, different, candidates, candidates_in, try_masks, search_places}
use Rattle.rules.specs.Decomposition.{put_masks, search_all, put_back, put_back_all, decompose, run}
use Rattle.rules.specs.Lines.{ascii, digits_for, comma_list, line, number_lines, first_line, after_key, all_digits, is_numeral, value_after, parts_of, numbers_of, line_numbers, line_of}
use Rattle.rules.specs.LayerText.{piece_lines, fixed_lines, layer_text}
use Rattle.rules.specs.ResultText.{mask_lines, result_text}
use Rattle.rules.specs.Questions.{ask_each, judge_piece, judge_record, judge_overlaps, judge_fixed, judge_records, judge_layer, read_line, read_number, read_numbers, read_header, read_piece, read_pieces, read_fixed, read_all_fixed, layer_from, read_body, read_layer, done, refused}
use Rattle.rules.specs.Calls.{edge_between, score_masks, decompose_layer, write_layer, decompose_text, buffer_after}
use Rattle.rules.specs.Loader.{loader_number, printed}
use Rattle.rules.proofs.Cases.{settings_of, piece, result, decomposed, row, row_text, loaded}

-- ---- Rules that are near the right ones

-- a ring of four conflicts, whose first assignment costs nothing
abbrev ring : List Piece
ring = piece 0 0 0 20 20 ∷ piece 1 90 0 110 20 ∷ piece 2 0 90 20 110 ∷ piece 3 90 90 110 110 ∷ []

pub record NearRules : Type 0 where
  -- an incumbent that costs nothing still takes the one step that is due
  pub one_step : decomposed (settings_of 2 1000) ring ≡ done (result (0 ∷ 1 ∷ 1 ∷ 0 ∷ []) 0 0 0 1 Verdict.Best)
  pub no_step : decomposed (settings_of 2 0) ring ≡ done (result (0 ∷ 1 ∷ 1 ∷ 0 ∷ []) 0 0 0 0 Verdict.Open)
  -- 65,536 squared is a multiple of 2 ^ 32
  pub far : edge_between (settings_of 2 100) (piece 0 0 0 20 20) (piece 1 65556 0 65576 20) ≡ done Edge.None

pub near_rules : NearRules
unfolding sum_to sum_pairs sum_of up_from any_of count_of keep find settings_in_range piece_in_range has_area overlap_x overlap_y gap_x gap_y squared_gap conflict_edge contact stitch_edge tied edge_of overlapping conflicts_of stitches_of score_of pair_cost may_go peel_for reach_for components_for part_of edges_between spread added total_after cheapest first_after first_mask different candidates candidates_in least_to least_over least_conflicts pair_number bit_at value_of index_of served try_masks search_places put_masks search_all put_back put_back_all decompose run ascii digits_for comma_list line number_lines first_line after_key all_digits is_numeral value_after parts_of numbers_of line_numbers line_of piece_lines fixed_lines layer_text mask_lines result_text ask_each judge_piece judge_record judge_overlaps judge_fixed judge_records judge_layer read_line read_number read_numbers read_header read_piece read_pieces read_fixed read_all_fixed layer_from read_body read_layer edge_between decompose_layer decompose_text score_masks write_layer
near_rules = record { one_step = refl; no_step = refl; far = refl }

-- ---- Texts and refusals

-- three pieces of one shape, of which the last overlaps the first
abbrev over : List Piece
over = piece 0 0 0 20 20 ∷ piece 0 20 0 40 20 ∷ piece 0 19 19 30 30 ∷ []

pub record Texts : Type 0 where
  pub reads : read_layer (ascii row_text) ≡ done (record { settings = settings_of 2 100; pieces = row })
  pub writes : write_layer (settings_of 2 100) row (replicate 32768 0) ≡ done (ascii row_text)
  pub returns : loader_number (loaded row_text) ≡ 73
  pub keeps_the_rest : buffer_after (done (1 ∷ 2 ∷ [])) (7 ∷ 8 ∷ 9 ∷ []) ≡ 1 ∷ 2 ∷ 9 ∷ []
  pub leading_zero : printed (loaded "masks=02\n") ≡ ascii "refused=3,1\n"
  pub nine_masks : printed (loaded "masks=9\n") ≡ ascii "refused=4,1\n"
  pub no_last_byte : printed (loaded "masks=9") ≡ ascii "refused=3,1\n"
  pub two_lines : loader_number (loaded "masks=2\nspacing=0\n") ≡ 40002
  pub nothing_there : loaded "" ≡ refused 3 (Place.Line 1)
  pub small_buffer : decompose_text [] (replicate 4095 0) ≡ refused 1 Place.Nothing
  pub too_many : judge_layer (settings_of 2 100) (replicate 513 no_piece) ≡ refused 4 Place.Nothing
  pub no_width : judge_layer (settings_of 2 100) (piece 0 5 5 6 6 ∷ piece 1 5 5 5 6 ∷ []) ≡ refused 5 (Place.Piece 1)
  pub range_first : judge_layer (settings_of 2 100) (piece 512 5 5 5 6 ∷ []) ≡ refused 4 (Place.Piece 0)
  pub overlap : judge_layer (settings_of 2 100) over ≡ refused 6 (Place.Piece 2)
  pub short_list : decompose_layer (settings_of 2 100) row (0 ∷ 0 ∷ []) ≡ refused 7 Place.Nothing
  pub mask_2_of_2 : score_masks (settings_of 2 100) row (0 ∷ 1 ∷ 2 ∷ []) ≡ refused 8 (Place.Piece 2)

pub texts : Texts
unfolding sum_to sum_pairs sum_of up_from any_of count_of keep find settings_in_range piece_in_range has_area overlap_x overlap_y gap_x gap_y squared_gap conflict_edge contact stitch_edge tied edge_of overlapping conflicts_of stitches_of score_of pair_cost may_go peel_for reach_for components_for part_of edges_between spread added total_after cheapest first_after first_mask different candidates candidates_in least_to least_over least_conflicts pair_number bit_at value_of index_of served try_masks search_places put_masks search_all put_back put_back_all decompose run ascii digits_for comma_list line number_lines first_line after_key all_digits is_numeral value_after parts_of numbers_of line_numbers line_of piece_lines fixed_lines layer_text mask_lines result_text ask_each judge_piece judge_record judge_overlaps judge_fixed judge_records judge_layer read_line read_number read_numbers read_header read_piece read_pieces read_fixed read_all_fixed layer_from read_body read_layer edge_between decompose_layer decompose_text score_masks write_layer
texts = record {
  reads = refl;
  writes = refl;
  returns = refl;
  keeps_the_rest = refl;
  leading_zero = refl;
  nine_masks = refl;
  no_last_byte = refl;
  two_lines = refl;
  nothing_there = refl;
  small_buffer = refl;
  too_many = refl;
  no_width = refl;
  range_first = refl;
  overlap = refl;
  short_list = refl;
  mask_2_of_2 = refl;
}
