-- The worked cases of RULES 13, computed from the definitions of the calls with their questions: a wrong number in one of them is refused.
-- Spacing 80, margin 10, weight 10 unless said otherwise. Assumes nothing.
use mathlib.Core.List.{List, [], ◌∷◌, ◌++◌}
use mathlib.Core.Path.{◌≡◌, refl}
use Prim.Native.Nat.{ℕ}
use Prim.Native.String.{String}
use lib.ListN.{length, replicate}
use Rattle.rules.specs.declared.layer.Edge.{Edge}
use Rattle.rules.specs.declared.layer.Settings.{Settings}
use Rattle.rules.specs.declared.layer.Piece.{Piece}
use Rattle.rules.specs.declared.answers.Verdict.{Verdict}
use Rattle.rules.specs.Basics.{sum_to, sum_pairs, sum_of, up_from, any_of, count_of, keep, find}
use Rattle.rules.specs.Settings.{settings_in_range, piece_in_range, has_area}
use Rattle.rules.specs.Edges.{overlap_x, overlap_y, gap_x, gap_y, squared_gap, conflict_edge, contact, stitch_edge, tied, edge_of, overlapping}
use Rattle.rules.specs.Score.{conflicts_of, stitches_of, score_of, pair_cost}
use Rattle.rules.specs.Peeling.{may_go, peel_for}
use Rattle.rules.specs.Components.{reach_for, components_for}
use Rattle.rules.specs.Units.{part_of, edges_between, spread}
use Rattle.rules.specs.Library.{least_to, least_over, least_conflicts, pair_number, bit_at, value_of, index_of, served}
use Rattle.rules.specs.Search.{added, total_after, cheapest, first_after, first_mask, different, candidates, candidates_in, try_masks, search_places, complete_masks, complete_places}
use Rattle.rules.specs.Decomposition.{put_masks, search_all, put_back, put_back_all, decompose, complete_all, complete, steps_in_all, Run, run}
use Rattle.rules.specs.Lines.{ascii, digits_for, comma_list, line, number_lines, first_line, after_key, all_digits, is_numeral, value_after, parts_of, numbers_of, line_numbers, line_of}
use Rattle.rules.specs.LayerText.{piece_lines, fixed_lines, layer_text}
use Rattle.rules.specs.ResultText.{mask_lines, result_text}
use Rattle.rules.specs.Questions.{ask_each, judge_piece, judge_record, judge_overlaps, judge_fixed, judge_records, judge_layer, read_line, read_number, read_numbers, read_header, read_piece, read_pieces, read_fixed, read_all_fixed, layer_from, read_body, read_layer, Outcome, done}
use Rattle.rules.specs.Calls.{edge_between, decompose_layer, decompose_text}
use Rattle.rules.specs.Loader.{printed}

-- the settings of the cases, with K masks and a budget of B steps
abbrev pub settings_of : ℕ → ℕ → Settings
settings_of K B = record { masks = K; spacing = 80; margin = 10; weight = 10; budget = B }

abbrev pub piece : ℕ → ℕ → ℕ → ℕ → ℕ → Piece
piece shape x1 y1 x2 y2 = record { shape = shape; x1 = x1; y1 = y1; x2 = x2; y2 = y2; fixed = 255 }

abbrev pub result : List ℕ → ℕ → ℕ → ℕ → ℕ → Verdict → Run
result masks conflicts stitches cost steps verdict = record {
  masks = masks;
  conflicts = conflicts;
  stitches = stitches;
  cost = cost;
  steps = steps;
  verdict = verdict;
}

-- the whole decomposition, with a list of zeros lent for the masks
abbrev pub decomposed : Settings → List Piece → Outcome Run
decomposed s ps = decompose_layer s ps (replicate (length ps) 0)

-- three squares in a row, each too close to both others
abbrev pub row : List Piece
row = piece 0 0 0 20 20 ∷ piece 1 40 0 60 20 ∷ piece 2 80 0 100 20 ∷ []

-- the same as a text, and its result
abbrev pub row_text : String
row_text = "masks=2\nspacing=80\nmargin=10\nweight=10\nbudget=100\npieces=3\npiece=0,0,0,20,20\npiece=1,40,0,60,20\npiece=2,80,0,100,20\n"

abbrev pub row_result : String
row_result = "verdict=best\nconflicts=1\nstitches=0\ncost=10\nsteps=5\nmask=0\nmask=1\nmask=0\n"

-- what a layer text comes to
abbrev pub loaded : String → Outcome (List ℕ)
loaded text = decompose_text (ascii text) (replicate 4096 0)

-- a wire in two halves, with a neighbour above each half, and these two too close
abbrev pub halves : List Piece
halves = piece 0 100 0 200 20 ∷ piece 0 200 0 300 20 ∷ piece 1 100 90 161 110 ∷ piece 2 239 90 300 110 ∷ []

-- a wire in two halves with a neighbour at one end
abbrev pub at_end : List Piece
at_end = piece 0 100 0 200 20 ∷ piece 1 60 0 80 20 ∷ piece 0 200 0 300 20 ∷ []

-- four squares, each too close to all others
abbrev pub square : List Piece
square = piece 0 0 0 20 20 ∷ piece 1 40 0 60 20 ∷ piece 2 0 40 20 60 ∷ piece 3 40 40 60 60 ∷ []

-- two components: the halves, and three squares in a row far from them
abbrev pub two_parts : List Piece
two_parts = halves ++ (piece 3 0 1000 20 1020 ∷ piece 4 40 1000 60 1020 ∷ piece 5 80 1000 100 1020 ∷ [])

-- three pieces, each too close to both others, and a last one that only continues the second
abbrev pub continued : List Piece
continued = piece 0 0 0 20 20 ∷ piece 1 90 0 300 20 ∷ piece 2 45 90 65 110 ∷ piece 1 300 0 400 20 ∷ []

-- two wires in two halves, one above and one below two squares that are too close: one conflict, or two stitches
abbrev pub between : List Piece
between = halves ++ (piece 3 100 180 200 200 ∷ piece 3 200 180 300 200 ∷ [])

-- a conflict weighs no more than a stitch
abbrev pub light : Settings
light = record { masks = 2; spacing = 80; margin = 10; weight = 1; budget = 1000 }

-- how a square of shape 0 at the corner is joined to a square of shape 1 at (x, y), and to a part of its own shape at (20, y)
abbrev to_other : ℕ → ℕ → Outcome Edge
to_other x y = edge_between (settings_of 2 100) (piece 0 0 0 20 20) (piece 1 x y 1000 1000)

abbrev to_own : ℕ → Outcome Edge
to_own y = edge_between (settings_of 2 100) (piece 0 0 0 20 20) (piece 0 20 y 1000 1000)

pub record Cases : Type 0 where
  pub row_text_lem : printed (loaded row_text) ≡ ascii row_result
  pub row_2 : decomposed (settings_of 2 100) row ≡ done (result (0 ∷ 1 ∷ 0 ∷ []) 1 0 10 5 Verdict.Best)
  pub row_2_at_5 : decomposed (settings_of 2 5) row ≡ done (result (0 ∷ 1 ∷ 0 ∷ []) 1 0 10 5 Verdict.Best)
  pub row_2_at_4 : decomposed (settings_of 2 4) row ≡ done (result (0 ∷ 1 ∷ 0 ∷ []) 1 0 10 4 Verdict.Open)
  pub row_3 : decomposed (settings_of 3 100) row ≡ done (result (2 ∷ 1 ∷ 0 ∷ []) 0 0 0 0 Verdict.Best)
  pub halves_2 : decomposed (settings_of 2 100) halves ≡ done (result (0 ∷ 1 ∷ 1 ∷ 0 ∷ []) 0 1 1 11 Verdict.Best)
  pub at_end_2 : decomposed (settings_of 2 100) at_end ≡ done (result (0 ∷ 1 ∷ 0 ∷ []) 0 0 0 0 Verdict.Best)
  pub square_3 : decomposed (settings_of 3 100) square ≡ done (result (0 ∷ 1 ∷ 2 ∷ 0 ∷ []) 1 0 10 0 Verdict.Best)
  pub square_4 : decomposed (settings_of 4 100) square ≡ done (result (3 ∷ 2 ∷ 1 ∷ 0 ∷ []) 0 0 0 0 Verdict.Best)
  pub empty : decomposed (settings_of 2 100) [] ≡ done (result [] 0 0 0 0 Verdict.Best)
  pub empty_at_0 : decomposed (settings_of 2 0) [] ≡ done (result [] 0 0 0 0 Verdict.Best)
  pub gaps_79_0 : to_other 99 0 ≡ done Edge.Conflict
  pub gaps_80_0 : to_other 100 0 ≡ done Edge.None
  pub gaps_48_63 : to_other 68 83 ≡ done Edge.Conflict
  pub gaps_48_64 : to_other 68 84 ≡ done Edge.None
  pub contact_10 : to_own 10 ≡ done Edge.Stitch
  pub contact_9 : to_own 11 ≡ done Edge.Tie
  -- the budget ends in the first component, between the two, in the second, and after it
  pub two_parts_at_6 : decomposed (settings_of 2 6) two_parts ≡ done (result (0 ∷ 0 ∷ 1 ∷ 0 ∷ 0 ∷ 1 ∷ 0 ∷ []) 2 0 20 6 Verdict.Open)
  pub two_parts_at_11 : decomposed (settings_of 2 11) two_parts ≡ done (result (0 ∷ 1 ∷ 1 ∷ 0 ∷ 0 ∷ 1 ∷ 0 ∷ []) 1 1 11 11 Verdict.Open)
  pub two_parts_at_14 : decomposed (settings_of 2 14) two_parts ≡ done (result (0 ∷ 1 ∷ 1 ∷ 0 ∷ 0 ∷ 1 ∷ 0 ∷ []) 1 1 11 14 Verdict.Open)
  pub two_parts_lem : decomposed (settings_of 2 16) two_parts ≡ done (result (0 ∷ 1 ∷ 1 ∷ 0 ∷ 0 ∷ 1 ∷ 0 ∷ []) 1 1 11 16 Verdict.Best)
  pub two_parts_in_all : steps_in_all (settings_of 2 0) two_parts ≡ 16
  -- a (B) piece returns on a mask other than 0
  pub continued_2 : decomposed (settings_of 2 100) continued ≡ done (result (0 ∷ 1 ∷ 0 ∷ 1 ∷ []) 1 0 10 5 Verdict.Best)
  -- stitch edges of the core that are kept on one mask, and none of them
  pub stitches_kept : decomposed light between ≡ done (result (0 ∷ 0 ∷ 1 ∷ 1 ∷ 0 ∷ 0 ∷ []) 1 0 1 21 Verdict.Best)
  pub stitches_paid : decomposed (settings_of 2 1000) between ≡ done (result (0 ∷ 1 ∷ 1 ∷ 0 ∷ 0 ∷ 1 ∷ []) 0 2 2 29 Verdict.Best)

pub cases : Cases
unfolding sum_to sum_pairs sum_of up_from any_of count_of keep find settings_in_range piece_in_range has_area overlap_x overlap_y gap_x gap_y squared_gap conflict_edge contact stitch_edge tied edge_of overlapping conflicts_of stitches_of score_of pair_cost may_go peel_for reach_for components_for part_of edges_between spread added total_after cheapest first_after first_mask different candidates candidates_in least_to least_over least_conflicts pair_number bit_at value_of index_of served try_masks search_places complete_masks complete_places put_masks search_all put_back put_back_all decompose complete_all complete run ascii digits_for comma_list line number_lines first_line after_key all_digits is_numeral value_after parts_of numbers_of line_numbers line_of piece_lines fixed_lines layer_text mask_lines result_text ask_each judge_piece judge_record judge_overlaps judge_fixed judge_records judge_layer read_line read_number read_numbers read_header read_piece read_pieces read_fixed read_all_fixed layer_from read_body read_layer edge_between decompose_layer decompose_text
cases = record {
  row_text_lem = refl;
  row_2 = refl;
  row_2_at_5 = refl;
  row_2_at_4 = refl;
  row_3 = refl;
  halves_2 = refl;
  at_end_2 = refl;
  square_3 = refl;
  square_4 = refl;
  empty = refl;
  empty_at_0 = refl;
  gaps_79_0 = refl;
  gaps_80_0 = refl;
  gaps_48_63 = refl;
  gaps_48_64 = refl;
  contact_10 = refl;
  contact_9 = refl;
  two_parts_at_6 = refl;
  two_parts_at_11 = refl;
  two_parts_at_14 = refl;
  two_parts_lem = refl;
  two_parts_in_all = refl;
  continued_2 = refl;
  stitches_kept = refl;
  stitches_paid = refl;
}
