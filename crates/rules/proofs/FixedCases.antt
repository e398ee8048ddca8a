-- Worked cases of fixed masks (RULES 18), computed from the definitions: a fixed piece alone, a row with one and with two fixed pieces, a budget of 0, a tied
-- piece that is fixed, a text with fixed lines both ways, and the refusals 13 and 14. Spacing 80, margin 10, weight 10. Assumes nothing.
use mathlib.Core.List.{List, [], ◌∷◌, ◌++◌}
use mathlib.Core.Path.{◌≡◌, refl}
use Prim.Native.Nat.{ℕ}
use Prim.Native.String.{String}
use lib.ListN.{replicate}
use Rattle.rules.specs.declared.layer.Edge.{Edge}
use Rattle.rules.specs.declared.layer.Piece.{Piece}
use Rattle.rules.specs.declared.refusal.Place.{Place}
use Rattle.rules.specs.declared.answers.Verdict.{Verdict}
use Rattle.rules.specs.Basics.{sum_to, sum_pairs, sum_of, up_from, any_of, count_of, keep, find}
use Rattle.rules.specs.Settings.{settings_in_range, piece_in_range, has_area}
use Rattle.rules.specs.Edges.{overlap_x, overlap_y, gap_x, gap_y, squared_gap, conflict_edge, contact, stitch_edge, tied, edge_of, overlapping}
use Rattle.rules.specs.Score.{conflicts_of, stitches_of, score_of, pair_cost}
use Rattle.rules.specs.Peeling.{may_go, peel_for}
use Rattle.rules.specs.Components.{reach_for, components_for}
use Rattle.rules.specs.Units.{part_of, edges_between, spread}
use Rattle.rules.specs.Library.{least_to, least_over, least_conflicts, pair_number, bit_at, value_of, index_of, served}
use Rattle.rules.specs.Search.{added, total_after, cheapest, first_after, first_mask, different, candidates, candidates_in, try_masks, search_places}
use Rattle.rules.specs.Decomposition.{put_masks, search_all, put_back, put_back_all, decompose, run}
use Rattle.rules.specs.Lines.{ascii, digits_for, comma_list, line, number_lines, first_line, after_key, all_digits, is_numeral, value_after, parts_of, numbers_of, line_numbers, line_of}
use Rattle.rules.specs.LayerText.{piece_lines, fixed_lines, layer_text}
use Rattle.rules.specs.Questions.{Outcome, done, refused, ask_each, judge_piece, judge_record, judge_overlaps, judge_fixed, judge_records, judge_layer, read_line, read_number, read_numbers, read_header, read_piece, read_pieces, read_fixed, read_all_fixed, with_fixed, layer_from, read_body, read_layer, Layer}
use Rattle.rules.specs.Calls.{edge_between, score_masks, decompose_layer, write_layer}
use Rattle.rules.proofs.Cases.{settings_of, piece, result, decomposed}

-- three squares in a row, each too close to both others
abbrev first : Piece
first = piece 0 0 0 20 20

abbrev second : Piece
second = piece 1 40 0 60 20

abbrev third : Piece
third = piece 2 80 0 100 20

-- a piece that is tied to the first, and one without width
abbrev beside : Piece
beside = piece 0 20 11 40 31

abbrev thin : Piece
thin = piece 1 40 0 40 20

-- the chain of ties with pieces 0, 2 and 3, one unit, fixed to these masks
abbrev chain_fixed : ℕ → ℕ → ℕ → List Piece
chain_fixed a b c =
    with_fixed a (piece 0 0 0 20 20)
    ∷ piece 1 60 60 80 80
    ∷ with_fixed b (piece 0 40 22 60 42)
    ∷ with_fixed c (piece 0 20 11 40 31)
    ∷ piece 2 0 60 20 80
    ∷ []

-- a text of the row, with these lines after its pieces
abbrev row_with : String → Outcome Layer
row_with lines = read_layer (ascii "masks=2\nspacing=80\nmargin=10\nweight=10\nbudget=100\npieces=3\npiece=0,0,0,20,20\npiece=1,40,0,60,20\npiece=2,80,0,100,20\n" ++ ascii lines)

pub record FixedCases : Type 0 where
  -- never peeled, and a try of its mask is a step
  pub alone : decomposed (settings_of 4 100) (with_fixed 3 first ∷ []) ≡ done (result (3 ∷ []) 0 0 0 1 Verdict.Best)
  -- the others try every mask
  pub one : decomposed (settings_of 2 100) (first ∷ with_fixed 0 second ∷ third ∷ []) ≡ done (result (0 ∷ 0 ∷ 1 ∷ []) 1 0 10 6 Verdict.Best)
  -- two that are in conflict stay as they are fixed
  pub two : decomposed (settings_of 3 100) (with_fixed 1 first ∷ with_fixed 1 second ∷ third ∷ []) ≡ done (result (1 ∷ 1 ∷ 0 ∷ []) 1 0 10 2 Verdict.Best)
  -- the first assignment keeps it
  pub at_0 : decomposed (settings_of 3 0) (with_fixed 2 first ∷ second ∷ third ∷ []) ≡ done (result (2 ∷ 1 ∷ 0 ∷ []) 0 0 0 0 Verdict.Open)
  -- a unit has the fixed mask of its piece
  pub in_unit : decomposed (settings_of 2 100) (first ∷ with_fixed 1 beside ∷ piece 1 60 0 80 20 ∷ []) ≡ done (result (1 ∷ 1 ∷ 0 ∷ []) 0 0 0 1 Verdict.Best)
  -- masks that break a fixed mask are scored
  pub broken : score_masks (settings_of 2 100) (first ∷ with_fixed 0 second ∷ []) (0 ∷ 1 ∷ []) ≡ done (record { score = record { conflicts = 0; stitches = 0; cost = 0 }; tested = 1 })
  -- 13 comes before 5 of the same piece, and after 4
  pub above : judge_layer (settings_of 2 100) (first ∷ with_fixed 2 thin ∷ []) ≡ refused 13 (Place.Piece 1)
  pub range_first : judge_layer (settings_of 2 100) (first ∷ with_fixed 2 (piece 512 40 0 40 20) ∷ []) ≡ refused 4 (Place.Piece 1)
  pub no_other_value : judge_layer (settings_of 2 100) (with_fixed 254 first ∷ []) ≡ refused 13 (Place.Piece 0)
  -- 14 is the later of the two, and the first that differs from any before it; pieces 0, 2 and 3 are one unit
  pub differ : judge_layer (settings_of 2 100) (chain_fixed 0 0 1) ≡ refused 14 (Place.Piece 3)
  pub differ_early : judge_layer (settings_of 2 100) (chain_fixed 255 1 0) ≡ refused 14 (Place.Piece 3)
  pub agree : judge_layer (settings_of 2 100) (chain_fixed 1 255 1) ≡ done tt
  pub overlap_first : judge_layer (settings_of 2 100) (with_fixed 0 first ∷ with_fixed 1 beside ∷ piece 0 10 10 30 30 ∷ []) ≡ refused 6 (Place.Piece 2)
  -- two pieces by themselves
  pub edge_differ : edge_between (settings_of 2 100) (with_fixed 0 first) (with_fixed 1 beside) ≡ refused 14 (Place.Piece 1)
  pub edge_agree : edge_between (settings_of 2 100) (with_fixed 1 first) (with_fixed 1 beside) ≡ done Edge.Tie
  -- lines that fix masks
  pub reads : row_with "fixed=0,1\nfixed=2,0\n" ≡ done (record { settings = settings_of 2 100; pieces = with_fixed 1 first ∷ second ∷ with_fixed 0 third ∷ [] })
  pub writes : write_layer (settings_of 2 100) (second ∷ with_fixed 1 third ∷ []) (replicate 32768 0)
      ≡ done (ascii "masks=2\nspacing=80\nmargin=10\nweight=10\nbudget=100\npieces=2\npiece=1,40,0,60,20\npiece=2,80,0,100,20\nfixed=1,1\n")
  pub falling : row_with "fixed=1,0\nfixed=0,5\n" ≡ refused 3 (Place.Line 11)
  pub twice : row_with "fixed=1,0\nfixed=1,0\n" ≡ refused 3 (Place.Line 11)
  pub piece_3_of_3 : row_with "fixed=0,1\nfixed=3,0\n" ≡ refused 13 (Place.Line 11)
  pub mask_2_of_2 : row_with "fixed=0,2\n" ≡ refused 13 (Place.Line 10)
  pub no_mask : row_with "fixed=0\n" ≡ refused 3 (Place.Line 10)

pub fixed_cases : FixedCases
unfolding sum_to sum_pairs sum_of up_from any_of count_of keep find settings_in_range piece_in_range has_area overlap_x overlap_y gap_x gap_y squared_gap conflict_edge contact stitch_edge tied edge_of overlapping conflicts_of stitches_of score_of pair_cost may_go peel_for reach_for components_for part_of edges_between spread added total_after cheapest first_after first_mask different candidates candidates_in least_to least_over least_conflicts pair_number bit_at value_of index_of served try_masks search_places put_masks search_all put_back put_back_all decompose run ascii digits_for comma_list line number_lines first_line after_key all_digits is_numeral value_after parts_of numbers_of line_numbers line_of piece_lines fixed_lines layer_text ask_each judge_piece judge_record judge_overlaps judge_fixed judge_records judge_layer read_line read_number read_numbers read_header read_piece read_pieces read_fixed read_all_fixed layer_from read_body read_layer edge_between decompose_layer score_masks write_layer
fixed_cases = record {
  alone = refl;
  one = refl;
  two = refl;
  at_0 = refl;
  in_unit = refl;
  broken = refl;
  above = refl;
  range_first = refl;
  no_other_value = refl;
  differ = refl;
  differ_early = refl;
  agree = refl;
  overlap_first = refl;
  edge_differ = refl;
  edge_agree = refl;
  reads = refl;
  writes = refl;
  falling = refl;
  twice = refl;
  piece_3_of_3 = refl;
  mask_2_of_2 = refl;
  no_mask = refl;
}
