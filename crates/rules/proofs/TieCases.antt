-- Worked cases of ties and units (RULES 17), computed from the definitions: a chain of ties, a doubled edge, two stitch edges to one unit, a stitch edge inside
-- a unit, pieces that touch in a point, and masks that split a unit. Spacing 80, margin 10, weight 10, two masks. Assumes nothing.
use mathlib.Core.List.{List, [], ◌∷◌, map}
use mathlib.Core.Path.{◌≡◌, refl}
use Prim.Native.Nat.{ℕ}
use lib.ListN.{length}
use Rattle.rules.specs.declared.layer.Edge.{Edge}
use Rattle.rules.specs.declared.layer.Piece.{Piece}
use Rattle.rules.specs.declared.refusal.Place.{Place}
use Rattle.rules.specs.declared.answers.Verdict.{Verdict}
use Rattle.rules.specs.Basics.{sum_to, sum_pairs, sum_of, up_from, up_to, any_of, count_of, keep, find}
use Rattle.rules.specs.Settings.{settings_in_range, piece_in_range, has_area}
use Rattle.rules.specs.Edges.{overlap_x, overlap_y, gap_x, gap_y, squared_gap, conflict_edge, contact, stitch_edge, tied, edge_of, overlapping, Graph, graph_of}
use Rattle.rules.specs.Score.{conflicts_of, stitches_of, score_of, pair_cost}
use Rattle.rules.specs.Peeling.{may_go, peel_for}
use Rattle.rules.specs.Components.{reach_for, components_for}
use Rattle.rules.specs.Units.{part_of, unit_of, edges_between, merged_graph, spread}
use Rattle.rules.specs.Library.{least_to, least_over, least_conflicts, pair_number, bit_at, value_of, index_of, served}
use Rattle.rules.specs.Search.{added, total_after, cheapest, first_after, first_mask, different, candidates, candidates_in, try_masks, search_places}
use Rattle.rules.specs.Decomposition.{put_masks, search_all, put_back, put_back_all, decompose, run}
use Rattle.rules.specs.Questions.{ask_each, judge_piece, judge_record, judge_overlaps, judge_fixed, judge_records, judge_layer, done, refused}
use Rattle.rules.specs.Calls.{edge_between, decompose_layer, score_masks}
use Rattle.rules.proofs.Cases.{settings_of, piece, result, decomposed}

-- pieces 0 and 3 are tied, and 3 and 2; 0 and 2 do not touch
abbrev pub chain : List Piece
chain = piece 0 0 0 20 20 ∷ piece 1 60 60 80 80 ∷ piece 0 40 22 60 42 ∷ piece 0 20 11 40 31 ∷ piece 2 0 60 20 80 ∷ []

-- piece 2 conflicts with both halves of a tied pair, and so does 3
abbrev pub doubled : List Piece
doubled = piece 0 0 0 20 20 ∷ piece 0 20 11 40 31 ∷ piece 1 10 60 30 80 ∷ piece 2 60 60 80 80 ∷ []

-- piece 2 has a stitch edge to piece 0 and one to piece 1, which 0 is tied to
abbrev pub two_stitches : List Piece
two_stitches = piece 0 0 0 20 31 ∷ piece 0 20 22 40 31 ∷ piece 0 0 31 40 51 ∷ []

-- pieces 0 and 2 have a stitch edge, and both are tied to 1
abbrev pub inside : List Piece
inside = piece 0 0 0 20 40 ∷ piece 0 20 35 40 75 ∷ piece 0 0 40 20 44 ∷ piece 1 60 0 80 20 ∷ []

-- the corner of the one touches the corner of the other
abbrev pub corners : List Piece
corners = piece 0 0 0 20 20 ∷ piece 0 20 20 40 40 ∷ []

-- each piece's unit, and the graph of units
abbrev units_are : List Piece → List ℕ
units_are ps = map (unit_of (settings_of 2 100) ps) (up_to (length ps))

abbrev units : List Piece → Graph
units ps = merged_graph (unit_of (settings_of 2 100) ps) (length ps) (graph_of (settings_of 2 100) ps)

pub record TieCases : Type 0 where
  pub chain_units : units_are chain ≡ 0 ∷ 1 ∷ 0 ∷ 0 ∷ 4 ∷ []
  pub chain_run : decomposed (settings_of 2 100) chain ≡ done (result (0 ∷ 1 ∷ 0 ∷ 0 ∷ 1 ∷ []) 1 0 10 5 Verdict.Best)
  pub doubled_units : units_are doubled ≡ 0 ∷ 0 ∷ 2 ∷ 3 ∷ []
  pub doubled_edge : (units doubled).conflicts 0 2 ≡ 2
  pub doubled_run : decomposed (settings_of 2 100) doubled ≡ done (result (0 ∷ 0 ∷ 1 ∷ 1 ∷ []) 1 0 10 5 Verdict.Best)
  pub stitches_units : units_are two_stitches ≡ 0 ∷ 0 ∷ 2 ∷ []
  pub stitches_edges : (units two_stitches).stitches 2 0 ≡ 2
  -- degrees count neighbours, so each of the two units may go
  pub stitches_run : decomposed (settings_of 2 0) two_stitches ≡ done (result (0 ∷ 0 ∷ 0 ∷ []) 0 0 0 0 Verdict.Best)
  pub inside_units : units_are inside ≡ 0 ∷ 0 ∷ 0 ∷ 3 ∷ []
  pub inside_edge : edge_between (settings_of 2 100) (piece 0 0 0 20 40) (piece 0 0 40 20 44) ≡ done Edge.Stitch
  pub inside_none : (units inside).stitches 0 0 ≡ 0
  pub inside_run : decomposed (settings_of 2 100) inside ≡ done (result (1 ∷ 1 ∷ 1 ∷ 0 ∷ []) 0 0 0 0 Verdict.Best)
  pub corner_edge : edge_between (settings_of 2 100) (piece 0 0 0 20 20) (piece 0 20 20 40 40) ≡ done Edge.None
  pub corner_units : units_are corners ≡ 0 ∷ 1 ∷ []
  -- 8 is through with all pieces before 12 looks at one; its place is the lowest piece on a mask that is not its unit's
  pub split : score_masks (settings_of 2 100) chain (0 ∷ 1 ∷ 1 ∷ 1 ∷ 1 ∷ []) ≡ refused 12 (Place.Piece 2)
  pub range_before_split : score_masks (settings_of 2 100) chain (0 ∷ 1 ∷ 1 ∷ 0 ∷ 2 ∷ []) ≡ refused 8 (Place.Piece 4)
  pub kept_together : score_masks (settings_of 2 100) chain (1 ∷ 1 ∷ 1 ∷ 1 ∷ 0 ∷ []) ≡ done (record { score = record { conflicts = 3; stitches = 0; cost = 30 }; tested = 10 })

pub tie_cases : TieCases
unfolding sum_to sum_pairs sum_of up_from any_of count_of keep find settings_in_range piece_in_range has_area overlap_x overlap_y gap_x gap_y squared_gap conflict_edge contact stitch_edge tied edge_of overlapping conflicts_of stitches_of score_of pair_cost may_go peel_for reach_for components_for part_of edges_between spread added total_after cheapest first_after first_mask different candidates candidates_in least_to least_over least_conflicts pair_number bit_at value_of index_of served try_masks search_places put_masks search_all put_back put_back_all decompose run ask_each judge_piece judge_record judge_overlaps judge_fixed judge_records judge_layer edge_between decompose_layer score_masks
tie_cases = record {
  chain_units = refl;
  chain_run = refl;
  doubled_units = refl;
  doubled_edge = refl;
  doubled_run = refl;
  stitches_units = refl;
  stitches_edges = refl;
  stitches_run = refl;
  inside_units = refl;
  inside_edge = refl;
  inside_none = refl;
  inside_run = refl;
  corner_edge = refl;
  corner_units = refl;
  split = refl;
  range_before_split = refl;
  kept_together = refl;
}
