-- Streams by hand, computed from the definitions: two rectangles that are read to a layer and decomposed, and each refusal of a settings text and a stream.
-- A stream is put together from its records; an example that is wrong at one byte or one number is refused. Assumes nothing.
use mathlib.Core.Bool.{Bool, true, false}
use mathlib.Core.List.{List, [], ◌∷◌, ◌++◌}
use mathlib.Core.Path.{◌≡◌, refl}
use Prim.Native.Nat.{ℕ, zero, suc, ◌+◌, ◌/◌, ◌%◌}
use Prim.Native.String.{String}
use lib.IntN.{pos, negsuc}
use lib.ListN.{length, replicate}
use Rattle.rules.specs.declared.refusal.Place.{Place}
use Rattle.rules.specs.Basics.{sum_to, sum_pairs, sum_of, up_from, any_of, count_of, keep, find}
use Rattle.rules.specs.Settings.{settings_in_range, piece_in_range, has_area}
use Rattle.rules.specs.Edges.{overlap_x, overlap_y, gap_x, gap_y, squared_gap, conflict_edge, contact, stitch_edge, tied, edge_of, overlapping}
use Rattle.rules.specs.Score.{conflicts_of, stitches_of, score_of, pair_cost}
use Rattle.rules.specs.Peeling.{may_go, peel_for}
use Rattle.rules.specs.Components.{reach_for, components_for}
use Rattle.rules.specs.Units.{part_of, edges_between, spread}
use Rattle.rules.specs.Search.{added, total_after, cheapest, first_after, first_mask, different, candidates, candidates_in, try_masks, search_places}
use Rattle.rules.specs.Decomposition.{put_masks, search_all, put_back, put_back_all, decompose, run}
use Rattle.rules.specs.Lines.{ascii, digits_for, comma_list, line, number_lines, first_line, after_key, all_digits, is_numeral, value_after, parts_of, numbers_of, line_numbers, line_of}
use Rattle.rules.specs.ResultText.{mask_lines, result_text}
use Rattle.rules.specs.Questions.{Outcome, done, refused, ask_each, judge_piece, judge_overlaps, read_line, read_number, read_numbers, read_header, Layer}
use Rattle.rules.specs.Stream.{word32, signed32, real_at, is_nanometre, is_rectangle, unfilled, is_due, read_record, pass_records, read_property, read_element, read_elements, read_stream_elements, judge_element, judge_elements, read_settings, read_stream}
use Rattle.rules.specs.Calls.{decompose_stream}
use Rattle.rules.proofs.Cases.{settings_of, piece}

-- ---- Records

-- a record: its length with the four bytes before its data, its type, its data type, its data
abbrev record_with : ℕ → ℕ → List ℕ → List ℕ
record_with record_type data_type bytes = (4 + length bytes) / 256 ∷ (4 + length bytes) % 256 ∷ record_type ∷ data_type ∷ bytes

-- version 600, no dates, names of two bytes
abbrev header_record : List ℕ
header_record = record_with 0 2 (2 ∷ 88 ∷ [])

abbrev bgnlib_record : List ℕ
bgnlib_record = record_with 1 2 (replicate 24 0)

abbrev libname_record : List ℕ
libname_record = record_with 2 6 (ascii "LB")

abbrev bgnstr_record : List ℕ
bgnstr_record = record_with 5 2 (replicate 24 0)

abbrev strname_record : List ℕ
strname_record = record_with 6 6 (ascii "ST")

-- reals: a byte for sign and exponent, seven for the fraction
abbrev thousandth : List ℕ
thousandth = 0x3e ∷ 0x41 ∷ 0x89 ∷ 0x37 ∷ 0x4b ∷ 0xc6 ∷ 0xa7 ∷ 0xf0 ∷ []

abbrev nanometre : List ℕ
nanometre = 0x39 ∷ 0x44 ∷ 0xb8 ∷ 0x2f ∷ 0xa0 ∷ 0x9b ∷ 0x5a ∷ 0x54 ∷ []

abbrev micrometre : List ℕ
micrometre = 0x3c ∷ 0x10 ∷ 0xc6 ∷ 0xf7 ∷ 0xa0 ∷ 0xb5 ∷ 0xed ∷ 0x8d ∷ []

-- the same real below 0
abbrev minus_nanometre : List ℕ
minus_nanometre = 0xb9 ∷ 0x44 ∷ 0xb8 ∷ 0x2f ∷ 0xa0 ∷ 0x9b ∷ 0x5a ∷ 0x54 ∷ []

abbrev units_record : List ℕ → List ℕ
units_record metres = record_with 3 5 (thousandth ++ metres)

-- ---- Elements

-- a coordinate below 65,536, and -1
abbrev number : ℕ → List ℕ
number n = 0 ∷ 0 ∷ n / 256 ∷ n % 256 ∷ []

abbrev minus_one : List ℕ
minus_one = 255 ∷ 255 ∷ 255 ∷ 255 ∷ []

abbrev point : ℕ → ℕ → List ℕ
point x y = number x ++ number y

-- the path around a rectangle, from its lower left corner up; and from its lower right corner to the left
abbrev around : ℕ → ℕ → ℕ → ℕ → List ℕ
around x1 y1 x2 y2 = point x1 y1 ++ point x1 y2 ++ point x2 y2 ++ point x2 y1 ++ point x1 y1

abbrev other_way : ℕ → ℕ → ℕ → ℕ → List ℕ
other_way x1 y1 x2 y2 = point x2 y1 ++ point x1 y1 ++ point x1 y2 ++ point x2 y2 ++ point x2 y1

-- the records of an element: its path, the number of its property, the bytes of its value
abbrev element_with : List ℕ → ℕ → List ℕ → List ℕ
element_with path property bytes =
    record_with 8 0 []
    ++ record_with 13 2 (0 ∷ 1 ∷ [])
    ++ record_with 14 2 (0 ∷ 0 ∷ [])
    ++ record_with 16 3 path
    ++ record_with 43 2 (0 ∷ property ∷ [])
    ++ record_with 44 6 bytes
    ++ record_with 17 0 []

-- a boundary along a path, of a shape with one digit, which a zero byte fills
abbrev boundary_at : List ℕ → ℕ → List ℕ
boundary_at path shape = element_with path 1 ((48 + shape) ∷ 0 ∷ [])

-- ---- Streams

-- six records, elements, two records; the first element's records are 7 to 13
abbrev stream_in : List ℕ → List ℕ → List ℕ
stream_in metres elements =
    header_record ++ bgnlib_record ++ libname_record ++ units_record metres ++ bgnstr_record ++ strname_record ++ elements ++ record_with 7 0 [] ++ record_with 4 0 []

abbrev stream_of : List ℕ → List ℕ
stream_of elements = stream_in nanometre elements

abbrev setting_lines : String
setting_lines = "masks=2\nspacing=80\nmargin=10\nweight=10\nbudget=100\n"

abbrev settings_text : List ℕ
settings_text = ascii setting_lines ++ ascii "pieces=0\n"

-- the layer that a stream states at these settings
abbrev read_at : List ℕ → Outcome Layer
read_at stream = read_stream settings_text stream

-- two squares that are too close
abbrev pair : List ℕ
pair = stream_of (boundary_at (around 0 0 20 20) 0 ++ boundary_at (around 40 0 60 20) 1)

abbrev pair_other_way : List ℕ
pair_other_way = stream_of (boundary_at (other_way 0 0 20 20) 0 ++ boundary_at (other_way 40 0 60 20) 1)

abbrev pair_layer : Layer
pair_layer = record { settings = settings_of 2 100; pieces = piece 0 0 0 20 20 ∷ piece 1 40 0 60 20 ∷ [] }

abbrev pair_result : String
pair_result = "verdict=best\nconflicts=0\nstitches=0\ncost=0\nsteps=0\nmask=1\nmask=0\n"

pub record Streams : Type 0 where
  pub reads : read_at pair ≡ done pair_layer
  pub reads_other_way : read_at pair_other_way ≡ done pair_layer
  pub reads_filled : read_at (pair ++ replicate 100 0) ≡ done pair_layer
  pub reads_none : read_at (stream_of []) ≡ done (record { settings = settings_of 2 100; pieces = [] })
  -- two digits, which need no zero byte
  pub reads_two_digits : read_at (stream_of (element_with (around 5 6 7 8) 1 (ascii "42"))) ≡ done (record { settings = settings_of 2 100; pieces = piece 42 5 6 7 8 ∷ [] })
  pub runs : decompose_stream settings_text pair (replicate 4096 0) ≡ done (ascii pair_result)
  pub runs_other_way : decompose_stream settings_text pair_other_way (replicate 4096 0) ≡ done (ascii pair_result)
  pub small_buffer : decompose_stream [] [] (replicate 4095 0) ≡ refused 1 Place.Nothing

pub streams : Streams
unfolding sum_to sum_pairs sum_of up_from any_of count_of keep find settings_in_range piece_in_range has_area overlap_x overlap_y gap_x gap_y squared_gap conflict_edge contact stitch_edge tied edge_of overlapping conflicts_of stitches_of score_of pair_cost may_go peel_for reach_for components_for part_of edges_between spread added total_after cheapest first_after first_mask different candidates candidates_in try_masks search_places put_masks search_all put_back put_back_all decompose run ascii digits_for comma_list line number_lines first_line after_key all_digits is_numeral value_after parts_of numbers_of line_numbers line_of mask_lines result_text ask_each judge_piece judge_overlaps read_line read_number read_numbers read_header is_nanometre is_rectangle unfilled is_due read_record pass_records read_property read_element read_elements read_stream_elements judge_element judge_elements read_settings read_stream decompose_stream
streams = record {
  reads = refl;
  reads_other_way = refl;
  reads_filled = refl;
  reads_none = refl;
  reads_two_digits = refl;
  runs = refl;
  runs_other_way = refl;
  small_buffer = refl;
}

-- ---- Refusals

-- a stream with one element
abbrev one : List ℕ → ℕ → List ℕ → List ℕ
one path property bytes = stream_of (element_with path property bytes)

-- a rectangle whose lower left corner has x = -1
abbrev left_of_all : List ℕ
left_of_all = minus_one ++ number 0 ++ minus_one ++ number 9 ++ point 9 9 ++ point 9 0 ++ minus_one ++ number 0

-- from a corner along two sides to the opposite one, and back the same way
abbrev there_and_back : List ℕ
there_and_back = point 0 0 ++ point 0 9 ++ point 9 9 ++ point 0 9 ++ point 0 0

abbrev not_closed : List ℕ
not_closed = point 0 0 ++ point 0 9 ++ point 9 9 ++ point 9 0 ++ point 1 0

abbrev slanting : List ℕ
slanting = point 0 0 ++ point 1 9 ++ point 9 9 ++ point 9 0 ++ point 0 0

-- the same square n times
abbrev squares : ℕ → List ℕ
squares zero = []
squares (suc n) = boundary_at (around 0 0 20 20) 0 ++ squares n

pub record StreamRefusals : Type 0 where
  -- 2: both sizes, before anything else
  pub long_settings : read_stream (replicate 32769 0) [] ≡ refused 2 Place.Nothing
  pub long_stream : read_stream [] (replicate 65537 0) ≡ refused 2 Place.Nothing
  -- 3 and 4: the settings text, before the stream
  pub no_settings : read_stream [] [] ≡ refused 3 (Place.Line 1)
  pub line_7 : read_stream (settings_text ++ ascii "\n") [] ≡ refused 3 (Place.Line 7)
  pub pieces_1 : read_stream (ascii setting_lines ++ ascii "pieces=1\n") [] ≡ refused 4 (Place.Line 6)
  pub pieces_large : read_stream (ascii setting_lines ++ ascii "pieces=99999999999999999999\n\n") [] ≡ refused 4 (Place.Line 6)
  pub nine_masks : read_stream (ascii "masks=9\n") [] ≡ refused 4 (Place.Line 1)
  -- 4: the pieces, after the whole stream
  pub squares_513 : read_at (stream_of (squares 513)) ≡ refused 4 Place.Nothing
  pub negative_x : read_at (one left_of_all 1 (48 ∷ 0 ∷ [])) ≡ refused 4 (Place.Piece 0)
  pub negative_then_form : read_at (one left_of_all 1 (48 ∷ 0 ∷ []) ++ (1 ∷ [])) ≡ refused 9 (Place.Record 16)
  pub shape_512 : read_at (stream_of (boundary_at (around 0 0 20 20) 0 ++ element_with (around 40 0 60 20) 1 (ascii "512" ++ (0 ∷ [])))) ≡ refused 4 (Place.Piece 1)
  -- 6
  pub overlapping_parts : read_at (stream_of (boundary_at (around 0 0 20 20) 0 ++ boundary_at (around 19 19 40 40) 0)) ≡ refused 6 (Place.Piece 1)
  -- 9
  pub empty_stream : read_at [] ≡ refused 9 (Place.Record 1)
  pub cut_short : read_at (header_record ++ (0 ∷ 28 ∷ 1 ∷ [])) ≡ refused 9 (Place.Record 2)
  pub odd_length : read_at (0 ∷ 7 ∷ 0 ∷ 2 ∷ replicate 3 0) ≡ refused 9 (Place.Record 1)
  pub no_endlib : read_at (header_record ++ bgnlib_record ++ libname_record ++ units_record nanometre ++ bgnstr_record ++ strname_record ++ record_with 7 0 []) ≡ refused 9 (Place.Record 8)
  pub property_2 : read_at (one (around 0 0 20 20) 2 (48 ∷ 0 ∷ [])) ≡ refused 9 (Place.Record 11)
  pub leading_zero : read_at (one (around 0 0 20 20) 1 (ascii "01")) ≡ refused 9 (Place.Record 12)
  pub no_digit : read_at (one (around 0 0 20 20) 1 []) ≡ refused 9 (Place.Record 12)
  pub two_zero_bytes : read_at (one (around 0 0 20 20) 1 (ascii "10" ++ (0 ∷ 0 ∷ []))) ≡ refused 9 (Place.Record 12)
  pub digit_after_zero : read_at (one (around 0 0 20 20) 1 (49 ∷ 0 ∷ 49 ∷ 0 ∷ [])) ≡ refused 9 (Place.Record 12)
  pub byte_after_endlib : read_at (pair ++ (0 ∷ 0 ∷ 1 ∷ [])) ≡ refused 9 (Place.Record 23)
  -- 10
  pub there_and_back_lem : read_at (one there_and_back 1 (48 ∷ 0 ∷ [])) ≡ refused 10 (Place.Record 10)
  pub no_width : read_at (one (around 5 0 5 20) 1 (48 ∷ 0 ∷ [])) ≡ refused 10 (Place.Record 10)
  pub not_closed_lem : read_at (one not_closed 1 (48 ∷ 0 ∷ [])) ≡ refused 10 (Place.Record 10)
  pub not_along_the_axes : read_at (one slanting 1 (48 ∷ 0 ∷ [])) ≡ refused 10 (Place.Record 10)
  -- 11
  pub in_micrometres : read_at (stream_in micrometre []) ≡ refused 11 (Place.Record 4)
  pub unit_of_zero : read_at (stream_in (replicate 8 0) []) ≡ refused 11 (Place.Record 4)
  pub unit_below_zero : read_at (stream_in minus_nanometre []) ≡ refused 11 (Place.Record 4)

pub stream_refusals : StreamRefusals
unfolding up_from any_of settings_in_range piece_in_range has_area overlap_x overlap_y overlapping ascii first_line after_key all_digits is_numeral value_after parts_of numbers_of line_numbers line_of ask_each judge_piece judge_overlaps read_line read_number read_numbers read_header is_nanometre is_rectangle unfilled is_due read_record pass_records read_property read_element read_elements read_stream_elements judge_element judge_elements read_settings read_stream
stream_refusals = record {
  long_settings = refl;
  long_stream = refl;
  no_settings = refl;
  line_7 = refl;
  pieces_1 = refl;
  pieces_large = refl;
  nine_masks = refl;
  squares_513 = refl;
  negative_x = refl;
  negative_then_form = refl;
  shape_512 = refl;
  overlapping_parts = refl;
  empty_stream = refl;
  cut_short = refl;
  odd_length = refl;
  no_endlib = refl;
  property_2 = refl;
  leading_zero = refl;
  no_digit = refl;
  two_zero_bytes = refl;
  digit_after_zero = refl;
  byte_after_endlib = refl;
  there_and_back_lem = refl;
  no_width = refl;
  not_closed_lem = refl;
  not_along_the_axes = refl;
  in_micrometres = refl;
  unit_of_zero = refl;
  unit_below_zero = refl;
}

-- ---- Numbers in bytes

-- the unit that eight bytes state is a nanometre
abbrev nanometre_in : List ℕ → Bool
nanometre_in bytes = is_nanometre (real_at bytes 0)

pub record Numbers : Type 0 where
  pub largest : signed32 2_147_483_647 ≡ pos 2_147_483_647
  pub smallest : signed32 2_147_483_648 ≡ negsuc 2_147_483_647
  pub minus_one_lem : signed32 (word32 minus_one 0) ≡ negsuc 0
  -- a millionth less and more, and the reals next to these
  pub least : nanometre_in (0x39 ∷ 0x44 ∷ 0xb8 ∷ 0x2b ∷ 0x1f ∷ 0xaf ∷ 0x72 ∷ 0x99 ∷ []) ≡ true
  pub below_least : nanometre_in (0x39 ∷ 0x44 ∷ 0xb8 ∷ 0x2b ∷ 0x1f ∷ 0xaf ∷ 0x72 ∷ 0x98 ∷ []) ≡ false
  pub greatest : nanometre_in (0x39 ∷ 0x44 ∷ 0xb8 ∷ 0x34 ∷ 0x21 ∷ 0x87 ∷ 0x42 ∷ 0x0c ∷ []) ≡ true
  pub above_greatest : nanometre_in (0x39 ∷ 0x44 ∷ 0xb8 ∷ 0x34 ∷ 0x21 ∷ 0x87 ∷ 0x42 ∷ 0x0d ∷ []) ≡ false
  -- a fraction whose first digit is 0
  pub not_normalised : nanometre_in (0x3a ∷ 0x04 ∷ 0x4b ∷ 0x82 ∷ 0xfa ∷ 0x09 ∷ 0xb5 ∷ 0xa5 ∷ []) ≡ true

pub numbers : Numbers
unfolding is_nanometre
numbers = record {
  largest = refl;
  smallest = refl;
  minus_one_lem = refl;
  least = refl;
  below_least = refl;
  greatest = refl;
  above_greatest = refl;
  not_normalised = refl;
}
