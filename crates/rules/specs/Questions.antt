-- The questions before work (RULES 11). The first "no" decides, with its number and its place.
use Rattle.std.specs.Prelude.{Bool, true, false, not, ◌&&◌, List, [], ◌∷◌, ◌≡◌, ℕ, zero, suc, ◌+◌, eqb, leb, ltb, length, get_or, set}
use Rattle.std.proofs.Math.Option.{none, some}
use Rattle.rules.specs.declared.layer.Settings.{Settings}
use Rattle.rules.specs.declared.layer.Piece.{Piece}
use Rattle.rules.specs.declared.refusal.Place.{Place}
use Rattle.rules.specs.Basics.{up_to, any_of}
use Rattle.rules.specs.Settings.{settings_in_range, count_in_range, piece_in_range, has_area, unset, fixed_in_range, piece_at, fixed_masks}
use Rattle.rules.specs.Edges.{overlapping}
use Rattle.rules.specs.Score.{apart}
use Rattle.rules.specs.Units.{unit_of}
use Rattle.rules.specs.Lines.{ascii, NumbersRead, line_of}
use Rattle.rules.specs.LayerText.{NumberLine, header_lines}

-- what a call comes to: a value, or a refusal with its number and its place
pub data Outcome (A : Type 0) : Type 0 where
  done : A → Outcome A
  refused : ℕ → Place → Outcome A

-- a question: yes goes on, no refuses
abbrev pub ask : Bool → ℕ → Place → Outcome (Unit {0})
ask true number place = done tt
ask false number place = refused number place

-- the second part, after the first was not refused
abbrev pub and_then : {A B : Type 0} → Outcome A → (A → Outcome B) → Outcome B
and_then (done a) next = next a
and_then (refused number place) next = refused number place

-- the question at 0, at 1, .., at n - 1
unfoldable pub ask_each : (ℕ → Outcome (Unit {0})) → ℕ → Outcome (Unit {0})
ask_each question zero = done tt
ask_each question (suc n) = and_then (ask_each question n) λ _. question n

-- ---- Lent records

-- 4 and 5 for one piece, as a line or a stream states it, without a fixed mask
unfoldable pub judge_piece : Place → Piece → Outcome (Unit {0})
judge_piece place p = and_then (ask (piece_in_range p) 4 place) λ _. ask (has_area p) 5 place

-- 4, 13 and 5 for one lent record
unfoldable pub judge_record : ℕ → Place → Piece → Outcome (Unit {0})
judge_record K place p =
    and_then (ask (piece_in_range p) 4 place) λ _.
    and_then (ask (fixed_in_range K p.fixed) 13 place) λ _.
    ask (has_area p) 5 place

-- 6: no piece overlaps an earlier one of its shape
unfoldable pub judge_overlaps : List Piece → Outcome (Unit {0})
judge_overlaps ps = ask_each (λ j. ask (not (any_of (λ i. overlapping (piece_at ps i) (piece_at ps j)) (up_to j))) 6 (Place.Piece j)) (length ps)

-- pieces i and j are in one unit, and have different fixed masks
abbrev pub fixed_apart : Settings → List Piece → ℕ → ℕ → Bool
fixed_apart s ps i j = eqb (unit_of s ps i) (unit_of s ps j) && apart (fixed_masks ps) i j

-- 14: no piece has another fixed mask than an earlier one of its unit
unfoldable pub judge_fixed : Settings → List Piece → Outcome (Unit {0})
judge_fixed s ps = ask_each (λ j. ask (not (any_of (λ i. fixed_apart s ps i j) (up_to j))) 14 (Place.Piece j)) (length ps)

-- 4 to 6, and 13: the settings, the number of pieces, each record, overlaps
unfoldable pub judge_records : Settings → List Piece → Outcome (Unit {0})
judge_records s ps =
    and_then (ask (settings_in_range s) 4 Place.Nothing) λ _.
    and_then (ask (count_in_range (length ps)) 4 Place.Nothing) λ _.
    and_then (ask_each (λ i. judge_record s.masks (Place.Piece i) (piece_at ps i)) (length ps)) λ _.
    judge_overlaps ps

-- these, and 14
unfoldable pub judge_layer : Settings → List Piece → Outcome (Unit {0})
judge_layer s ps = and_then (judge_records s ps) λ _. judge_fixed s ps

-- A layer is valid when none of them refuses it.
abbrev pub Valid : Settings → List Piece → Type 0
Valid s ps = judge_layer s ps ≡ done tt

-- ---- A layer text

pub record Layer : Type 0 where
  pub settings : Settings
  pub pieces : List Piece

-- 3: the text's first line, which is line `lineNo`, has the key and the numbers expected
unfoldable pub read_line : List ℕ → ℕ → ℕ → List ℕ → Outcome NumbersRead
read_line key count lineNo text = elim (line_of key count text) [ none ↦ refused 3 (Place.Line lineNo) | some l ↦ done l ]

-- a number, and the text after it
pub record NumberRead : Type 0 where
  pub number : ℕ
  pub rest : List ℕ

-- 3 and 4 for a line with one number
unfoldable pub read_number : NumberLine → ℕ → List ℕ → Outcome NumberRead
read_number expected lineNo text =
    and_then (read_line expected.key 1 lineNo text) λ l.
    and_then (ask (expected.range (get_or l.numbers 0 0)) 4 (Place.Line lineNo)) λ _.
    done (record { number = get_or l.numbers 0 0; rest = l.rest })

-- the same for lines with one number each, the first of which is line `lineNo`
unfoldable pub read_numbers : List NumberLine → ℕ → List ℕ → Outcome NumbersRead
read_numbers [] lineNo text = done (record { numbers = []; rest = text })
read_numbers (expected ∷ more) lineNo text =
    and_then (read_number expected lineNo text) λ n.
    and_then (read_numbers more (suc lineNo) n.rest) λ ns.
    done (record { numbers = n.number ∷ ns.numbers; rest = ns.rest })

-- the settings and the number of pieces, and the text after them
pub record HeaderRead : Type 0 where
  pub settings : Settings
  pub count : ℕ
  pub rest : List ℕ

-- what the numbers of the six lines state
abbrev pub settings_from : List ℕ → Settings
settings_from ns = record { masks = get_or ns 0 0; spacing = get_or ns 1 0; margin = get_or ns 2 0; weight = get_or ns 3 0; budget = get_or ns 4 0 }

abbrev pub header_from : NumbersRead → HeaderRead
header_from l = record { settings = settings_from l.numbers; count = get_or l.numbers 5 0; rest = l.rest }

-- 3 and 4 for the six lines before the pieces
unfoldable pub read_header : List ℕ → Outcome HeaderRead
read_header text = and_then (read_numbers header_lines 1 text) λ l. done (header_from l)

abbrev pub piece_from : List ℕ → Piece
piece_from ns = record { shape = get_or ns 0 0; x1 = get_or ns 1 0; y1 = get_or ns 2 0; x2 = get_or ns 3 0; y2 = get_or ns 4 0; fixed = unset }

-- a piece, and the text after it
pub record PieceRead : Type 0 where
  pub piece : Piece
  pub rest : List ℕ

-- 3 to 5 for a piece line
unfoldable pub read_piece : ℕ → List ℕ → Outcome PieceRead
read_piece lineNo text =
    and_then (read_line (ascii "piece=") 5 lineNo text) λ l.
    and_then (judge_piece (Place.Line lineNo) (piece_from l.numbers)) λ _.
    done (record { piece = piece_from l.numbers; rest = l.rest })

-- pieces, and the text after them
pub record PiecesRead : Type 0 where
  pub pieces : List Piece
  pub rest : List ℕ

-- the same for n piece lines, the first of which is line `lineNo`
unfoldable pub read_pieces : ℕ → ℕ → List ℕ → Outcome PiecesRead
read_pieces zero lineNo text = done (record { pieces = []; rest = text })
read_pieces (suc n) lineNo text =
    and_then (read_piece lineNo text) λ p.
    and_then (read_pieces n (suc lineNo) p.rest) λ r.
    done (record { pieces = p.piece ∷ r.pieces; rest = r.rest })

abbrev pub is_empty : List ℕ → Bool
is_empty [] = true
is_empty (b ∷ text) = false

-- the piece of a line that fixes a mask, its mask, and the text after the line
pub record FixedRead : Type 0 where
  pub piece : ℕ
  pub mask : ℕ
  pub rest : List ℕ

-- 3 and 13 for a line that fixes the mask of one of n pieces, where those before `least` are passed
unfoldable pub read_fixed : ℕ → ℕ → ℕ → ℕ → List ℕ → Outcome FixedRead
read_fixed K n least lineNo text =
    and_then (read_line (ascii "fixed=") 2 lineNo text) λ l.
    and_then (ask (leb least (get_or l.numbers 0 0)) 3 (Place.Line lineNo)) λ _.
    and_then (ask (ltb (get_or l.numbers 0 0) n && ltb (get_or l.numbers 1 0) K) 13 (Place.Line lineNo)) λ _.
    done (record { piece = get_or l.numbers 0 0; mask = get_or l.numbers 1 0; rest = l.rest })

-- the piece with its mask fixed to m
abbrev pub with_fixed : ℕ → Piece → Piece
with_fixed m p = record { shape = p.shape; x1 = p.x1; y1 = p.y1; x2 = p.x2; y2 = p.y2; fixed = m }

-- the pieces with that of piece i fixed to m
abbrev pub fix_at : ℕ → ℕ → List Piece → List Piece
fix_at i m ps = set ps i (with_fixed m (piece_at ps i))

-- The same for all lines that are left, the first of which is line `lineNo`: the pieces, with the masks that they fix. Each line has a byte at least; the first
-- argument bounds how many there are.
unfoldable pub read_all_fixed : ℕ → ℕ → ℕ → ℕ → List Piece → List ℕ → Outcome (List Piece)
read_all_fixed zero K least lineNo ps text = done ps
read_all_fixed (suc more) K least lineNo ps text = elim (is_empty text) [
  | true ↦ done ps
  | false ↦
      and_then (read_fixed K (length ps) least lineNo text) λ f.
      read_all_fixed more K (suc f.piece) (suc lineNo) (fix_at f.piece f.mask ps) f.rest
]

-- 6 and 14 for pieces that were read, and the layer
unfoldable pub layer_from : Settings → List Piece → Outcome Layer
layer_from s ps =
    and_then (judge_overlaps ps) λ _.
    and_then (judge_fixed s ps) λ _.
    done (record { settings = s; pieces = ps })

-- 3 to 6, 13 and 14 for the text after the six lines: n piece lines, lines that fix masks up to its end, overlaps, units
unfoldable pub read_body : Settings → ℕ → List ℕ → Outcome Layer
read_body s n text =
    and_then (read_pieces n 7 text) λ read.
    and_then (read_all_fixed (length read.rest) s.masks 0 (7 + n) read.pieces read.rest) λ ps.
    layer_from s ps

-- 2 to 6, 13 and 14: the size, the six lines, the text after them
unfoldable pub read_layer : List ℕ → Outcome Layer
read_layer text =
    and_then (ask (leb (length text) 32_768) 2 Place.Nothing) λ _.
    and_then (read_header text) λ h.
    read_body h.settings h.count h.rest
