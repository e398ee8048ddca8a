-- A GDSII stream (RULES 16), as a list of bytes: the records that are due, what is asked of each, and the layer that a settings text and a stream state.
use Rattle.std.specs.Prelude.{Bool, true, false, not, cond, ◌&&◌, ◌||◌, List, [], ◌∷◌, map, ℕ, zero, suc, ◌+◌, ◌-◌, ◌*◌, ◌^◌, ◌%◌, min, max, eqb, leb, ltb, ℤ, pos, negsuc, length, get_or, take, drop}
use Rattle.rules.specs.declared.layer.Settings.{Settings}
use Rattle.rules.specs.declared.layer.Piece.{Piece}
use Rattle.rules.specs.declared.refusal.Place.{Place}
use Rattle.rules.specs.Basics.{any_of}
use Rattle.rules.specs.Settings.{within, count_in_range, unset}
use Rattle.rules.specs.Lines.{is_numeral, value}
use Rattle.rules.specs.Questions.{Outcome, done, ask, and_then, ask_each, judge_piece, judge_overlaps, Layer, read_header, is_empty}

-- ---- Numbers in bytes, the highest byte first

-- in the two bytes from a place on, and in the four
abbrev pub word16 : List ℕ → ℕ → ℕ
word16 bytes at = 256 * get_or bytes at 0 + get_or bytes (at + 1) 0

abbrev pub word32 : List ℕ → ℕ → ℕ
word32 bytes at = 65_536 * word16 bytes at + word16 bytes (at + 2)

-- four bytes with a sign: from 2^31 on a number stands for itself less 2^32, and `negsuc k` is -(k + 1)
abbrev pub signed32 : ℕ → ℤ
signed32 n = cond (ltb n 2_147_483_648) (pos n) (negsuc (4_294_967_295 - n))

-- ---- UNITS: the second real is the unit in metres

-- a real: its value is fraction / 2^56 × 16^(exponent - 64), below 0 with the sign
pub record Real : Type 0 where
  pub negative : Bool
  pub exponent : ℕ
  pub fraction : ℕ

-- the eight bytes from a place on: a bit for the sign, seven for the exponent, seven bytes for the fraction
abbrev pub real_at : List ℕ → ℕ → Real
real_at bytes at = record {
  negative = leb 128 (get_or bytes at 0);
  exponent = get_or bytes at 0 % 128;
  fraction = 2 ^ 48 * get_or bytes (at + 1) 0 + 2 ^ 32 * word16 bytes (at + 2) + word32 bytes (at + 4);
}

-- value × 10^9 is from 1 - 1/10^6 to 1 + 1/10^6; all three are multiplied by 10^6 × 2^56 × 16^64, which makes them whole
unfoldable pub is_nanometre : Real → Bool
is_nanometre r =
    not r.negative
    && within (999_999 * (2 ^ 56 * 16 ^ 64)) (1_000_001 * (2 ^ 56 * 16 ^ 64)) (10 ^ 15 * (r.fraction * 16 ^ r.exponent))

-- ---- XY: five points

pub record Point : Type 0 where
  pub x : ℤ
  pub y : ℤ

abbrev pub point_at : List ℕ → ℕ → Point
point_at bytes i = record { x = signed32 (word32 bytes (8 * i)); y = signed32 (word32 bytes (8 * i + 4)) }

abbrev pub same : ℤ → ℤ → Bool
same (pos a) (pos b) = eqb a b
same (pos a) (negsuc b) = false
same (negsuc a) (pos b) = false
same (negsuc a) (negsuc b) = eqb a b

-- the point lies at x and y
abbrev pub lies_at : Point → ℤ → ℤ → Bool
lies_at p x y = same p.x x && same p.y y

-- The first point and the third are opposite corners, apart in x and in y; the second and the fourth are the other two corners, either way round; the fifth
-- is the first again.
unfoldable pub is_rectangle : List ℕ → Bool
is_rectangle bytes =
    let a = point_at bytes 0 in
    let c = point_at bytes 2 in
    not (same a.x c.x)
    && not (same a.y c.y)
    && (lies_at (point_at bytes 1) a.x c.y && lies_at (point_at bytes 3) c.x a.y
    || lies_at (point_at bytes 1) c.x a.y && lies_at (point_at bytes 3) a.x c.y)
    && lies_at (point_at bytes 4) a.x a.y

-- ---- PROPVALUE: a shape number

-- the bytes without a zero byte at their end; there is one where the count of digits is odd
unfoldable pub unfilled : List ℕ → List ℕ
unfilled [] = []
unfilled (b ∷ []) = cond (eqb b 0) [] (b ∷ [])
unfilled (b ∷ c ∷ bytes) = b ∷ unfilled (c ∷ bytes)

-- ---- The records that are due

-- a record: its type, its data type, the least and the greatest length of its data, and the question that its data must pass
pub record Due : Type 0 where
  pub record_type : ℕ
  pub data_type : ℕ
  pub least : ℕ
  pub greatest : ℕ
  pub number : ℕ
  pub right : List ℕ → Bool

-- data of one length
abbrev pub sized : ℕ → ℕ → ℕ → ℕ → (List ℕ → Bool) → Due
sized record_type data_type size number right = record { record_type = record_type; data_type = data_type; least = size; greatest = size; number = number; right = right }

-- data of one length that may be anything
abbrev pub plain : ℕ → ℕ → ℕ → Due
plain record_type data_type size = sized record_type data_type size 9 λ _. true

-- a text of any even length
abbrev pub string : ℕ → (List ℕ → Bool) → Due
string record_type right = record { record_type = record_type; data_type = 6; least = 0; greatest = 65_535; number = 9; right = right }

-- the fifteen of them, in the order of the file
abbrev pub header : Due
header = plain 0 2 2

abbrev pub bgnlib : Due
bgnlib = plain 1 2 24

abbrev pub libname : Due
libname = string 2 λ _. true

abbrev pub units : Due
units = sized 3 5 16 11 λ bytes. is_nanometre (real_at bytes 8)

abbrev pub bgnstr : Due
bgnstr = plain 5 2 24

abbrev pub strname : Due
strname = string 6 λ _. true

abbrev pub boundary : Due
boundary = plain 8 0 0

abbrev pub layer : Due
layer = plain 13 2 2

abbrev pub datatype : Due
datatype = plain 14 2 2

abbrev pub xy : Due
xy = sized 16 3 40 10 is_rectangle

abbrev pub propattr : Due
propattr = sized 43 2 2 9 λ bytes. eqb (word16 bytes 0) 1

abbrev pub propvalue : Due
propvalue = string 44 λ bytes. is_numeral (unfilled bytes)

abbrev pub endel : Due
endel = plain 17 0 0

abbrev pub endstr : Due
endstr = plain 7 0 0

abbrev pub endlib : Due
endlib = plain 4 0 0

-- ---- 9 to 11: records, one after the other

-- a record starts with its length in two bytes, its type and its data type
abbrev pub record_size : List ℕ → ℕ
record_size bytes = word16 bytes 0

-- the bytes start with a whole record of the kind that is due
unfoldable pub is_due : Due → List ℕ → Bool
is_due due bytes =
    leb (record_size bytes) (length bytes)
    && within (4 + due.least) (4 + due.greatest) (record_size bytes)
    && eqb (record_size bytes % 2) 0
    && eqb (get_or bytes 2 0) due.record_type
    && eqb (get_or bytes 3 0) due.data_type

-- the data of a record, and the bytes after it
pub record RecordRead : Type 0 where
  pub bytes : List ℕ
  pub rest : List ℕ

abbrev pub record_of : List ℕ → RecordRead
record_of bytes = record { bytes = take (record_size bytes - 4) (drop 4 bytes); rest = drop (record_size bytes) bytes }

-- the bytes start with record `k`, which is to be the one that is due
unfoldable pub read_record : Due → ℕ → List ℕ → Outcome RecordRead
read_record due k bytes =
    and_then (ask (is_due due bytes) 9 (Place.Record k)) λ _.
    and_then (ask (due.right (record_of bytes).bytes) due.number (Place.Record k)) λ _.
    done (record_of bytes)

-- records of which nothing is kept, the first of which is record `k`, and the bytes after them
unfoldable pub pass_records : List Due → ℕ → List ℕ → Outcome (List ℕ)
pass_records [] k bytes = done bytes
pass_records (due ∷ dues) k bytes = and_then (read_record due k bytes) λ r. pass_records dues (suc k) r.rest

-- a rectangle as it stands in the stream: two opposite corners, and its shape
pub record Element : Type 0 where
  pub shape : ℕ
  pub corner : Point
  pub opposite : Point

abbrev pub element_from : List ℕ → List ℕ → Element
element_from points digits = record { shape = value (unfilled digits); corner = point_at points 0; opposite = point_at points 2 }

-- the property of an element: the data of PROPVALUE are kept
unfoldable pub read_property : ℕ → List ℕ → Outcome RecordRead
read_property k bytes =
    and_then (pass_records (propattr ∷ []) k bytes) λ property.
    and_then (read_record propvalue (1 + k) property) λ digits.
    and_then (pass_records (endel ∷ []) (2 + k) digits.rest) λ rest.
    done (record { bytes = digits.bytes; rest = rest })

-- an element, and the bytes after it
pub record ElementRead : Type 0 where
  pub element : Element
  pub rest : List ℕ

unfoldable pub read_element : ℕ → List ℕ → Outcome ElementRead
read_element k bytes =
    and_then (pass_records (boundary ∷ layer ∷ datatype ∷ []) k bytes) λ figure.
    and_then (read_record xy (3 + k) figure) λ points.
    and_then (read_property (4 + k) points.rest) λ digits.
    done (record { element = element_from points.bytes digits.bytes; rest = digits.rest })

pub record ElementsRead : Type 0 where
  pub elements : List Element
  pub rest : List ℕ

-- elements as long as there are any; the first argument bounds how many, and each has a byte at least
unfoldable pub read_elements : ℕ → ℕ → List ℕ → Outcome ElementsRead
read_elements zero k bytes = done (record { elements = []; rest = bytes })
read_elements (suc more) k bytes = elim (is_due boundary bytes) [
  | false ↦ done (record { elements = []; rest = bytes })
  | true ↦
      and_then (read_element k bytes) λ e.
      and_then (read_elements more (7 + k) e.rest) λ es.
      done (record { elements = e.element ∷ es.elements; rest = es.rest })
]

-- the records before the elements
abbrev pub front : List Due
front = header ∷ bgnlib ∷ libname ∷ units ∷ bgnstr ∷ strname ∷ []

-- 9 to 11: six records, the elements, two records, and nothing but zero bytes
unfoldable pub read_stream_elements : List ℕ → Outcome (List Element)
read_stream_elements stream =
    and_then (pass_records front 1 stream) λ body.
    and_then (read_elements (length body) 7 body) λ read.
    and_then (pass_records (endstr ∷ endlib ∷ []) (7 + 7 * length read.elements) read.rest) λ rest.
    and_then (ask (not (any_of (ltb 0) rest)) 9 (Place.Record (9 + 7 * length read.elements))) λ _.
    done read.elements

-- ---- 4 to 6: the elements, as lent records with signs

abbrev pub negative : ℤ → Bool
negative (pos n) = false
negative (negsuc n) = true

abbrev pub magnitude : ℤ → ℕ
magnitude (pos n) = n
magnitude (negsuc n) = suc n

abbrev pub any_negative : Element → Bool
any_negative e = negative e.corner.x || negative e.corner.y || negative e.opposite.x || negative e.opposite.y

-- the piece that an element without negative coordinates states; a stream fixes no masks
abbrev pub piece_of : Element → Piece
piece_of e = record {
  shape = e.shape;
  x1 = min (magnitude e.corner.x) (magnitude e.opposite.x);
  y1 = min (magnitude e.corner.y) (magnitude e.opposite.y);
  x2 = max (magnitude e.corner.x) (magnitude e.opposite.x);
  y2 = max (magnitude e.corner.y) (magnitude e.opposite.y);
  fixed = unset;
}

abbrev pub no_element : Element
no_element = record { shape = 0; corner = record { x = pos 0; y = pos 0 }; opposite = record { x = pos 0; y = pos 0 } }

-- 4 for one element, and 4 and 5 for its piece
unfoldable pub judge_element : Place → Element → Outcome (Unit {0})
judge_element place e = and_then (ask (not (any_negative e)) 4 place) λ _. judge_piece place (piece_of e)

unfoldable pub judge_elements : List Element → Outcome (Unit {0})
judge_elements es =
    and_then (ask (count_in_range (length es)) 4 Place.Nothing) λ _.
    and_then (ask_each (λ i. judge_element (Place.Piece i) (get_or es i no_element)) (length es)) λ _.
    judge_overlaps (map piece_of es)

-- ---- The call

-- 3 and 4 for the settings text: the six lines with no pieces, and no text after them
unfoldable pub read_settings : List ℕ → Outcome Settings
read_settings text =
    and_then (read_header text) λ h.
    and_then (ask (eqb h.count 0) 4 (Place.Line 6)) λ _.
    and_then (ask (is_empty h.rest) 3 (Place.Line 7)) λ _.
    done h.settings

-- both sizes, the settings, the stream, the pieces
unfoldable pub read_stream : List ℕ → List ℕ → Outcome Layer
read_stream settings stream =
    and_then (ask (leb (length settings) 32_768) 2 Place.Nothing) λ _.
    and_then (ask (leb (length stream) 65_536) 2 Place.Nothing) λ _.
    and_then (read_settings settings) λ s.
    and_then (read_stream_elements stream) λ es.
    and_then (judge_elements es) λ _.
    done (record { settings = s; pieces = map piece_of es })
