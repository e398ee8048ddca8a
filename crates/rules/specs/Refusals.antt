-- What a call can come to (RULES 8 and 11): a value, or one of the refusals that its questions give, each with its number and place.
use Rattle.std.specs.Prelude.{List, ℕ, ◌+◌, ◌*◌, ◌≤◌, ◌<◌, eqb, length}
use Rattle.rules.specs.declared.refusal.Place.{Place}
use Rattle.rules.specs.Basics.{count_of}
use Rattle.rules.specs.Lines.{newline}
use Rattle.rules.specs.Questions.{Outcome, done, refused}

-- what the outcome accepts is one of P, and what it refuses is one of R
pub data Ends {A : Type 0} (P : A → Type 0) (R : ℕ → Place → Type 0) : Outcome A → Type 0 where
  accepts : {a : A} → P a → Ends P R (done a)
  refuses : {number : ℕ} {place : Place} → R number place → Ends P R (refused number place)

-- the refusal of settings
pub data OfSettings : ℕ → Place → Type 0 where
  setting : OfSettings 4 Place.Nothing

-- the refusals of settings and n lent records; the first piece overlaps no earlier one, and has no other fixed mask than an earlier one
pub data OfRecords (n : ℕ) : ℕ → Place → Type 0 where
  settings_or_count : OfRecords n 4 Place.Nothing
  range : {i : ℕ} → i < n → OfRecords n 4 (Place.Piece i)
  fixed_range : {i : ℕ} → i < n → OfRecords n 13 (Place.Piece i)
  area : {i : ℕ} → i < n → OfRecords n 5 (Place.Piece i)
  overlap : {i : ℕ} → 1 ≤ i → i < n → OfRecords n 6 (Place.Piece i)
  fixed_split : {i : ℕ} → 1 ≤ i → i < n → OfRecords n 14 (Place.Piece i)

-- the refusals of a decomposition: those of the records, then 7
pub data OfMaskList (n : ℕ) : ℕ → Place → Type 0 where
  records : {number : ℕ} {place : Place} → OfRecords n number place → OfMaskList n number place
  mask_count : OfMaskList n 7 Place.Nothing

-- the refusals of scoring: those, then 8, then 12; the first piece is the lowest of its unit
pub data OfMasks (n : ℕ) : ℕ → Place → Type 0 where
  mask_list : {number : ℕ} {place : Place} → OfMaskList n number place → OfMasks n number place
  mask_range : {i : ℕ} → i < n → OfMasks n 8 (Place.Piece i)
  split : {i : ℕ} → 1 ≤ i → i < n → OfMasks n 12 (Place.Piece i)

-- how many lines a text has, each ended by byte 10
abbrev pub line_count : List ℕ → ℕ
line_count text = count_of (λ b. eqb b newline) text

-- a line that a text has or that is the next one; a layer text has at most 1,030 lines
pub record LineOf (text : List ℕ) (lineNo : ℕ) : Type 0 where
  pub first : 1 ≤ lineNo
  pub next : lineNo ≤ line_count text + 1
  pub most : lineNo ≤ 1_031

-- the refusals of a layer text; piece i stands in line i + 7
pub data OfText (text : List ℕ) : ℕ → Place → Type 0 where
  size : OfText text 2 Place.Nothing
  form : {lineNo : ℕ} → LineOf text lineNo → OfText text 3 (Place.Line lineNo)
  range : {lineNo : ℕ} → LineOf text lineNo → OfText text 4 (Place.Line lineNo)
  area : {lineNo : ℕ} → LineOf text lineNo → OfText text 5 (Place.Line lineNo)
  fixed_range : {lineNo : ℕ} → LineOf text lineNo → OfText text 13 (Place.Line lineNo)
  overlap : {i : ℕ} → 1 ≤ i → i + 7 ≤ line_count text → i < 512 → OfText text 6 (Place.Piece i)
  fixed_split : {i : ℕ} → 1 ≤ i → i + 7 ≤ line_count text → i < 512 → OfText text 14 (Place.Piece i)

-- a record that a stream has or that is the next one; records that pass have seven bytes on the average, or more, so a stream has less than 10,000
pub record RecordOf (stream : List ℕ) (k : ℕ) : Type 0 where
  pub first : 1 ≤ k
  pub next : 7 * k ≤ length stream + 8

-- the refusals of a settings text and a stream; UNITS is record 4
pub data OfStream (settings stream : List ℕ) : ℕ → Place → Type 0 where
  size : OfStream settings stream 2 Place.Nothing
  form : {lineNo : ℕ} → LineOf settings lineNo → lineNo ≤ 7 → OfStream settings stream 3 (Place.Line lineNo)
  setting : {lineNo : ℕ} → LineOf settings lineNo → lineNo ≤ 6 → OfStream settings stream 4 (Place.Line lineNo)
  record_form : {k : ℕ} → RecordOf stream k → OfStream settings stream 9 (Place.Record k)
  rectangle : {k : ℕ} → RecordOf stream k → OfStream settings stream 10 (Place.Record k)
  unit : OfStream settings stream 11 (Place.Record 4)
  count : OfStream settings stream 4 Place.Nothing
  range : {i : ℕ} → i < 512 → OfStream settings stream 4 (Place.Piece i)
  overlap : {i : ℕ} → 1 ≤ i → i < 512 → OfStream settings stream 6 (Place.Piece i)

-- the refusals of a call with an output buffer: 1, then those of what it is given
pub data OfBuffer (R : ℕ → Place → Type 0) : ℕ → Place → Type 0 where
  buffer : OfBuffer R 1 Place.Nothing
  given : {number : ℕ} {place : Place} → R number place → OfBuffer R number place
