-- What each case of an answer says (RULES 12): document 01's number and place of a refusal, or the values.
use Rattle.std.specs.Prelude.{List, [], ◌++◌, ◌≡◌, ℕ, ◌-◌, length, replicate, Result, Ok, Err}
use Rattle.rules.specs.declared.layer.Settings.{Settings}
use Rattle.rules.specs.declared.layer.Piece.{Piece}
use Rattle.rules.specs.declared.refusal.Refusal.{Refusal}
use Rattle.rules.specs.declared.refusal.Refused.{Refused}
use Rattle.rules.specs.declared.answers.Decomposition.{Decomposition}
use Rattle.rules.specs.declared.answers.LayerRead.{LayerRead}
use Rattle.rules.specs.declared.valid.ValidLayer.{ValidLayer}
use Rattle.rules.specs.Settings.{no_settings, no_piece}
use Rattle.rules.specs.Decomposition.{Run}
use Rattle.rules.specs.Questions.{Outcome, done, refused, Layer}

-- the number of the question that was answered with no
abbrev pub refusal_number : Refusal → ℕ
refusal_number Refusal.Buffer = 1
refusal_number Refusal.TextSize = 2
refusal_number Refusal.Form = 3
refusal_number Refusal.Range = 4
refusal_number Refusal.Area = 5
refusal_number Refusal.Overlap = 6
refusal_number Refusal.MaskCount = 7
refusal_number Refusal.MaskRange = 8
refusal_number Refusal.Record = 9
refusal_number Refusal.Rectangle = 10
refusal_number Refusal.Unit = 11
refusal_number Refusal.Split = 12
refusal_number Refusal.FixedRange = 13
refusal_number Refusal.FixedSplit = 14

-- the number and the place of a refusal
abbrev pub refusal_of : {A : Type 0} → Refused → Outcome A
refusal_of r = refused (refusal_number r.refusal) r.place

-- What a call came to that answers a value, or a refusal with its place.
abbrev pub answer_of : {A : Type 0} → Result A Refused → Outcome A
answer_of (Ok a) = done a
answer_of (Err r) = refusal_of r

-- What judging a layer came to. The layer that it hands on is the one that was judged.
abbrev pub judged : Result ValidLayer Refused → Outcome (Unit {0})
judged (Ok l) = done tt
judged (Err r) = refusal_of r

-- the run that its values and the masks beside them state
abbrev pub run_of : Decomposition → List ℕ → Run
run_of d masks = record {
  masks = masks;
  conflicts = d.score.conflicts;
  stitches = d.score.stitches;
  cost = d.score.cost;
  steps = d.steps;
  verdict = d.verdict;
}

-- with the list that the call filled
abbrev pub decompose_answer : Result Decomposition Refused → List ℕ → Outcome Run
decompose_answer (Ok d) masks = done (run_of d masks)
decompose_answer (Err r) masks = refusal_of r

-- the length of a text that was to be written
abbrev pub length_of : Outcome (List ℕ) → Outcome ℕ
length_of (done text) = done (length text)
length_of (refused number place) = refused number place

-- A layer that was read is handed back whole: its settings, the number of its pieces, and its pieces in 512 records. A refusal hands back zeros.
abbrev pub was_read : {A : Type 0} → Outcome A → Outcome (Unit {0})
was_read (done a) = done tt
was_read (refused number place) = refused number place

abbrev pub settings_read : Outcome Layer → Settings
settings_read (done l) = l.settings
settings_read (refused number place) = no_settings

abbrev pub pieces_read : Outcome Layer → List Piece
pieces_read (done l) = l.pieces
pieces_read (refused number place) = []

-- pieces in 512 records, zero after them
abbrev pub in_records : List Piece → List Piece
in_records ps = ps ++ replicate (512 - length ps) no_piece

pub record HandedBack (o : Outcome Layer) (r : LayerRead) : Type 0 where
  pub answer : answer_of r.answer ≡ was_read o
  pub settings : r.settings ≡ settings_read o
  pub count : r.count ≡ length (pieces_read o)
  pub pieces : r.pieces ≡ in_records (pieces_read o)
