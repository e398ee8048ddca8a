-- What the readers of records answer, by the definitions of the rules.
use Rattle.std.specs.Prelude.{true, List, map, ◌≡◌, ℕ, ◌+◌, ◌≤◌, length, Result, Ok, Err}
use Rattle.std.specs.Borrow.{Bor}
use Rattle.rules.specs.declared.refusal.Refused.{Refused}
use Rattle.rules.specs.Answers.{refusal_of}
use Rattle.rules.specs.Questions.{Outcome, done}
use Rattle.rules.specs.Stream.{is_due, record_of, read_record, pass_records}
use Rattle.gds_records.specs.declared.kinds.Kind.{Kind}
use Rattle.gds_records.specs.declared.records.Record.{Record}
use Rattle.gds_records.specs.Kinds.{due_of}

-- a value of which a fact holds, or the refusal that the rules come to
abbrev pub Told : {A B : Type 0} → Outcome B → (A → Type 0) → Result A Refused → Type 0
Told o P (Ok a) = P a
Told o P (Err r) = o ≡ refusal_of r

-- data of this length may be those of the kind
pub record Room (kind : Kind) (size : ℕ) : Type 0 where
  pub low : (due_of kind).least ≤ size
  pub high : size ≤ (due_of kind).greatest

-- the bytes start with a whole record of the kind: its data and the bytes after it
pub record Due (kind : Kind) (bytes part rest : List ℕ) : Type 0 where
  pub is : is_due (due_of kind) bytes ≡ true
  pub value : record_of bytes ≡ record { bytes = part; rest = rest }
  pub room : Room kind (length part)
  pub parts : 4 + length part + length rest ≡ length bytes

-- a record of the kind was read: its data, which are right, and the bytes after it
pub record Whole (kind : Kind) (k : ℕ) (bytes part rest : List ℕ) : Type 0 where
  pub read : read_record (due_of kind) k bytes ≡ done (record { bytes = part; rest = rest })
  pub right : (due_of kind).right part ≡ true
  pub room : Room kind (length part)
  pub parts : 4 + length part + length rest ≡ length bytes

abbrev pub RecordTold : Kind → ℕ → List ℕ → Result Record Refused → Type 0
RecordTold kind k bytes = Told (read_record (due_of kind) k bytes) λ r. Whole kind k bytes r.bytes.now r.rest.now

-- by a reader, which has the bytes after it then
abbrev pub ReadTold : Kind → ℕ → List ℕ → List ℕ → Result (Bor (List ℕ)) Refused → Type 0
ReadTold kind k bytes rest = Told (read_record (due_of kind) k bytes) λ part. Whole kind k bytes part.now rest

-- the records were passed, and have a byte each at least
pub record Passed (kinds : List Kind) (k : ℕ) (bytes rest : List ℕ) : Type 0 where
  pub read : pass_records (map due_of kinds) k bytes ≡ done rest
  pub some : length kinds + length rest ≤ length bytes

abbrev pub PassTold : List Kind → ℕ → List ℕ → List ℕ → Result (Unit {0}) Refused → Type 0
PassTold kinds k bytes rest = Told (pass_records (map due_of kinds) k bytes) λ _. Passed kinds k bytes rest
