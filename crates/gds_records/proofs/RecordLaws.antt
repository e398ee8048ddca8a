-- Several records passed one after the other: the next one, and the end. Assumes nothing.
use mathlib.Core.List.{List, map}
use mathlib.Core.Path.{◌≡◌, ◌∙◌}
use Prim.Native.Nat.{ℕ, ◌+◌, ◌≤◌, ◌<◌}
use native.Mathlib.Numerals.{add-one}
use lib.ListN.{length, get_or, drop}
use lib.Seq.{drop-cons}
use Rattle.std.proofs.lemmas.List.{drop_all}
use Rattle.rules.specs.declared.refusal.Place.{Place}
use Rattle.rules.specs.Questions.{Outcome, done, refused, and_then}
use Rattle.rules.specs.Stream.{read_record, pass_records}
use Rattle.gds_records.specs.declared.kinds.Kind.{Kind}
use Rattle.gds_records.specs.Kinds.{due_of}
use Rattle.gds_records.specs.Records.{Whole}

module _ (kinds : List Kind) (i k : ℕ) (bytes : List ℕ) where
  -- the records that are due from kind i on, of which the first is record k
  abbrev pub left : Outcome (List ℕ)
  left = pass_records (map due_of (drop i kinds)) k bytes

  pub none_left : length kinds ≤ i → left ≡ done bytes
  unfolding pass_records
  none_left h = rw (drop_all i kinds h)

  module _ (more : i < length kinds) (d : Kind) where
    next : left ≡ and_then (read_record (due_of (get_or kinds i d)) k bytes) λ r. pass_records (map due_of (drop (i + 1) kinds)) (k + 1) r.rest
    unfolding pass_records
    next = rw (drop-cons kinds i d more) (rw (add-one i, add-one k))

    pub passes : (part rest : List ℕ) → Whole (get_or kinds i d) k bytes part rest → left ≡ pass_records (map due_of (drop (i + 1) kinds)) (k + 1) rest
    passes part rest w = next ∙ rw w.read

    pub stops : (number : ℕ) (place : Place) → read_record (due_of (get_or kinds i d)) k bytes ≡ refused number place → left ≡ refused number place
    stops number place e = next ∙ rw e
