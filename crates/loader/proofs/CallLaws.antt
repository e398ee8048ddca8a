-- What the calls come to: the text of the run, and what is promised of whatever was read. Assumes nothing.
use mathlib.Core.List.{List}
use mathlib.Core.Path.{◌≡◌, refl, sym, ap, ap₂, subst, ◌∙◌}
use Prim.Native.Nat.{ℕ, ◌≤◌}
use native.Mathlib.Omega.{arith}
use lib.ListN.{length, take, drop, length-append}
use borrow.Author.Tests.{le-leb}
use Rattle.std.proofs.Common.{Result, Ok, Err}
use Rattle.rules.specs.declared.layer.Settings.{Settings}
use Rattle.rules.specs.declared.layer.Piece.{Piece}
use Rattle.rules.specs.declared.refusal.Refused.{Refused}
use Rattle.rules.specs.declared.answers.LayerRead.{LayerRead}
use Rattle.rules.specs.Answers.{length_of, HandedBack}
use Rattle.rules.specs.Calls.{decompose_read, buffer_after}
use Rattle.rules.specs.Decomposition.{Run, run}
use Rattle.rules.specs.Demands.{Demand3OfRead}
use Rattle.rules.specs.Loader.{loader_number}
use Rattle.rules.specs.Questions.{Outcome, done, refused, Layer, Valid}
use Rattle.rules.specs.ResultText.{result_text}
use Rattle.theory.proofs.Demand3.{demand3}
use Rattle.text.proofs.HandedLayers.{ReadsValid, handed_refused, handed_read, read_few, read_judged}
use Rattle.demands.proofs.ResultSizes.{result_fits}
use Rattle.loader.specs.Numbers.{as_number}
use Rattle.loader.specs.Read.{outcome_of, Judged}
use Rattle.loader.specs.Written.{Wrote}

-- ---- The run

module _ (s : Settings) (ps : List Piece) {r : Run} (same : r ≡ run s ps) where
  -- its text has room
  pub has_room : Valid s ps → {room : ℕ} → 4_096 ≤ room → length (result_text r) ≤ room
  has_room valid h = rw same (omega (arith, result_fits s ps valid))

  pub wrote_run : {before after : List ℕ} {answer : ℕ} → Wrote r before answer after → Wrote (run s ps) before answer after
  wrote_run {before} {after} {answer} w = subst (λ (q : Run). Wrote q before answer after) same w

-- ---- What was handed back

-- what is promised of an answer, and of the buffer after it
abbrev Promised : Outcome Layer → List ℕ → Outcome ℕ → List ℕ → Type 0
Promised o buffer a after = (a ≡ length_of (decompose_read o buffer)) × (after ≡ buffer_after (decompose_read o buffer) buffer)

-- where the text of its run was written, it is what was promised
pub reading_run : (r : LayerRead) (buffer : List ℕ) → 4_096 ≤ length buffer → r.answer ≡ Ok tt
    → {n : ℕ} {after : List ℕ} → Wrote (run r.settings (take r.count r.pieces)) buffer n after → Promised (outcome_of r) buffer (done n) after
reading_run r buffer room e wrote = let yes = le-leb 4_096 (length buffer) room in (rw (yes, e, wrote.size), rw (yes, e) wrote.buffer)

-- it is the outcome of the reading
outcome_by : (o : Outcome Layer) (r : LayerRead) (a : Result (Unit {0}) Refused) → r.answer ≡ a → HandedBack o r → outcome_of r ≡ o
outcome_by o r (Ok tt) e h =
    let w = handed_read o r h e in
    rw e (ap₂ (λ (s : Settings) (ps : List Piece). done (record { settings = s; pieces = ps })) w.settings w.pieces ∙ sym w.read)
outcome_by o r (Err q) e h = rw e (sym (handed_refused o r q h e))

-- if every layer that is read is valid, demand 3 holds of its run
against : (o : Outcome Layer) → ReadsValid o → Demand3OfRead o
against o valid l e larger alike larger-valid = demand3 alike l.pieces (valid l e) larger-valid

-- and what was handed back can be run, with the promises that are made of the outcome
module _ (o : Outcome Layer) (valid : ReadsValid o) (r : LayerRead) (h : HandedBack o r) where
  pub handed_judged : r.answer ≡ Ok tt → Judged r
  handed_judged e = let w = handed_read o r h e in record { few = read_few o valid w; valid = read_judged o valid w }

  pub handed_promised : (buffer : List ℕ) {a : Outcome ℕ} {after : List ℕ} → Promised (outcome_of r) buffer a after
      → (a ≡ length_of (decompose_read o buffer)) × ((after ≡ buffer_after (decompose_read o buffer) buffer) × Demand3OfRead o)
  handed_promised buffer {a} {after} p =
      let q = subst (λ (x : Outcome Layer). Promised x buffer a after) (outcome_by o r r.answer refl h) p in
      (q.0, (q.1, against o valid))

-- ---- The length

-- as many bytes as were answered stand in the buffer, for callers that go on to the text
pub length_within : (o : Outcome (List ℕ)) (buffer : List ℕ) {n : ℕ} {after : List ℕ} → done n ≡ length_of o → after ≡ buffer_after o buffer → n ≤ length after
length_within (done text) buffer {n} e written =
    let size : n ≡ length text = cc in omega (arith, ap length written, length-append text (drop (length text) buffer))
length_within (refused number place) buffer e written = let z : ◌≡◌ {A = ℕ} 0 1 = cc in absurd (omega arith)

-- ---- The number for C

as_stated : (o : Outcome (List ℕ)) → as_number (length_of o) ≡ loader_number o
as_stated (done text) = refl
as_stated (refused number place) = refl

pub loads : (o : Outcome (List ℕ)) {a : Outcome ℕ} → a ≡ length_of o → as_number a ≡ loader_number o
loads o e = ap as_number e ∙ as_stated o
