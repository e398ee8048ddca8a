-- What a layer that was handed back says of what was read, be it a layer text or a stream. Whoever calls a reader stands on it. Assumes nothing.
use Rattle.std.proofs.Common.{Ok, Err}
use mathlib.Core.List.{List}
use mathlib.Core.Path.{◌≡◌, refl, sym, ap, ap₂, subst₂, ◌∙◌}
use Prim.Native.Nat.{ℕ, ◌-◌, ◌≤◌}
use native.Mathlib.Omega.{arith}
use lib.ListN.{length, take, replicate}
use lib.Seq.{take-append_seam}
use Rattle.rules.specs.declared.layer.Piece.{Piece}
use Rattle.rules.specs.declared.refusal.Refused.{Refused}
use Rattle.rules.specs.declared.refusal.Place.{Place}
use Rattle.rules.specs.declared.answers.LayerRead.{LayerRead}
use Rattle.rules.specs.Settings.{no_piece}
use Rattle.rules.specs.Answers.{refusal_of, answer_of, HandedBack}
use Rattle.rules.specs.Questions.{Outcome, done, refused, Layer, Valid}
use Rattle.rules.proofs.Ranges.{within_facts}
use Rattle.rules.proofs.Validity.{valid_sound}

pub handed_refused : (o : Outcome Layer) (r : LayerRead) (x : Refused) → HandedBack o r → r.answer ≡ Err x → o ≡ refusal_of x
handed_refused (done l) r x h e =
    let other : ◌≡◌ {A = Outcome (Unit {0})} (done tt) (refusal_of x) = sym h.answer ∙ ap answer_of e in
    absurd (cc other)
handed_refused (refused number p) r x h e =
    let same : ◌≡◌ {A = Outcome (Unit {0})} (refused number p) (refusal_of x) = sym h.answer ∙ ap answer_of e in
    ap₂ (λ (n : ℕ) (x : Place). refused n x) (cc) (cc)

-- the layer that was read, in its records
pub record WasRead (o : Outcome Layer) (r : LayerRead) : Type 0 where
  pub layer : Layer
  pub read : o ≡ done layer
  pub settings : r.settings ≡ layer.settings
  pub pieces : take r.count r.pieces ≡ layer.pieces
  pub count : r.count ≡ length layer.pieces

pub handed_read : (o : Outcome Layer) (r : LayerRead) → HandedBack o r → r.answer ≡ Ok tt → WasRead o r
handed_read (done l) r h e = record {
  layer = l;
  read = refl;
  settings = h.settings;
  pieces = ap₂ (λ (n : ℕ) (ps : List Piece). take n ps) h.count h.pieces ∙ take-append_seam l.pieces (replicate (512 - length l.pieces) no_piece);
  count = h.count;
}
handed_read (refused number p) r h e =
    let other : ◌≡◌ {A = Outcome (Unit {0})} (done tt) (refused number p) = ap answer_of (sym e) ∙ h.answer in
    absurd (cc other)

-- every layer that comes of the reading is valid
abbrev pub ReadsValid : Outcome Layer → Type 0
ReadsValid o = (l : Layer) → o ≡ done l → Valid l.settings l.pieces

-- then the one that was read is, and it has at most 512 pieces
module _ (o : Outcome Layer) (valid : ReadsValid o) {r : LayerRead} (w : WasRead o r) where
  pub read_few : r.count ≤ 512
  read_few =
      let sound = valid_sound _ _ (valid w.layer w.read) in
      omega (arith, w.count, (within_facts 0 512 (length w.layer.pieces) sound.count).high)

  pub read_judged : Valid r.settings (take r.count r.pieces)
  read_judged = subst₂ Valid (sym w.settings) (sym w.pieces) (valid w.layer w.read)
