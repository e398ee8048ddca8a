-- The questions before a run: what comes of each answer to them. Assumes nothing.
use mathlib.Core.List.{List}
use mathlib.Core.Path.{◌≡◌}
use Prim.Native.Nat.{ℕ}
use lib.ListN.{length}
use borrow.Author.Tests.{eq-eqb, ne_eqb}
use Rattle.rules.specs.declared.layer.Settings.{Settings}
use Rattle.rules.specs.declared.layer.Piece.{Piece}
use Rattle.rules.specs.declared.refusal.Place.{Place}
use Rattle.rules.specs.Decomposition.{Run, run}
use Rattle.rules.specs.Questions.{Outcome, done, refused, judge_layer, Valid}
use Rattle.rules.specs.Refusals.{accepts, refuses}
use Rattle.rules.specs.Calls.{decompose_layer, masks_after}
use Rattle.rules.specs.Demands.{AgainstLarger, Demand3Of}
use Rattle.rules.proofs.Outcomes.{accepted}

module _ (s : Settings) (ps : List Piece) (masks : List ℕ) where
  -- what is promised of an outcome, and of the mask list after it
  abbrev Promised : Outcome Run → List ℕ → Type 0
  Promised o after =
      (o ≡ decompose_layer s ps masks)
      × ((after ≡ masks_after (decompose_layer s ps masks) masks) × Demand3Of s ps o)

  -- a refusal has no run
  no_run : (number : ℕ) (place : Place) → Demand3Of s ps (refused number place)
  no_run number place r = accepted {P = AgainstLarger s ps} {R = λ _ _. Unit {0}} (refuses tt)

  pub layer_refused : (number : ℕ) (place : Place) → judge_layer s ps ≡ refused number place → Promised (refused number place) masks
  unfolding decompose_layer
  layer_refused number place e = (rw e, (rw e, no_run number place))

  pub list_refused : Valid s ps → (length masks ≡ length ps → ⊥) → Promised (refused 7 Place.Nothing) masks
  unfolding decompose_layer
  list_refused valid e =
      let other = ne_eqb (length masks) (length ps) e in
      (rw (valid, other), (rw (valid, other), no_run 7 Place.Nothing))

  pub run_made : Valid s ps → length masks ≡ length ps → {r : Run} → r ≡ run s ps → AgainstLarger s ps r → Promised (done r) r.masks
  unfolding decompose_layer
  run_made valid e same against =
      let equal = eq-eqb (length masks) (length ps) e in
      (rw (valid, equal, same), (rw (valid, equal, same), λ r. accepted {P = AgainstLarger s ps} {R = λ _ _. Unit {0}} (accepts against)))
