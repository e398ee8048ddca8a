-- The mask that a number states: none where it is 255, and else the number itself. Assumes nothing.
use mathlib.Core.Bool.{true, false}
use mathlib.Core.Path.{◌≡◌, sym, ap, ◌∙◌}
use Prim.Native.Nat.{ℕ}
use lib.Dec.{eqb}
use borrow.Author.Tests.{eqb-true, eqb-false, ne_eqb}
use Rattle.std.specs.Prelude.{Option, Some, None, is_some, unwrap_or}
use Rattle.rules.specs.Settings.{unset, stated_mask}
use Rattle.rules.proofs.Tests.{by_test, clash}

pub is_stated : (m : ℕ) → is_some (stated_mask m) ≡ true → m ≡ unset → ⊥
is_stated m e = by_test (eqb m unset) (λ q. clash e (rw q)) (λ q. eqb-false m unset q)

pub not_stated : (m : ℕ) → is_some (stated_mask m) ≡ false → m ≡ unset
not_stated m e = by_test (eqb m unset) (λ q. eqb-true m unset q) (λ q. clash (rw q) e)

pub none_stated : (m : ℕ) → None ≡ stated_mask m → m ≡ unset
none_stated m e = not_stated m (ap is_some (sym e))

pub one_stated : (m : ℕ) {k : ℕ} → Some k ≡ stated_mask m → (m ≡ unset → ⊥) × (k ≡ m)
one_stated m {k} e =
    let set = is_stated m (ap is_some (sym e)) in
    (set, ap (λ (o : Option ℕ). unwrap_or o k) e ∙ rw (ne_eqb m unset set))
