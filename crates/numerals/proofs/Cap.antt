-- A number read up to the cap is in a range below the cap exactly when the number itself is, and is then the number itself. Assumes nothing.
use mathlib.Core.Bool.{true, ◌&&◌, and-false}
use mathlib.Core.Path.{◌≡◌, sym, ◌∙◌}
use Prim.Native.Nat.{ℕ, ◌<◌, min}
use native.Mathlib.Omega.{arith}
use lib.Dec.{leb}
use borrow.Author.Tests.{leb-true, leb-false, lt-leb}
use Rattle.rules.proofs.Tests.{by_test, and_right}
use Rattle.numerals.specs.Numerals.{cap}

module _ (low high x : ℕ) (small : high < cap) where
  pub cap_range : (leb low (min x cap) && leb (min x cap) high) ≡ (leb low x && leb x high)
  cap_range =
      by_test (leb x cap)
      (λ e. let h = leb-true x cap e in let same : min x cap ≡ x = omega arith in rw same)
      (λ e. let h = leb-false x cap e in rw (lt-leb (min x cap) high (omega arith), lt-leb x high (omega arith)) (and-false (leb low (min x cap)) ∙ sym (and-false (leb low x))))

  pub cap_same : (leb low x && leb x high) ≡ true → min x cap ≡ x
  cap_same h = omega (arith, leb-true x high (and_right (leb low x) (leb x high) h))
