-- A PROPVALUE as the code reads it: without a zero byte at its end, it must be digits to the last one, of which the numeral reader then tells the value.
-- Assumes nothing.
use mathlib.Core.Bool.{Bool, true, false}
use mathlib.Core.List.{List, [], ◌∷◌}
use mathlib.Core.Path.{◌≡◌, refl, sym, ap, ◌∙◌}
use Prim.Native.Nat.{ℕ, zero, suc, ◌≤◌, ◌<◌, min}
use native.Mathlib.Omega.{arith}
use lib.Dec.{eqb}
use mathlib.Core.Option.{none, some}
use lib.ListN.{length, get_or, take, drop, length-drop, drop_of_length-le}
use lib.Seq.{take_all}
use borrow.Author.Tests.{eq-eqb, ne_eqb}
use Rattle.std.proofs.Common.{Option, Some, None, if◌then◌else◌, is_some}
use Rattle.std.specs.Bool.{then_some}
use Rattle.rules.specs.Lines.{is_digit, all_digits, is_numeral, value}
use Rattle.rules.specs.Questions.{NumberRead}
use Rattle.rules.specs.Stream.{unfilled}
use Rattle.rules.proofs.Tests.{by_test, both, clash}
use Rattle.numerals.specs.Numerals.{cap, digits_in, digits_of, numeral_of}
use Rattle.numerals.proofs.Digits.{numeral_digits}

-- ---- The zero byte at the end

pub none_filled : (bytes : List ℕ) → length bytes < 1 → bytes ≡ unfilled bytes
unfolding unfilled
none_filled [] h = refl
none_filled (b ∷ bytes) h = absurd (omega arith)

pub one_filled : (bytes : List ℕ) (n : ℕ) → length bytes ≡ suc n → get_or bytes n 0 ≡ 0 → take n bytes ≡ unfilled bytes
unfolding unfilled
one_filled [] n e z = absurd (omega arith)
one_filled (b ∷ []) zero e z = rw (eq-eqb b 0 z)
one_filled (b ∷ []) (suc n) e z = absurd (omega arith)
one_filled (b ∷ c ∷ bytes) zero e z = absurd (omega arith)
one_filled (b ∷ c ∷ bytes) (suc n) e z = ap (λ (l : List ℕ). b ∷ l) (one_filled (c ∷ bytes) n (omega arith) z)

pub not_filled : (bytes : List ℕ) (n : ℕ) → length bytes ≡ suc n → (get_or bytes n 0 ≡ 0 → ⊥) → bytes ≡ unfilled bytes
unfolding unfilled
not_filled [] n e z = absurd (omega arith)
not_filled (b ∷ []) zero e z = rw (ne_eqb b 0 z)
not_filled (b ∷ []) (suc n) e z = absurd (omega arith)
not_filled (b ∷ c ∷ bytes) zero e z = absurd (omega arith)
not_filled (b ∷ c ∷ bytes) (suc n) e z = ap (λ (l : List ℕ). b ∷ l) (not_filled (c ∷ bytes) n (omega arith) z)

-- ---- The digits

counted : (s : List ℕ) → all_digits s ≡ true → digits_in s ≡ length s
unfolding all_digits digits_in
counted [] e = refl
counted (b ∷ s) e = let h = both (is_digit b) (all_digits s) e in rw (h.0, digits_in) (ap suc (counted s h.1))

abbrev shape : List ℕ → Option ℕ
shape s = if is_numeral s then Some (min (value s) cap) else None

-- a numeral is read whole
numeral_whole : (s : List ℕ) → is_numeral s ≡ true → numeral_of s ≡ some (record { number = min (value s) cap; rest = [] })
unfolding numeral_of
numeral_whole s t =
    let all : length s ≤ digits_in s = omega (arith, counted s (numeral_digits s t)) in
    rw (take_all (digits_in s) s all, t, drop_of_length-le s all)

pub no_numeral : (s : List ℕ) → numeral_of s ≡ none → None ≡ shape s
no_numeral s e = by_test (is_numeral s) (λ t. cc (numeral_whole s t)) (λ f. rw f)

module _ (s : List ℕ) (r : NumberRead) (e : numeral_of s ≡ some r) where
  -- digits with nothing after them are a numeral
  read_whole : length r.rest ≡ 0 → is_numeral s ≡ true
  unfolding numeral_of
  read_whole none-left = by_test (is_numeral (digits_of s))
      (λ t. let e' = rw t at e in
      let after : r.rest ≡ drop (digits_in s) s = cc e' in
      rw (take_all (digits_in s) s (omega (arith, length-drop (digits_in s) s, ap length after))) at t)
      (λ f. let e' = rw f at e in cc e')

  told_whole : then_some (eqb (length r.rest) 0) r.number ≡ shape s
  told_whole = by_test (is_numeral s)
      (λ t. let told = sym e ∙ numeral_whole s t in
      let none-left : r.rest ≡ [] = cc told in
      let same : r.number ≡ min (value s) cap = cc told in
      rw (t, none-left, same))
      (λ f. rw (f, ne_eqb (length r.rest) 0 λ none-left. clash (read_whole none-left) f))

pub shape_told : (s rest : List ℕ) (number : ℕ) → numeral_of s ≡ some (record { number = number; rest = rest }) → then_some (eqb (length rest) 0) number ≡ shape s
shape_told s rest number = told_whole s (record { number = number; rest = rest })

-- ---- Whether there is a shape

pub told : (b : Bool) (n : ℕ) → is_some (if b then Some n else None) ≡ b
told true n = refl
told false n = refl
