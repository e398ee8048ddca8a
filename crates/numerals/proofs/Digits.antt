-- The digits that a text starts with, the value of the first digits, and which digits are a numeral. Assumes nothing.
use mathlib.Core.Bool.{Bool, true, false, not}
use mathlib.Core.List.{List, [], ◌∷◌}
use mathlib.Core.Path.{◌≡◌, refl, sym, ap, ◌∙◌}
use Prim.Native.Nat.{ℕ, zero, suc, ◌+◌, ◌-◌, ◌*◌, ◌≤◌, ◌<◌, min}
use native.Mathlib.Numerals.{add-one}
use native.Mathlib.Omega.{arith}
use lib.Dec.{eqb}
use lib.ListN.{length, get_or, take, drop}
use mathlib.Core.Option.{none, some}
use Rattle.std.proofs.Common.{◌⊎◌, inl, inr}
use Rattle.std.proofs.lemmas.Bool.{cases_lt}
use Rattle.std.specs.List.{prefix_len}
use lib.Seq.{take-suc}
use borrow.Author.Tests.{eq-eqb, ne_eqb}
use Rattle.rules.specs.Lines.{digit0, is_digit, all_digits, is_numeral, value}
use Rattle.numerals.specs.Numerals.{cap, digits_in, digits_of, numeral_of}
use Rattle.rules.proofs.Tests.{both}
use Rattle.numerals.proofs.Decimal.{value_snoc}

pub all_digits_lem : (s : List ℕ) → all_digits (digits_of s) ≡ true
unfolding digits_in all_digits
all_digits_lem [] = refl
all_digits_lem (b ∷ s) = go (is_digit b) refl (all_digits_lem s)
  where
    go : (t : Bool) → is_digit b ≡ t → all_digits (digits_of s) ≡ true → all_digits (digits_of (b ∷ s)) ≡ true
    go true e ih = rw (e, digits_in) (rw (e, ih))
    go false e ih = rw (e, digits_in)

pub digits_within : (s : List ℕ) → digits_in s ≤ length s
unfolding digits_in
digits_within [] = omega arith
digits_within (b ∷ s) = go (is_digit b) refl (digits_within s)
  where
    go : (t : Bool) → is_digit b ≡ t → digits_in s ≤ length s → digits_in (b ∷ s) ≤ suc (length s)
    go true e ih = rw (e, digits_in) (omega arith)
    go false e ih = rw (e, digits_in) (omega arith)

pub digit_at : (ds : List ℕ) (n : ℕ) → all_digits ds ≡ true → n < length ds → is_digit (get_or ds n 0) ≡ true
unfolding all_digits
digit_at [] n h p = absurd (omega arith)
digit_at (d ∷ ds) zero h p = (both (is_digit d) (all_digits ds) h).0
digit_at (d ∷ ds) (suc n) h p = digit_at ds n (both (is_digit d) (all_digits ds) h).1 (omega arith)

-- the value of one digit more
pub value_next : (ds : List ℕ) (n : ℕ) → n < length ds → value (take (n + 1) ds) ≡ 10 * value (take n ds) + (get_or ds n 0 - digit0)
value_next ds n h = rw (add-one, take-suc ds n 0 h) (value_snoc 0 (take n ds) (get_or ds n 0))

-- ---- Digits are a numeral unless there are none, or several of which the first is 0

none_bad : (ds : List ℕ) → length ds ≡ 0 → is_numeral ds ≡ false
unfolding is_numeral
none_bad [] h = refl
none_bad (d ∷ ds) h = absurd (omega arith)

zero_first_bad : (ds : List ℕ) → 1 < length ds → get_or ds 0 0 ≡ digit0 → is_numeral ds ≡ false
unfolding is_numeral
zero_first_bad [] h e = absurd (omega arith)
zero_first_bad (d ∷ []) h e = absurd (omega arith)
zero_first_bad (d ∷ b ∷ ds) h e = rw (eq-eqb d digit0 e)

one_good : (ds : List ℕ) → all_digits ds ≡ true → length ds ≡ 1 → is_numeral ds ≡ true
unfolding is_numeral
one_good [] a h = absurd (omega arith)
one_good (d ∷ []) a h = digit_at (d ∷ []) 0 a (omega arith)
one_good (d ∷ b ∷ ds) a h = absurd (omega arith)

more_good : (ds : List ℕ) → all_digits ds ≡ true → 1 < length ds → (get_or ds 0 0 ≡ digit0 → ⊥) → is_numeral ds ≡ true
unfolding is_numeral
more_good [] a h e = absurd (omega arith)
more_good (d ∷ []) a h e = absurd (omega arith)
more_good (d ∷ b ∷ ds) a h e = rw (ne_eqb d digit0 e, a)

-- and a numeral has digits only
pub numeral_digits : (ds : List ℕ) → is_numeral ds ≡ true → all_digits ds ≡ true
unfolding is_numeral all_digits
numeral_digits [] h = refl
numeral_digits (b ∷ []) h = rw h
numeral_digits (b ∷ c ∷ ds) h = (both (not (eqb b digit0)) (all_digits (b ∷ c ∷ ds)) h).1

-- the digits that a text starts with are those that pass the test
pub digits_in_prefix : (s : List ℕ) → digits_in s ≡ prefix_len is_digit s
unfolding digits_in
digits_in_prefix [] = refl
digits_in_prefix (b ∷ s) = go (is_digit b) refl (digits_in_prefix s)
  where
    go : (t : Bool) → is_digit b ≡ t → digits_in s ≡ prefix_len is_digit s → digits_in (b ∷ s) ≡ prefix_len is_digit (b ∷ s)
    go true e ih = rw (e, digits_in) (omega (arith, ih))
    go false e ih = rw (e, digits_in)

-- ---- What is read, by the tests of the reader

-- the digits that a text starts with, and the text after them
pub record DigitsFirst (s digits rest : List ℕ) : Type 0 where
  pub front : digits ≡ digits_of s
  pub back : rest ≡ drop (digits_in s) s

module _ {s digits rest : List ℕ} (split : DigitsFirst s digits rest) where
  pub read_digits : all_digits digits ≡ true
  read_digits = rw split.front (all_digits_lem s)

  pub read_none : length digits < 1 → none ≡ numeral_of s
  unfolding numeral_of
  read_none h = rw (none_bad (digits_of s) (omega (arith, ap length split.front)))

  pub read_zero_first : 2 ≤ length digits → get_or digits 0 0 ≡ digit0 → none ≡ numeral_of s
  unfolding numeral_of
  read_zero_first h e =
      rw (zero_first_bad (digits_of s) (omega (arith, ap length split.front)) (ap (λ (l : List ℕ). get_or l 0 0) (sym split.front) ∙ e))

  read_good : is_numeral digits ≡ true → some (record { number = min (value digits) cap; rest = rest }) ≡ numeral_of s
  unfolding numeral_of
  read_good good = rw (← split.front, good, split.back)

  pub read_one : 1 ≤ length digits → length digits < 2 → some (record { number = min (value digits) cap; rest = rest }) ≡ numeral_of s
  read_one low h = read_good (one_good digits read_digits (omega arith))

  pub read_more : 1 ≤ length digits → (get_or digits 0 0 ≡ digit0 → ⊥) → some (record { number = min (value digits) cap; rest = rest }) ≡ numeral_of s
  read_more low other = read_good (go (cases_lt (length digits) 2))
    where
      go : (length digits < 2) ⊎ (2 ≤ length digits) → is_numeral digits ≡ true
      go (inl h) = one_good digits read_digits (omega arith)
      go (inr h) = more_good digits read_digits (omega arith) other
