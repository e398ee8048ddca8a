-- Tests: each comes out one way or the other; the order of two numbers; tests put together. Assumes nothing.
use mathlib.Core.Bool.{Bool, true, false, not, ◌&&◌, ◌||◌, and-true, and-false, and-eq-true_iff, true≢false}
use mathlib.Core.Logic.{◌⊎◌, inl, inr}
use mathlib.Core.Path.{◌≡◌, refl, sym, ◌∙◌}
use Prim.Native.Nat.{ℕ, ◌+◌, ◌≤◌, ◌<◌}
use native.Mathlib.Decide.{dec_lt, ℕ_discrete}
use native.Mathlib.Omega.{arith}
use lib.Dec.{eqb, ltb}
use borrow.Author.Tests.{eqb-true, eqb-false, eq-eqb, ne_eqb, ltb-true, ltb-false, lt-ltb, le-ltb, not-true, not-false}

-- a test passes or fails
pub by_test : {A : Type 0} (b : Bool) → (b ≡ true → A) → (b ≡ false → A) → A
by_test true pass fail = pass refl
by_test false pass fail = fail refl

-- and not both
pub clash : {A : Type 0} {b : Bool} → b ≡ true → b ≡ false → A
clash p q = absurd (true≢false (sym p ∙ q))

pub or_false : (b c : Bool) → b || c ≡ false → (b ≡ false) × (c ≡ false)
or_false true c e = clash refl e
or_false false c e = (refl, e)

pub eqb_sym : (x y : ℕ) → eqb x y ≡ eqb y x
eqb_sym x y =
    by_test (eqb x y)
    (λ e. e ∙ sym (eq-eqb y x (sym (eqb-true x y e))))
    (λ e. e ∙ sym (ne_eqb y x (λ q. eqb-false x y e (sym q))))

-- what stays true and is false afterwards was false before
pub not_before : {a b : Bool} → (a ≡ true → b ≡ true) → b ≡ false → a ≡ false
not_before {a = true} stays e = clash (stays refl) e
not_before {a = false} stays e = refl

-- two numbers, in order or not
pub lt_or_ge : (a b : ℕ) → (a < b) ⊎ (b ≤ a)
lt_or_ge a b = by_test (ltb a b) (λ e. inl (ltb-true a b e)) (λ e. inr (ltb-false a b e))

-- ---- Tests put together by && and ||

pub both : (a b : Bool) → (a && b) ≡ true → (a ≡ true) × (b ≡ true)
both a b e = (and-eq-true_iff a b).0 e

pub and_left : (a b : Bool) → (a && b) ≡ true → a ≡ true
and_left a b e = (both a b e).0

pub and_right : (a b : Bool) → (a && b) ≡ true → b ≡ true
and_right a b e = (both a b e).1

pub or_either : (a b : Bool) → (a || b) ≡ true → (a ≡ true) ⊎ (b ≡ true)
or_either true b e = inl refl
or_either false b e = inr e

-- each holds where the other does
pub same : (a b : Bool) → (a ≡ true → b ≡ true) → (b ≡ true → a ≡ true) → a ≡ b
same true b f g = sym (f refl)
same false true f g = g refl
same false false f g = refl

-- the same where a third test holds
pub same_where : (a b c : Bool) → (c ≡ true → a ≡ b) → (a && c) ≡ (b && c)
same_where a b true h = and-true a ∙ h refl ∙ sym (and-true b)
same_where a b false h = and-false a ∙ sym (and-false b)

-- below the next number
pub ltb_next : (m n : ℕ) → ltb m (n + 1) ≡ (ltb m n || eqb m n)
ltb_next m n = go (dec_lt m n) (ℕ_discrete m n)
  where
    go : Dec (m < n) → Dec (m ≡ n) → ltb m (n + 1) ≡ (ltb m n || eqb m n)
    go (yes l) d = rw (lt-ltb m n l, lt-ltb m (n + 1) (omega arith))
    go (no l) (yes e) = rw (le-ltb m n (omega arith), eq-eqb m n e, lt-ltb m (n + 1) (omega arith))
    go (no l) (no e) = rw (le-ltb m n (omega arith), ne_eqb m n e, le-ltb m (n + 1) (omega arith))

-- ---- What a test of r, that was passed or failed, says of what r stands for

pub passed : (r b : Bool) → r ≡ b → not r ≡ false → b ≡ true
passed r b e h = sym e ∙ not-false r h

pub failed : (r b : Bool) → r ≡ b → not r ≡ true → b ≡ false
failed r b e h = sym e ∙ not-true r h
