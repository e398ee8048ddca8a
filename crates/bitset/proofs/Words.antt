-- The bits of a word: of 0, after `&`, `|`, `!` and a shift, of a run of ones, without the lowest set bit, and by
-- `trailing_zeros`. Each law goes by the lowest digit, `% 2`, and the rest, `/ 2`, as the operations do, so that each step is
-- arithmetic.
-- Assumes nothing.
use mathlib.Core.Path.{◌≡◌, refl, sym, ◌∙◌}
use mathlib.Core.Bool.{true, false, not, ◌&&◌, ◌||◌, and-true, and-false}
use Prim.Native.Nat.{ℕ, zero, suc, ◌-◌, ◌*◌, ◌/◌, ◌%◌, ◌^◌, ◌<◌, min, max}
use native.Mathlib.Nat.{div-one, zero-div}
use native.Mathlib.Numerals.{one-add}
use native.Mathlib.Omega.{arith}
use lib.Dec.{eqb, ltb, leb-suc-suc, eqb-zero-suc, eqb-suc-zero, eqb-suc-suc}
use lib.Pow.{pow_pos, shr-shr, shl_exact}
use lib.Bits.{bit_and, bit_or, and_step, or_step, and_shr, or_shr, and_self, and_mask}
use lib.Count.{count_trailing_zeros, under, trailing_le}
use borrow.Author.Tests.{eqb-true, eqb-false, not-true, not-false, lt-ltb, le-ltb}
use Rattle.bitset.specs.Bits.{bit}

-- ---- a digit is 0 or 1: what holds at those holds of each digit

pub by_digit : (P : ℕ → Type 0) → P 0 → P 1 → (a : ℕ) → P (a % 2)
by_digit P p0 p1 a = go (a % 2) (omega arith)
  where
    go : (d : ℕ) → d < 2 → P d
    go zero h = p0
    go (suc zero) h = p1
    go (suc (suc d)) h = absurd (omega arith)

by_digits : (P : ℕ → ℕ → Type 0) → P 0 0 → P 0 1 → P 1 0 → P 1 1 → (a b : ℕ) → P (a % 2) (b % 2)
by_digits P p q r s a b = by_digit (λ d. P d (b % 2)) (by_digit (P 0) p q b) (by_digit (P 1) r s b) a

-- ---- the lowest bit, and the rest

pub bit_zero : (x : ℕ) → bit x 0 ≡ eqb (x % 2) 1
unfolding bit
bit_zero x = rw div-one

pub bit_suc : (x j : ℕ) → bit x (suc j) ≡ bit (x / 2) j
unfolding bit
bit_suc x j = sym (rw (shr-shr x 1 j, one-add j))

pub bit_of_zero : (j : ℕ) → bit 0 j ≡ false
unfolding bit
bit_of_zero j = rw zero-div

odd : (x : ℕ) → bit x 0 ≡ true → x % 2 ≡ 1
odd x e = eqb-true (x % 2) 1 (sym (bit_zero x) ∙ e)

even : (x : ℕ) → bit x 0 ≡ false → x % 2 ≡ 0
even x e =
    let n = eqb-false (x % 2) 1 (sym (bit_zero x) ∙ e) in
    omega arith

-- ---- the operations

-- `x >> k & 1 == 1`
pub bit_test : (x k : ℕ) → eqb (bit_and (x / 2 ^ k) 1) 1 ≡ bit x k
unfolding bit
bit_test x k = rw (and_mask _ 1)

pub bit-and : (a b j : ℕ) → bit (bit_and a b) j ≡ (bit a j && bit b j)
unfolding bit
bit-and a b j =
    let e : bit_and a b / 2 ^ j % 2 ≡ min (a / 2 ^ j % 2) (b / 2 ^ j % 2) = omega (arith, and_shr a b j, and_step (a / 2 ^ j) (b / 2 ^ j)) in
    rw e (by_digits (λ p q. eqb (min p q) 1 ≡ (eqb p 1 && eqb q 1)) refl refl refl refl (a / 2 ^ j) (b / 2 ^ j))

pub bit-or : (a b j : ℕ) → bit (bit_or a b) j ≡ (bit a j || bit b j)
unfolding bit
bit-or a b j =
    let e : bit_or a b / 2 ^ j % 2 ≡ max (a / 2 ^ j % 2) (b / 2 ^ j % 2) = omega (arith, or_shr a b j, or_step (a / 2 ^ j) (b / 2 ^ j)) in
    rw e (by_digits (λ p q. eqb (max p q) 1 ≡ (eqb p 1 || eqb q 1)) refl refl refl refl (a / 2 ^ j) (b / 2 ^ j))

-- `!a`, at w bits
pub bit_not : (w a j : ℕ) → a < 2 ^ w → j < w → bit ((2 ^ w - 1) - a) j ≡ not (bit a j)
bit_not zero a j h l = absurd (omega arith)
bit_not (suc w) a zero h l =
    let e : ((2 ^ suc w - 1) - a) % 2 ≡ 1 - a % 2 = omega arith in
    rw (bit_zero ((2 ^ suc w - 1) - a), bit_zero a, e) (by_digit (λ d. eqb (1 - d) 1 ≡ not (eqb d 1)) refl refl a)
bit_not (suc w) a (suc j) h l =
    let e : ((2 ^ suc w - 1) - a) / 2 ≡ (2 ^ w - 1) - a / 2 = omega arith in
    rw (bit_suc ((2 ^ suc w - 1) - a) j, bit_suc a j, e) (bit_not w (a / 2) j (omega arith) (omega arith))

pub bit_pow : (k j : ℕ) → bit (2 ^ k) j ≡ eqb j k
bit_pow zero zero = bit_zero 1
bit_pow zero (suc j) = bit_suc 1 j ∙ bit_of_zero j ∙ sym (eqb-suc-zero j)
bit_pow (suc k) zero =
    let e : 2 ^ suc k % 2 ≡ 0 = omega arith in
    rw (bit_zero (2 ^ suc k), e) (sym (eqb-zero-suc k))
bit_pow (suc k) (suc j) =
    let e : 2 ^ suc k / 2 ≡ 2 ^ k = omega arith in
    rw (bit_suc (2 ^ suc k) j, e) (bit_pow k j ∙ sym (eqb-suc-suc j k))

-- `1 << k`, at w bits
pub shl_one : (w k : ℕ) → k < w → (1 * 2 ^ k) % 2 ^ w ≡ 2 ^ k
shl_one w k h = shl_exact {a = 1} 1 k w (omega arith) (omega arith) ∙ omega arith

pub bit_shl : (w k j : ℕ) → k < w → bit ((1 * 2 ^ k) % 2 ^ w) j ≡ eqb j k
bit_shl w k j h = rw (shl_one w k h) (bit_pow k j)

-- m ones, from bit 0 up
pub bit_ones : (m j : ℕ) → bit (2 ^ m - 1) j ≡ ltb j m
bit_ones zero j = bit_of_zero j ∙ sym (le-ltb j 0 (omega arith))
bit_ones (suc m) zero =
    let e : (2 ^ suc m - 1) % 2 ≡ 1 = omega (arith, pow_pos m) in
    rw (bit_zero (2 ^ suc m - 1), e) (sym (lt-ltb 0 (suc m) (omega arith)))
bit_ones (suc m) (suc j) =
    let e : (2 ^ suc m - 1) / 2 ≡ 2 ^ m - 1 = omega arith in
    rw (bit_suc (2 ^ suc m - 1) j, e) (bit_ones m j ∙ sym (leb-suc-suc (suc j) m))

-- `x & (x - 1)`: the lowest bit and the rest; where r is the lowest set bit, that bit is cleared and the others stay
drop_low : (x : ℕ) → bit_and x (x - 1) % 2 ≡ 0
drop_low x = omega (arith, and_step x (x - 1))

drop_rest : (x : ℕ) → bit_and x (x - 1) / 2 ≡ bit_and (x / 2) ((x - 1) / 2)
drop_rest x = omega (arith, and_step x (x - 1))

pub bit_drop : (x r j : ℕ) → bit x r ≡ true → ((k : ℕ) → k < r → bit x k ≡ false) → bit (bit_and x (x - 1)) j ≡ (bit x j && not (eqb j r))
bit_drop x zero zero e h = rw (bit_zero (bit_and x (x - 1)), drop_low x) (sym (and-false (bit x 0)))
bit_drop x zero (suc j) e h =
    let m : (x - 1) / 2 ≡ x / 2 = omega (arith, odd x e) in
    rw (bit_suc (bit_and x (x - 1)) j, drop_rest x, m, and_self (x / 2), bit_suc x j, eqb-suc-zero j) (sym (and-true _))
bit_drop x (suc r) zero e h = rw (bit_zero (bit_and x (x - 1)), drop_low x, h 0 (omega arith))
bit_drop x (suc r) (suc j) e h =
    let m : (x - 1) / 2 ≡ x / 2 - 1 = omega (arith, even x (h 0 (omega arith))) in
    rw (bit_suc (bit_and x (x - 1)) j, drop_rest x, m, bit_suc x j, eqb-suc-suc j r)
    (bit_drop (x / 2) r j (sym (bit_suc x r) ∙ e) (λ k l. sym (bit_suc x k) ∙ h (suc k) (omega arith)))

-- ---- `trailing_zeros` of x, at w bits: the bits below it are clear, and the bit there is set, if there is one

pub trailing_clear : (w x j : ℕ) → j < count_trailing_zeros w x → bit x j ≡ false
unfolding count_trailing_zeros
trailing_clear zero x j h = absurd (omega arith)
trailing_clear (suc w) x j h = go (x % 2) refl (trailing_clear w (x / 2)) j h
  where
    go : (d : ℕ) → x % 2 ≡ d → ((i : ℕ) → i < count_trailing_zeros w (x / 2) → bit (x / 2) i ≡ false)
        → (i : ℕ) → i < under d (count_trailing_zeros w (x / 2)) → bit x i ≡ false
    go zero e ih zero l = rw (bit_zero x, e)
    go zero e ih (suc i) l = bit_suc x i ∙ ih i (omega arith)
    go (suc d) e ih i l = absurd (omega arith)

pub trailing_set : (w x : ℕ) → count_trailing_zeros w x < w → bit x (count_trailing_zeros w x) ≡ true
unfolding count_trailing_zeros
trailing_set zero x h = absurd (omega arith)
trailing_set (suc w) x h = go (x % 2) refl (trailing_set w (x / 2)) h
  where
    go : (d : ℕ) → x % 2 ≡ d → (count_trailing_zeros w (x / 2) < w → bit (x / 2) (count_trailing_zeros w (x / 2)) ≡ true)
        → under d (count_trailing_zeros w (x / 2)) < suc w → bit x (under d (count_trailing_zeros w (x / 2))) ≡ true
    go zero e ih l = bit_suc x (count_trailing_zeros w (x / 2)) ∙ ih (omega arith)
    go (suc d) e ih l =
        let o : x % 2 ≡ 1 = omega arith in
        rw (bit_zero x, o)

-- a word that is not 0 has such a bit
pub trailing_lt : (w x : ℕ) → 0 < x → x < 2 ^ w → count_trailing_zeros w x < w
unfolding count_trailing_zeros
trailing_lt zero x p h = absurd (omega arith)
trailing_lt (suc w) x p h = go (x % 2) refl (trailing_lt w (x / 2))
  where
    go : (d : ℕ) → x % 2 ≡ d → (0 < x / 2 → x / 2 < 2 ^ w → count_trailing_zeros w (x / 2) < w) → under d (count_trailing_zeros w (x / 2)) < suc w
    go zero e ih = omega (arith, ih (omega arith) (omega arith))
    go (suc d) e ih = omega arith

-- ---- `trailing_zeros` of `!x`, at w bits: the bits of x below it are set, and the bit there is clear, if there is one

abbrev pub free : ℕ → ℕ → ℕ
free w x = count_trailing_zeros w ((2 ^ w - 1) - x)

module _ (w x : ℕ) (h : x < 2 ^ w) where
  pub free_below : (k : ℕ) → k < free w x → bit x k ≡ true
  free_below k l =
      not-false (bit x k)
      (sym (bit_not w x k h (omega (arith, trailing_le w ((2 ^ w - 1) - x)))) ∙ trailing_clear w ((2 ^ w - 1) - x) k l)

  pub free_clear : free w x < w → bit x (free w x) ≡ false
  free_clear l = not-true (bit x (free w x)) (sym (bit_not w x (free w x) h l) ∙ trailing_set w ((2 ^ w - 1) - x) l)
