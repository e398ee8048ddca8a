-- Laws of `count_below`: how many numbers below n pass a test, and that `count_ones` of a word counts its bits. Each goes by
-- the bound, one number more at a time, or follows from those that do.
-- Assumes nothing.
use mathlib.Core.Path.{◌≡◌, refl, ap, ap₂, ◌∙◌}
use mathlib.Core.Bool.{Bool, true, false, not, ◌&&◌, ◌||◌, and-true, or-true, or-false}
use Prim.Native.Nat.{ℕ, zero, suc, ◌+◌, ◌-◌, ◌/◌, ◌%◌, ◌^◌, ◌≤◌, ◌<◌}
use native.Mathlib.Nat.{add-zero, add-suc, add_assoc}
use native.Mathlib.Numerals.{add-one}
use native.Mathlib.Decide.{ℕ_discrete}
use native.Mathlib.Omega.{arith}
use lib.Dec.{eqb, ltb}
use lib.Count.{ones, ones_step, ones-le}
use mir.Val.{bool_byte}
use borrow.Author.Tests.{eq-eqb, ne_eqb, lt-ltb, le-ltb}
use Rattle.bitset.specs.Bits.{bit, count_below, Size}
use Rattle.bitset.proofs.Words.{bit_zero, bit_suc, by_digit}

-- ---- one number more; tests that agree below the bound; the bound

pub count_next : (n : ℕ) (f : ℕ → Bool) → count_below (n + 1) f ≡ count_below n f + bool_byte (f n)
unfolding count_below
count_next n f = rw (add-one n)

pub count_ext : (n : ℕ) {f g : ℕ → Bool} → ((k : ℕ) → k < n → f k ≡ g k) → count_below n f ≡ count_below n g
unfolding count_below
count_ext zero h = refl
count_ext (suc n) h = ap₂ (λ (x : ℕ) (b : Bool). x + bool_byte b) (count_ext n (λ k l. h k (omega arith))) (h n (omega arith))

pub size_same : {f g : ℕ → Bool} {r : ℕ} → ((k : ℕ) → k < 512 → f k ≡ g k) → Size f r → Size g r
size_same same size = record { count = size.count ∙ count_ext 512 same; within = size.within }

byte_le : (b : Bool) → bool_byte b ≤ 1
byte_le true = omega arith
byte_le false = omega arith

pub count_le : (n : ℕ) (f : ℕ → Bool) → count_below n f ≤ n
unfolding count_below
count_le zero f = omega arith
count_le (suc n) f = omega (arith, count_le n f, byte_le (f n))

-- ---- the first m numbers, and the n after them

pub count_add : (m n : ℕ) (f : ℕ → Bool) → count_below (m + n) f ≡ count_below m f + count_below n (λ k. f (m + k))
unfolding count_below
count_add m zero f = rw (add-zero m, add-zero)
count_add m (suc n) f = rw (add-suc m n, count_add m n f) (add_assoc _ _ _)

pub count_first : (n : ℕ) (f : ℕ → Bool) → count_below (suc n) f ≡ bool_byte (f 0) + count_below n (λ k. f (suc k))
unfolding count_below
count_first zero f = omega arith
count_first (suc n) f = omega (arith, count_first n f)

pub count_wider : {m n : ℕ} (f : ℕ → Bool) → m ≤ n → count_below m f ≤ count_below n f
count_wider {m} {n} f h =
    let e : n ≡ m + (n - m) = omega arith in
    rw e (omega (arith, count_add m (n - m) f))

-- ---- a test that passes nowhere; where another does; where another does not; everywhere

pub count_none : (n : ℕ) (f : ℕ → Bool) → ((k : ℕ) → k < n → f k ≡ false) → count_below n f ≡ 0
unfolding count_below
count_none zero f h = refl
count_none (suc n) f h = rw (count_none n f (λ k l. h k (omega arith)), h n (omega arith))

-- nothing from p up to r, so no more below r than below p
pub count_gap : (p r : ℕ) (f : ℕ → Bool) → p ≤ r → ((k : ℕ) → p ≤ k → k < r → f k ≡ false) → count_below r f ≡ count_below p f
count_gap p r f h n =
    let e : r ≡ p + (r - p) = omega arith in
    rw e (omega (arith, count_add p (r - p) f, count_none (r - p) (λ k. f (p + k)) (λ k l. n (p + k) (omega arith) (omega arith))))

byte_mono : (a b : Bool) → (a ≡ true → b ≡ true) → bool_byte a ≤ bool_byte b
byte_mono true b h = rw (h refl) (omega arith)
byte_mono false b h = omega arith

pub count_mono : (n : ℕ) (f g : ℕ → Bool) → ((k : ℕ) → k < n → f k ≡ true → g k ≡ true) → count_below n f ≤ count_below n g
unfolding count_below
count_mono zero f g h = omega arith
count_mono (suc n) f g h = omega (arith, count_mono n f g (λ k l. h k (omega arith)), byte_mono (f n) (g n) (h n (omega arith)))

byte_not : (b : Bool) → bool_byte b + bool_byte (not b) ≡ 1
byte_not true = refl
byte_not false = refl

pub count_not : (n : ℕ) (f : ℕ → Bool) → count_below n f + count_below n (λ k. not (f k)) ≡ n
unfolding count_below
count_not zero f = refl
count_not (suc n) f = omega (arith, count_not n f, byte_not (f n))

pub count_all : (n : ℕ) (f : ℕ → Bool) → ((k : ℕ) → k < n → f k ≡ true) → count_below n f ≡ n
count_all n f h = omega (arith, count_not n f, count_none n (λ k. not (f k)) (λ k l. rw (h k l)))

-- those below m, of those below n
pub count_below_lem : (m n : ℕ) → m ≤ n → count_below n (λ k. ltb k m) ≡ m
count_below_lem m n h = count_gap m n (λ k. ltb k m) h (λ k l _. le-ltb k m l) ∙ count_all m (λ k. ltb k m) (λ k l. lt-ltb k m l)

-- ---- one element more or less

not_self : (n : ℕ) (f : ℕ → Bool) → count_below n (λ k. f k && not (eqb k n)) ≡ count_below n f
not_self n f = count_ext n (λ k l. rw (ne_eqb k n (omega arith)) (and-true (f k)))

-- without j, one less
pub count_out : (n : ℕ) (f : ℕ → Bool) (j : ℕ) → j < n → f j ≡ true → count_below n f ≡ suc (count_below n (λ k. f k && not (eqb k j)))
unfolding count_below
count_out zero f j l e = absurd (omega arith)
count_out (suc n) f j l e = go (ℕ_discrete n j) (λ m. count_out n f j m e)
  where
    go : Dec (n ≡ j) → (j < n → count_below n f ≡ suc (count_below n (λ k. f k && not (eqb k j))))
        → count_below n f + bool_byte (f n) ≡ suc (count_below n (λ k. f k && not (eqb k j)) + bool_byte (f n && not (eqb n j)))
    go (yes p) ih = rw (p, not_self j f, e, eq-eqb j j refl) (omega arith)
    go (no q) ih = rw (ne_eqb n j q, and-true (f n)) (omega (arith, ih (omega arith)))

-- with j, which was not there, one more
pub count_in : (n : ℕ) (f : ℕ → Bool) (j : ℕ) → j < n → f j ≡ false → count_below n (λ k. f k || eqb k j) ≡ suc (count_below n f)
count_in n f j l e = count_out n (λ k. f k || eqb k j) j l (rw (eq-eqb j j refl) (or-true (f j))) ∙ ap suc (count_ext n (λ k m. go k (ℕ_discrete k j)))
  where
    go : (k : ℕ) → Dec (k ≡ j) → ((f k || eqb k j) && not (eqb k j)) ≡ f k
    go k (yes p) = rw (p, e, eq-eqb j j refl)
    go k (no q) = rw (ne_eqb k j q) (and-true _ ∙ or-false _)

-- with j, at most one more, whether or not j was there
pub count_in_le : (n : ℕ) (f : ℕ → Bool) (j : ℕ) → count_below n (λ k. f k || eqb k j) ≤ suc (count_below n f)
unfolding count_below
count_in_le zero f j = omega arith
count_in_le (suc n) f j = go (ℕ_discrete n j) (count_in_le n f j)
  where
    go : Dec (n ≡ j) → count_below n (λ k. f k || eqb k j) ≤ suc (count_below n f)
        → count_below n (λ k. f k || eqb k j) + bool_byte (f n || eqb n j) ≤ suc (count_below n f + bool_byte (f n))
    go (yes p) ih =
        let same : count_below n (λ k. f k || eqb k j) ≡ count_below n f = count_ext n (λ k l. rw (ne_eqb k j (omega arith)) (or-false (f k))) in
        omega (arith, same, byte_le (f n || eqb n j))
    go (no q) ih = rw (ne_eqb n j q, or-false (f n)) (omega arith)

-- ---- `count_ones` of a word of w bits

pub count_bits : (w x : ℕ) → x < 2 ^ w → ones x ≡ count_below w (bit x)
unfolding count_below
count_bits zero x h = omega (arith, ones-le 0 x h)
count_bits (suc w) x h =
    let low : bool_byte (bit x 0) ≡ x % 2 = rw bit_zero (by_digit (λ d. bool_byte (eqb d 1) ≡ d) refl refl x) in
    rw (ones_step x, count_first w (bit x), low) (simp bit_suc (ap (λ (n : ℕ). x % 2 + n) (count_bits w (x / 2) (omega arith))))
