-- The unit over whole numbers. At exponent 57 the fractions that pass are a range, whose bounds are computed; each exponent more is a factor of 16, and below 57
-- the largest fraction is too small. Assumes nothing.
use mathlib.Core.Bool.{Bool, false}
use mathlib.Core.Path.{◌≡◌, sym, ap, ◌∙◌}
use Prim.Native.Nat.{ℕ, zero, suc, ◌+◌, ◌-◌, ◌*◌, ◌^◌, ◌%◌, ◌≤◌, ◌<◌}
use Rattle.std.proofs.Common.{Option, Some, None, MatchOption, subst}
use Rattle.std.specs.Option.{SomeIff}
use native.Mathlib.Nat.{zero-mul, suc-mul, mul_assoc, mul_left_comm, mul-one, pow-le-pow_right, le-mul_of_pos_right, mul-le-mul_left, mul-lt-mul_of_pos_left, mul-lt-mul_of_pos_right, mod-eq_of_lt, lt_of_le_of_lt, lt_of_lt_of_le}
use native.Mathlib.Omega.{arith}
use lib.Dec.{leb, lit<, lit≤}
use lib.Pow.{pow-add}
use borrow.Author.Tests.{leb-true, le-leb, lt-leb, leb-false}
use Rattle.rules.specs.Settings.{within}
use Rattle.rules.specs.Stream.{is_nanometre}
use Rattle.rules.proofs.Tests.{by_test, clash, same, and_right}

-- the range at exponent 57
abbrev pub passing : ℕ → Bool
passing = within 19_342_793_771_020_953 19_342_832_456_647_180

within_low : (least greatest x : ℕ) → x < least → within least greatest x ≡ false
within_low least greatest x h = rw (lt-leb least x h)

within_high : (least greatest x : ℕ) → greatest < x → within least greatest x ≡ false
within_high least greatest x h =
    by_test (within least greatest x) (λ t. clash (and_right (leb least x) (leb x greatest) t) (lt-leb x greatest h)) λ f. f

-- ---- A factor of 16

-- a fraction above the range stays above it
pub too_large : (f k : ℕ) → 19_342_832_456_647_180 < f → passing (f * 16 ^ k) ≡ false
too_large f k h = within_high _ _ (f * 16 ^ k) (omega (arith, le-mul_of_pos_right f (power_some k)))
  where
    power_some : (k : ℕ) → 0 < 16 ^ k
    power_some k =
        let none : 0 ≤ k = omega arith in
        let up : 16 ^ 0 ≤ 16 ^ k = pow-le-pow_right {n = 16} (lit< tt) none in omega arith

-- and so does a number, with no factor left
above : (x : ℕ) → 19_342_832_456_647_180 < x → false ≡ passing x
above x h = sym (too_large x 0 h) ∙ ap passing (mul-one x)

-- the factor leaves 64 bits: what it is applied to does too, or is 0
pub wide_factor : (f k : ℕ) → (16 ^ k < 18_446_744_073_709_551_616 → ⊥) → false ≡ passing (f * 16 ^ k)
wide_factor zero k h = sym (rw (zero-mul (16 ^ k)))
wide_factor (suc f) k h = above (suc f * 16 ^ k) (omega (arith, suc-mul f (16 ^ k)))

pub wide_product : (f k : ℕ) → (f * 16 ^ k < 18_446_744_073_709_551_616 → ⊥) → false ≡ passing (f * 16 ^ k)
wide_product f k h = above (f * 16 ^ k) (omega arith)

-- a factor and a product, each none where it leaves 64 bits
pub scaled_in_range : (f k : ℕ) (factor product : Option ℕ) (r : Bool)
    → SomeIff factor (16 ^ k < 18_446_744_073_709_551_616) (16 ^ k)
    → MatchOption factor (product ≡ None) (λ g. SomeIff product (f * g < 18_446_744_073_709_551_616) (f * g))
    → MatchOption product (r ≡ false) (λ x. r ≡ passing x)
    → r ≡ passing (f * 16 ^ k)
scaled_in_range f k None None r over p q = q ∙ wide_factor f k over
scaled_in_range f k None (Some x) r over p q = cc
scaled_in_range f k (Some g) None r fit p q = q ∙ wide_product f k (subst (λ n. f * n < 18_446_744_073_709_551_616 → ⊥) fit.1 p)
scaled_in_range f k (Some g) (Some x) r fit p q = q ∙ ap passing (p.1 ∙ ap (λ n. f * n) fit.1)

-- ---- The range scaled by u

module _ (u x : ℕ) where
  low_scaled : (bound least : ℕ) → bound ≤ u * suc least → u * least < bound → leb bound (u * x) ≡ leb (suc least) x
  low_scaled bound least reaches misses = same (leb bound (u * x)) (leb (suc least) x)
      (λ t. by_test (leb (suc least) x) (λ y. y) λ n.
      let less : x ≤ least = omega (arith, leb-false (suc least) x n) in
      let below = mul-le-mul_left u less in
      absurd (omega (arith, leb-true bound (u * x) t, below)))
      (λ t. le-leb bound (u * x) (omega (arith, mul-le-mul_left u (leb-true (suc least) x t))))

  high_scaled : (bound greatest : ℕ) → u * greatest ≤ bound → bound < u * suc greatest → leb (u * x) bound ≡ leb x greatest
  high_scaled bound greatest reaches misses = same (leb (u * x) bound) (leb x greatest)
      (λ t. by_test (leb x greatest) (λ y. y) λ n.
      let above = mul-le-mul_left u (leb-false x greatest n) in
      absurd (omega (arith, leb-true (u * x) bound t, above)))
      (λ t. le-leb (u * x) bound (omega (arith, mul-le-mul_left u (leb-true x greatest t))))

-- ---- The rule

-- at exponent 57 + k
pub scaled : (f k : ℕ) → within (999_999 * (2 ^ 56 * 16 ^ 64)) (1_000_001 * (2 ^ 56 * 16 ^ 64)) (10 ^ 15 * (f * 16 ^ (57 + k))) ≡ passing (f * 16 ^ k)
scaled f k =
    let x = f * 16 ^ k in
    let u = 10 ^ 15 * 16 ^ 57 in
    let regroup : 10 ^ 15 * (f * 16 ^ (57 + k)) ≡ u * x
    = ap (λ (n : ℕ). 10 ^ 15 * (f * n)) (pow-add 16 57 k) ∙ ap (λ (n : ℕ). 10 ^ 15 * n) (mul_left_comm f (16 ^ 57) (16 ^ k)) ∙ sym (mul_assoc (10 ^ 15) (16 ^ 57) x) in
    rw (
      regroup,
      low_scaled u x (999_999 * (2 ^ 56 * 16 ^ 64)) 19_342_793_771_020_952 (lit≤ tt) (lit< tt),
      high_scaled u x (1_000_001 * (2 ^ 56 * 16 ^ 64)) 19_342_832_456_647_180 (lit≤ tt) (lit< tt),
    )

pub nanometre : (e f : ℕ) → 57 ≤ e → e < 128 → is_nanometre (record { negative = leb 128 e; exponent = e % 128; fraction = f }) ≡ passing (f * 16 ^ (e - 57))
unfolding is_nanometre
nanometre e f low high =
    let all : 57 + (e - 57) ≡ e = omega arith in
    rw (lt-leb 128 e high, mod-eq_of_lt high) (ap (λ (n : ℕ). within (999_999 * (2 ^ 56 * 16 ^ 64)) (1_000_001 * (2 ^ 56 * 16 ^ 64)) (10 ^ 15 * (f * 16 ^ n))) (sym all) ∙ scaled f (e - 57))

pub signed : (e f : ℕ) → 128 ≤ e → is_nanometre (record { negative = leb 128 e; exponent = e % 128; fraction = f }) ≡ false
unfolding is_nanometre
signed e f h = rw (le-leb 128 e h)

pub too_small : (e f : ℕ) → e < 57 → f < 2 ^ 56 → is_nanometre (record { negative = leb 128 e; exponent = e % 128; fraction = f }) ≡ false
unfolding is_nanometre
too_small e f low small =
    let less : e < 128 = omega arith in
    let few : e ≤ 56 = omega arith in
    let up : f * 16 ^ e ≤ f * 16 ^ 56 = mul-le-mul_left f (pow-le-pow_right {n = 16} (lit< tt) few) in
    let below : f * 16 ^ 56 < 2 ^ 56 * 16 ^ 56 = mul-lt-mul_of_pos_right small (lit< tt) in
    let all : 10 ^ 15 * (f * 16 ^ e) < 10 ^ 15 * (2 ^ 56 * 16 ^ 56) = mul-lt-mul_of_pos_left (lt_of_le_of_lt up below) (lit< tt) in
    let least : 10 ^ 15 * (2 ^ 56 * 16 ^ 56) ≤ 999_999 * (2 ^ 56 * 16 ^ 64) = lit≤ tt in
    rw (lt-leb 128 e less, mod-eq_of_lt less) (within_low _ _ _ (lt_of_lt_of_le all least))
