-- Sums over the numbers below a bound, and over unordered pairs of them: one number more or less, terms that agree or grow, and how large they get where
-- each term is at most 1. Assumes nothing.
use mathlib.Core.Path.{◌≡◌, refl, sym, ap, ap₂}
use Prim.Native.Nat.{ℕ, zero, suc, ◌+◌, ◌-◌, ◌*◌, ◌≤◌, ◌<◌}
use native.Mathlib.Nat.{mul-suc, suc-mul, mul-le-mul}
use native.Mathlib.Numerals.{add-one}
use native.Mathlib.Omega.{arith}
use lib.Dec.{eqb}
use borrow.Author.Tests.{eqb-true, eqb-false}
use Rattle.rules.specs.Basics.{sum_to, sum_pairs}
use Rattle.rules.specs.Score.{pairs_of}
use Rattle.rules.proofs.Tests.{by_test}

pub sum_next : (f : ℕ → ℕ) (n : ℕ) → sum_to f (n + 1) ≡ sum_to f n + f n
unfolding sum_to
sum_next f n = rw (add-one n)

pub sum_ext : {f g : ℕ → ℕ} (n : ℕ) → ((k : ℕ) → k < n → f k ≡ g k) → sum_to f n ≡ sum_to g n
unfolding sum_to
sum_ext zero h = refl
sum_ext (suc n) h = ap₂ (λ (x y : ℕ). x + y) (sum_ext n (λ k l. h k (omega arith))) (h n (omega arith))

pub sum_mono : {f g : ℕ → ℕ} (n : ℕ) → ((k : ℕ) → k < n → f k ≤ g k) → sum_to f n ≤ sum_to g n
unfolding sum_to
sum_mono zero h = omega arith
sum_mono (suc n) h = omega (arith, sum_mono n (λ k l. h k (omega arith)), h n (omega arith))

-- g is f but for one number, where it is 0
pub sum_less : {f g : ℕ → ℕ} (n i : ℕ) → i < n → g i ≡ 0 → ((k : ℕ) → (k ≡ i → ⊥) → g k ≡ f k) → sum_to f n ≡ sum_to g n + f i
unfolding sum_to
sum_less zero i l z h = absurd (omega arith)
sum_less {f} {g} (suc n) i l z h =
    by_test (eqb i n)
    (λ e.
    let q : i ≡ n = eqb-true i n e in
    let rest : sum_to g n ≡ sum_to f n = sum_ext n (λ k b. h k (λ r. omega arith)) in
    omega (arith, rest, z, ap g q, ap f q))
    (λ e.
    let ne = eqb-false i n e in
    omega (arith, sum_less {f = f} {g = g} n i (omega arith) z h, h n (λ r. ne (sym r))))

pub sum_none : {f : ℕ → ℕ} (n : ℕ) → ((k : ℕ) → k < n → f k ≡ 0) → sum_to f n ≡ 0
unfolding sum_to
sum_none zero h = refl
sum_none (suc n) h = omega (arith, sum_none n (λ k l. h k (omega arith)), h n (omega arith))

-- the numbers themselves, counted
sum_all : (n : ℕ) → sum_to (λ k. 1) n ≡ n
unfolding sum_to
sum_all zero = refl
sum_all (suc n) = omega (arith, sum_all n)

pub sum_le : (f : ℕ → ℕ) (n : ℕ) → ((k : ℕ) → f k ≤ 1) → sum_to f n ≤ n
sum_le f n h = omega (arith, sum_mono {f = f} {g = λ k. 1} n (λ k _. h k), sum_all n)

pub pairs_next : (f : ℕ → ℕ → ℕ) (n : ℕ) → sum_pairs f (n + 1) ≡ sum_pairs f n + sum_to (λ u. f u n) n
unfolding sum_pairs
pairs_next f n = sum_next _ n

pub pairs_ext : {f g : ℕ → ℕ → ℕ} (n : ℕ) → ((u v : ℕ) → u < v → v < n → f u v ≡ g u v) → sum_pairs f n ≡ sum_pairs g n
unfolding sum_pairs
pairs_ext n h = sum_ext n (λ v l. sum_ext v (λ u k. h u v k l))

pub pairs_mono : {f g : ℕ → ℕ → ℕ} (n : ℕ) → ((u v : ℕ) → u < v → v < n → f u v ≤ g u v) → sum_pairs f n ≤ sum_pairs g n
unfolding sum_pairs
pairs_mono n h = sum_mono n (λ v l. sum_mono v (λ u k. h u v k l))

-- the pairs themselves, counted
pairs_all : (n : ℕ) → 2 * sum_pairs (λ u v. 1) n + n ≡ n * n
unfolding sum_pairs sum_to
pairs_all zero = refl
pairs_all (suc n) = omega (arith, pairs_all n, sum_all n, mul-suc (suc n) n, suc-mul n n)

-- n numbers have n * (n - 1) / 2 unordered pairs
pub pairs_count : (n : ℕ) → sum_pairs (λ u v. 1) n ≡ pairs_of n
pairs_count zero = omega (arith, pairs_all 0)
pairs_count (suc n) =
    let e : suc n - 1 ≡ n = omega arith in
    rw e (omega (arith, pairs_all (suc n), mul-suc (suc n) n))

pub pairs_le : (f : ℕ → ℕ → ℕ) (n : ℕ) → ((u v : ℕ) → f u v ≤ 1) → 2 * sum_pairs f n + n ≤ n * n
pairs_le f n h = omega (arith, pairs_mono {f = f} {g = λ u v. 1} n (λ u v _ _. h u v), pairs_all n)

pub pairs_small : (f : ℕ → ℕ → ℕ) (n : ℕ) → ((u v : ℕ) → f u v ≤ 1) → n ≤ 512 → sum_pairs f n ≤ 130_816
pairs_small f zero h l = omega (arith, pairs_le f 0 h)
pairs_small f (suc n) h l =
    let m : n ≤ 511 = omega arith in
    omega (arith, pairs_le f (suc n) h, mul-suc (suc n) n, suc-mul n n, mul-le-mul m m)

-- ---- a loop that adds up: what it has, with one term or one row more

module _ (f : ℕ → ℕ) (n : ℕ) (single : (k : ℕ) → f k ≤ 1) where
  pub sum_more : {sum term : ℕ} → sum ≡ sum_to f n → term ≡ f n → (sum + term ≡ sum_to f (n + 1)) × (sum + term ≤ n + 1)
  sum_more e t = omega (arith, sum_next f n, sum_le f (n + 1) single)

module _ (f : ℕ → ℕ → ℕ) (n : ℕ) (single : (u v : ℕ) → f u v ≤ 1) where
  pub pairs_more : {sum row : ℕ} → n < 512 → sum ≡ sum_pairs f n → row ≡ sum_to (λ u. f u n) n → (sum + row ≡ sum_pairs f (n + 1)) × (sum + row ≤ 130_816)
  pairs_more l e r = omega (arith, pairs_next f n, pairs_small f (n + 1) single (omega arith))
