-- The first assignment, place by place, and the least of a row, mask by mask. Assumes nothing.
use mathlib.Core.Bool.{true, not, cond}
use mathlib.Core.List.{List, [], ◌∷◌, ◌++◌}
use mathlib.Core.Path.{◌≡◌, refl, sym, ap, ap₂, subst, subst⁻¹, ◌∙◌}
use Prim.Native.Nat.{ℕ, zero, suc, ◌+◌, ◌-◌, ◌*◌, ◌≤◌, ◌<◌}
use native.Mathlib.Omega.{arith}
use lib.Dec.{eqb}
use lib.ListN.{length, get_or, take, set, length-set}
use lib.Seq.{take-length, length-take-le, get_or-take}
use Rattle.rules.specs.Settings.{unset}
use Rattle.rules.specs.Search.{cheapest, first_after, first_mask, total, total_after}
use Rattle.rules.proofs.Tests.{by_test}
use Rattle.theory.proofs.Search.{cheapest_below, total_snoc}
use Rattle.places.specs.Local.{Neighbours, local_added}
use Rattle.first_assignment.specs.First.{FixedLow, FirstOf}
use Rattle.first_assignment.proofs.Cheapest.{cheapest_one}
use Rattle.first_assignment.proofs.Stored.{take_stored, stored_low}

-- ---- The least of a row

-- it looks at the numbers below k alone
pub cheapest-same : (f g : ℕ → ℕ) (k : ℕ) → ((m : ℕ) → m < k → f m ≡ g m) → cheapest f k ≡ cheapest g k
unfolding cheapest
cheapest-same f g zero e = refl
cheapest-same f g (suc zero) e = cheapest_one f ∙ sym (cheapest_one g)
cheapest-same f g (suc (suc k)) e =
    let below : cheapest g (suc k) < suc k = cheapest_below g (suc k) (omega arith) in
    let r : cheapest f (suc k) ≡ cheapest g (suc k) = cheapest-same f g (suc k) (λ m l. e m (omega arith)) in
    let here : f (suc k) ≡ g (suc k) = e (suc k) (omega arith) in
    let best : f (cheapest g (suc k)) ≡ g (cheapest g (suc k)) = e (cheapest g (suc k)) (omega arith) in
    rw (r, here, best)

-- the same of the first k of a list
pub cheapest_take : (row : List ℕ) (k : ℕ) → k ≤ length row → cheapest (λ m. get_or (take k row) m 0) (length (take k row)) ≡ cheapest (λ m. get_or row m 0) k
cheapest_take row k h = rw (length-take-le k row h) (cheapest-same (λ m. get_or (take k row) m 0) (λ m. get_or row m 0) k (λ m l. get_or-take k row m 0 l))

-- ---- The mask of a place

-- what a place takes, from the byte f that is read there and its row
abbrev pub taken : ℕ → List ℕ → ℕ → ℕ
taken f row K = cond (not (eqb f unset)) f (cheapest (λ x. get_or row x 0) K)

pub taken_low : (f : ℕ) (row : List ℕ) (K : ℕ) → 1 ≤ K → (not (eqb f unset) ≡ true → f < K) → taken f row K < K
taken_low f row K some low = by_test (not (eqb f unset)) (λ e. rw e (low e)) (λ e. rw e (cheapest_below (λ x. get_or row x 0) K some))

-- ---- Place by place

-- The places below k are filled, at the given cost.
pub record Filled (K weight : ℕ) (places : List Neighbours) (fixed : ℕ → ℕ) (size : ℕ) (partial : List ℕ) (cost k : ℕ) : Type 0 where
  pub at : k ≤ size
  pub whole : length partial ≡ size
  pub low : (i : ℕ) → i < k → get_or partial i 0 < 8
  pub masks : let pick = first_mask (local_added weight places) K fixed in first_after pick (size - k) (take k partial) ≡ first_after pick size []
  pub total : cost ≡ total (local_added weight places) (take k partial)
  pub cheap : cost ≤ 131_715_584 * k

module _ (K weight : ℕ) (places : List Neighbours) (fixed : ℕ → ℕ) (size : ℕ) where
  abbrev add : List ℕ → ℕ → ℕ
  add = local_added weight places

  abbrev pick : List ℕ → ℕ
  pick = first_mask add K fixed

  pub filled_none : (partial : List ℕ) → length partial ≡ size → Filled K weight places fixed size partial 0 0
  unfolding total_after
  filled_none partial e = record { at = omega arith; whole = e; low = λ i h. absurd (omega arith); masks = let all : size - 0 ≡ size = omega arith in ap (λ (n : ℕ). first_after pick n []) all; total = refl; cheap = omega arith }

  pub filled_all : {partial : List ℕ} {cost k : ℕ} → size ≤ k → Filled K weight places fixed size partial cost k → FirstOf K weight places fixed size partial cost
  unfolding first_after
  filled_all {partial} {cost} {k} h f =
      let end : k ≡ size = omega (arith, f.at) in
      let none : size - k ≡ 0 = omega arith in
      let all : take k partial ≡ partial = ap (λ (n : ℕ). take n partial) (end ∙ sym f.whole) ∙ take-length partial in
      record {
        masks = sym all ∙ ap (λ (n : ℕ). first_after pick n (take k partial)) (sym none) ∙ f.masks;
        cost = f.total ∙ ap (total add) all;
        size = f.whole;
      }

  -- the mask that is taken is stored at k, and its cost added
  pub filled_next : {partial : List ℕ} {cost k : ℕ} (f : ℕ) (row : List ℕ) → size ≤ 512 → 1 ≤ K → K ≤ 8 → k < size → FixedLow fixed size K
      → f ≡ fixed k → ((x : ℕ) → x < 8 → get_or row x 0 ≤ 131_715_584) → ((x : ℕ) → x < 8 → get_or row x 0 ≡ add (take k partial) x) → {m : ℕ} → m ≡ taken f row K
      → Filled K weight places fixed size partial cost k → Filled K weight places fixed size (set partial k m) (cost + get_or row m 0) (k + 1)
  unfolding first_after first_mask
  filled_next {partial} {cost} {k} f row few some masks h low read small adds {m} is filled =
      let there : k < length partial = omega (arith, filled.whole) in
      let stored = take_stored partial k m there in
      let below : m < K = subst⁻¹ (λ (x : ℕ). x < K) is (taken_low f row K some (λ e. subst⁻¹ (λ (x : ℕ). x < K) read (low k h (subst (λ (x : ℕ). not (eqb x unset) ≡ true) read e)))) in
      let cost-here = adds m (omega arith) in
      let cheap-here = small m (omega arith) in
      let long : length (take k partial) ≡ k = length-take-le k partial (omega arith) in
      let best = cheapest-same (λ x. get_or row x 0) (add (take k partial)) K (λ x l. adds x (omega arith)) in
      let same : m ≡ pick (take k partial) = is ∙ rw (long, read, best) in
      let left : size - k ≡ suc (size - (k + 1)) = omega arith in
      record {
        at = omega arith;
        whole = simp length-set filled.whole;
        low = stored_low partial k m there (omega arith) filled.low;
        masks = ap (first_after pick (size - (k + 1))) (stored ∙ ap (λ (x : ℕ). take k partial ++ (x ∷ [])) same)
            ∙ ap (λ (n : ℕ). first_after pick n (take k partial)) (sym left) ∙ filled.masks;
        total = ap₂ (λ (a b : ℕ). a + b) filled.total cost-here ∙ sym (total_snoc add [] 0 (take k partial) m) ∙ ap (total add) (sym stored);
        cheap = omega (arith, filled.cheap);
      }
