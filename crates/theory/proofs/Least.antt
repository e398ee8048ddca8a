-- The least number of conflicts. `least_over` is no more than any assignment's value (`over_low`), and some assignment has it (`over_met`). What a search adds up
-- to is the weight for each conflict where there are no stitches (`total_conflicts`). Assumes nothing.
use mathlib.Core.List.{List, [], ◌∷◌, ◌++◌, append-nil, append_assoc}
use mathlib.Core.Path.{◌≡◌, refl, sym, ap, ap₂, ◌∙◌}
use mathlib.Core.Logic.{⊎_elim}
use Prim.Native.Nat.{ℕ, zero, suc, ◌+◌, ◌*◌, ◌-◌, ◌≤◌, ◌<◌}
use native.Mathlib.Nat.{le_refl, le_trans, le_of_eq, min-le_left, min-le_right}
use native.Mathlib.Omega.{arith}
use lib.ListN.{length, get_or, length-append, get_or-append}
use lib.Seq.{get_or-append_seam}
use Rattle.rules.specs.Basics.{given, sum_to, sum_pairs}
use Rattle.rules.specs.Edges.{Graph}
use Rattle.rules.specs.Score.{same_mask, conflicts_of, pair_cost}
use Rattle.rules.specs.Library.{least_to, least_over}
use Rattle.rules.specs.Search.{added, total_after, total}
use Rattle.rules.proofs.Sums.{sum_ext, sum_none, pairs_ext, pairs_next}
use Rattle.rules.proofs.Tests.{by_test, lt_or_ge}
use Rattle.theory.proofs.Each.{Each}
use Rattle.theory.proofs.HalfDone.{AllSet, whole_conflicts}
use Rattle.theory.proofs.Score.{pairs_weighted}

-- ---- The least value of a function

module _ (f : ℕ → ℕ) where
  pub to_low : (k j : ℕ) → j ≤ k → least_to f k ≤ f j
  unfolding least_to
  to_low zero j h = le_of_eq (ap f (omega arith))
  to_low (suc k) j h = ⊎_elim
      (λ l. le_trans (min-le_left (least_to f k) (f (suc k))) (to_low k j (omega arith)))
      (λ l. le_trans (min-le_right (least_to f k) (f (suc k))) (le_of_eq (ap f (omega arith))))
      (lt_or_ge j (suc k))

  pub to_met : (k : ℕ) → (j : ℕ) × (j ≤ k) × (least_to f k ≡ f j)
  unfolding least_to
  to_met zero = (0, le_refl 0, refl)
  to_met (suc k) =
      let r = to_met k in
      ⊎_elim
      (λ l. (r.0, omega (arith, r.1), omega (arith, r.2)))
      (λ l. (suc k, le_refl (suc k), omega arith))
      (lt_or_ge (least_to f k) (f (suc k)))

-- n masks below K at which f is x
pub record Met (K n : ℕ) (f : List ℕ → ℕ) (x : ℕ) : Type 0 where
  pub masks : List ℕ
  pub size : length masks ≡ n
  pub below : Each (λ m. m < K) masks
  pub value : f masks ≡ x

module _ (K : ℕ) where
  -- no list of n masks below K has less
  pub over_low : (n : ℕ) (f : List ℕ → ℕ) (masks : List ℕ) → length masks ≡ n → Each (λ m. m < K) masks → least_over K n f ≤ f masks
  unfolding least_over
  over_low zero f [] e b = le_refl (f [])
  over_low zero f (m ∷ masks) e b = absurd (omega arith)
  over_low (suc n) f [] e b = absurd (omega arith)
  over_low (suc n) f (m ∷ masks) e b =
      le_trans (to_low (λ m. least_over K n (λ masks. f (m ∷ masks))) (K - 1) m (omega (arith, b.0)))
      (over_low n (λ masks. f (m ∷ masks)) masks (omega arith) b.1)

  -- and one has it
  pub over_met : 0 < K → (n : ℕ) (f : List ℕ → ℕ) → Met K n f (least_over K n f)
  unfolding least_over
  over_met h zero f = record { masks = []; size = refl; below = tt; value = refl }
  over_met h (suc n) f =
      let at = to_met (λ m. least_over K n (λ masks. f (m ∷ masks))) (K - 1) in
      let r = over_met h n (λ masks. f (at.0 ∷ masks)) in
      record { masks = at.0 ∷ r.masks; size = ap suc r.size; below = (omega (arith, at.1), r.below); value = r.value ∙ sym at.2 }

-- ---- What a search adds up to

-- no two of the vertices 0, 1, .., n - 1 have a stitch edge
abbrev pub Unstitched : Graph → ℕ → Type 0
Unstitched g n = (u v : ℕ) → u < v → v < n → g.stitches u v ≡ 0

-- the cost of two places, for a list of masks
abbrev place_cost : ℕ → Graph → List ℕ → ℕ → ℕ → ℕ
place_cost W g p u v = pair_cost W g u v (get_or p u 0) (get_or p v 0)

module _ (W : ℕ) (g : Graph) where
  -- one place more
  pairs_snoc : (p : List ℕ) (m : ℕ) → sum_pairs (place_cost W g (p ++ (m ∷ []))) (length (p ++ (m ∷ []))) ≡ sum_pairs (place_cost W g p) (length p) + added W g p m
  unfolding sum_pairs added
  pairs_snoc p m =
      let more : length (p ++ (m ∷ [])) ≡ length p + 1 = length-append p (m ∷ []) in
      rw (more, pairs_next (place_cost W g (p ++ (m ∷ []))) (length p))
      (ap₂ ◌+◌
      (pairs_ext (length p) (λ u v l h. rw (get_or-append p (m ∷ []) 0 u (omega arith), get_or-append p (m ∷ []) 0 v h)))
      (sum_ext (length p) (λ u l. rw (get_or-append p (m ∷ []) 0 u l, get_or-append_seam p m [] 0))))

  total_pairs : (p q : List ℕ) → total_after (added W g) p (sum_pairs (place_cost W g p) (length p)) q ≡ sum_pairs (place_cost W g (p ++ q)) (length (p ++ q))
  unfolding total_after
  total_pairs p [] = rw (append-nil p)
  total_pairs p (m ∷ q) = rw (← pairs_snoc p m, ← append_assoc p (m ∷ []) q) (total_pairs (p ++ (m ∷ [])) q)

  -- without stitches, the search adds up W for each conflict
  pub total_conflicts : (q : List ℕ) → Unstitched g (length q) → AllSet (length q) q → total (added W g) q ≡ W * conflicts_of g q (length q)
  unfolding sum_pairs sum_to pair_cost
  total_conflicts q plain all =
      total_pairs [] q
      ∙ pairs_ext (length q) (λ u v l h. by_test (same_mask q u v) (λ e. rw e (omega arith)) (λ e. rw (e, plain u v l h) (omega arith)))
      ∙ sym (pairs_weighted W (λ u v. given (same_mask q u v) (g.conflicts u v)) (λ u v. 0) (λ u v. W * given (same_mask q u v) (g.conflicts u v)) (λ u v. omega arith) (length q))
      ∙ omega (arith, sum_none {f = λ v. sum_to (λ u. 0) v} (length q) (λ v l. sum_none {f = λ u. 0} v (λ u h. refl)))
      ∙ ap (λ (x : ℕ). W * x) (sym (whole_conflicts g q (length q) all))
