-- A budget that is enough for any search: each place tries at most K masks, so that a search of k places takes at most K + K × K + .. steps, k terms of them.
-- Within such a budget a search is not stopped (`search_enough`). Assumes nothing.
use mathlib.Core.Bool.{Bool, false}
use mathlib.Core.List.{List, [], ◌∷◌, ◌++◌}
use mathlib.Core.Path.{◌≡◌, refl, ◌∙◌}
use Prim.Native.Nat.{ℕ, zero, suc, ◌+◌, ◌*◌, ◌-◌, ◌≤◌, ◌<◌, min}
use native.Mathlib.Nat.{suc-mul, mul-le-mul_right}
use native.Mathlib.Omega.{arith}
use lib.ListN.{length}
use Rattle.rules.specs.Edges.{Graph}
use Rattle.rules.specs.Basics.{up_to, any_of}
use Rattle.rules.specs.Peeling.{is_fixed}
use Rattle.rules.specs.Search.{added, different, candidates, candidates_in, State, step, Next, try_masks, search_places}
use Rattle.rules.proofs.Lists.{length_up_to}
use Rattle.rules.proofs.Tests.{by_test}
use Rattle.theory.proofs.Search.{by_tests}
use Rattle.theory.proofs.Budget.{start, search_until}

-- the steps of a search of k places with K masks at each
unfoldable pub all_steps : ℕ → ℕ → ℕ
all_steps K zero = 0
all_steps K (suc k) = K * suc (all_steps K k)

-- from s to r at most n steps are taken, and no stop is added
pub record Ran (n : ℕ) (s r : State) : Type 0 where
  pub steps : r.steps ≤ s.steps + n
  pub stopped : r.stopped ≡ s.stopped

module _ (add : List ℕ → ℕ → ℕ) (ended : ℕ → Bool) (budget n : ℕ) (next : Next) (ran : (p : List ℕ) (c : ℕ) (s : State) → s.steps + n ≤ budget → Ran n s (next p c s)) where
  tries_enough : (ms p : List ℕ) (c : ℕ) (s : State) → s.steps + length ms * suc n ≤ budget → Ran (length ms * suc n) s (try_masks add ended budget next ms p c s)
  unfolding try_masks
  tries_enough [] p c s h = record { steps = omega arith; stopped = refl }
  tries_enough (m ∷ ms) p c s h =
      let more : suc (length ms) * suc n ≡ length ms * suc n + suc n = suc-mul (length ms) (suc n) in
      by_tests add ended budget next m ms p c s (Ran (suc (length ms) * suc n) s)
      (λ d. record { steps = omega arith; stopped = refl })
      (λ d l. absurd (omega arith))
      (λ d l lt.
      let one = ran (p ++ (m ∷ [])) (c + add p m) (step s) (omega arith) in
      let rest = tries_enough ms p c (next (p ++ (m ∷ [])) (c + add p m) (step s)) (omega (arith, one.steps)) in
      record { steps = omega (arith, one.steps, rest.steps); stopped = rest.stopped ∙ one.stopped })
      (λ d l le.
      let rest = tries_enough ms p c (step s) (omega arith) in
      record { steps = omega (arith, rest.steps); stopped = rest.stopped })

module _ (add : List ℕ → ℕ → ℕ) (cands : List ℕ → List ℕ) (ended : ℕ → Bool) (budget K : ℕ) (few : (p : List ℕ) → length (cands p) ≤ K) where
  pub search_enough : (k : ℕ) (p : List ℕ) (c : ℕ) (s : State) → s.steps + all_steps K k ≤ budget → Ran (all_steps K k) s (search_places add cands ended budget k p c s)
  unfolding search_places all_steps
  search_enough zero p c s h = record { steps = omega arith; stopped = refl }
  search_enough (suc k) p c s h =
      let n = all_steps K k in
      let all : length (cands p) * suc n ≤ K * suc n = mul-le-mul_right (suc n) (few p) in
      let r = tries_enough add ended budget n (search_places add cands ended budget k) (search_enough k) (cands p) p c s (omega arith) in
      record { steps = omega (arith, r.steps); stopped = r.stopped }

candidates_few : (K : ℕ) → 0 < K → (p : List ℕ) → length (candidates K p) ≤ K
unfolding candidates
candidates_few K h p = omega (arith, length_up_to (suc (min (different p) (K - 1))))

candidates_in_few : (K : ℕ) → 0 < K → (fixed : ℕ → ℕ) (k : ℕ) (p : List ℕ) → length (candidates_in K fixed k p) ≤ K
unfolding candidates_in
candidates_in_few K h fixed k p =
    by_test (is_fixed fixed (length p))
    (λ e. rw e (omega arith))
    (λ e. rw e
    (by_test (any_of (is_fixed fixed) (up_to k))
    (λ f. rw f (omega (arith, length_up_to K)))
    (λ f. rw f (candidates_few K h p))))

-- the search of a component, from no steps
pub until_enough : (ended : ℕ → Bool) (K weight : ℕ) (g : Graph) (fixed : ℕ → ℕ) (k : ℕ) → 0 < K → (search_until ended K weight (all_steps K k) g fixed k 0 false).stopped ≡ false
until_enough ended K weight g fixed k h =
    (search_enough (added weight g) (candidates_in K fixed k) ended (all_steps K k) K (candidates_in_few K h fixed k) k [] 0 (start K weight g fixed k 0 false) (omega arith)).stopped
