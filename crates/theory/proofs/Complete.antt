-- The search without a budget, called complete, and what a budget makes of it, over any added cost, any candidates and any costs to end at.
-- Each mask takes a step, so a complete search that has a mask left, and has not ended early, takes more steps (`mask_takes`). A search at a budget goes the same way as long as the
-- complete one is within it, and is stopped where the complete one takes a step beyond it (`Follows`). A complete search does not depend on the steps
-- taken before it, but for adding them (`complete_later`), so the steps carried from one component to the next add up.
use mathlib.Core.Bool.{Bool, true, false}
use mathlib.Core.Path.{◌≡◌, refl, ap, subst}
use mathlib.Core.List.{List, [], ◌∷◌, ◌++◌}
use mathlib.Core.Logic.{◌⊎◌, inl, inr, ⊎_elim}
use Prim.Native.Nat.{ℕ, zero, suc, ◌+◌, ◌≤◌, ◌<◌}
use native.Mathlib.Nat.{le_refl, add-suc, add-zero}
use native.Mathlib.Omega.{arith}
use borrow.Author.Tests.{lt-ltb, le-ltb}
use Rattle.rules.specs.Edges.{Graph}
use Rattle.rules.specs.Search.{added, total, first_after, first_mask, candidates_in, State, state, step, hold, Next, try_masks, search_places, search_from, Progress, progress, further, complete_masks, complete_places, complete_from}
use Rattle.rules.proofs.Tests.{by_test, clash, lt_or_ge}
use Rattle.theory.proofs.Search.{by_tests, tries_stopped}
use Rattle.theory.proofs.Budget.{ends, start}

-- what goes on from a place, without a budget
abbrev pub Onward : Type 0
Onward = List ℕ → ℕ → Progress → Progress

-- ---- One mask

module _ (add : List ℕ → ℕ → ℕ) (ended : ℕ → Bool) (next : Onward) (m : ℕ) (ms p : List ℕ) (c : ℕ) (y : Progress) where
  -- the incumbent's cost is one to end at
  pub complete_end : ended y.cost ≡ true → complete_masks add ended next (m ∷ ms) p c y ≡ y
  unfolding complete_masks
  complete_end d = rw (d, complete_masks)

  -- the mask's cost stays below the incumbent's
  pub complete_enter : ended y.cost ≡ false → c + add p m < y.cost → complete_masks add ended next (m ∷ ms) p c y ≡ complete_masks add ended next ms p c (next (p ++ (m ∷ [])) (c + add p m) (further y))
  unfolding complete_masks
  complete_enter d l = rw (d, lt-ltb (c + add p m) y.cost l, complete_masks)

  -- it does not
  pub complete_skip : ended y.cost ≡ false → y.cost ≤ c + add p m → complete_masks add ended next (m ∷ ms) p c y ≡ complete_masks add ended next ms p c (further y)
  unfolding complete_masks
  complete_skip d l = rw (d, le-ltb (c + add p m) y.cost l, complete_masks)

  -- what holds of each of the three outcomes holds of where the search stands after the mask and those after it
  pub complete_tests : (Q : Progress → Type 0)
      → (ended y.cost ≡ true → Q y)
      → (ended y.cost ≡ false → c + add p m < y.cost → Q (complete_masks add ended next ms p c (next (p ++ (m ∷ [])) (c + add p m) (further y))))
      → (ended y.cost ≡ false → y.cost ≤ c + add p m → Q (complete_masks add ended next ms p c (further y)))
      → Q (complete_masks add ended next (m ∷ ms) p c y)
  complete_tests Q end enter skip =
      by_test (ended y.cost)
      (λ d. rw (complete_end d) (end d))
      (λ d. ⊎_elim
      (λ l. rw (complete_enter d l) (enter d l))
      (λ l. rw (complete_skip d l) (skip d l))
      (lt_or_ge (c + add p m) y.cost))

-- ---- The steps

module _ (add : List ℕ → ℕ → ℕ) (ended : ℕ → Bool) (next : Onward) (rises : (p : List ℕ) (c : ℕ) (y : Progress) → y.steps ≤ (next p c y).steps) where
  -- masks take no step back, if what comes after them takes none back
  pub masks_rise : (ms p : List ℕ) (c : ℕ) (y : Progress) → y.steps ≤ (complete_masks add ended next ms p c y).steps
  unfolding complete_masks
  masks_rise [] p c y = le_refl y.steps
  masks_rise (m ∷ ms) p c y =
      complete_tests add ended next m ms p c y (λ r. y.steps ≤ r.steps)
      (λ d. le_refl y.steps)
      (λ d l. omega (arith, rises (p ++ (m ∷ [])) (c + add p m) (further y), masks_rise ms p c (next (p ++ (m ∷ [])) (c + add p m) (further y))))
      (λ d l. omega (arith, masks_rise ms p c (further y)))

  -- and a mask takes one, unless the search has ended
  pub mask_takes : (m : ℕ) (ms p : List ℕ) (c : ℕ) (y : Progress) → ended y.cost ≡ false → y.steps < (complete_masks add ended next (m ∷ ms) p c y).steps
  mask_takes m ms p c y e =
      complete_tests add ended next m ms p c y (λ r. y.steps < r.steps)
      (λ d. clash d e)
      (λ d l. omega (arith, rises (p ++ (m ∷ [])) (c + add p m) (further y), masks_rise ms p c (next (p ++ (m ∷ [])) (c + add p m) (further y))))
      (λ d l. omega (arith, masks_rise ms p c (further y)))

module _ (add : List ℕ → ℕ → ℕ) (cands : List ℕ → List ℕ) (ended : ℕ → Bool) where
  -- no step is taken back
  pub complete_rises : (k : ℕ) (p : List ℕ) (c : ℕ) (y : Progress) → y.steps ≤ (complete_places add cands ended k p c y).steps
  unfolding complete_places
  complete_rises zero p c y = le_refl y.steps
  complete_rises (suc k) p c y = masks_rise add ended (complete_places add cands ended k) (complete_rises k) (cands p) p c y

-- ---- Steps taken before

-- the same with a more steps
abbrev pub further_by : ℕ → Progress → Progress
further_by a y = progress (a + y.steps) y.cost y.incumbent

module _ (add : List ℕ → ℕ → ℕ) (ended : ℕ → Bool) (a : ℕ) (next : Onward) (moves : (p : List ℕ) (c : ℕ) (y : Progress) → next p c (further_by a y) ≡ further_by a (next p c y)) where
  masks_later : (ms p : List ℕ) (c : ℕ) (y : Progress) → complete_masks add ended next ms p c (further_by a y) ≡ further_by a (complete_masks add ended next ms p c y)
  unfolding complete_masks
  masks_later [] p c y = refl
  masks_later (m ∷ ms) p c y =
      complete_tests add ended next m ms p c y (λ r. complete_masks add ended next (m ∷ ms) p c (further_by a y) ≡ further_by a r)
      (λ d. complete_end add ended next m ms p c (further_by a y) d)
      (λ d l. rw (complete_enter add ended next m ms p c (further_by a y) d l, ← add-suc a y.steps, moves (p ++ (m ∷ [])) (c + add p m) (further y))
      (masks_later ms p c (next (p ++ (m ∷ [])) (c + add p m) (further y))))
      (λ d l. rw (complete_skip add ended next m ms p c (further_by a y) d l, ← add-suc a y.steps) (masks_later ms p c (further y)))

-- a complete search does not depend on the steps taken before it, but for adding them
pub complete_later : (add : List ℕ → ℕ → ℕ) (cands : List ℕ → List ℕ) (ended : ℕ → Bool) (a k : ℕ) (p : List ℕ) (c : ℕ) (y : Progress)
    → complete_places add cands ended k p c (further_by a y) ≡ further_by a (complete_places add cands ended k p c y)
unfolding complete_places
complete_later add cands ended a zero p c y = refl
complete_later add cands ended a (suc k) p c y = masks_later add ended a (complete_places add cands ended k) (complete_later add cands ended a k) (cands p) p c y

-- ---- With a budget

-- The budget falls short: n steps are more than it, so the search is stopped where it is used up.
pub record Short (budget steps : ℕ) (stopped : Bool) (n : ℕ) : Type 0 where
  pub beyond : budget < n
  pub over : stopped ≡ true
  pub spent : steps ≡ budget

-- the state of a search that was not stopped
abbrev pub running : Progress → State
running y = state y.steps false y.cost y.incumbent

-- What the state x of a search at the budget b is to the complete search at y: where it stands, or the budget fell short.
abbrev pub Follows : ℕ → State → Progress → Type 0
Follows b x y = ((y.steps ≤ b) × (x ≡ running y)) ⊎ Short b x.steps x.stopped y.steps

module _ (add : List ℕ → ℕ → ℕ) (ended : ℕ → Bool) (b : ℕ) (next : Next) (onward : Onward) (rises : (p : List ℕ) (c : ℕ) (y : Progress) → y.steps ≤ (onward p c y).steps)
    (follows : (p : List ℕ) (c : ℕ) (x : State) (y : Progress) → Follows b x y → Follows b (next p c x) (onward p c y)) where
  tries_follows : (ms p : List ℕ) (c : ℕ) (x : State) (y : Progress) → Follows b x y → Follows b (try_masks add ended b next ms p c x) (complete_masks add ended onward ms p c y)
  unfolding try_masks complete_masks
  tries_follows [] p c x y f = f
  tries_follows (m ∷ ms) p c x y (inr s) =
      let more = masks_rise add ended onward rises (m ∷ ms) p c y in
      inr (rw (tries_stopped add ended b next (m ∷ ms) p c x (record { over = s.over; spent = omega arith })) (record { beyond = omega arith; over = s.over; spent = s.spent }))
  tries_follows (m ∷ ms) p c x y (inl e) =
      let s = running y in
      rw e.1
      (by_tests add ended b next m ms p c s (λ r. Follows b r (complete_masks add ended onward (m ∷ ms) p c y))
      (λ d. rw (complete_end add ended onward m ms p c y d) (inl (e.0, refl)))
      (λ d h. inr (record { beyond = omega (arith, mask_takes add ended onward rises m ms p c y d); over = refl; spent = omega arith }))
      (λ d h l. rw (complete_enter add ended onward m ms p c y d l)
      (tries_follows ms p c (next (p ++ (m ∷ [])) (c + add p m) (step s)) (onward (p ++ (m ∷ [])) (c + add p m) (further y))
      (follows (p ++ (m ∷ [])) (c + add p m) (step s) (further y) (inl (h, refl)))))
      (λ d h l. rw (complete_skip add ended onward m ms p c y d l) (tries_follows ms p c (step s) (further y) (inl (h, refl)))))

module _ (add : List ℕ → ℕ → ℕ) (cands : List ℕ → List ℕ) (ended : ℕ → Bool) (b : ℕ) where
  -- a search at a budget follows the complete one
  pub search_follows : (k : ℕ) (p : List ℕ) (c : ℕ) (x : State) (y : Progress) → Follows b x y → Follows b (search_places add cands ended b k p c x) (complete_places add cands ended k p c y)
  unfolding search_places complete_places
  search_follows zero p c x y (inl e) = inl (e.0, ap (hold p c) e.1)
  search_follows zero p c x y (inr s) = inr s
  search_follows (suc k) p c x y f =
      tries_follows add ended b (search_places add cands ended b k) (complete_places add cands ended k) (complete_rises add cands ended k) (search_follows k) (cands p) p c x y f

-- ---- The search of a component

-- the meters of a search at the budget b are those of a complete search after n steps, or the budget fell short
abbrev pub Keeps : ℕ → ℕ → Bool → ℕ → Type 0
Keeps b steps stopped n = ((n ≤ b) × (steps ≡ n) × (stopped ≡ false)) ⊎ Short b steps stopped n

module _ (K weight : ℕ) (g : Graph) (fixed : ℕ → ℕ) where
  -- from meters that keep with n steps, it follows the complete search after n steps
  pub from_follows : {b steps n : ℕ} {stopped : Bool} (k : ℕ) → Keeps b steps stopped n → Follows b (search_from K weight b g fixed k steps stopped) (further_by n (complete_from K weight g fixed k))
  from_follows {b} {steps} {n} {stopped} k keeps =
      subst (λ (y : Progress). Follows b (search_from K weight b g fixed k steps stopped) y)
      (rw (add-zero n) at (complete_later (added weight g) (candidates_in K fixed k) (ends K weight g fixed k) n k [] 0 first))
      (search_follows (added weight g) (candidates_in K fixed k) (ends K weight g fixed k) b k [] 0 (start K weight g fixed k steps stopped) (progress n first.cost first.incumbent) (go keeps))
    where
      first : Progress
      first = let q = first_after (first_mask (added weight g) K fixed) k [] in progress 0 (total (added weight g) q) q

      go : Keeps b steps stopped n → Follows b (start K weight g fixed k steps stopped) (progress n first.cost first.incumbent)
      go (inl e) = inl (e.0, rw (e.1, e.2))
      go (inr s) = inr s
