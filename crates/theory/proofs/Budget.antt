-- What the budget does to a search, over any added cost, any candidates and any costs to end at.
-- A step is counted before the budget is used up and never after, so the steps stay within it. Two searches at budgets b₁ ≤ b₂ go the same way until the first
-- is stopped; from there the first keeps its incumbent, and the second's cost can only fall (`Ahead`). Only the steps left count: a search that starts later,
-- at a budget larger by as much, does the same (`search_later`).
use mathlib.Core.Bool.{Bool, true, false}
use mathlib.Core.Path.{◌≡◌, refl, sym, ap, subst₂, ◌∙◌}
use mathlib.Core.List.{List, [], ◌∷◌, ◌++◌}
use mathlib.Core.Logic.{◌⊎◌, inl, inr}
use Prim.Native.Nat.{ℕ, zero, suc, ◌+◌, ◌≤◌, ◌<◌, ◌-◌}
use native.Mathlib.Nat.{le_refl, le_trans, le_of_eq, add-suc, not-suc-le-zero, add-zero}
use native.Mathlib.Omega.{arith}
use Rattle.rules.specs.Edges.{Graph}
use Rattle.rules.specs.Library.{library_bound}
use Rattle.rules.specs.Search.{added, total, first_after, first_mask, candidates_in, State, state, step, hold, Next, try_masks, search_places, at_bound, search_from}
use Rattle.rules.proofs.Tests.{clash}
use Rattle.theory.proofs.Each.{each_all}
use Rattle.theory.proofs.Search.{at_end, at_stop, at_enter, at_skip, by_tests, tries_keeps, search_meters, tries_falls, search_falls, Stopped, tries_stopped, search_stopped}

-- ---- The steps

module _ (add : List ℕ → ℕ → ℕ) (cands : List ℕ → List ℕ) (ended : ℕ → Bool) (budget k : ℕ) (p : List ℕ) (c : ℕ) (s : State) where
  -- no step is taken back
  pub search_rises : s.steps ≤ (search_places add cands ended budget k p c s).steps
  search_rises = search_meters add cands ended budget (λ n b. s.steps ≤ n) (λ n b h i. i) (λ n b h i. omega arith) k p c s (le_refl s.steps)

  -- no step is taken beyond the budget
  pub search_within : s.steps ≤ budget → (search_places add cands ended budget k p c s).steps ≤ budget
  search_within = search_meters add cands ended budget (λ n b. n ≤ budget) (λ n b h i. i) (λ n b h i. h) k p c s

  -- a search is stopped only when the budget is used up: if that holds of what came before, it holds after
  pub search_spent : s.steps ≤ budget → (s.stopped ≡ true → s.steps ≡ budget)
      → (search_places add cands ended budget k p c s).stopped ≡ true → (search_places add cands ended budget k p c s).steps ≡ budget
  search_spent w e =
      (search_meters add cands ended budget (λ n b. (n ≤ budget) × (b ≡ true → n ≡ budget))
      (λ n b h i. (i.0, λ _. omega arith)) (λ n b h i. (h, λ t. absurd (omega (arith, i.1 t)))) k p c s (w, e)).1

-- no step is taken back by the masks of a place
pub tries_rises : (add : List ℕ → ℕ → ℕ) (cands : List ℕ → List ℕ) (ended : ℕ → Bool) (budget k : ℕ) (ms p : List ℕ) (c : ℕ) (s : State)
    → s.steps ≤ (try_masks add ended budget (search_places add cands ended budget k) ms p c s).steps
tries_rises add cands ended budget k ms p c s =
    tries_keeps add ended budget (search_places add cands ended budget k) (λ r. s.steps ≤ r.steps) (λ r h i. i) (λ r h i. omega arith) ms p c s
    (each_all (λ m r l i. le_trans i (search_rises add cands ended budget k (p ++ (m ∷ [])) (c + add p m) r)) ms) (le_refl s.steps)

-- ---- A larger budget

-- What two searches keep, the first at the budget b and the second at one no smaller: they are at one state, or the first
-- is stopped, and then the second's incumbent is no dearer.
abbrev pub Ahead : ℕ → State → State → Type 0
Ahead b x y = (x ≡ y) ⊎ (Stopped b x.steps x.stopped × (y.cost ≤ x.cost))

module _ (add : List ℕ → ℕ → ℕ) (ended : ℕ → Bool) (b₁ b₂ : ℕ) (le : b₁ ≤ b₂) (n₁ n₂ : Next) (falls : (p : List ℕ) (c : ℕ) (s : State) → c ≤ s.cost → (n₂ p c s).cost ≤ s.cost)
    (ahead : (p : List ℕ) (c : ℕ) (s : State) → Ahead b₁ (n₁ p c s) (n₂ p c s)) where
  tries_ahead : (ms p : List ℕ) (c : ℕ) (x y : State) → Ahead b₁ x y → Ahead b₁ (try_masks add ended b₁ n₁ ms p c x) (try_masks add ended b₂ n₂ ms p c y)
  unfolding try_masks
  tries_ahead [] p c x y a = a
  tries_ahead (m ∷ ms) p c x y (inr h) = inr (rw (tries_stopped add ended b₁ n₁ (m ∷ ms) p c x h.0) (h.0, le_trans (tries_falls add ended b₂ n₂ falls (m ∷ ms) p c y) h.1))
  tries_ahead (m ∷ ms) p c x y (inl e) =
      rw (← e)
      (by_tests add ended b₁ n₁ m ms p c x (λ r. Ahead b₁ r (try_masks add ended b₂ n₂ (m ∷ ms) p c x))
      (λ d. rw (at_end add ended b₂ n₂ m ms p c x d) (inl refl))
      (λ d h. inr (record { over = refl; spent = h }, tries_falls add ended b₂ n₂ falls (m ∷ ms) p c x))
      (λ d h l. rw (at_enter add ended b₂ n₂ m ms p c x d (omega arith) l)
      (tries_ahead ms p c (n₁ (p ++ (m ∷ [])) (c + add p m) (step x)) (n₂ (p ++ (m ∷ [])) (c + add p m) (step x)) (ahead (p ++ (m ∷ [])) (c + add p m) (step x))))
      (λ d h l. rw (at_skip add ended b₂ n₂ m ms p c x d (omega arith) l) (tries_ahead ms p c (step x) (step x) (inl refl))))

-- two searches, as far as the steps and the stop go: they agree, or the first is stopped
abbrev pub Abreast : ℕ → ℕ → Bool → ℕ → Bool → Type 0
Abreast b n₁ t₁ n₂ t₂ = ((n₁ ≡ n₂) × (t₁ ≡ t₂)) ⊎ Stopped b n₁ t₁

-- What the state y at a larger budget is to the state x at the budget b.
pub record Larger (b : ℕ) (x y : State) : Type 0 where
  pub meters : Abreast b x.steps x.stopped y.steps y.stopped
  pub no_dearer : y.cost ≤ x.cost
  pub same : x.stopped ≡ false → y ≡ x

-- it follows from being ahead
pub ahead_larger : {b : ℕ} {x y : State} → Ahead b x y → Larger b x y
ahead_larger (inl e) = record {
  meters = inl (ap (λ (s : State). s.steps) e, ap (λ (s : State). s.stopped) e);
  no_dearer = le_of_eq (ap (λ (s : State). s.cost) (sym e));
  same = λ _. sym e;
}
ahead_larger (inr h) = record { meters = inr h.0; no_dearer = h.1; same = λ e. clash h.0.over e }

module _ (add : List ℕ → ℕ → ℕ) (cands : List ℕ → List ℕ) (ended : ℕ → Bool) (b₁ b₂ : ℕ) (le : b₁ ≤ b₂) where
  -- from states of which one is ahead, to such states
  pub search_ahead : (k : ℕ) (p : List ℕ) (c : ℕ) (x y : State) → Ahead b₁ x y → Ahead b₁ (search_places add cands ended b₁ k p c x) (search_places add cands ended b₂ k p c y)
  unfolding search_places
  search_ahead zero p c x y (inl e) = inl (ap (hold p c) e)
  search_ahead zero p c x y (inr h) = inr (h.0, le_refl c)
  search_ahead (suc k) p c x y a =
      tries_ahead add ended b₁ b₂ le (search_places add cands ended b₁ k) (search_places add cands ended b₂ k) (search_falls add cands ended b₂ k) (λ p c s. search_ahead k p c s s (inl refl)) (cands p) p c x y a

  -- a larger budget's incumbent costs no more, and where the smaller budget was not used up they do the same
  pub search_larger : (k : ℕ) (p : List ℕ) (c : ℕ) (s : State) → Larger b₁ (search_places add cands ended b₁ k p c s) (search_places add cands ended b₂ k p c s)
  search_larger k p c s = ahead_larger (search_ahead k p c s s (inl refl))

-- ---- Steps taken before

-- the state with a more steps
abbrev pub later : ℕ → State → State
later a s = state (a + s.steps) s.stopped s.cost s.incumbent

module _ (add : List ℕ → ℕ → ℕ) (ended : ℕ → Bool) (a b : ℕ) (next late : Next) (after : (p : List ℕ) (c : ℕ) (s : State) → late p c (later a s) ≡ later a (next p c s)) where
  tries_later : (ms p : List ℕ) (c : ℕ) (s : State) → try_masks add ended (a + b) late ms p c (later a s) ≡ later a (try_masks add ended b next ms p c s)
  unfolding try_masks
  tries_later [] p c s = refl
  tries_later (m ∷ ms) p c s =
      by_tests add ended b next m ms p c s (λ r. try_masks add ended (a + b) late (m ∷ ms) p c (later a s) ≡ later a r)
      (λ d. at_end add ended (a + b) late m ms p c (later a s) d)
      (λ d h. at_stop add ended (a + b) late m ms p c (later a s) d (omega arith))
      (λ d h l. rw (at_enter add ended (a + b) late m ms p c (later a s) d (omega arith) l, ← add-suc a s.steps, after (p ++ (m ∷ [])) (c + add p m) (step s))
      (tries_later ms p c (next (p ++ (m ∷ [])) (c + add p m) (step s))))
      (λ d h l. rw (at_skip add ended (a + b) late m ms p c (later a s) d (omega arith) l, ← add-suc a s.steps) (tries_later ms p c (step s)))

-- a search does not depend on the steps taken before it, but for the steps left
pub search_later : (add : List ℕ → ℕ → ℕ) (cands : List ℕ → List ℕ) (ended : ℕ → Bool) (a b k : ℕ) (p : List ℕ) (c : ℕ) (s : State)
    → search_places add cands ended (a + b) k p c (later a s) ≡ later a (search_places add cands ended b k p c s)
unfolding search_places
search_later add cands ended a b zero p c s = refl
search_later add cands ended a b (suc k) p c s = tries_later add ended a b (search_places add cands ended b k) (search_places add cands ended (a + b) k) (search_later add cands ended a b k) (cands p) p c s

-- ---- The search of a component

-- the costs to end at
abbrev pub ends : ℕ → ℕ → Graph → (ℕ → ℕ) → ℕ → ℕ → Bool
ends K weight g fixed k = at_bound (library_bound K weight g fixed k)

-- the state that it starts from: the first assignment
abbrev pub start : ℕ → ℕ → Graph → (ℕ → ℕ) → ℕ → ℕ → Bool → State
start K weight g fixed k steps stopped =
    let first = first_after (first_mask (added weight g) K fixed) k [] in
    state steps stopped (total (added weight g) first) first

-- The search from there with any costs to end at. With those of the library it is the component's.
abbrev pub search_until : (ℕ → Bool) → ℕ → ℕ → ℕ → Graph → (ℕ → ℕ) → ℕ → ℕ → Bool → State
search_until ended K weight budget g fixed k steps stopped = search_places (added weight g) (candidates_in K fixed k) ended budget k [] 0 (start K weight g fixed k steps stopped)

module _ (K weight : ℕ) (g : Graph) (fixed : ℕ → ℕ) where
  -- stopped before it, it ends where it starts
  pub from_stopped : {budget steps : ℕ} {stopped : Bool} (k : ℕ) → 0 < k → Stopped budget steps stopped → search_from K weight budget g fixed k steps stopped ≡ start K weight g fixed k steps stopped
  from_stopped zero z h = absurd (not-suc-le-zero z)
  from_stopped {budget} {steps} {stopped} (suc k) z h = search_stopped (added weight g) (candidates_in K fixed (suc k)) (ends K weight g fixed (suc k)) budget k [] 0 (start K weight g fixed (suc k) steps stopped) h

  -- two runs of it at budgets b₁ ≤ b₂, from meters that agree or with the first stopped
  pub from_larger : {b₁ b₂ : ℕ} → b₁ ≤ b₂ → (k : ℕ) {n₁ n₂ : ℕ} {t₁ t₂ : Bool} → Abreast b₁ n₁ t₁ n₂ t₂ → Larger b₁ (search_from K weight b₁ g fixed k n₁ t₁) (search_from K weight b₂ g fixed k n₂ t₂)
  from_larger {b₁} {b₂} le k {n₁} {n₂} {t₁} {t₂} a = ahead_larger (search_ahead (added weight g) (candidates_in K fixed k) (ends K weight g fixed k) b₁ b₂ le k [] 0 (start K weight g fixed k n₁ t₁) (start K weight g fixed k n₂ t₂) (go a))
    where
      go : Abreast b₁ n₁ t₁ n₂ t₂ → Ahead b₁ (start K weight g fixed k n₁ t₁) (start K weight g fixed k n₂ t₂)
      go (inl e) = inl (rw (e.0, e.1))
      go (inr h) = inr (h, le_refl (start K weight g fixed k n₂ t₂).cost)

  -- A search that is not stopped does not depend on the steps taken before it: it ends as it does from no steps, with as many steps more.
  pub from_alone : {budget steps : ℕ} (k : ℕ) → steps ≤ budget → (search_from K weight budget g fixed k steps false).stopped ≡ false
      → search_from K weight budget g fixed k steps false ≡ later steps (search_from K weight budget g fixed k 0 false)
  from_alone {budget} {steps} k h e =
      let left = budget - steps in
      let whole : steps + left ≡ budget = omega arith in
      let moved : search_from K weight budget g fixed k steps false ≡ later steps (search_from K weight left g fixed k 0 false)
      = subst₂ (λ (b n : ℕ). search_from K weight b g fixed k n false ≡ later steps (search_from K weight left g fixed k 0 false)) whole (add-zero steps)
      (search_later (added weight g) (candidates_in K fixed k) (ends K weight g fixed k) steps left k [] 0 (start K weight g fixed k 0 false)) in
      let ran : (search_from K weight left g fixed k 0 false).stopped ≡ false = sym (ap (λ (s : State). s.stopped) moved) ∙ e in
      let same = (from_larger {b₁ = left} {b₂ = budget} (omega arith) k (inl (refl, refl))).same ran in
      moved ∙ ap (later steps) (sym same)
