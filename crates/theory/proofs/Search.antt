-- What a search does, over any added cost, any candidates and any budget.
-- One mask comes to one of four ends, by its three tests (`by_tests`). So what a stop and a step keep, the search keeps (`search_meters`), and what each place
-- hands on to its candidates, the incumbent has (`search_passes`): its cost is the state's, and it has a candidate for each place. The cost never rises. So a
-- search that was not stopped has reached, or passed by at a cost no lower than its incumbent's, every assignment that the candidates allow, or has ended early at
-- a cost that none of them undercuts (`best`).
use mathlib.Core.Bool.{Bool, true, false}
use mathlib.Core.Path.{◌≡◌, refl, sym, ap, ◌∙◌}
use mathlib.Core.List.{List, [], ◌∷◌, ◌++◌, append-nil, append_assoc, Memᴰ}
use mathlib.Core.Logic.{⊎_elim}
use Prim.Native.Nat.{ℕ, zero, suc, ◌+◌, ◌≤◌, ◌<◌}
use native.Mathlib.Nat.{le_refl, le_trans, le_of_lt, le_of_suc-le-suc, not-suc-le-zero, eq-or-lt_of_le}
use native.Mathlib.Omega.{arith}
use lib.ListN.{length, length-append}
use borrow.Author.Tests.{lt-ltb, le-ltb}
use Rattle.rules.specs.Search.{total_after, total, cheapest, first_after, State, state, stop, step, Next, try_masks, search_places}
use Rattle.rules.proofs.Tests.{by_test, clash, not_before, lt_or_ge}
use Rattle.theory.proofs.Each.{Each, each_imp, each_all}

-- ---- One mask

module _ (add : List ℕ → ℕ → ℕ) (ended : ℕ → Bool) (budget : ℕ) (next : Next) (m : ℕ) (ms p : List ℕ) (c : ℕ) (s : State) where
  -- the incumbent's cost is one to end at
  pub at_end : ended s.cost ≡ true → try_masks add ended budget next (m ∷ ms) p c s ≡ s
  unfolding try_masks
  at_end d = rw (d, try_masks)

  -- the budget is used up
  pub at_stop : ended s.cost ≡ false → budget ≤ s.steps → try_masks add ended budget next (m ∷ ms) p c s ≡ stop s
  unfolding try_masks
  at_stop d h = rw (d, le-ltb s.steps budget h, try_masks)

  -- the mask's cost stays below the incumbent's
  pub at_enter : ended s.cost ≡ false → s.steps < budget → c + add p m < s.cost → try_masks add ended budget next (m ∷ ms) p c s ≡ try_masks add ended budget next ms p c (next (p ++ (m ∷ [])) (c + add p m) (step s))
  unfolding try_masks
  at_enter d h l = rw (d, lt-ltb s.steps budget h, lt-ltb (c + add p m) s.cost l, try_masks)

  -- it does not
  pub at_skip : ended s.cost ≡ false → s.steps < budget → s.cost ≤ c + add p m → try_masks add ended budget next (m ∷ ms) p c s ≡ try_masks add ended budget next ms p c (step s)
  unfolding try_masks
  at_skip d h l = rw (d, lt-ltb s.steps budget h, le-ltb (c + add p m) s.cost l, try_masks)

  -- what holds of each of the four outcomes holds of the state after the mask and those after it
  pub by_tests : (Q : State → Type 0)
      → (ended s.cost ≡ true → Q s)
      → (ended s.cost ≡ false → budget ≤ s.steps → Q (stop s))
      → (ended s.cost ≡ false → s.steps < budget → c + add p m < s.cost → Q (try_masks add ended budget next ms p c (next (p ++ (m ∷ [])) (c + add p m) (step s))))
      → (ended s.cost ≡ false → s.steps < budget → s.cost ≤ c + add p m → Q (try_masks add ended budget next ms p c (step s)))
      → Q (try_masks add ended budget next (m ∷ ms) p c s)
  by_tests Q end halt enter skip =
      by_test (ended s.cost)
      (λ d. rw (at_end d) (end d))
      (λ d. ⊎_elim
      (λ h. ⊎_elim
      (λ l. rw (at_enter d h l) (enter d h l))
      (λ l. rw (at_skip d h l) (skip d h l))
      (lt_or_ge (c + add p m) s.cost))
      (λ h. rw (at_stop d h) (halt d h))
      (lt_or_ge s.steps budget))

-- ---- Invariants

module _ (add : List ℕ → ℕ → ℕ) (ended : ℕ → Bool) (budget : ℕ) (next : Next) (Inv : State → Type 0)
    (stops : (s : State) → budget ≤ s.steps → Inv s → Inv (stop s))
    (steps : (s : State) → s.steps < budget → Inv s → Inv (step s)) where
  -- what a stop, a step and the next place keep, the masks of a place keep
  pub tries_keeps : (ms p : List ℕ) (c : ℕ) (s : State)
      → Each (λ m. (s : State) → c + add p m < s.cost → Inv s → Inv (next (p ++ (m ∷ [])) (c + add p m) s)) ms
      → Inv s → Inv (try_masks add ended budget next ms p c s)
  unfolding try_masks
  tries_keeps [] p c s e i = i
  tries_keeps (m ∷ ms) p c s e i =
      by_tests add ended budget next m ms p c s Inv
      (λ d. i)
      (λ d h. stops s h i)
      (λ d h l. tries_keeps ms p c (next (p ++ (m ∷ [])) (c + add p m) (step s)) e.1 (e.0 (step s) l (steps s h i)))
      (λ d h l. tries_keeps ms p c (step s) e.1 (steps s h i))

module _ (add : List ℕ → ℕ → ℕ) (cands : List ℕ → List ℕ) (ended : ℕ → Bool) (budget : ℕ) where
  -- what stopping and stepping keep of the steps and of whether the search was stopped, the search keeps
  pub search_meters : (Inv : ℕ → Bool → Type 0)
      → ((n : ℕ) (b : Bool) → budget ≤ n → Inv n b → Inv n true)
      → ((n : ℕ) (b : Bool) → n < budget → Inv n b → Inv (suc n) b)
      → (k : ℕ) (p : List ℕ) (c : ℕ) (s : State) → Inv s.steps s.stopped → Inv (search_places add cands ended budget k p c s).steps (search_places add cands ended budget k p c s).stopped
  unfolding search_places
  search_meters Inv stops steps zero p c s i = i
  search_meters Inv stops steps (suc k) p c s i =
      tries_keeps add ended budget (search_places add cands ended budget k) (λ r. Inv r.steps r.stopped) (λ r. stops r.steps r.stopped) (λ r. steps r.steps r.stopped) (cands p) p c s
      (each_all (λ m r l. search_meters Inv stops steps k (p ++ (m ∷ [])) (c + add p m) r) (cands p)) i

  -- What each place hands on to its candidates, the incumbent has: `Here left p c` is known where the masks so far are p, of cost c, with left places to come.
  pub search_passes : (Here : ℕ → List ℕ → ℕ → Type 0)
      → ((left : ℕ) (p : List ℕ) (c : ℕ) → Here (suc left) p c → Each (λ m. Here left (p ++ (m ∷ [])) (c + add p m)) (cands p))
      → (k : ℕ) (p : List ℕ) (c : ℕ) (s : State) → Here k p c → Here 0 s.incumbent s.cost → Here 0 (search_places add cands ended budget k p c s).incumbent (search_places add cands ended budget k p c s).cost
  unfolding search_places
  search_passes Here hands zero p c s h i = h
  search_passes Here hands (suc k) p c s h i =
      tries_keeps add ended budget (search_places add cands ended budget k) (λ r. Here 0 r.incumbent r.cost) (λ r _ j. j) (λ r _ j. j) (cands p) p c s
      (each_imp (λ m e r l. search_passes Here hands k (p ++ (m ∷ [])) (c + add p m) r e) (cands p) (hands k p c h)) i

-- one mask more adds what it costs
pub total_snoc : (add : List ℕ → ℕ → ℕ) (p : List ℕ) (c : ℕ) (q : List ℕ) (m : ℕ) → total_after add p c (q ++ (m ∷ [])) ≡ total_after add p c q + add (p ++ q) m
unfolding total_after
total_snoc add p c [] m = rw (append-nil p)
total_snoc add p c (x ∷ q) m = total_snoc add (p ++ (x ∷ [])) (c + add p x) q m ∙ ap (λ (l : List ℕ). total_after add (p ++ (x ∷ [])) (c + add p x) q + add l m) (append_assoc p (x ∷ []) q)

-- the state's cost is that of the incumbent's masks
abbrev pub Priced : (List ℕ → ℕ → ℕ) → State → Type 0
Priced add s = s.cost ≡ total add s.incumbent

module _ (add : List ℕ → ℕ → ℕ) (cands : List ℕ → List ℕ) (ended : ℕ → Bool) (budget : ℕ) where
  -- the state's cost stays that of the incumbent's masks
  pub search_priced : (k : ℕ) (p : List ℕ) (c : ℕ) (s : State) → c ≡ total add p → Priced add s → Priced add (search_places add cands ended budget k p c s)
  search_priced =
      search_passes add cands ended budget (λ left p c. c ≡ total add p)
      (λ left p c e. each_all (λ m. ap (λ (x : ℕ). x + add p m) e ∙ sym (total_snoc add [] 0 p m)) (cands p))

  -- the incumbent has a mask for each place
  pub search_length : {n : ℕ} (k : ℕ) (p : List ℕ) (c : ℕ) (s : State) → length p + k ≡ n → length s.incumbent ≡ n → length (search_places add cands ended budget k p c s).incumbent ≡ n
  search_length {n} k p c s e i =
      let r = search_passes add cands ended budget (λ left p c. length p + left ≡ n) (λ left p c e. each_all (λ m. omega (arith, length-append p (m ∷ []))) (cands p)) k p c s e (omega arith) in
      omega arith

  -- a search that was stopped stays so
  pub search_sticks : (k : ℕ) (p : List ℕ) (c : ℕ) (s : State) → s.stopped ≡ true → (search_places add cands ended budget k p c s).stopped ≡ true
  search_sticks = search_meters add cands ended budget (λ n b. b ≡ true) (λ n b h i. refl) (λ n b h i. i)

-- ---- The cost never rises

module _ (add : List ℕ → ℕ → ℕ) (ended : ℕ → Bool) (budget : ℕ) (next : Next) (falls : (p : List ℕ) (c : ℕ) (s : State) → c ≤ s.cost → (next p c s).cost ≤ s.cost) where
  -- the masks of a place do not raise it, if what comes after them does not
  pub tries_falls : (ms p : List ℕ) (c : ℕ) (s : State) → (try_masks add ended budget next ms p c s).cost ≤ s.cost
  tries_falls ms p c s =
      tries_keeps add ended budget next (λ r. r.cost ≤ s.cost) (λ r h i. i) (λ r h i. i) ms p c s
      (each_all (λ m r l i. le_trans (falls (p ++ (m ∷ [])) (c + add p m) r (le_of_lt l)) i) ms) (le_refl s.cost)

module _ (add : List ℕ → ℕ → ℕ) (cands : List ℕ → List ℕ) (ended : ℕ → Bool) (budget : ℕ) where
  -- the search does not raise it, if it starts at a cost no higher
  pub search_falls : (k : ℕ) (p : List ℕ) (c : ℕ) (s : State) → c ≤ s.cost → (search_places add cands ended budget k p c s).cost ≤ s.cost
  unfolding search_places
  search_falls zero p c s h = h
  search_falls (suc k) p c s h = tries_falls add ended budget (search_places add cands ended budget k) (search_falls k) (cands p) p c s

-- ---- A stopped search

-- a step was due beyond the budget, so none is taken any more
pub record Stopped (budget steps : ℕ) (stopped : Bool) : Type 0 where
  pub over : stopped ≡ true
  pub spent : budget ≤ steps

-- a stopped state is the last, whatever masks are left
pub tries_stopped : (add : List ℕ → ℕ → ℕ) (ended : ℕ → Bool) (budget : ℕ) (next : Next) (ms p : List ℕ) (c : ℕ) (s : State) → Stopped budget s.steps s.stopped → try_masks add ended budget next ms p c s ≡ s
unfolding try_masks
tries_stopped add ended budget next [] p c s h = refl
tries_stopped add ended budget next (m ∷ ms) p c s h =
    by_test (ended s.cost)
    (at_end add ended budget next m ms p c s)
    (λ d. at_stop add ended budget next m ms p c s d h.spent ∙ ap (λ (b : Bool). state s.steps b s.cost s.incumbent) (sym h.over))

-- with a place left, the search returns it as it is
pub search_stopped : (add : List ℕ → ℕ → ℕ) (cands : List ℕ → List ℕ) (ended : ℕ → Bool) (budget k : ℕ) (p : List ℕ) (c : ℕ) (s : State) → Stopped budget s.steps s.stopped → search_places add cands ended budget (suc k) p c s ≡ s
unfolding search_places
search_stopped add cands ended budget k p c s = tries_stopped add ended budget (search_places add cands ended budget k) (cands p) p c s

-- ---- A search that has ended

-- an ended state is the last, whatever masks are left
pub tries_ended : (add : List ℕ → ℕ → ℕ) (ended : ℕ → Bool) (budget : ℕ) (next : Next) (ms p : List ℕ) (c : ℕ) (s : State) → ended s.cost ≡ true → try_masks add ended budget next ms p c s ≡ s
unfolding try_masks
tries_ended add ended budget next [] p c s d = refl
tries_ended add ended budget next (m ∷ ms) p c s d = at_end add ended budget next m ms p c s d

-- a search whose first assignment costs what it ends at takes no step
pub first_ended : (add : List ℕ → ℕ → ℕ) (cands : List ℕ → List ℕ) (ended : ℕ → Bool) (budget : ℕ) (pick : List ℕ → ℕ) (k steps : ℕ) (stopped : Bool)
    → let first = first_after pick k [] in
    ended (total add first) ≡ true → search_places add cands ended budget k [] 0 (state steps stopped (total add first) first) ≡ state steps stopped (total add first) first
unfolding search_places first_after total_after
first_ended add cands ended budget pick zero steps stopped d = refl
first_ended add cands ended budget pick (suc k) steps stopped d =
    tries_ended add ended budget (search_places add cands ended budget k) (cands []) [] 0 (state steps stopped (total add (first_after pick (suc k) [])) (first_after pick (suc k) [])) d

-- ---- A search that was not stopped

-- each mask of q is among the candidates after p and the masks of q before it
abbrev pub Allowed : (List ℕ → List ℕ) → List ℕ → List ℕ → Type 0
Allowed cands p [] = Unit {0}
Allowed cands p (m ∷ q) = Memᴰ m (cands p) × Allowed cands (p ++ (m ∷ [])) q

-- an added cost is no less than nothing
pub total_least : (add : List ℕ → ℕ → ℕ) (p : List ℕ) (c : ℕ) (q : List ℕ) → c ≤ total_after add p c q
unfolding total_after
total_least add p c [] = le_refl c
total_least add p c (m ∷ q) = let r : c + add p m ≤ total_after add (p ++ (m ∷ [])) (c + add p m) q = total_least add (p ++ (m ∷ [])) (c + add p m) q in omega arith

-- a cost to end at is no more than t
abbrev pub Sparing : (ℕ → Bool) → ℕ → Type 0
Sparing ended t = (x : ℕ) → ended x ≡ true → x ≤ t

-- the state, unless stopped, costs no more than t
abbrev Met : ℕ → State → Type 0
Met t s = s.stopped ≡ false → s.cost ≤ t

module _ (add : List ℕ → ℕ → ℕ) (cands : List ℕ → List ℕ) (ended : ℕ → Bool) (budget k : ℕ) (p : List ℕ) (c t : ℕ) where
  -- what is met stays met
  tries_met : (ms : List ℕ) (s : State) → Met t s → Met t (try_masks add ended budget (search_places add cands ended budget k) ms p c s)
  tries_met ms s =
      tries_keeps add ended budget (search_places add cands ended budget k) (Met t) (λ r h i e. clash refl e) (λ r h i. i) ms p c s
      (each_all (λ m r l i e. le_trans (search_falls add cands ended budget k (p ++ (m ∷ [])) (c + add p m) r (le_of_lt l)) (i (not_before (search_sticks add cands ended budget k (p ++ (m ∷ [])) (c + add p m) r) e))) ms)

  -- a mask that is tried is entered, and then t is met, or it costs no less than the incumbent; and t is met where the search ends early
  tries_best : Sparing ended t → {m : ℕ} {ms : List ℕ} → Memᴰ m ms → ((s : State) → Met t (search_places add cands ended budget k (p ++ (m ∷ [])) (c + add p m) s)) → c + add p m ≤ t
      → (s : State) → Met t (try_masks add ended budget (search_places add cands ended budget k) ms p c s)
  tries_best ends {m} (Memᴰ.head {xs = ms} e) met le s =
      rw (← e)
      (by_tests add ended budget (search_places add cands ended budget k) m ms p c s (Met t)
      (λ d e. ends s.cost d)
      (λ d h e. clash refl e)
      (λ d h l. tries_met ms (search_places add cands ended budget k (p ++ (m ∷ [])) (c + add p m) (step s)) (met (step s)))
      (λ d h l. tries_met ms (step s) (λ e. le_trans l le)))
  tries_best ends {m} (Memᴰ.tail {x = x} {xs = ms} i) met le s =
      by_tests add ended budget (search_places add cands ended budget k) x ms p c s (Met t)
      (λ d e. ends s.cost d)
      (λ d h e. clash refl e)
      (λ d h l. tries_best ends i met le (search_places add cands ended budget k (p ++ (x ∷ [])) (c + add p x) (step s)))
      (λ d h l. tries_best ends i met le (step s))

module _ (add : List ℕ → ℕ → ℕ) (cands : List ℕ → List ℕ) (ended : ℕ → Bool) (budget : ℕ) where
  -- a search that was not stopped holds nothing that costs more than an assignment that the candidates allow, if it ends early at no higher cost only
  pub best : (q p : List ℕ) (c : ℕ) (s : State) → Allowed cands p q → Sparing ended (total_after add p c q)
      → (search_places add cands ended budget (length q) p c s).stopped ≡ false → (search_places add cands ended budget (length q) p c s).cost ≤ total_after add p c q
  unfolding search_places total_after
  best [] p c s al ends = λ e. le_refl c
  best (m ∷ q) p c s al ends =
      tries_best add cands ended budget (length q) p c (total_after add (p ++ (m ∷ [])) (c + add p m) q) ends al.0
      (λ r. best q (p ++ (m ∷ [])) (c + add p m) r al.1 ends) (total_least add (p ++ (m ∷ [])) (c + add p m) q) s

-- ---- The cheapest number, and the first assignment

module _ (f : ℕ → ℕ) where
  -- what one number more does
  cheapest_cases : (Q : ℕ → Type 0) (k : ℕ) → (f k < f (cheapest f k) → Q k) → (f (cheapest f k) ≤ f k → Q (cheapest f k)) → Q (cheapest f (suc k))
  unfolding cheapest
  cheapest_cases Q k new old = ⊎_elim
      (λ l. rw (lt-ltb (f k) (f (cheapest f k)) l) (new l))
      (λ l. rw (le-ltb (f k) (f (cheapest f k)) l) (old l))
      (lt_or_ge (f k) (f (cheapest f k)))

  -- it is one of the numbers
  pub cheapest_below : (k : ℕ) → 0 < k → cheapest f k < k
  unfolding cheapest
  cheapest_below zero h = absurd (not-suc-le-zero h)
  cheapest_below (suc zero) h = cheapest_cases (λ b. b < 1) 0 (λ l. h) (λ l. h)
  cheapest_below (suc (suc k)) h = cheapest_cases (λ b. b < suc (suc k)) (suc k) (λ l. omega arith) (λ l. omega (arith, cheapest_below (suc k) (omega arith)))

  -- at none is f less
  pub cheapest_least : (k j : ℕ) → j < k → f (cheapest f k) ≤ f j
  cheapest_least zero j h = absurd (not-suc-le-zero h)
  cheapest_least (suc k) j h = ⊎_elim
      (λ e. rw e (cheapest_cases (λ b. f b ≤ f k) k (λ l. le_refl (f k)) (λ l. l)))
      (λ g. cheapest_cases (λ b. f b ≤ f j) k (λ l. omega (arith, cheapest_least k j g)) (λ l. cheapest_least k j g))
      (eq-or-lt_of_le (le_of_suc-le-suc h))

  -- on a tie it is the lowest
  pub cheapest_lowest : (k j : ℕ) → j < cheapest f k → f (cheapest f k) < f j
  unfolding cheapest
  cheapest_lowest zero j h = absurd (not-suc-le-zero h)
  cheapest_lowest (suc k) j h = cheapest_cases (λ b. j < b → f b < f j) k (λ l g. omega (arith, cheapest_least k j g)) (λ l. cheapest_lowest k j) h

module _ (pick : List ℕ → ℕ) where
  -- What each place hands on with the mask picked for it, the first assignment has: `Here left p` is known where the masks so far are p, with left places to come.
  pub first_passes : (Here : ℕ → List ℕ → Type 0) → ((left : ℕ) (p : List ℕ) → Here (suc left) p → Here left (p ++ (pick p ∷ [])))
      → (k : ℕ) (p : List ℕ) → Here k p → Here 0 (first_after pick k p)
  unfolding first_after
  first_passes Here hands zero p h = h
  first_passes Here hands (suc k) p h = first_passes Here hands k (p ++ (pick p ∷ [])) (hands k p h)

  -- it has a mask for each place
  pub first_length : (k : ℕ) (p : List ℕ) → length (first_after pick k p) ≡ length p + k
  first_length k p =
      let r = first_passes (λ left q. length q + left ≡ length p + k) (λ left q e. omega (arith, length-append q (pick q ∷ []))) k p refl in
      omega arith
