-- What an early end changes: steps and stops only. If no assignment that the candidates allow falls below a cost to end at, the search that ends there has the
-- incumbent and the cost of the search that goes on, at any budget (`early_same`). So it is where the library ends the search of a component (`from_early`).
-- Assumes nothing.
use mathlib.Core.Bool.{Bool, true}
use mathlib.Core.List.{List, [], ◌∷◌, ◌++◌}
use mathlib.Core.Path.{◌≡◌, refl, sym, ap, ◌∙◌}
use mathlib.Core.Option.{none}
use mathlib.Core.Logic.{◌⊎◌, inl, inr}
use Prim.Native.Nat.{ℕ, zero, suc, ◌+◌, ◌≤◌, ◌<◌}
use native.Mathlib.Nat.{le_refl, zero-add}
use native.Mathlib.Omega.{arith}
use lib.ListN.{length, length-append}
use Rattle.rules.specs.Edges.{Graph}
use Rattle.rules.specs.Peeling.{is_fixed}
use Rattle.rules.specs.Search.{added, candidates_in, total_after, State, step, try_masks, search_places, at_bound, search_from}
use Rattle.rules.proofs.Lists.{◌∈◌, here, later}
use Rattle.theory.proofs.Each.{Each, each_in, each_has}
use Rattle.theory.proofs.Search.{at_end, at_stop, at_enter, at_skip, by_tests, tries_keeps, Allowed, Sparing}
use Rattle.theory.proofs.Budget.{ends, start, search_until}
use Rattle.theory.proofs.Fixed.{May, candidates_may}
use Rattle.theory.proofs.Library.{library_spares}

-- y has gone on from x: the same incumbent, no fewer steps, stopped if x is
pub record Beyond (x y : State) : Type 0 where
  pub cost : y.cost ≡ x.cost
  pub incumbent : y.incumbent ≡ x.incumbent
  pub steps : x.steps ≤ y.steps
  pub stopped : x.stopped ≡ true → y.stopped ≡ true

pub beyond_refl : (x : State) → Beyond x x
beyond_refl x = record { cost = refl; incumbent = refl; steps = le_refl x.steps; stopped = λ e. e }

module _ (add : List ℕ → ℕ → ℕ) (cands : List ℕ → List ℕ) (ended : ℕ → Bool) where
  -- no k masks that the candidates allow after p, which costs c, fall below a cost to end at
  abbrev pub Floor : ℕ → List ℕ → ℕ → Type 0
  Floor k p c = (q : List ℕ) → length q ≡ k → Allowed cands p q → Sparing ended (total_after add p c q)

  -- so it is after one of the candidates
  floor_next : (k : ℕ) (p : List ℕ) (c : ℕ) → Floor (suc k) p c → (m : ℕ) → m ∈ cands p → Floor k (p ++ (m ∷ [])) (c + add p m)
  unfolding total_after
  floor_next k p c f m i q e a = f (m ∷ q) (ap suc e) (i, a)

  module _ (budget : ℕ) where
    -- from an end, the search that goes on finds nothing
    tries_on : (x : State) (k : ℕ) (p : List ℕ) (c : ℕ)
        → ((m : ℕ) → m ∈ cands p → (y : State) → c + add p m < y.cost → Beyond x y → Beyond x (search_places add cands (at_bound none) budget k (p ++ (m ∷ [])) (c + add p m) y))
        → (ms : List ℕ) → ((m : ℕ) → m ∈ ms → m ∈ cands p) → (y : State) → Beyond x y
        → Beyond x (try_masks add (at_bound none) budget (search_places add cands (at_bound none) budget k) ms p c y)
    tries_on x k p c on ms sub y =
        tries_keeps add (at_bound none) budget (search_places add cands (at_bound none) budget k) (Beyond x)
        (λ r h b. record { cost = b.cost; incumbent = b.incumbent; steps = b.steps; stopped = λ e. refl })
        (λ r h b. record { cost = b.cost; incumbent = b.incumbent; steps = omega (arith, b.steps); stopped = b.stopped }) ms p c y
        (each_in ms (λ m i. on m (sub m i)))

    goes_on : (x : State) → ended x.cost ≡ true → (k : ℕ) (p : List ℕ) (c : ℕ) → Floor k p c → (y : State) → c < y.cost → Beyond x y
        → Beyond x (search_places add cands (at_bound none) budget k p c y)
    unfolding search_places total_after
    goes_on x d zero p c f y l b = absurd (omega (arith, f [] refl tt x.cost d, b.cost))
    goes_on x d (suc k) p c f y l b = tries_on x k p c (λ m i. goes_on x d k (p ++ (m ∷ [])) (c + add p m) (floor_next k p c f m i)) (cands p) (λ m i. i) y b

    -- the two are at one state, or the first has ended and the second has gone on
    abbrev Along : State → State → Type 0
    Along x y = (x ≡ y) ⊎ ((ended x.cost ≡ true) × Beyond x y)

    tries_along : (k : ℕ) (p : List ℕ) (c : ℕ) → Floor (suc k) p c
        → ((m : ℕ) → m ∈ cands p → (s : State) → Along (search_places add cands ended budget k (p ++ (m ∷ [])) (c + add p m) s) (search_places add cands (at_bound none) budget k (p ++ (m ∷ [])) (c + add p m) s))
        → (ms : List ℕ) → ((m : ℕ) → m ∈ ms → m ∈ cands p) → (x y : State) → Along x y
        → Along (try_masks add ended budget (search_places add cands ended budget k) ms p c x) (try_masks add (at_bound none) budget (search_places add cands (at_bound none) budget k) ms p c y)
    unfolding try_masks
    tries_along k p c f next [] sub x y a = a
    tries_along k p c f next (m ∷ ms) sub x y (inr a) =
        rw (at_end add ended budget (search_places add cands ended budget k) m ms p c x a.0) (inr (a.0, tries_on x k p c (λ m i. goes_on x a.0 k (p ++ (m ∷ [])) (c + add p m) (floor_next k p c f m i)) (m ∷ ms) sub y a.1))
    tries_along k p c f next (m ∷ ms) sub x y (inl e) =
        rw (← e)
        (by_tests add ended budget (search_places add cands ended budget k) m ms p c x
        (λ r. Along r (try_masks add (at_bound none) budget (search_places add cands (at_bound none) budget k) (m ∷ ms) p c x))
        (λ d. inr (d, tries_on x k p c (λ m i. goes_on x d k (p ++ (m ∷ [])) (c + add p m) (floor_next k p c f m i)) (m ∷ ms) sub x (beyond_refl x)))
        (λ d h. inl (sym (at_stop add (at_bound none) budget (search_places add cands (at_bound none) budget k) m ms p c x refl h)))
        (λ d h l. rw (at_enter add (at_bound none) budget (search_places add cands (at_bound none) budget k) m ms p c x refl h l)
        (tries_along k p c f next ms (λ j i. sub j (later i)) (search_places add cands ended budget k (p ++ (m ∷ [])) (c + add p m) (step x))
        (search_places add cands (at_bound none) budget k (p ++ (m ∷ [])) (c + add p m) (step x)) (next m (sub m (here refl)) (step x))))
        (λ d h l. rw (at_skip add (at_bound none) budget (search_places add cands (at_bound none) budget k) m ms p c x refl h l)
        (tries_along k p c f next ms (λ j i. sub j (later i)) (step x) (step x) (inl refl))))

    search_along : (k : ℕ) (p : List ℕ) (c : ℕ) → Floor k p c → (s : State) → Along (search_places add cands ended budget k p c s) (search_places add cands (at_bound none) budget k p c s)
    unfolding search_places
    search_along zero p c f s = inl refl
    search_along (suc k) p c f s =
        tries_along k p c f (λ m i r. search_along k (p ++ (m ∷ [])) (c + add p m) (floor_next k p c f m i) r) (cands p) (λ m i. i) s s (inl refl)

    -- the search that ends early, and the one that goes on
    pub early_same : (k : ℕ) (p : List ℕ) (c : ℕ) → Floor k p c → (s : State) → Beyond (search_places add cands ended budget k p c s) (search_places add cands (at_bound none) budget k p c s)
    early_same k p c f s = along-beyond (search_along k p c f s)
      where
        along-beyond : {x y : State} → Along x y → Beyond x y
        along-beyond {x} (inl e) = rw (← e) (beyond_refl x)
        along-beyond (inr a) = a.1

-- ---- The search of a component

module _ (K weight : ℕ) (g : Graph) (fixed : ℕ → ℕ) (k : ℕ) (some : 0 < K) (low : (i : ℕ) → i < k → is_fixed fixed i ≡ true → fixed i < K) where
  allowed_below : (p q : List ℕ) → length p + length q ≡ k → Allowed (candidates_in K fixed k) p q → Each (λ m. m < K) q
  allowed_below p [] e a = tt
  allowed_below p (m ∷ q) e a =
      ((each_has (May K fixed (length p)) a.0 (candidates_may K some fixed k low p (omega arith))).below, allowed_below (p ++ (m ∷ [])) q (omega (arith, length-append p (m ∷ []))) a.1)

  -- where the library ends it early, it has the incumbent and the cost that it would have come to
  pub from_early : (budget steps : ℕ) (stopped : Bool)
      → Beyond (search_from K weight budget g fixed k steps stopped) (search_until (at_bound none) K weight budget g fixed k steps stopped)
  from_early budget steps stopped =
      early_same (added weight g) (candidates_in K fixed k) (ends K weight g fixed k) budget k [] 0
      (λ q e a. rw e at (library_spares K weight g fixed q (allowed_below [] q (zero-add (length q) ∙ e) a)))
      (start K weight g fixed k steps stopped)
