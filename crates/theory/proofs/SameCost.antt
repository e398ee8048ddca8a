-- The search of n places looks at what masks add after fewer than n places alone. So two added costs that agree there give the same first assignment, the same
-- total and the same search.
use mathlib.Core.Bool.{Bool, cond}
use mathlib.Core.List.{List, [], ◌∷◌, ◌++◌}
use mathlib.Core.Logic.{⊎_elim}
use mathlib.Core.Path.{◌≡◌, refl, sym, ap, ◌∙◌}
use Prim.Native.Nat.{ℕ, zero, suc, ◌+◌, ◌≤◌, ◌<◌}
use native.Mathlib.Omega.{arith}
use lib.ListN.{length, length-append}
use Rattle.rules.specs.Search.{cheapest, first_after, first_mask, total, total_after, State, state, step, Next, try_masks, search_places}
use Rattle.rules.specs.Peeling.{is_fixed}
use Rattle.rules.proofs.Tests.{by_test, lt_or_ge}
use Rattle.theory.proofs.Search.{at_end, at_stop, at_enter, at_skip, first_length}

longer : (p : List ℕ) (m : ℕ) → length (p ++ (m ∷ [])) ≡ suc (length p)
longer p m = length-append p (m ∷ []) ∙ omega arith

module _ (add add' : List ℕ → ℕ → ℕ) (n : ℕ) (same : (p : List ℕ) (m : ℕ) → length p < n → add p m ≡ add' p m) where
  first_alike : (K : ℕ) (fixed : ℕ → ℕ) (left : ℕ) (p : List ℕ) → length p + left ≡ n → first_after (first_mask add K fixed) left p ≡ first_after (first_mask add' K fixed) left p
  unfolding first_after first_mask
  first_alike K fixed zero p e = refl
  first_alike K fixed (suc left) p e =
      let pick = first_mask add' K fixed p in
      let here : first_mask add K fixed p ≡ pick = λ i. cond (is_fixed fixed (length p)) (fixed (length p)) (cheapest (λ m. same p m (omega arith) i) K) in
      ap (λ (m : ℕ). first_after (first_mask add K fixed) left (p ++ (m ∷ []))) here ∙ first_alike K fixed left (p ++ (pick ∷ [])) (omega (arith, longer p pick))

  total_alike : (p : List ℕ) (c : ℕ) (q : List ℕ) → length p + length q ≤ n → total_after add p c q ≡ total_after add' p c q
  unfolding total_after
  total_alike p c [] h = refl
  total_alike p c (m ∷ q) h =
      ap (λ (x : ℕ). total_after add (p ++ (m ∷ [])) (c + x) q) (same p m (omega arith)) ∙ total_alike (p ++ (m ∷ [])) (c + add' p m) q (omega (arith, longer p m))

  module _ (ended : ℕ → Bool) (budget : ℕ) where
    try_alike : (next next' : Next) (ms p : List ℕ) (c : ℕ) (s : State) → length p < n → ((q : List ℕ) (d : ℕ) (t : State) → length q ≡ suc (length p) → next q d t ≡ next' q d t)
        → try_masks add ended budget next ms p c s ≡ try_masks add' ended budget next' ms p c s
    unfolding try_masks
    try_alike next next' [] p c s h e = refl
    try_alike next next' (m ∷ ms) p c s h e =
        let adds = same p m h in
        by_test (ended s.cost)
        (λ d. at_end add ended budget next m ms p c s d ∙ sym (at_end add' ended budget next' m ms p c s d))
        (λ d. ⊎_elim
        (λ within. ⊎_elim
        (λ (cheap : c + add p m < s.cost).
        at_enter add ended budget next m ms p c s d within cheap
        ∙ ap (λ (x : ℕ). try_masks add ended budget next ms p c (next (p ++ (m ∷ [])) (c + x) (step s))) adds
        ∙ ap (try_masks add ended budget next ms p c) (e (p ++ (m ∷ [])) (c + add' p m) (step s) (longer p m))
        ∙ try_alike next next' ms p c (next' (p ++ (m ∷ [])) (c + add' p m) (step s)) h e
        ∙ sym (at_enter add' ended budget next' m ms p c s d within (omega arith)))
        (λ (dear : s.cost ≤ c + add p m).
        at_skip add ended budget next m ms p c s d within dear ∙ try_alike next next' ms p c (step s) h e ∙ sym (at_skip add' ended budget next' m ms p c s d within (omega arith)))
        (lt_or_ge (c + add p m) s.cost))
        (λ spent. at_stop add ended budget next m ms p c s d spent ∙ sym (at_stop add' ended budget next' m ms p c s d spent))
        (lt_or_ge s.steps budget))

    search_alike : (cands : List ℕ → List ℕ) (left : ℕ) (p : List ℕ) (c : ℕ) (s : State) → length p + left ≡ n
        → search_places add cands ended budget left p c s ≡ search_places add' cands ended budget left p c s
    unfolding search_places
    search_alike cands zero p c s e = refl
    search_alike cands (suc left) p c s e =
        try_alike (search_places add cands ended budget left) (search_places add' cands ended budget left) (cands p) p c s (omega arith) (λ q d t f. search_alike cands left q d t (omega arith))

    -- from the first assignment on
    pub from_alike : (K : ℕ) (fixed : ℕ → ℕ) (cands : List ℕ → List ℕ) (steps : ℕ) (stopped : Bool)
        → let first = first_after (first_mask add K fixed) n [] in
        let first' = first_after (first_mask add' K fixed) n [] in
        search_places add cands ended budget n [] 0 (state steps stopped (total add first) first) ≡ search_places add' cands ended budget n [] 0 (state steps stopped (total add' first') first')
    from_alike K fixed cands steps stopped =
        let none : length {A = ℕ} [] + n ≡ n = omega arith in
        let first = first_alike K fixed n [] none in
        let first' = first_after (first_mask add' K fixed) n [] in
        let cost : total add first' ≡ total add' first' = total_alike [] 0 first' (omega (arith, first_length (first_mask add' K fixed) n [])) in
        search_alike cands n [] 0 _ none ∙ rw (first, cost)
