-- A search that counts a subtree without searching it, where the last mask entered at the same place had one alike that found nothing. It ends in the state in which
-- the search ends (`sibling_same`), over any added cost, any candidates and any costs to end at, for any test of likeness that is sound. In a component two masks of
-- a place are alike if as many masks are in use after both, or a place is fixed, and the place has no neighbour within the reach of the first one's subtree
-- (`sibling_from`).
use mathlib.Core.Bool.{Bool, true, false, ◌&&◌, ◌||◌}
use mathlib.Core.Path.{◌≡◌, refl, sym, ap, ◌∙◌}
use mathlib.Core.List.{List, [], ◌∷◌, ◌++◌}
use mathlib.Core.Logic.{⊎_elim}
use Prim.Native.Nat.{ℕ, zero, suc, ◌+◌, ◌-◌, ◌≤◌, ◌<◌, min, max}
use native.Mathlib.Nat.{le_refl, le_of_lt, zero-add, eq-or-lt_of_le, min-le_left}
use native.Mathlib.Omega.{arith}
use lib.Dec.{eqb, ltb}
use lib.ListN.{length, length-append}
use borrow.Author.Tests.{lt-ltb, le-ltb, ltb-true, eqb-true}
use Rattle.rules.specs.Basics.{up_to, any_of}
use Rattle.rules.specs.Edges.{Graph}
use Rattle.rules.specs.Peeling.{is_fixed}
use Rattle.rules.specs.Search.{added, different, candidates, candidates_in, State, stop, step, hold, try_masks, search_places, search_from}
use Rattle.rules.proofs.Lists.{any_out, in_up_to}
use Rattle.rules.proofs.Tests.{clash, lt_or_ge, both, or_either, by_test}
use Rattle.theory.proofs.Each.{Each, each_run, each_in, each_has}
use Rattle.theory.proofs.Search.{at_end, at_stop, at_enter, at_skip, search_falls, tries_falls}
use Rattle.theory.proofs.Budget.{search_within, tries_rises, ends, start}
use Rattle.theory.proofs.Trace.{Trace, trace, trace_masks, trace_places, slack_enter, slack_skip, run, trace_run, run_trace, Alike, local}
use Rattle.theory.proofs.Fixed.{candidates_free}
use Rattle.theory.proofs.Renaming.{Used, used_none, used_old, used_new}
use Rattle.theory.proofs.Frontier.{Unjoined, used_same, facing_alike, siblings}

-- ---- The search

-- where a search stands, and the last place that it looked at
pub record Walk : Type 0 where
  pub state : State
  pub reach : ℕ

abbrev pub walk : State → ℕ → Walk
walk s d = record { state = s; reach = d }

-- no less far than d
abbrev pub as_far : ℕ → Walk → Walk
as_far d w = walk w.state (max d w.reach)

-- the last mask entered at a place: whether it found nothing, and then its cost, and the steps and the reach of its subtree
pub record Last : Type 0 where
  pub known : Bool
  pub mask : ℕ
  pub cost : ℕ
  pub steps : ℕ
  pub reach : ℕ

abbrev pub nothing : Last
nothing = record { known = false; mask = 0; cost = 0; steps = 0; reach = 0 }

-- mask m of cost t was entered from the state s, and w is how its subtree ended
abbrev pub remember : ℕ → ℕ → State → Walk → Last
remember m t s w = record { known = eqb w.state.cost s.cost; mask = m; cost = t; steps = w.state.steps - suc s.steps; reach = w.reach }

-- whether two masks are alike after some masks, as far as a place
abbrev pub Likeness : Type 0
Likeness = List ℕ → ℕ → ℕ → ℕ → Bool

-- mask m of cost t after p is like the last one
abbrev pub repeats : Likeness → Last → List ℕ → ℕ → ℕ → Bool
repeats like l p m t = l.known && (eqb t l.cost && like p l.mask m l.reach)

module _ (add : List ℕ → ℕ → ℕ) (like : Likeness) (ended : ℕ → Bool) (budget : ℕ) where
  -- the masks ms after p, as in `try_masks`
  unfoldable pub sibling_masks : (List ℕ → ℕ → State → Walk) → Last → List ℕ → List ℕ → ℕ → State → Walk
  sibling_masks next l [] p c s = walk s (length p)
  sibling_masks next l (m ∷ ms) p c s = elim (ended s.cost) [
    | true ↦ walk s (length p)
    | false ↦ elim (ltb s.steps budget) [
      | false ↦ walk (stop s) (length p)
      | true ↦ elim (ltb (c + add p m) s.cost) [
        | true ↦ elim (repeats like l p m (c + add p m)) [
          | true ↦ as_far l.reach (sibling_masks next l ms p c (run budget l.steps (step s)))
          | false ↦
              let w = next (p ++ (m ∷ [])) (c + add p m) (step s) in
              as_far w.reach (sibling_masks next (remember m (c + add p m) s w) ms p c w.state)
        ]
        | false ↦ sibling_masks next l ms p c (step s)
      ]
    ]
  ]

module _ (add : List ℕ → ℕ → ℕ) (cands : List ℕ → List ℕ) (like : Likeness) (ended : ℕ → Bool) (budget : ℕ) where
  -- the places left after p, as in `search_places`
  unfoldable pub sibling_places : ℕ → List ℕ → ℕ → State → Walk
  sibling_places zero p c s = walk (hold p c s) (length p)
  sibling_places (suc left) p c s = sibling_masks add like ended budget (sibling_places left) nothing (cands p) p c s

-- ---- It does what the search does

-- What w is to the state x, to which the search comes from a state of cost b, and to the trace t: the same state; and as far as the trace, if b is no cost to end
-- at, the budget was not used up and the cost is still b.
pub record Agrees (ended : ℕ → Bool) (budget : ℕ) (w : Walk) (x : State) (t : Trace) (b : ℕ) : Type 0 where
  pub same : w.state ≡ x
  pub far : ended b ≡ false → x.steps < budget → x.cost ≡ b → w.reach ≡ t.reach

-- ---- One mask

module _ (add : List ℕ → ℕ → ℕ) (cands : List ℕ → List ℕ) (ended : ℕ → Bool) (budget k : ℕ) where
  -- w is what the search over k places after p, which costs c, comes to
  abbrev pub Entered : Walk → List ℕ → ℕ → State → Type 0
  Entered w p c s = Agrees ended budget w (search_places add cands ended budget k p c s) (trace_places add cands k p (s.cost - c)) s.cost

  -- w is what the masks ms after p come to, with k places after them
  abbrev pub Tried : Walk → List ℕ → List ℕ → ℕ → State → Type 0
  Tried w ms p c s =
      Agrees ended budget w (try_masks add ended budget (search_places add cands ended budget k) ms p c s) (trace_masks add (trace_places add cands k) ms p (s.cost - c)) s.cost

  module _ (m : ℕ) (ms p : List ℕ) (c : ℕ) (s : State) where
    -- the incumbent's cost is one to end at
    pub tried_end : (d : ℕ) → ended s.cost ≡ true → Tried (walk s d) (m ∷ ms) p c s
    tried_end d t = rw (at_end add ended budget (search_places add cands ended budget k) m ms p c s t) (record { same = refl; far = λ o. clash t o })

    module _ (o : ended s.cost ≡ false) where
      -- the budget is used up
      pub tried_stop : (d : ℕ) → budget ≤ s.steps → Tried (walk (stop s) d) (m ∷ ms) p c s
      tried_stop d h = rw (at_stop add ended budget (search_places add cands ended budget k) m ms p c s o h) (record { same = refl; far = λ _ g e. absurd (omega arith) })

      module _ (h : s.steps < budget) where
        -- the mask's cost does not stay below the incumbent's
        pub tried_skip : {w : Walk} → s.cost ≤ c + add p m → Tried w ms p c (step s) → Tried w (m ∷ ms) p c s
        tried_skip e r =
            rw (at_skip add ended budget (search_places add cands ended budget k) m ms p c s o h e, slack_skip add (trace_places add cands k) m ms p c s.cost e)
            (record { same = r.same; far = r.far })

        module _ (e : c + add p m < s.cost) where
          -- it does, and the trace of its subtree, which finds nothing, is known
          pub tried_again : {w : Walk} (n d : ℕ) → trace_places add cands k (p ++ (m ∷ [])) (s.cost - (c + add p m)) ≡ trace n false d
              → Tried w ms p c (run budget n (step s)) → Tried (as_far d w) (m ∷ ms) p c s
          tried_again n d child r =
              let y : search_places add cands ended budget k (p ++ (m ∷ [])) (c + add p m) (step s) ≡ run budget n (step s)
              = rw child at (trace_run add cands ended budget k (p ++ (m ∷ [])) (c + add p m) (step s) o h (ap (λ (t : Trace). t.found) child)) in
              rw (
                at_enter add ended budget (search_places add cands ended budget k) m ms p c s o h e,
                y,
                slack_enter add (trace_places add cands k) m ms p c s.cost e,
                child,
              )
              (record { same = r.same; far = λ o g q. ap (max d) (r.far o g q) })

          -- it does, and its subtree is searched
          pub tried_enter : {w : Walk} (y : Walk) → Entered y (p ++ (m ∷ [])) (c + add p m) (step s) → Tried w ms p c y.state → Tried (as_far y.reach w) (m ∷ ms) p c s
          tried_enter {w} y a r =
              let z = search_places add cands ended budget k (p ++ (m ∷ [])) (c + add p m) (step s) in
              let g : Tried w ms p c z = rw a.same at r in
              rw (at_enter add ended budget (search_places add cands ended budget k) m ms p c s o h e, slack_enter add (trace_places add cands k) m ms p c s.cost e)
              (record {
                same = g.same;
                far = λ o b q.
                    let cost : z.cost ≡ s.cost
                    = omega (
                      arith,
                      q,
                      search_falls add cands ended budget k (p ++ (m ∷ [])) (c + add p m) (step s) (le_of_lt e),
                      tries_falls add ended budget (search_places add cands ended budget k) (search_falls add cands ended budget k) ms p c z,
                    ) in
                    rw (a.far o (omega (arith, tries_rises add cands ended budget k ms p c z)) cost, g.far (rw cost o) b (q ∙ sym cost), cost);
              })

-- ---- What is remembered

-- Masks of which `Here` is known, and which pass the test of likeness as far as the place d, do the same as far as d.
abbrev pub Sound : (List ℕ → ℕ → ℕ) → (List ℕ → List ℕ) → Likeness → (List ℕ → Type 0) → Type 0
Sound add cands like Here =
    (p : List ℕ) (m m' d : ℕ) → Here (p ++ (m ∷ [])) → Here (p ++ (m' ∷ [])) → like p m m' d ≡ true → (r : ℕ) → Alike add cands r d (p ++ (m ∷ [])) (p ++ (m' ∷ []))

module _ (add : List ℕ → ℕ → ℕ) (cands : List ℕ → List ℕ) (budget k : ℕ) (Here : List ℕ → Type 0) where
  -- what is remembered is so, unless the budget is used up
  pub record Valid (l : Last) (p : List ℕ) (s : State) : Type 0 where
    pub here : l.known ≡ true → Here (p ++ (l.mask ∷ []))
    pub told : s.steps < budget → l.known ≡ true → trace_places add cands k (p ++ (l.mask ∷ [])) (s.cost - l.cost) ≡ trace l.steps false l.reach

  -- it is so of a mask of cost t that was entered
  pub remembered : (ended : ℕ → Bool) (m : ℕ) (p : List ℕ) (t : ℕ) (s : State) (y : Walk) → ended s.cost ≡ false → s.steps < budget → t < s.cost → Here (p ++ (m ∷ []))
      → Entered add cands ended budget k y (p ++ (m ∷ [])) t (step s) → Valid (remember m t s y) p y.state
  remembered ended m p t s y o h e i a =
      let z = search_places add cands ended budget k (p ++ (m ∷ [])) t (step s) in
      let x = trace_places add cands k (p ++ (m ∷ [])) (s.cost - t) in
      rw a.same (record {
        here = λ _. i;
        told = λ g q.
            let cost : z.cost ≡ s.cost = eqb-true z.cost s.cost q in
            let none : x.found ≡ false = run_trace add cands ended budget k (p ++ (m ∷ [])) t (step s) o e g cost in
            let ran = trace_run add cands ended budget k (p ++ (m ∷ [])) t (step s) o h none in
            let n : x.steps ≡ z.steps - suc s.steps = omega (arith, ap (λ (r : State). r.steps) ran) in
            rw (cost, a.far o g cost, ← n, ← none);
      })

  -- it tells what a mask like it does
  pub told_again : (like : Likeness) → Sound add cands like Here → (l : Last) (m : ℕ) (p : List ℕ) (t : ℕ) (s : State) → Valid l p s → s.steps < budget → Here (p ++ (m ∷ []))
      → repeats like l p m t ≡ true → trace_places add cands k (p ++ (m ∷ [])) (s.cost - t) ≡ trace l.steps false l.reach
  told_again like sound l m p t s v h i r =
      let known = both l.known (eqb t l.cost && like p l.mask m l.reach) r in
      let alike = both (eqb t l.cost) (like p l.mask m l.reach) known.1 in
      let told = v.told h known.0 in
      let slack = s.cost - l.cost in
      rw (eqb-true t l.cost alike.0)
      (local add cands slack l.reach k (p ++ (l.mask ∷ [])) (p ++ (m ∷ [])) slack (le_refl slack) (sound p l.mask m l.reach (v.here known.0) i alike.1 slack) (rw told (le_refl l.reach))
      ∙ told)

-- ---- The search ends in the same state

module _ (add : List ℕ → ℕ → ℕ) (like : Likeness) (ended : ℕ → Bool) (budget : ℕ) (next : List ℕ → ℕ → State → Walk) (l : Last) (m : ℕ) (ms p : List ℕ) (c : ℕ) (s : State) where
  -- what holds of each of the five outcomes of a mask holds of the walk
  sibling_tests : (Q : Walk → Type 0)
      → (ended s.cost ≡ true → Q (walk s (length p)))
      → (ended s.cost ≡ false → budget ≤ s.steps → Q (walk (stop s) (length p)))
      → (ended s.cost ≡ false → s.steps < budget → s.cost ≤ c + add p m → Q (sibling_masks add like ended budget next l ms p c (step s)))
      → (ended s.cost ≡ false → s.steps < budget → c + add p m < s.cost → repeats like l p m (c + add p m) ≡ true
      → Q (as_far l.reach (sibling_masks add like ended budget next l ms p c (run budget l.steps (step s)))))
      → (ended s.cost ≡ false → s.steps < budget → c + add p m < s.cost
      → let w = next (p ++ (m ∷ [])) (c + add p m) (step s) in
      Q (as_far w.reach (sibling_masks add like ended budget next (remember m (c + add p m) s w) ms p c w.state)))
      → Q (sibling_masks add like ended budget next l (m ∷ ms) p c s)
  unfolding sibling_masks
  sibling_tests Q end halt skip again enter =
      by_test (ended s.cost)
      (λ d. rw (d, sibling_masks) (end d))
      (λ d. ⊎_elim
      (λ h. ⊎_elim
      (λ e. by_test (repeats like l p m (c + add p m))
      (λ r. rw (d, lt-ltb s.steps budget h, lt-ltb (c + add p m) s.cost e, r, sibling_masks) (again d h e r))
      (λ r. rw (d, lt-ltb s.steps budget h, lt-ltb (c + add p m) s.cost e, r, sibling_masks) (enter d h e)))
      (λ e. rw (d, lt-ltb s.steps budget h, le-ltb (c + add p m) s.cost e, sibling_masks) (skip d h e))
      (lt_or_ge (c + add p m) s.cost))
      (λ h. rw (d, le-ltb s.steps budget h, sibling_masks) (halt d h))
      (lt_or_ge s.steps budget))

-- `Here k p` is known of the masks p with k places to come.
module _ (add : List ℕ → ℕ → ℕ) (cands : List ℕ → List ℕ) (like : Likeness) (ended : ℕ → Bool) (budget : ℕ) (Here : ℕ → List ℕ → Type 0)
    (sound : (k : ℕ) → Sound add cands like (Here k)) where
  module _ (k : ℕ) (next : List ℕ → ℕ → State → Walk)
      (agrees : (p : List ℕ) (c : ℕ) (s : State) → Here k p → s.steps ≤ budget → Entered add cands ended budget k (next p c s) p c s) where
    tries_agrees : (l : Last) (ms p : List ℕ) (c : ℕ) (s : State) → Valid add cands budget k (Here k) l p s → Each (λ m. Here k (p ++ (m ∷ []))) ms → s.steps ≤ budget
        → Tried add cands ended budget k (sibling_masks add like ended budget next l ms p c s) ms p c s
    unfolding sibling_masks try_masks trace_masks
    tries_agrees l [] p c s v a w = record { same = refl; far = λ _ _ _. refl }
    tries_agrees l (m ∷ ms) p c s v a w =
        let t = c + add p m in
        sibling_tests add like ended budget next l m ms p c s (λ x. Tried add cands ended budget k x (m ∷ ms) p c s)
        (λ o. tried_end add cands ended budget k m ms p c s (length p) o)
        (λ o h. tried_stop add cands ended budget k m ms p c s o (length p) h)
        (λ o h e. tried_skip add cands ended budget k m ms p c s o h e (tries_agrees l ms p c (step s) (record { here = v.here; told = λ _. v.told h }) a.1 h))
        (λ o h e r. tried_again add cands ended budget k m ms p c s o h e l.steps l.reach
        (told_again add cands budget k (Here k) like (sound k) l m p t s v h a.0 r)
        (tries_agrees l ms p c (run budget l.steps (step s)) (record { here = v.here; told = λ _. v.told h }) a.1 (min-le_left budget (suc s.steps + l.steps))))
        (λ o h e.
        let y = next (p ++ (m ∷ [])) t (step s) in
        let child = agrees (p ++ (m ∷ [])) t (step s) a.0 h in
        tried_enter add cands ended budget k m ms p c s o h e y child
        (tries_agrees (remember m t s y) ms p c y.state (remembered add cands budget k (Here k) ended m p t s y o h e a.0 child) a.1
        (rw child.same (search_within add cands ended budget k (p ++ (m ∷ [])) t (step s) h))))

  module _ (hands : (k : ℕ) (p : List ℕ) → Here (suc k) p → Each (λ m. Here k (p ++ (m ∷ []))) (cands p)) where
    sibling_agrees : (k : ℕ) (p : List ℕ) (c : ℕ) (s : State) → Here k p → s.steps ≤ budget → Entered add cands ended budget k (sibling_places add cands like ended budget k p c s) p c s
    unfolding sibling_places search_places trace_places
    sibling_agrees zero p c s i w = record { same = refl; far = λ _ _ _. refl }
    sibling_agrees (suc k) p c s i w =
        tries_agrees k (sibling_places add cands like ended budget k) (sibling_agrees k) nothing (cands p) p c s (record { here = λ q. clash q refl; told = λ g q. clash q refl }) (hands k p i) w

    -- It ends in the state in which the search ends: steps, stopped, cost and incumbent.
    pub sibling_same : (k : ℕ) (p : List ℕ) (c : ℕ) (s : State) → Here k p → s.steps ≤ budget → (sibling_places add cands like ended budget k p c s).state ≡ search_places add cands ended budget k p c s
    sibling_same k p c s i w = (sibling_agrees k p c s i w).same

-- ---- The search of a component

-- the masks of p are just those below their number
abbrev pub Full : List ℕ → Type 0
Full p = Used (different p) p

-- a candidate keeps that so
full_hands : (K : ℕ) (p : List ℕ) → Full p → Each (λ m. Full (p ++ (m ∷ []))) (candidates K p)
unfolding candidates
full_hands K p u = each_run 0 (suc (min (different p) (K - 1))) (λ m l. ⊎_elim
    (λ e. rw e (rw (← (used_new u).count) at (used_new u)))
    (λ h. rw (← (used_old u m h).count) at (used_old u m h))
    (eq-or-lt_of_le (omega arith)))

-- As many masks are in use after m as after m', or a place of the k is fixed; and the place after p has no neighbour up to d: they come from `after` on.
abbrev pub like_in : (ℕ → ℕ) → ℕ → (ℕ → ℕ) → Likeness
like_in fixed k after p m m' d = (any_of (is_fixed fixed) (up_to k) || eqb (different (p ++ (m ∷ []))) (different (p ++ (m' ∷ [])))) && ltb d (after (length p))

-- The masks p of the search of k places, with so many to come. Where no place is fixed they are just those below their number.
abbrev pub Partial : (ℕ → ℕ) → ℕ → ℕ → List ℕ → Type 0
Partial fixed k left p = (length p + left ≡ k) × (any_of (is_fixed fixed) (up_to k) ≡ false → Full p)

-- what is tried keeps that so
pub partial_hands : (K : ℕ) (fixed : ℕ → ℕ) (k left : ℕ) (p : List ℕ) → Partial fixed k (suc left) p → Each (λ m. Partial fixed k left (p ++ (m ∷ []))) (candidates_in K fixed k p)
partial_hands K fixed k left p u = each_in (candidates_in K fixed k p) (λ m i. (
  omega (arith, length-append p (m ∷ [])),
  λ none.
      let free : (j : ℕ) → j < k → is_fixed fixed j ≡ false = λ j l. any_out (is_fixed fixed) (up_to k) none j ((in_up_to k j).1 l) in
      each_has (λ m. Full (p ++ (m ∷ []))) (rw (candidates_free K fixed k free p (omega arith)) at i) (full_hands K p (u.1 none)),
))

module _ (K weight : ℕ) (g : Graph) (fixed : ℕ → ℕ) (k : ℕ) (after : ℕ → ℕ) (far : (i j : ℕ) → i < j → j < after i → Unjoined g i j) where
  pub like_sound : (left : ℕ) → Sound (added weight g) (candidates_in K fixed k) (like_in fixed k after) (Partial fixed k left)
  like_sound left p m m' d u v e r =
      let n = different (p ++ (m ∷ [])) in
      let n' = different (p ++ (m' ∷ [])) in
      let some = any_of (is_fixed fixed) (up_to k) in
      let b = both (some || eqb n n') (ltb d (after (length p))) e in
      let h = ltb-true d (after (length p)) b.1 in
      facing_alike weight (siblings g fixed k d p m m'
      (λ none. ⊎_elim (λ t. clash t none) (λ t. used_same (u.1 none) (rw (eqb-true n n' t) (v.1 none))) (or_either some (eqb n n') b.0))
      (λ j l q. far (length p) j l (omega arith)))
      K r

  -- the search of one component of k places
  pub sibling_from : (budget steps : ℕ) (stopped : Bool) → steps ≤ budget
      → (sibling_places (added weight g) (candidates_in K fixed k) (like_in fixed k after) (ends K weight g fixed k) budget k [] 0 (start K weight g fixed k steps stopped)).state ≡ search_from K weight budget g fixed k steps stopped
  unfolding different
  sibling_from budget steps stopped w =
      sibling_same (added weight g) (candidates_in K fixed k) (like_in fixed k after) (ends K weight g fixed k) budget (Partial fixed k) like_sound (partial_hands K fixed k) k [] 0 (start K weight g fixed k steps stopped)
      (zero-add k, λ _. used_none) w
