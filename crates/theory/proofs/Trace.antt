-- What a search that finds nothing does: so many steps, and no place beyond its reach looked at.
-- The trace of a search depends on no state, no budget and no early end: only on the masks so far and on the slack, by how much their cost is below the
-- incumbent's. A search whose trace finds nothing, from a cost at which it does not end, takes just the trace's steps, or as many as the budget has left
-- (`trace_run`); one that went on, short of the budget, and whose incumbent's cost stayed has such a trace (`run_trace`). Masks for which candidates and added
-- costs agree up to the trace's reach have one trace (`local`).
use mathlib.Core.Bool.{Bool, true, false, ◌||◌, or-true}
use mathlib.Core.Path.{◌≡◌, refl, sym, ap, ◌∙◌}
use mathlib.Core.List.{List, [], ◌∷◌, ◌++◌, append-nil, append_assoc}
use mathlib.Core.Logic.{⊎_elim}
use Prim.Native.Nat.{ℕ, zero, suc, ◌+◌, ◌-◌, ◌≤◌, ◌<◌, min, max}
use native.Mathlib.Nat.{le_refl, le_of_lt, min-le_left, sub-add-eq}
use native.Mathlib.Omega.{arith}
use lib.Dec.{ltb}
use lib.ListN.{length, length-append}
use borrow.Author.Tests.{lt-ltb, le-ltb}
use Rattle.rules.specs.Search.{State, state, stop, step, Next, try_masks, search_places}
use Rattle.rules.proofs.Lists.{◌∈◌}
use Rattle.rules.proofs.Tests.{clash, lt_or_ge, or_false, or_either}
use Rattle.theory.proofs.Each.{Each, each_in}
use Rattle.theory.proofs.Search.{by_tests, tries_falls, search_falls}
use Rattle.theory.proofs.Budget.{tries_rises}

-- the steps that a search takes, whether it comes to its last place, and the last place that it looks at
pub record Trace : Type 0 where
  pub steps : ℕ
  pub found : Bool
  pub reach : ℕ

abbrev pub trace : ℕ → Bool → ℕ → Trace
trace n b d = record { steps = n; found = b; reach = d }

-- a step, and then t
abbrev pub step_then : Trace → Trace
step_then t = trace (suc t.steps) t.found t.reach

-- t, and then u
abbrev pub and_then : Trace → Trace → Trace
and_then t u = trace (t.steps + u.steps) (t.found || u.found) (max t.reach u.reach)

module _ (add : List ℕ → ℕ → ℕ) where
  -- the masks ms after p, which may add less than r
  unfoldable pub trace_masks : (List ℕ → ℕ → Trace) → List ℕ → List ℕ → ℕ → Trace
  trace_masks next [] p r = trace 0 false (length p)
  trace_masks next (m ∷ ms) p r = elim (ltb (add p m) r) [
    | true ↦ step_then (and_then (next (p ++ (m ∷ [])) (r - add p m)) (trace_masks next ms p r))
    | false ↦ step_then (trace_masks next ms p r)
  ]

module _ (add : List ℕ → ℕ → ℕ) (cands : List ℕ → List ℕ) where
  -- the places left after p, against an incumbent that costs r more than p
  unfoldable pub trace_places : ℕ → List ℕ → ℕ → Trace
  trace_places zero p r = trace 0 true (length p)
  trace_places (suc left) p r = trace_masks add (trace_places left) (cands p) p r

-- ---- One mask

module _ (add : List ℕ → ℕ → ℕ) (next : List ℕ → ℕ → Trace) (m : ℕ) (ms p : List ℕ) (r : ℕ) where
  pub trace_enter : add p m < r → trace_masks add next (m ∷ ms) p r ≡ step_then (and_then (next (p ++ (m ∷ [])) (r - add p m)) (trace_masks add next ms p r))
  unfolding trace_masks
  trace_enter l = rw (lt-ltb (add p m) r l, trace_masks)

  pub trace_skip : r ≤ add p m → trace_masks add next (m ∷ ms) p r ≡ step_then (trace_masks add next ms p r)
  unfolding trace_masks
  trace_skip l = rw (le-ltb (add p m) r l, trace_masks)

  -- what holds of both outcomes holds of the trace
  pub trace_tests : (Q : Trace → Type 0)
      → (add p m < r → Q (step_then (and_then (next (p ++ (m ∷ [])) (r - add p m)) (trace_masks add next ms p r))))
      → (r ≤ add p m → Q (step_then (trace_masks add next ms p r)))
      → Q (trace_masks add next (m ∷ ms) p r)
  trace_tests Q enter skip = ⊎_elim (λ l. rw (trace_enter l) (enter l)) (λ l. rw (trace_skip l) (skip l)) (lt_or_ge (add p m) r)

-- the same against an incumbent of cost b, where p costs c
module _ (add : List ℕ → ℕ → ℕ) (next : List ℕ → ℕ → Trace) (m : ℕ) (ms p : List ℕ) (c b : ℕ) where
  pub slack_enter : c + add p m < b → trace_masks add next (m ∷ ms) p (b - c) ≡ step_then (and_then (next (p ++ (m ∷ [])) (b - (c + add p m))) (trace_masks add next ms p (b - c)))
  slack_enter l = rw (sub-add-eq b c (add p m)) (trace_enter add next m ms p (b - c) (omega arith))

  pub slack_skip : b ≤ c + add p m → trace_masks add next (m ∷ ms) p (b - c) ≡ step_then (trace_masks add next ms p (b - c))
  slack_skip l = trace_skip add next m ms p (b - c) (omega arith)

-- ---- So many steps more

-- n steps more, as far as the budget goes
abbrev pub run : ℕ → ℕ → State → State
run budget n s = state (min budget (s.steps + n)) (ltb budget (s.steps + n) || s.stopped) s.cost s.incumbent

module _ (budget : ℕ) (s : State) (w : s.steps ≤ budget) where
  pub run_none : run budget 0 s ≡ s
  run_none =
      let a : min budget (s.steps + 0) ≡ s.steps = omega arith in
      rw (a, le-ltb budget (s.steps + 0) (omega arith))

  pub run_stop : (n : ℕ) → budget ≤ s.steps → run budget (suc n) s ≡ stop s
  run_stop n h =
      let a : min budget (s.steps + suc n) ≡ s.steps = omega arith in
      rw (a, lt-ltb budget (s.steps + suc n) (omega arith))

  pub run_step : (n : ℕ) → s.steps < budget → run budget (suc n) s ≡ run budget n (step s)
  run_step n h =
      let a : s.steps + suc n ≡ suc s.steps + n = omega arith in
      rw a

  pub run_run : (n m : ℕ) → run budget m (run budget n s) ≡ run budget (n + m) s
  run_run n m = ⊎_elim
      (λ l.
      let h : budget < s.steps + (n + m) = omega arith in
      let a : min budget (min budget (s.steps + n) + m) ≡ min budget (s.steps + (n + m)) = omega arith in
      rw (a, lt-ltb budget (s.steps + n) l, lt-ltb budget (s.steps + (n + m)) h, or-true (ltb budget (min budget (s.steps + n) + m))))
      (λ l.
      let a : min budget (s.steps + n) ≡ s.steps + n = omega arith in
      let b : s.steps + n + m ≡ s.steps + (n + m) = omega arith in
      rw (a, b, le-ltb budget (s.steps + n) l))
      (lt_or_ge budget (s.steps + n))

-- ---- A search whose trace finds nothing

module _ (add : List ℕ → ℕ → ℕ) (ended : ℕ → Bool) (budget : ℕ) (next : Next) (mark : List ℕ → ℕ → Trace)
    (runs : (p : List ℕ) (c : ℕ) (s : State) → ended s.cost ≡ false → s.steps ≤ budget → (mark p (s.cost - c)).found ≡ false → next p c s ≡ run budget (mark p (s.cost - c)).steps s) where
  tries_run : (ms p : List ℕ) (c : ℕ) (s : State) → ended s.cost ≡ false → s.steps ≤ budget → (trace_masks add mark ms p (s.cost - c)).found ≡ false
      → try_masks add ended budget next ms p c s ≡ run budget (trace_masks add mark ms p (s.cost - c)).steps s
  unfolding try_masks trace_masks
  tries_run [] p c s o w f = sym (run_none budget s w)
  tries_run (m ∷ ms) p c s o w f =
      let r = s.cost - c in
      let rest = trace_masks add mark ms p r in
      by_tests add ended budget next m ms p c s (λ x. x ≡ run budget (trace_masks add mark (m ∷ ms) p r).steps s)
      (λ d. clash d o)
      (λ d h. trace_tests add mark m ms p r (λ t. stop s ≡ run budget t.steps s)
      (λ l. sym (run_stop budget s w ((mark (p ++ (m ∷ [])) (r - add p m)).steps + rest.steps) h))
      (λ l. sym (run_stop budget s w rest.steps h)))
      (λ d h l.
      let child = mark (p ++ (m ∷ [])) (s.cost - (c + add p m)) in
      let e = slack_enter add mark m ms p c s.cost l in
      let none = or_false child.found rest.found (sym (ap (λ (t : Trace). t.found) e) ∙ f) in
      rw (e, runs (p ++ (m ∷ [])) (c + add p m) (step s) o h none.0)
      (tries_run ms p c (run budget child.steps (step s)) o (min-le_left budget (suc s.steps + child.steps)) none.1 ∙ run_run budget (step s) h child.steps rest.steps
      ∙ sym (run_step budget s w (child.steps + rest.steps) h)))
      (λ d h l.
      let e = slack_skip add mark m ms p c s.cost l in
      rw (e, run_step budget s w rest.steps h) (tries_run ms p c (step s) o h (sym (ap (λ (t : Trace). t.found) e) ∙ f)))

module _ (add : List ℕ → ℕ → ℕ) (cands : List ℕ → List ℕ) (ended : ℕ → Bool) (budget : ℕ) where
  -- the search takes the trace's steps, as far as the budget goes, and holds what it held
  pub trace_run : (k : ℕ) (p : List ℕ) (c : ℕ) (s : State) → ended s.cost ≡ false → s.steps ≤ budget → (trace_places add cands k p (s.cost - c)).found ≡ false
      → search_places add cands ended budget k p c s ≡ run budget (trace_places add cands k p (s.cost - c)).steps s
  unfolding search_places trace_places
  trace_run zero p c s o w f = clash refl f
  trace_run (suc k) p c s o w f = tries_run add ended budget (search_places add cands ended budget k) (trace_places add cands k) (trace_run k) (cands p) p c s o w f

-- ---- A search that went on, and whose incumbent's cost stayed

module _ (add : List ℕ → ℕ → ℕ) (cands : List ℕ → List ℕ) (ended : ℕ → Bool) (budget : ℕ) where
  module _ (k : ℕ)
      (traced : (p : List ℕ) (c : ℕ) (s : State) → ended s.cost ≡ false → c < s.cost → (search_places add cands ended budget k p c s).steps < budget
      → (search_places add cands ended budget k p c s).cost ≡ s.cost → (trace_places add cands k p (s.cost - c)).found ≡ false) where
    tries_traced : (ms p : List ℕ) (c : ℕ) (s : State) → ended s.cost ≡ false → (try_masks add ended budget (search_places add cands ended budget k) ms p c s).steps < budget
        → (try_masks add ended budget (search_places add cands ended budget k) ms p c s).cost ≡ s.cost → (trace_masks add (trace_places add cands k) ms p (s.cost - c)).found ≡ false
    unfolding try_masks trace_masks
    tries_traced [] p c s o = λ g e. refl
    tries_traced (m ∷ ms) p c s o =
        let next = search_places add cands ended budget k in
        let mark = trace_places add cands k in
        let r = s.cost - c in
        by_tests add ended budget next m ms p c s (λ x. x.steps < budget → x.cost ≡ s.cost → (trace_masks add mark (m ∷ ms) p r).found ≡ false)
        (λ d. clash d o)
        (λ d h g e. absurd (omega arith))
        (λ d h l g e.
        let y = next (p ++ (m ∷ [])) (c + add p m) (step s) in
        let same : y.cost ≡ s.cost
        = omega (arith, e, search_falls add cands ended budget k (p ++ (m ∷ [])) (c + add p m) (step s) (le_of_lt l), tries_falls add ended budget next (search_falls add cands ended budget k) ms p c y) in
        let child = traced (p ++ (m ∷ [])) (c + add p m) (step s) o l (omega (arith, tries_rises add cands ended budget k ms p c y)) same in
        let rest = tries_traced ms p c y (rw same o) g (e ∙ sym same) in
        rw (slack_enter add mark m ms p c s.cost l, child) (rw same at rest))
        (λ d h l g e. rw (slack_skip add mark m ms p c s.cost l) (tries_traced ms p c (step s) o g e))

  -- its trace finds nothing
  pub run_trace : (k : ℕ) (p : List ℕ) (c : ℕ) (s : State) → ended s.cost ≡ false → c < s.cost → (search_places add cands ended budget k p c s).steps < budget
      → (search_places add cands ended budget k p c s).cost ≡ s.cost → (trace_places add cands k p (s.cost - c)).found ≡ false
  unfolding search_places trace_places
  run_trace zero p c s o h g e = absurd (omega arith)
  run_trace (suc k) p c s o h g e = tries_traced k (run_trace k) (cands p) p c s o g e

-- ---- Masks that do the same as far as a place

-- After p and p', which are as long, the candidates agree as far as the place d, whatever masks come after them, and so do the costs that they add, up to r:
-- what adds r or more may add anything.
pub record Alike (add : List ℕ → ℕ → ℕ) (cands : List ℕ → List ℕ) (r d : ℕ) (p p' : List ℕ) : Type 0 where
  pub size : length p' ≡ length p
  pub tried : (q : List ℕ) → length p + length q ≤ d → cands (p' ++ q) ≡ cands (p ++ q)
  pub cost : (q : List ℕ) (m : ℕ) → length p + length q ≤ d → m ∈ cands (p ++ q) → min (add (p' ++ q) m) r ≡ min (add (p ++ q) m) r

module _ (add : List ℕ → ℕ → ℕ) (cands : List ℕ → List ℕ) where
  -- one mask more after both
  pub alike_snoc : {r d : ℕ} {p p' : List ℕ} (m : ℕ) → Alike add cands r d p p' → Alike add cands r d (p ++ (m ∷ [])) (p' ++ (m ∷ []))
  alike_snoc {r} {d} {p} {p'} m a = record {
    size = omega (arith, length-append p (m ∷ []), length-append p' (m ∷ []), a.size);
    tried = λ q h. rw (append_assoc p' (m ∷ []) q, append_assoc p (m ∷ []) q) (a.tried (m ∷ q) (omega (arith, length-append p (m ∷ []))));
    cost = λ q n h. rw (append_assoc p' (m ∷ []) q, append_assoc p (m ∷ []) q) (a.cost (m ∷ q) n (omega (arith, length-append p (m ∷ []))));
  }

  -- a place itself is within its reach
  pub trace_least : (next : List ℕ → ℕ → Trace) (ms p : List ℕ) (r : ℕ) → length p ≤ (trace_masks add next ms p r).reach
  unfolding trace_masks
  trace_least next [] p r = le_refl (length p)
  trace_least next (m ∷ ms) p r =
      trace_tests add next m ms p r (λ t. length p ≤ t.reach)
      (λ l. omega (arith, trace_least next ms p r))
      (λ l. trace_least next ms p r)

  module _ (r₀ d : ℕ) (next : List ℕ → ℕ → Trace) (same : (p p' : List ℕ) (r : ℕ) → r ≤ r₀ → Alike add cands r₀ d p p' → (next p r).reach ≤ d → next p' r ≡ next p r) where
    tries_local : (ms p p' : List ℕ) (r : ℕ) → r ≤ r₀ → Alike add cands r₀ d p p' → Each (λ m. min (add p' m) r₀ ≡ min (add p m) r₀) ms
        → (trace_masks add next ms p r).reach ≤ d → trace_masks add next ms p' r ≡ trace_masks add next ms p r
    unfolding trace_masks
    tries_local [] p p' r b a c = λ h. rw a.size
    tries_local (m ∷ ms) p p' r b a c =
        let within = trace_least next ms p r in
        let e : min (add p' m) r₀ ≡ min (add p m) r₀ = c.0 in
        trace_tests add next m ms p r (λ t. t.reach ≤ d → trace_masks add next (m ∷ ms) p' r ≡ t)
        (λ l h.
        let f : add p' m ≡ add p m = omega arith in
        trace_enter add next m ms p' r (omega arith)
        ∙ rw (f, same (p ++ (m ∷ [])) (p' ++ (m ∷ [])) (r - add p m) (omega arith) (alike_snoc m a) (omega arith), tries_local ms p p' r b a c.1 (omega arith)))
        (λ l h. trace_skip add next m ms p' r (omega arith) ∙ rw (tries_local ms p p' r b a c.1 (omega arith)))

  -- They have one trace, if that of one looks at no place beyond.
  pub local : (r₀ d k : ℕ) (p p' : List ℕ) (r : ℕ) → r ≤ r₀ → Alike add cands r₀ d p p' → (trace_places add cands k p r).reach ≤ d → trace_places add cands k p' r ≡ trace_places add cands k p r
  unfolding trace_places
  local r₀ d zero p p' r b a h = rw a.size
  local r₀ d (suc k) p p' r b a h =
      let within = trace_least (trace_places add cands k) (cands p) p r in
      let e : cands p' ≡ cands p = rw (append-nil p', append-nil p) at (a.tried [] (omega arith)) in
      let c : Each (λ m. min (add p' m) r₀ ≡ min (add p m) r₀) (cands p) = each_in (cands p) (λ m i. rw (append-nil p', append-nil p) at (a.cost [] m (omega arith) (rw (append-nil p) i))) in
      rw e (tries_local r₀ d (trace_places add cands k) (local r₀ d k) (cands p) p p' r b a c h)

-- ---- The last place

module _ (add : List ℕ → ℕ → ℕ) where
  tries_found : (next : List ℕ → ℕ → Trace) (k : ℕ) → ((p : List ℕ) (r : ℕ) → (next p r).found ≡ true → length p + k ≤ (next p r).reach)
      → (ms p : List ℕ) (r : ℕ) → (trace_masks add next ms p r).found ≡ true → length p + suc k ≤ (trace_masks add next ms p r).reach
  unfolding trace_masks
  tries_found next k far [] p r = λ f. clash f refl
  tries_found next k far (m ∷ ms) p r =
      let rest = tries_found next k far ms p r in
      trace_tests add next m ms p r (λ t. t.found ≡ true → length p + suc k ≤ t.reach)
      (λ l f. ⊎_elim
      (λ e. omega (arith, far (p ++ (m ∷ [])) (r - add p m) e, length-append p (m ∷ [])))
      (λ e. omega (arith, rest e))
      (or_either (next (p ++ (m ∷ [])) (r - add p m)).found (trace_masks add next ms p r).found f))
      (λ l. rest)

-- a trace that comes to its last place has that place in its reach
pub found_reach : (add : List ℕ → ℕ → ℕ) (cands : List ℕ → List ℕ) (k : ℕ) (p : List ℕ) (r : ℕ) → (trace_places add cands k p r).found ≡ true → length p + k ≤ (trace_places add cands k p r).reach
unfolding trace_places
found_reach add cands zero p r f = omega arith
found_reach add cands (suc k) p r f = tries_found add (trace_places add cands k) k (found_reach add cands k) (cands p) p r f
