-- The searches of all components, one after the other, with the steps carried along. A component's masks are put down at its own vertices, which no other
-- component has, so the masks reached cost what the incumbents cost together (`settled`). Searches that were not stopped leave no cheaper
-- masks (`all_cheapest`), because each component's search does. Two budgets are compared one component after the other (`all_larger`): as long
-- as the smaller one is not used up both do the same, and from then on the smaller one's components keep their first assignments. A budget and none are
-- compared likewise (`all_follows`).
use mathlib.Core.Bool.{true, false, not}
use mathlib.Core.List.Memᴰ.{head as here}
use mathlib.Core.List.Memᴰ.{tail as later}
use mathlib.Core.List.{List, [], ◌∷◌, map, Memᴰ}
use mathlib.Core.Logic.{◌↔◌, ◌⊎◌, inl, inr, ⊎_elim}
use mathlib.Core.Path.{◌≡◌, refl, sym, ap, ap₂, ◌∙◌}
use Prim.Native.Nat.{ℕ, ◌+◌, ◌≤◌, ◌<◌, min}
use native.Mathlib.Nat.{le_refl, add-le-add}
use native.Mathlib.Omega.{arith}
use lib.ListN.{length, length-map}
use borrow.Author.Tests.{not-true}
use Rattle.rules.specs.Basics.{occurs}
use Rattle.rules.specs.Edges.{Graph}
use Rattle.rules.specs.Score.{mask_of}
use Rattle.rules.specs.Search.{State, local_graph, local_fixed, search_from, complete_from}
use Rattle.rules.specs.Decomposition.{Reached, Completed, put_masks, search_all, complete_all}
use Rattle.rules.proofs.Edges.{Undirected}
use Rattle.rules.proofs.Tests.{not_before}
use Rattle.theory.proofs.Each.{each_of}
use Rattle.rules.proofs.Lists.{◌∈◌, none_in, occurs_in, occurs_out, in_or_out, in_keep, keep_in, Distinct, distinct_keep}
use Rattle.rules.proofs.Tests.{clash}
use Rattle.theory.proofs.Cost.{cost_in, cost_same}
use Rattle.theory.proofs.Score.{total_cost, put_length, put_below, put_other, put_own, put_cost}
use Rattle.theory.proofs.Components.{component_in, component_distinct, Partition, end, part, sum_parts}
use Rattle.theory.proofs.Search.{search_sticks}
use Rattle.theory.proofs.Budget.{Abreast, from_larger, search_within, search_spent}
use Rattle.theory.proofs.Complete.{Short, from_follows}
use Rattle.theory.proofs.Fixed.{May, FixedBelow, image_fits, fits_image, local_below}
use Rattle.theory.proofs.Renaming.{from_feasible, from_cheapest}

reached_path : {x y : Reached} → x.steps ≡ y.steps → x.stopped ≡ y.stopped → x.masks ≡ y.masks → x ≡ y
reached_path p q r = λ i. record { steps = p i; stopped = q i; masks = r i }

module _ (K W : ℕ) (g : Graph) (fixed : ℕ → ℕ) (budget : ℕ) where
  -- what the search of one component finds, and what is reached with it
  abbrev pub found : List ℕ → Reached → State
  found order w = search_from K W budget (local_graph g order) (local_fixed fixed order) (length order) w.steps w.stopped

  abbrev pub after : List ℕ → Reached → Reached
  after order w = record { steps = (found order w).steps; stopped = (found order w).stopped; masks = put_masks order (found order w).incumbent w.masks }

  -- the incumbents' costs together
  unfoldable pub costs_of : List (List ℕ) → Reached → ℕ
  costs_of [] w = 0
  costs_of (order ∷ orders) w = (found order w).cost + costs_of orders (after order w)

  -- what was stopped stays so
  pub all_sticks : (orders : List (List ℕ)) (w : Reached) → w.stopped ≡ true → (search_all K W budget g fixed orders w).stopped ≡ true
  unfolding search_all
  all_sticks [] w e = e
  all_sticks (order ∷ orders) w e = all_sticks orders (after order w) (search_sticks _ _ _ budget (length order) [] 0 _ e)

  -- steps stay within the budget, and are the budget when stopped
  pub all_within : (orders : List (List ℕ)) (w : Reached) → w.steps ≤ budget → (search_all K W budget g fixed orders w).steps ≤ budget
  unfolding search_all
  all_within [] w h = h
  all_within (order ∷ orders) w h = all_within orders (after order w) (search_within _ _ _ budget (length order) [] 0 _ h)

  pub all_spent : (orders : List (List ℕ)) (w : Reached) → w.steps ≤ budget → (w.stopped ≡ true → w.steps ≡ budget)
      → (search_all K W budget g fixed orders w).stopped ≡ true → (search_all K W budget g fixed orders w).steps ≡ budget
  unfolding search_all
  all_spent [] w h s = s
  all_spent (order ∷ orders) w h s =
      all_spent orders (after order w) (search_within _ _ _ budget (length order) [] 0 _ h) (search_spent _ _ _ budget (length order) [] 0 _ h s)

  -- there stay as many masks
  pub all_length : (orders : List (List ℕ)) (w : Reached) → length (search_all K W budget g fixed orders w).masks ≡ length w.masks
  unfolding search_all
  all_length [] w = refl
  all_length (order ∷ orders) w = all_length orders (after order w) ∙ put_length order (found order w).incumbent w.masks

  -- masks stay below K
  pub all_below : 0 < K → (orders : List (List ℕ)) → ((c : List ℕ) → Memᴰ c orders → FixedBelow K fixed c)
      → (w : Reached) → ((i : ℕ) → mask_of w.masks i < K) → (i : ℕ) → mask_of (search_all K W budget g fixed orders w).masks i < K
  unfolding search_all
  all_below pos [] low w h = h
  all_below pos (order ∷ orders) low w h =
      let s = found order w in
      let feasible = from_feasible K W (local_graph g order) (local_fixed fixed order) budget (length order) w.steps w.stopped pos (local_below order (low order (here refl))) in
      all_below pos orders (λ c m. low c (later m)) (after order w)
      (put_below order s.incumbent w.masks (each_of (λ m. m < K) s.incumbent (λ i l. (feasible.fits i l).below)) h)

-- What is reached on the vertices xs with the components cs.
pub record Settled (K W : ℕ) (g : Graph) (fixed : ℕ → ℕ) (budget : ℕ) (xs : List ℕ) (cs : List (List ℕ)) (w r : Reached) : Type 0 where
  pub size : length r.masks ≡ length w.masks
  pub outside : (u : ℕ) → (u ∈ xs → ⊥) → mask_of r.masks u ≡ mask_of w.masks u
  pub fits : (u : ℕ) → u ∈ xs → May K fixed u (mask_of r.masks u)
  pub cost : sum_parts (cost_in W g (mask_of r.masks)) cs ≡ costs_of K W g fixed budget cs w

module _ (K W : ℕ) (pos : 0 < K) {g : Graph} (undirected : Undirected g) (fixed : ℕ → ℕ) (budget : ℕ) where
  pub settled : {xs : List ℕ} {cs : List (List ℕ)} → Partition g xs cs → Distinct xs → FixedBelow K fixed xs → (w : Reached) → ((u : ℕ) → u ∈ xs → u < length w.masks)
      → Settled K W g fixed budget xs cs w (search_all K W budget g fixed cs w)
  unfolding search_all sum_parts costs_of
  settled end d low w h = record { size = refl; outside = λ u n. refl; fits = λ u m. none_in m; cost = refl }
  settled (part {v} {after = vs} {c} {cs} comp i partition) d low w h =
      let s = found K W g fixed budget c w in
      let p = s.incumbent in
      let feasible = from_feasible K W (local_graph g c) (local_fixed fixed c) budget (length c) w.steps w.stopped pos (local_below c (λ u m. low u (component_in comp m))) in
      let own = put_own c p w.masks (component_distinct comp d) (λ u m. h u (component_in comp m)) feasible.size in
      let ih = settled partition (distinct_keep _ (v ∷ vs) d) (λ u m. low u (keep_in _ (v ∷ vs) m).0) (after K W g fixed budget c w)
      (λ u m. rw (put_length c p w.masks) (h u (keep_in _ (v ∷ vs) m).0)) in
      let kept : (u : ℕ) → u ∈ c → mask_of (search_all K W budget g fixed cs (after K W g fixed budget c w)).masks u ≡ mask_of (put_masks c p w.masks) u
      = λ u m. ih.outside u (λ n. clash ((occurs_in u c).1 m) (not-true (occurs u c) (keep_in _ (v ∷ vs) n).1)) in
      record {
        size = ih.size ∙ put_length c p w.masks;
        outside = λ u n. ih.outside u (λ m. n (keep_in _ (v ∷ vs) m).0) ∙ put_other c p w.masks u (λ m. n (component_in comp m));
        fits = λ u m. ⊎_elim
            (λ k. rw (kept u k) (fits_image c (mask_of (put_masks c p w.masks)) (rw own feasible.fits) u k))
            (λ n. ih.fits u (in_keep _ m (ap not ((occurs_out u c).1 n))))
            (in_or_out u c);
        cost = ap₂ ◌+◌
            (cost_same W g _ _ c kept ∙ put_cost W undirected c p w.masks (component_distinct comp d) (λ u m. h u (component_in comp m)) feasible.size ∙ sym feasible.cost)
            ih.cost;
      }

  -- searches that were not stopped leave no cheaper masks
  pub all_cheapest : (cs : List (List ℕ)) (w : Reached) → (search_all K W budget g fixed cs w).stopped ≡ false
      → (a : ℕ → ℕ) → ((c : List ℕ) → Memᴰ c cs → (u : ℕ) → u ∈ c → May K fixed u (a u)) → costs_of K W g fixed budget cs w ≤ sum_parts (cost_in W g a) cs
  unfolding search_all sum_parts costs_of
  all_cheapest [] w e a l = le_refl 0
  all_cheapest (c ∷ cs) w e a l =
      let s = found K W g fixed budget c w in
      let ran : s.stopped ≡ false = not_before (all_sticks K W g fixed budget cs (after K W g fixed budget c w)) e in
      add-le-add
      (rw (← total_cost W undirected a c)
      (from_cheapest K W (local_graph g c) (local_fixed fixed c) budget (length c) w.steps w.stopped ran (map a c) (length-map c a) (image_fits c a (l c (here refl)))))
      (all_cheapest cs (after K W g fixed budget c w) e a (λ d m. l d (later m)))

-- What a larger budget does against a smaller one, from what both have reached.
pub record Compared (K W : ℕ) (g : Graph) (fixed : ℕ → ℕ) (b₁ b₂ : ℕ) (cs : List (List ℕ)) (w₁ w₂ r₁ r₂ : Reached) : Type 0 where
  pub meters : Abreast b₁ r₁.steps r₁.stopped r₂.steps r₂.stopped
  pub no_dearer : costs_of K W g fixed b₂ cs w₂ ≤ costs_of K W g fixed b₁ cs w₁
  pub same : r₁.stopped ≡ false → w₂.masks ≡ w₁.masks → r₂ ≡ r₁

module _ (K W : ℕ) (g : Graph) (fixed : ℕ → ℕ) {b₁ b₂ : ℕ} (le : b₁ ≤ b₂) where
  pub all_larger : (cs : List (List ℕ)) (w₁ w₂ : Reached) → Abreast b₁ w₁.steps w₁.stopped w₂.steps w₂.stopped
      → Compared K W g fixed b₁ b₂ cs w₁ w₂ (search_all K W b₁ g fixed cs w₁) (search_all K W b₂ g fixed cs w₂)
  unfolding search_all costs_of
  all_larger [] w₁ w₂ m = record {
    meters = m;
    no_dearer = le_refl 0;
    same = λ e q. ⊎_elim (λ p. reached_path (sym p.0) (sym p.1) q) (λ h. clash h.over e) m;
  }
  all_larger (c ∷ cs) w₁ w₂ m =
      let s₁ = found K W g fixed b₁ c w₁ in
      let s₂ = found K W g fixed b₂ c w₂ in
      let one = from_larger K W (local_graph g c) (local_fixed fixed c) le (length c) m in
      let ih = all_larger cs (after K W g fixed b₁ c w₁) (after K W g fixed b₂ c w₂) one.meters in
      record {
        meters = ih.meters;
        no_dearer = add-le-add one.no_dearer ih.no_dearer;
        same = λ e q.
            let ran : s₁.stopped ≡ false = not_before (all_sticks K W g fixed b₁ cs (after K W g fixed b₁ c w₁)) e in
            ih.same e (ap₂ (λ (s : State) (masks : List ℕ). put_masks c s.incumbent masks) (one.same ran) q);
      }

-- ---- A budget and none

-- what is reached where no search was stopped
abbrev pub unstopped : Completed → Reached
unstopped v = record { steps = v.steps; stopped = false; masks = v.masks }

-- What w, reached at the budget b, is to what the complete searches come to: the same, or the budget fell short.
abbrev pub FollowsAll : ℕ → Reached → Completed → Type 0
FollowsAll b w v = ((v.steps ≤ b) × (w ≡ unstopped v)) ⊎ Short b w.steps w.stopped v.steps

module _ {b : ℕ} {w : Reached} {v : Completed} where
  -- the steps are those in all, or the budget if that is less
  pub follows_steps : FollowsAll b w v → w.steps ≡ min v.steps b
  follows_steps (inl e) = rw e.1 (omega arith)
  follows_steps (inr s) = omega arith

  -- a search was stopped exactly where the budget is less than the steps in all
  pub follows_stopped : FollowsAll b w v → (w.stopped ≡ true) ↔ (b < v.steps)
  follows_stopped (inl e) = (λ t. clash t (ap (λ (r : Reached). r.stopped) e.1), λ l. absurd (omega arith))
  follows_stopped (inr s) = (λ t. s.beyond, λ l. s.over)

  -- and otherwise all is as without a budget
  pub follows_ended : FollowsAll b w v → (w.stopped ≡ false) ↔ (v.steps ≤ b)
  follows_ended (inl e) = (λ t. e.0, λ l. ap (λ (r : Reached). r.stopped) e.1)
  follows_ended (inr s) = (λ t. clash s.over t, λ l. absurd (omega arith))

  pub follows_same : FollowsAll b w v → v.steps ≤ b → w ≡ unstopped v
  follows_same (inl e) l = e.1
  follows_same (inr s) l = absurd (omega arith)

module _ (K W : ℕ) (g : Graph) (fixed : ℕ → ℕ) (b : ℕ) where
  -- the complete search of one component more
  abbrev complete_next : List ℕ → Completed → Completed
  complete_next c v =
      let s = complete_from K W (local_graph g c) (local_fixed fixed c) (length c) in
      record { steps = v.steps + s.steps; masks = put_masks c s.incumbent v.masks }

  one_follows : (c : List ℕ) (w : Reached) (v : Completed) → FollowsAll b w v → FollowsAll b (after K W g fixed b c w) (complete_next c v)
  one_follows c w v (inl e) =
      rw e.1
      (⊎_elim
      (λ f. inl (f.0, ap (λ (s : State). record { steps = s.steps; stopped = s.stopped; masks = put_masks c s.incumbent v.masks }) f.1))
      (λ s. inr s)
      (from_follows K W (local_graph g c) (local_fixed fixed c) (length c) (inl (e.0, refl, refl))))
  one_follows c w v (inr s) =
      ⊎_elim (λ f. absurd (omega arith)) (λ t. inr t) (from_follows K W (local_graph g c) (local_fixed fixed c) (length c) (inr s))

  -- the searches at a budget follow the complete ones
  pub all_follows : (cs : List (List ℕ)) (w : Reached) (v : Completed) → FollowsAll b w v → FollowsAll b (search_all K W b g fixed cs w) (complete_all K W g fixed cs v)
  unfolding search_all complete_all
  all_follows [] w v f = f
  all_follows (c ∷ cs) w v f = all_follows cs (after K W g fixed b c w) (complete_next c v) (one_follows c w v f)
