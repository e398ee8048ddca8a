-- The decomposition of a list of vertices asks for edges between those vertices alone, and for their fixed masks alone. So two graphs with the same edges among
-- them are decomposed alike (`decompose_same`), whatever edges they have elsewhere: the graph of a layer and that of its adjacency words. Likewise for the same
-- fixed masks (`decompose_fixed`).
use mathlib.Core.Bool.{Bool, false, not}
use mathlib.Core.List.Memᴰ
use mathlib.Core.List.Memᴰ.{head as here}
use mathlib.Core.List.Memᴰ.{tail as later}
use mathlib.Core.List.{List, [], ◌∷◌, map, Memᴰ}
use mathlib.Core.Logic.{⊎_elim}
use mathlib.Core.Option.{Option}
use mathlib.Core.Path.{◌≡◌, refl, ap, ap₂, subst, ◌∙◌}
use Prim.Native.Nat.{ℕ, zero, suc, ◌<◌}
use native.Mathlib.Omega.{arith}
use lib.Dec.{ltb}
use lib.ListN.{length, get_or}
use Rattle.rules.specs.Basics.{keep, occurs}
use Rattle.rules.specs.Edges.{Graph}
use Rattle.rules.specs.Score.{pair_cost}
use Rattle.rules.specs.Settings.{unset}
use Rattle.rules.specs.Peeling.{Peeled, peel}
use Rattle.rules.specs.Components.{component_of, components_for, components}
use Rattle.rules.specs.Library.{library_bound}
use Rattle.rules.specs.Search.{State, local_graph, local_fixed, added, candidates_in, at_bound, search_from}
use Rattle.rules.specs.Decomposition.{Reached, put_masks, search_all, with_returned, decompose}
use Rattle.rules.proofs.Lists.{◌∈◌, keep_in, place_in}
use Rattle.rules.proofs.Sums.{sum_ext}
use Rattle.theory.proofs.Peeling.{parts}
use Rattle.theory.proofs.Neighbours.{SameNeighbours, SameFixed, peel_same, decompose_stages}
use Rattle.theory.proofs.Budget.{ends, search_until}
use Rattle.theory.proofs.Library.{bound_same}
use Rattle.theory.proofs.SameCost.{from_alike}

-- g and h have the same edges among vs
pub record SameEdges (g h : Graph) (vs : List ℕ) : Type 0 where
  pub conflicts : (u v : ℕ) → u ∈ vs → v ∈ vs → g.conflicts u v ≡ h.conflicts u v
  pub stitches : (u v : ℕ) → u ∈ vs → v ∈ vs → g.stitches u v ≡ h.stitches u v

pub edges_neighbours : {g h : Graph} {vs : List ℕ} → SameEdges g h vs → SameNeighbours g h vs
edges_neighbours s = record {
  conflict = λ u v m n. ap (ltb 0) (s.conflicts u v m n);
  stitch = λ u v m n. ap (ltb 0) (s.stitches u v m n);
}

-- ---- Components are made of the vertices given

components_for_in : (g : Graph) (rounds : ℕ) (xs c : List ℕ) → Memᴰ c (components_for rounds g xs) → (u : ℕ) → u ∈ c → u ∈ xs
unfolding components_for
components_for_in g zero xs c m u i = absurd (Memᴰ.not-nil m)
components_for_in g (suc rounds) [] c m u i = absurd (Memᴰ.not-nil m)
components_for_in g (suc rounds) (v ∷ after) c m u i =
    let d = component_of g v after in
    ⊎_elim
    (λ e. (keep_in _ (v ∷ after) (subst (λ x. u ∈ x) e i)).0)
    (λ n. later (keep_in (λ w. not (occurs w d)) after (components_for_in g rounds (keep (λ w. not (occurs w d)) after) c n u i)).0)
    (Memᴰ.cases_cons m)

pub components_in : (g : Graph) (xs c : List ℕ) → Memᴰ c (components g xs) → (u : ℕ) → u ∈ c → u ∈ xs
components_in g xs c m u i = components_for_in g (length xs) xs c m u i

-- ---- The search

module _ {g h : Graph} {vs : List ℕ} (s : SameEdges g h vs) where
  -- what a mask adds at a place
  added_same : (W : ℕ) (order : List ℕ) → ((u : ℕ) → u ∈ order → u ∈ vs) → (p : List ℕ) (m : ℕ) → length p < length order
      → added W (local_graph g order) p m ≡ added W (local_graph h order) p m
  unfolding added pair_cost
  added_same W order inside p m l =
      sum_ext (length p) λ i k.
      let a = inside _ (place_in order i (omega arith)) in
      let b = inside _ (place_in order (length p) l) in
      rw (s.conflicts _ _ a b, s.stitches _ _ a b)

  module _ (K W budget : ℕ) (fixed : ℕ → ℕ) where
    -- where its search ends early
    bound_alike : (order : List ℕ) → ((u : ℕ) → u ∈ order → u ∈ vs) → (local : ℕ → ℕ)
        → library_bound K W (local_graph g order) local (length order) ≡ library_bound K W (local_graph h order) local (length order)
    bound_alike order inside local =
        let at : (i : ℕ) → i < length order → get_or order i 0 ∈ vs = λ i l. inside _ (place_in order i l) in
        bound_same (local_graph g order) (local_graph h order) (length order)
        (λ u v l m. s.conflicts _ _ (at u (omega arith)) (at v m)) (λ u v l m. s.stitches _ _ (at u (omega arith)) (at v m)) K W local

    from_same : (order : List ℕ) → ((u : ℕ) → u ∈ order → u ∈ vs) → (steps : ℕ) (stopped : Bool)
        → search_from K W budget (local_graph g order) (local_fixed fixed order) (length order) steps stopped
        ≡ search_from K W budget (local_graph h order) (local_fixed fixed order) (length order) steps stopped
    from_same order inside steps stopped =
        let local = local_fixed fixed order in
        ap (λ (bound : Option ℕ). search_until (at_bound bound) K W budget (local_graph g order) local (length order) steps stopped) (bound_alike order inside local)
        ∙ from_alike (added W (local_graph g order)) (added W (local_graph h order)) (length order) (added_same W order inside) (ends K W (local_graph h order) local (length order)) budget K local (candidates_in K local (length order)) steps stopped

    all_same : (orders : List (List ℕ)) → ((c : List ℕ) → Memᴰ c orders → (u : ℕ) → u ∈ c → u ∈ vs) → (w : Reached)
        → search_all K W budget g fixed orders w ≡ search_all K W budget h fixed orders w
    unfolding search_all
    all_same [] inside w = refl
    all_same (order ∷ orders) inside w =
        ap (λ (t : State). search_all K W budget g fixed orders (record { steps = t.steps; stopped = t.stopped; masks = put_masks order t.incumbent w.masks }))
        (from_same order (inside order (here refl)) w.steps w.stopped)
        ∙ all_same orders (λ c m. inside c (later m)) _

-- fixed masks that are the same on the vertices are the same on the places
local_same : {fixed fixed' : ℕ → ℕ} (order : List ℕ) → SameFixed fixed fixed' order → local_fixed fixed order ≡ local_fixed fixed' order
local_same order f = λ i j. get_or (images order f i) j unset
  where
    images : {fixed fixed' : ℕ → ℕ} (order : List ℕ) → SameFixed fixed fixed' order → map fixed order ≡ map fixed' order
    images [] f = refl
    images (v ∷ order) f = ap₂ (λ (m : ℕ) (ms : List ℕ). m ∷ ms) (f v (here refl)) (images order (λ u m. f u (later m)))

all_fixed : (K W budget : ℕ) (g : Graph) {fixed fixed' : ℕ → ℕ} {vs : List ℕ} → SameFixed fixed fixed' vs
    → (orders : List (List ℕ)) → ((c : List ℕ) → Memᴰ c orders → (u : ℕ) → u ∈ c → u ∈ vs) → (w : Reached)
    → search_all K W budget g fixed orders w ≡ search_all K W budget g fixed' orders w
unfolding search_all
all_fixed K W budget g f [] inside w = refl
all_fixed K W budget g {fixed} f (order ∷ orders) inside w =
    let own = local_same order (λ u m. f u (inside order (here refl) u m)) in
    ap (λ (local : ℕ → ℕ). search_all K W budget g fixed orders (next (search_from K W budget (local_graph g order) local (length order) w.steps w.stopped))) own
    ∙ all_fixed K W budget g f orders (λ c m. inside c (later m)) _
  where
    next : State → Reached
    next t = record { steps = t.steps; stopped = t.stopped; masks = put_masks order t.incumbent w.masks }

-- ---- The whole

module _ (K W budget : ℕ) where
  pub decompose_same : {g h : Graph} (fixed : ℕ → ℕ) (vs masks : List ℕ) → SameEdges g h vs → decompose K W budget g fixed vs masks ≡ decompose K W budget h fixed vs masks
  unfolding decompose
  decompose_same {g} {h} fixed vs masks s =
      let p = parts K h fixed (length vs) vs in
      let peeled = peel K h fixed vs in
      decompose_stages K W budget fixed vs masks (edges_neighbours s)
      ∙ ap (λ (r : Reached). record { steps = r.steps; stopped = r.stopped; masks = with_returned K h peeled r.masks })
      (all_same s K W budget fixed (components h peeled.core) (λ c m u i. p.core_in u (components_in h peeled.core c m u i)) _)

  pub decompose_fixed : (g : Graph) {fixed fixed' : ℕ → ℕ} (vs masks : List ℕ) → SameFixed fixed fixed' vs → decompose K W budget g fixed vs masks ≡ decompose K W budget g fixed' vs masks
  unfolding decompose
  decompose_fixed g {fixed} {fixed'} vs masks f =
      let p = parts K g fixed' (length vs) vs in
      let peeled = peel K g fixed' vs in
      ap (λ (q : Peeled). finished q (search_all K W budget g fixed (components g q.core) unsearched))
      (peel_same K fixed fixed' (length vs) vs (record { conflict = λ u v m n. refl; stitch = λ u v m n. refl }) f)
      ∙ ap (finished peeled)
      (all_fixed K W budget g f (components g peeled.core) (λ c m u i. p.core_in u (components_in g peeled.core c m u i)) unsearched)
    where
      unsearched : Reached
      unsearched = record { steps = 0; stopped = false; masks = masks }

      finished : Peeled → Reached → Reached
      finished q r = record { steps = r.steps; stopped = r.stopped; masks = with_returned K g q r.masks }
