-- From the order, the lists and the local search to the search of a component by the rules. Assumes nothing.
use mathlib.Core.List.{List, [], ◌∷◌, map}
use mathlib.Core.Option as maybe
use mathlib.Core.Path.{◌≡◌, refl, sym, ap, ap₂, subst⁻¹, ◌∙◌}
use Prim.Native.Nat.{ℕ, zero, suc, ◌-◌, ◌≤◌, ◌<◌}
use native.Mathlib.Omega.{arith}
use lib.ListN.{length, get_or, take, length-map}
use Rattle.std.specs.Prelude.{Option}
use Rattle.bitset.specs.declared.matrix.Matrix.{Matrix}
use Rattle.rules.specs.Edges.{Graph}
use Rattle.rules.specs.Settings.{unset}
use Rattle.rules.specs.Library.{library_bound}
use Rattle.rules.specs.Search.{State, local_graph, local_fixed, added, candidates_in, at_bound}
use Rattle.rules.specs.Decomposition.{put_masks}
use Rattle.rules.proofs.Lists.{place_in, Rising}
use Rattle.adjacency.specs.Members.{members_of}
use Rattle.adjacency.specs.UnitGraph.{unit_graph, fixed_at}
use Rattle.adjacency.proofs.MemberLaws.{in_members, members_rising}
use Rattle.theory.proofs.Budget.{ends}
use Rattle.theory.proofs.Fixed.{local_below}
use Rattle.theory.proofs.Library.{bound_same}
use Rattle.theory.proofs.SameCost.{from_alike}
use Rattle.places.specs.Local.{Neighbours, list_graph, local_added}
use Rattle.places.specs.LaidOut.{LaidOut}
use Rattle.places.proofs.LocalCost.{laid_adds}
use Rattle.first_assignment.specs.First.{FixedLow}
use Rattle.early_end.specs.Ends.{end_of}
use Rattle.search.specs.declared.limits.Limits.{Limits}
use Rattle.search.specs.declared.limits.Progress.{Progress}
use Rattle.search.specs.declared.limits.Best.{Best}
use Rattle.search.specs.Branch.{ends_at}
use Rattle.search.specs.Component.{search_local, state_after, Posed, Searched}
use Rattle.core_search.specs.Core.{search_of, Given, OneSearched}

-- where the search ends, by the bound of the rules
ends_bound : (bound : maybe.Option ℕ) (c : ℕ) → ends_at (end_of bound) c ≡ at_bound bound c
ends_bound maybe.none c = refl
ends_bound (maybe.some b) c = refl

-- a rising list rises from place to place
rising_places : (xs : List ℕ) → Rising xs → (i j : ℕ) → i < j → j < length xs → get_or xs i 0 < get_or xs j 0
rising_places [] r i j h l = absurd (omega arith)
rising_places (x ∷ xs) r i zero h l = absurd (omega arith)
rising_places (x ∷ xs) r zero (suc j) h l = r.0 (get_or xs j 0) (place_in xs j (omega arith))
rising_places (x ∷ xs) r (suc i) (suc j) h l = rising_places xs r.1 i j (omega arith) (omega arith)

-- so do the vertices of a component
pub order_rises : (component order : List ℕ) → order ≡ members_of component → (i j : ℕ) → i < j → j < length order → get_or order i 0 < get_or order j 0
order_rises component order is = rising_places order (rw is (members_rising component))

-- the list of the places' fixed masks is as long as their order
pub own_size : (fixed order : List ℕ) {own : List ℕ} → own ≡ map (fixed_at fixed) order → length own ≡ length order
own_size fixed order e = ap length e ∙ length-map order (fixed_at fixed)

module _ {conflictWords stitchWords : Matrix} {units fixed component order own result : List ℕ} {places : List Neighbours} {l : Limits} {p : Progress} (end : Option ℕ)
    (given : Given fixed component l p result) (is : order ≡ members_of component) (few : length order ≤ 512)
    (laid : LaidOut conflictWords stitchWords units order places) (local : own ≡ map (fixed_at fixed) order)
    (early : end ≡ end_of (library_bound l.masks l.weight (list_graph places) (fixed_at own) (length own))) where
  size : length own ≡ length order
  size = own_size fixed order local

  vertices : length own ≡ length (members_of component)
  vertices = size ∙ ap length is

  abbrev masks_fixed : ℕ → ℕ
  masks_fixed = local_fixed (fixed_at fixed) (members_of component)

  -- the fixed masks of the places are those of the component's vertices
  places_fixed : fixed_at own ≡ masks_fixed
  places_fixed =
      let masks : own ≡ map (fixed_at fixed) (members_of component) = local ∙ ap (map (fixed_at fixed)) is in
      λ j i. get_or (masks j) i unset

  below : FixedLow masks_fixed (length own) l.masks
  below i h = local_below (members_of component) (λ u m. let inside = (in_members component u).0 m in given.fixed_low u inside.0 inside.1) i (omega (arith, vertices))

  pub posed : Posed own l p
  posed = record {
    some = given.some;
    masks = given.masks;
    weight = given.weight;
    fixed_low = subst⁻¹ (λ (f : ℕ → ℕ). FixedLow f (length own) l.masks) places_fixed below;
    afford = given.afford;
  }

  -- each vertex of the order has a place among the masks
  pub places_there : (i : ℕ) → i < length order → get_or order i 0 < length result
  places_there i h =
      let at = ap (λ (o : List ℕ). get_or o i 0) is in
      let inside = (in_members component (get_or (members_of component) i 0)).0 (place_in (members_of component) i (omega (arith, ap length is))) in
      omega (arith, at, given.placed (get_or (members_of component) i 0) inside.0 inside.1)

  abbrev graph : Graph
  graph = unit_graph conflictWords stitchWords units (length units)

  same_cost : (q : List ℕ) (m : ℕ) → length q < length (members_of component)
      → local_added l.weight places q m ≡ added l.weight (local_graph graph (members_of component)) q m
  same_cost q m h = laid_adds laid l.weight q m (omega (arith, ap length is)) ∙ ap (λ (o : List ℕ). added l.weight (local_graph graph o) q m) is

  -- the search ends where the library says of the component
  bound_there : library_bound l.masks l.weight (list_graph places) (fixed_at own) (length own)
      ≡ library_bound l.masks l.weight (local_graph graph (members_of component)) masks_fixed (length (members_of component))
  bound_there =
      rw (places_fixed, vertices)
      (bound_same (list_graph places) (local_graph graph (members_of component)) (length (members_of component))
      (λ u v i h. laid.conflicts u v i (omega (arith, ap length is)) ∙ ap (λ (o : List ℕ). (local_graph graph o).conflicts u v) is)
      (λ u v i h. laid.stitches u v i (omega (arith, ap length is)) ∙ ap (λ (o : List ℕ). (local_graph graph o).stitches u v) is)
      l.masks l.weight masks_fixed)

  ends_there : ends_at end ≡ ends l.masks l.weight (local_graph graph (members_of component)) masks_fixed (length (members_of component))
  ends_there =
      let bound = library_bound l.masks l.weight (list_graph places) (fixed_at own) (length own) in
      ap ends_at early ∙ (λ i x. ends_bound bound x i) ∙ ap (λ (o : maybe.Option ℕ). at_bound o) bound_there

  local_search : search_local places own l end p ≡ search_of graph (fixed_at fixed) component l p
  local_search =
      rw (ends_there, places_fixed, vertices)
      (from_alike (local_added l.weight places) (added l.weight (local_graph graph (members_of component))) (length (members_of component)) same_cost
      (ends l.masks l.weight (local_graph graph (members_of component)) masks_fixed (length (members_of component))) l.budget
      l.masks masks_fixed (candidates_in l.masks masks_fixed (length (members_of component))) (l.budget - p.left) p.stopped)

  module _ {p' : Progress} {best : Best} (found : Searched places own l end p p' best) where
    searched : state_after (length own) l p' best ≡ search_of graph (fixed_at fixed) component l p
    searched = found.searched ∙ local_search

    pub one_searched : {result' : List ℕ} → result' ≡ put_masks order (take (length order) best.masks) result → OneSearched graph (fixed_at fixed) component l p p' result result'
    one_searched e = record {
      steps = ap (λ (s : State). s.steps) searched;
      stopped = ap (λ (s : State). s.stopped) searched;
      masks = e ∙ ap₂ (λ (o m : List ℕ). put_masks o m result) is (ap (λ (k : ℕ). take k best.masks) (sym size) ∙ ap (λ (s : State). s.incumbent) searched);
      fewer = found.fewer;
    }
