-- A graph with its vertices merged into units. Masks that are the same on each unit cost as much on the graph as they cost on the merged graph
-- (`merged_cost`): an edge inside a unit costs nothing, and the edges between two units are those between their members. By induction on the units,
-- each taken out of the vertices by `cost_split`. Nothing is known of the units but `Grouping`, so that any way to merge will do.
use mathlib.Core.Bool.{Bool, false, not, ◌&&◌, and-true, and-false}
use mathlib.Core.List.{List, [], ◌∷◌}
use mathlib.Core.Path.{◌≡◌, refl, sym, ap, ap₂, ◌∙◌}
use Prim.Native.Nat.{ℕ, ◌+◌, ◌*◌, ◌≤◌, ◌<◌}
use native.Mathlib.Omega.{arith}
use lib.Dec.{eqb, ltb}
use lib.ListN.{length, length-map}
use lib.Seq.{ext_get_or}
use borrow.Author.Tests.{eqb-true, eq-eqb, ne_eqb, ltb-true, ltb-false, lt-ltb, le-ltb}
use Rattle.rules.specs.Basics.{given, sum_of, up_to, any_of, keep, occurs}
use Rattle.rules.specs.Edges.{Graph, joined}
use Rattle.rules.specs.Score.{mask_of, pair_cost}
use Rattle.rules.specs.Units.{merged_into, unit_numbers, edges_between, merged_graph, spread}
use Rattle.rules.proofs.Edges.{Undirected}
use Rattle.rules.proofs.Lists.{◌∈◌, here, later, any_same, occurs_in, occurs_out, keep_in, in_keep, keep_same, keep_keep, keep_none, keep_all, Distinct, Rising, distinct_keep, rising_keep, in_up_to, up_to_distinct, up_to_rising, length_up_to, mapped_up_to}
use Rattle.rules.proofs.Tests.{by_test, eqb_sym}
use Rattle.theory.proofs.Cost.{sum_same, sum_zero, sum_add, sum_split, edge_cost, cross_cost, cost_in, between, pair_free, pair_sym, cost_split}

-- ---- Sums

sum_times : (W : ℕ) (f : ℕ → ℕ) (xs : List ℕ) → W * sum_of f xs ≡ sum_of (λ u. W * f u) xs
unfolding sum_of
sum_times W f [] = omega arith
sum_times W f (x ∷ xs) = omega (arith, sum_times W f xs)

-- the order of two sums does not matter
sum_swap : (f : ℕ → ℕ → ℕ) (xs ys : List ℕ) → sum_of (λ i. sum_of (λ j. f i j) ys) xs ≡ sum_of (λ j. sum_of (λ i. f i j) xs) ys
unfolding sum_of
sum_swap f [] ys = sym (sum_zero (λ j. 0) ys (λ u m. refl))
sum_swap f (x ∷ xs) ys = ap (λ (k : ℕ). sum_of (λ j. f x j) ys + k) (sum_swap f xs ys) ∙ sym (sum_add (λ j. f x j) (λ j. sum_of (λ i. f i j) xs) ys)

-- a sum is above 0 exactly if a term is
sum_above : (f : ℕ → ℕ) (xs : List ℕ) → ltb 0 (sum_of f xs) ≡ any_of (λ u. ltb 0 (f u)) xs
unfolding sum_of any_of
sum_above f [] = refl
sum_above f (x ∷ xs) =
    by_test (ltb 0 (f x))
    (λ e. rw e (lt-ltb 0 (f x + sum_of f xs) (omega (arith, ltb-true 0 (f x) e))))
    (λ e. rw e (ap (ltb 0) (let q : f x + sum_of f xs ≡ sum_of f xs = omega (arith, ltb-false 0 (f x) e) in q) ∙ sum_above f xs))

-- vertices that cost nothing with each other
cost_none : (W : ℕ) (g : Graph) (a : ℕ → ℕ) (vs : List ℕ) → ((u v : ℕ) → u ∈ vs → v ∈ vs → pair_cost W g u v (a u) (a v) ≡ 0) → cost_in W g a vs ≡ 0
unfolding cost_in
cost_none W g a [] h = refl
cost_none W g a (v ∷ vs) h =
    omega (arith, sum_zero (edge_cost W g a v) vs (λ u m. h u v (later m) (here refl)), cost_none W g a vs (λ u w m n. h u w (later m) (later n)))

-- ---- Units

-- the unit's number is one of its members, and no higher than any
pub record Grouping (unit : ℕ → ℕ) (n : ℕ) : Type 0 where
  pub lower : (i : ℕ) → i < n → unit i ≤ i
  pub again : (i : ℕ) → i < n → unit (unit i) ≡ unit i

-- masks that are the same on each unit
abbrev pub OneMask : (ℕ → ℕ) → ℕ → (ℕ → ℕ) → Type 0
OneMask unit n a = (i : ℕ) → i < n → a i ≡ a (unit i)

module _ (unit : ℕ → ℕ) (n : ℕ) where
  pub member_in : {u i : ℕ} → i ∈ merged_into unit n u → (i < n) × (unit i ≡ u)
  member_in {u} {i} m = let r = keep_in (λ i. eqb (unit i) u) (up_to n) m in ((in_up_to n i).0 r.0, eqb-true (unit i) u r.1)

  pub in_member : {u i : ℕ} → i < n → unit i ≡ u → i ∈ merged_into unit n u
  in_member {u} {i} l e = in_keep (λ i. eqb (unit i) u) ((in_up_to n i).1 l) (eq-eqb (unit i) u e)

  pub number_in : {u : ℕ} → u ∈ unit_numbers unit n → (u < n) × (unit u ≡ u)
  number_in {u} m = let r = keep_in (λ i. eqb (unit i) i) (up_to n) m in ((in_up_to n u).0 r.0, eqb-true (unit u) u r.1)

  -- the number of each vertex's unit is one of the numbers
  pub in_number : Grouping unit n → {i : ℕ} → i < n → unit i ∈ unit_numbers unit n
  in_number h {i} l = in_keep (λ i. eqb (unit i) i) ((in_up_to n (unit i)).1 (omega (arith, h.lower i l))) (eq-eqb (unit (unit i)) (unit i) (h.again i l))

  pub numbers_rising : Rising (unit_numbers unit n)
  numbers_rising = rising_keep (λ i. eqb (unit i) i) (up_to n) (up_to_rising n)

  pub numbers_distinct : Distinct (unit_numbers unit n)
  numbers_distinct = distinct_keep (λ i. eqb (unit i) i) (up_to n) (up_to_distinct n)

  -- the vertices whose unit is one of us
  abbrev in_units : List ℕ → List ℕ
  in_units us = keep (λ i. occurs (unit i) us) (up_to n)

  first_unit : (u : ℕ) (us : List ℕ) → keep (λ i. eqb (unit i) u) (in_units (u ∷ us)) ≡ merged_into unit n u
  unfolding any_of
  first_unit u us =
      keep_keep (λ i. eqb (unit i) u) (λ i. occurs (unit i) (u ∷ us)) (up_to n)
      ∙ keep_same (λ i. occurs (unit i) (u ∷ us) && eqb (unit i) u) (λ i. eqb (unit i) u) (up_to n)
      (λ i _. by_test (eqb (unit i) u) (λ e. rw e) (λ e. rw (e, and-false (occurs (unit i) us))))

  other_units : (u : ℕ) (us : List ℕ) → (u ∈ us → ⊥) → keep (λ i. not (eqb (unit i) u)) (in_units (u ∷ us)) ≡ in_units us
  unfolding any_of
  other_units u us h =
      keep_keep (λ i. not (eqb (unit i) u)) (λ i. occurs (unit i) (u ∷ us)) (up_to n)
      ∙ keep_same (λ i. occurs (unit i) (u ∷ us) && not (eqb (unit i) u)) (λ i. occurs (unit i) us) (up_to n)
      (λ i _. by_test (eqb (unit i) u)
      (λ e. rw (e, eqb-true (unit i) u e) (sym ((occurs_out u us).1 h)))
      (λ e. rw (e, and-true (occurs (unit i) us))))

  -- a sum over units of sums over their members is one sum
  sum_units : (f : ℕ → ℕ) (us : List ℕ) → Distinct us → sum_of (λ u. sum_of f (merged_into unit n u)) us ≡ sum_of f (in_units us)
  unfolding sum_of any_of
  sum_units f [] d = ap (sum_of f) (sym (keep_none (λ i. false) (up_to n) (λ i _. refl)))
  sum_units f (u ∷ us) d =
      ap₂ (λ (x y : ℕ). x + y) (ap (sum_of f) (sym (first_unit u us))) (sum_units f us d.1 ∙ ap (sum_of f) (sym (other_units u us d.0)))
      ∙ sym (sum_split f (λ i. eqb (unit i) u) (in_units (u ∷ us)))

  -- no edge of the merged graph goes from a unit to itself
  pub merged_loopless : (g : Graph) (v : ℕ) → joined (merged_graph unit n g) v v ≡ false
  unfolding edges_between
  merged_loopless g v = rw (eq-eqb v v refl)

  -- nor has it a direction
  module _ {g : Graph} (undirected : Undirected g) where
    between_sym : (edges : ℕ → ℕ → ℕ) → ((i j : ℕ) → edges i j ≡ edges j i) → (u v : ℕ) → edges_between edges unit n u v ≡ edges_between edges unit n v u
    unfolding edges_between
    between_sym edges h u v =
        let swapped : sum_of (λ i. sum_of (λ j. edges i j) (merged_into unit n v)) (merged_into unit n u) ≡ sum_of (λ i. sum_of (λ j. edges i j) (merged_into unit n u)) (merged_into unit n v)
        = sum_swap edges (merged_into unit n u) (merged_into unit n v) ∙ sum_same _ _ (merged_into unit n v) (λ j _. sum_same _ _ (merged_into unit n u) (λ i _. h i j)) in
        rw (eqb_sym u v, swapped)

    pub merged_undirected : Undirected (merged_graph unit n g)
    merged_undirected = record {
      conflicts = between_sym g.conflicts undirected.conflicts;
      stitches = between_sym g.stitches undirected.stitches;
    }

  module _ (W : ℕ) {g : Graph} (undirected : Undirected g) (a : ℕ → ℕ) (one : OneMask unit n a)
      (inside : (i j : ℕ) → i < n → j < n → unit i ≡ unit j → g.conflicts i j ≡ 0) where
    member_mask : {u i : ℕ} → i ∈ merged_into unit n u → a i ≡ a u
    member_mask {u} {i} m = let r = member_in m in one i r.0 ∙ ap a r.1

    -- what the members of two units cost
    pair_merged : (u v : ℕ) → (u ≡ v → ⊥)
        → pair_cost W (merged_graph unit n g) u v (a u) (a v) ≡ sum_of (λ i. sum_of (λ j. pair_cost W g i j (a i) (a j)) (merged_into unit n v)) (merged_into unit n u)
    unfolding pair_cost edges_between
    pair_merged u v h =
        by_test (eqb (a u) (a v))
        (λ e. rw (e, ne_eqb u v h)
        (sum_times W (λ i. sum_of (λ j. g.conflicts i j) (merged_into unit n v)) (merged_into unit n u)
        ∙ sum_same _ _ (merged_into unit n u) (λ i p. sum_times W (λ j. g.conflicts i j) (merged_into unit n v)
        ∙ sum_same _ _ (merged_into unit n v) (λ j q. rw (member_mask p, member_mask q, e)))))
        (λ e. rw (e, ne_eqb u v h)
        (sum_same _ _ (merged_into unit n u) (λ i p. sum_same _ _ (merged_into unit n v) (λ j q. rw (member_mask p, member_mask q, e)))))

    -- a unit costs nothing in itself
    unit_cost : (u : ℕ) → cost_in W g a (merged_into unit n u) ≡ 0
    unit_cost u = cost_none W g a (merged_into unit n u) (λ i j p q.
        let r = member_in p in
        let t = member_in q in
        pair_free W g i j (a i) (a j)
        (λ _. le-ltb 0 (g.conflicts i j) (omega (arith, inside i j r.0 t.0 (r.1 ∙ sym t.1))))
        (λ h. absurd (h (member_mask p ∙ sym (member_mask q)))))

    -- what a unit costs against others
    cross_merged : (u : ℕ) (us : List ℕ) → (u ∈ us → ⊥) → Distinct us → cross_cost W (merged_graph unit n g) a u us ≡ between W g a (merged_into unit n u) (in_units us)
    cross_merged u us h d =
        sum_same _ (λ w. sum_of (λ i. cross_cost W g a i (merged_into unit n u)) (merged_into unit n w)) us (λ w m.
        pair_merged w u (λ e. h (rw (← e) m))
        ∙ sum_same _ _ (merged_into unit n w) (λ i _. sum_same _ _ (merged_into unit n u) (λ j _. pair_sym W undirected i j (a i) (a j))))
        ∙ sum_units (λ i. cross_cost W g a i (merged_into unit n u)) us d

    units_cost : (us : List ℕ) → Distinct us → cost_in W g a (in_units us) ≡ cost_in W (merged_graph unit n g) a us
    unfolding cost_in any_of
    units_cost [] d = ap (cost_in W g a) (keep_none (λ i. false) (up_to n) (λ i _. refl))
    units_cost (u ∷ us) d =
        let t : ℕ → Bool = λ i. eqb (unit i) u in
        let split : cost_in W g a (in_units (u ∷ us)) ≡ cost_in W g a (merged_into unit n u) + cost_in W g a (in_units us) + between W g a (merged_into unit n u) (in_units us)
        = rw (first_unit u us, other_units u us d.0) at (cost_split W undirected a t (in_units (u ∷ us))) in
        omega (arith, unit_cost u, units_cost us d.1, cross_merged u us d.0 d.1)

    -- masks that are the same on each unit cost on the graph what they cost on the merged graph
    pub merged_cost : Grouping unit n → cost_in W g a (up_to n) ≡ cost_in W (merged_graph unit n g) a (unit_numbers unit n)
    merged_cost h =
        ap (cost_in W g a) (sym (keep_all (λ i. occurs (unit i) (unit_numbers unit n)) (up_to n) (λ i m. (occurs_in (unit i) (unit_numbers unit n)).1 (in_number h ((in_up_to n i).0 m)))))
        ∙ units_cost (unit_numbers unit n) numbers_distinct

  -- two units are neighbours exactly if they are two and a member of the one is a neighbour of a member of the other
  pub merged_neighbours : (edges : ℕ → ℕ → ℕ) (u v : ℕ)
      → ltb 0 (edges_between edges unit n u v) ≡ (not (eqb u v) && any_of (λ i. any_of (λ j. ltb 0 (edges i j)) (merged_into unit n v)) (merged_into unit n u))
  unfolding edges_between
  merged_neighbours edges u v =
      by_test (eqb u v)
      (λ e. rw e)
      (λ e. rw e
      (sum_above _ (merged_into unit n u) ∙ any_same _ _ (merged_into unit n u) (λ i _. sum_above (λ j. edges i j) (merged_into unit n v))))

  -- ---- Only the vertices below n count

  module _ {unit' : ℕ → ℕ} (units : (i : ℕ) → i < n → unit i ≡ unit' i) where
    into_same : (u : ℕ) → merged_into unit n u ≡ merged_into unit' n u
    into_same u = keep_same (λ i. eqb (unit i) u) (λ i. eqb (unit' i) u) (up_to n) (λ i m. ap (λ (x : ℕ). eqb x u) (units i ((in_up_to n i).0 m)))

    pub numbers_same : unit_numbers unit n ≡ unit_numbers unit' n
    numbers_same = keep_same (λ i. eqb (unit i) i) (λ i. eqb (unit' i) i) (up_to n) (λ i m. ap (λ (x : ℕ). eqb x i) (units i ((in_up_to n i).0 m)))

    pub between_same : (edges edges' : ℕ → ℕ → ℕ) → ((i j : ℕ) → i < n → j < n → edges i j ≡ edges' i j) → (u v : ℕ) → edges_between edges unit n u v ≡ edges_between edges' unit' n u v
    unfolding edges_between
    between_same edges edges' same u v =
        ap (given (not (eqb u v)))
        (sum_same _ _ (merged_into unit n u) (λ i p. sum_same _ _ (merged_into unit n v) (λ j q. same i j (member_in p).0 (member_in q).0))
        ∙ ap₂ (λ (us vs : List ℕ). sum_of (λ i. sum_of (λ j. edges' i j) vs) us) (into_same u) (into_same v))

  -- ---- Every vertex has its unit's mask

  pub spread_at : (masks : List ℕ) (i : ℕ) → i < n → mask_of (spread unit n masks) i ≡ mask_of masks (unit i)
  unfolding spread
  spread_at masks i l = mapped_up_to (λ i. mask_of masks (unit i)) 0 n i l

  pub spread_length : (masks : List ℕ) → length (spread unit n masks) ≡ n
  unfolding spread
  spread_length masks = length-map (up_to n) _ ∙ length_up_to n

  -- a list that has the masks of the units at all places
  pub spread_only : (masks after : List ℕ) → length after ≡ n → ((i : ℕ) → i < n → mask_of after i ≡ mask_of masks (unit i)) → after ≡ spread unit n masks
  spread_only masks after size at = ext_get_or 0 after (spread unit n masks) (size ∙ sym (spread_length masks)) λ i l. at i (omega arith) ∙ sym (spread_at masks i (omega arith))

  module _ (h : Grouping unit n) (masks : List ℕ) where
    pub spread_number : {u : ℕ} → u ∈ unit_numbers unit n → mask_of (spread unit n masks) u ≡ mask_of masks u
    spread_number {u} m = let r = number_in m in spread_at masks u r.0 ∙ ap (mask_of masks) r.1

    pub spread_one : OneMask unit n (mask_of (spread unit n masks))
    spread_one i l = spread_at masks i l ∙ sym (spread_number (in_number h l))
