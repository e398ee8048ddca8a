-- The places that are laid out, read from the parts of the entries, and what a mask adds at one by the rules. Assumes nothing.
use mathlib.Core.Bool.{Bool, not}
use mathlib.Core.List.{List, [], ◌∷◌}
use mathlib.Core.Logic.{⊎_elim}
use mathlib.Core.Path.{◌≡◌, refl, sym, ap, ap₂, subst, subst⁻¹, ◌∙◌}
use Prim.Native.Nat.{ℕ, suc, ◌+◌, ◌*◌, ◌/◌, ◌<◌}
use native.Mathlib.Omega.{arith}
use lib.Dec.{eqb}
use lib.ListN.{length, get_or, length-map}
use Rattle.std.proofs.lemmas.List.{get_or-map}
use Rattle.bitset.specs.declared.matrix.Matrix.{Matrix}
use Rattle.rules.specs.Basics.{given, sum_of, up_to, up_from, count_of}
use Rattle.rules.specs.Edges.{Graph}
use Rattle.rules.specs.Search.{local_graph, added}
use Rattle.rules.proofs.Lists.{◌∈◌, none_in, each_cons, place_in, length_up_to, get_d_up_to}
use Rattle.rules.proofs.Tests.{by_test, lt_or_ge}
use Rattle.adjacency.specs.UnitGraph.{unit_graph}
use Rattle.theory.proofs.EdgeLists.{Lists, added_lists}
use Rattle.places.specs.Local.{Neighbours, no_neighbours, conflicts_at, stitches_at, Earlier, on_mask, off_mask, local_added}
use Rattle.places.specs.Parts.{place_at, places_of, Parts}
use Rattle.places.specs.LaidOut.{LaidOut}
use Rattle.places.proofs.Counting.{count_sum}
use Rattle.places.proofs.Laying.{PartsTo}

-- ---- Reading

pub places_size : (starts entries : List ℕ) → length (places_of starts entries) ≡ length starts / 2
unfolding places_of
places_size starts entries = length-map (up_to (length starts / 2)) (place_at starts entries) ∙ length_up_to (length starts / 2)

pub place_read : (starts entries : List ℕ) (k : ℕ) → k < length starts / 2 → get_or (places_of starts entries) k no_neighbours ≡ place_at starts entries k
unfolding places_of
place_read starts entries k h =
    get_or-map (place_at starts entries) (up_to (length starts / 2)) k 0 no_neighbours (omega (arith, length_up_to (length starts / 2)))
    ∙ ap (place_at starts entries) (get_d_up_to (length starts / 2) k h)

-- the places that a contract sees, and one of them
module _ (starts entries : List ℕ) {places : List Neighbours} (is : places_of starts entries ≡ places) {k : ℕ} (h : k < length places) where
  pub place_there : k < length starts / 2
  place_there = omega (arith, places_size starts entries, ap length is)

  pub place_is : get_or places k no_neighbours ≡ place_at starts entries k
  place_is = ap (λ (l : List Neighbours). get_or l k no_neighbours) (sym is) ∙ place_read starts entries k place_there

-- ---- All places laid out

-- part i has the edges of its place
pub record EdgePart (g : Graph) (i : ℕ) (part : List ℕ) : Type 0 where
  pub conflicts : (k : ℕ) → i ≡ 2 * k → Lists g.conflicts k part
  pub stitches : (k : ℕ) → i ≡ 2 * k + 1 → Lists g.stitches k part

pub conflict_part : {g : Graph} {k : ℕ} {part : List ℕ} → Lists g.conflicts k part → EdgePart g (2 * k) part
conflict_part {g} {k} {part} l = record {
  conflicts = λ j e. let same : k ≡ j = omega arith in subst (λ (x : ℕ). Lists g.conflicts x part) same l;
  stitches = λ j e. absurd (omega arith);
}

pub stitch_part : {g : Graph} {k : ℕ} {part : List ℕ} → Lists g.stitches k part → EdgePart g (2 * k + 1) part
stitch_part {g} {k} {part} l = record {
  conflicts = λ j e. absurd (omega arith);
  stitches = λ j e. let same : k ≡ j = omega arith in subst (λ (x : ℕ). Lists g.stitches x part) same l;
}

listed_earlier : {edges : ℕ → ℕ → ℕ} {k : ℕ} {part : List ℕ} → Lists edges k part → Earlier k part
listed_earlier {part = part} lists i h = lists.below (get_or part i 0) (place_in part i h)

module _ {g : Graph} {starts entries : List ℕ} (size : ℕ) (laid : PartsTo (EdgePart g) starts entries (2 * size)) where
  half : length starts / 2 ≡ size
  half = omega (arith, laid.long)

  pub laid_parts : Parts starts entries
  laid_parts = record {
    pairs = omega (arith, laid.long);
    rising = λ i h. laid.rising i (omega (arith, laid.long));
    within = λ i h. laid.within i (omega (arith, laid.long));
    earlier = λ i h.
        let part = laid.part i (omega (arith, laid.long)) in
        ⊎_elim
        (λ (l : i < 2 * (i / 2) + 1). listed_earlier (part.conflicts (i / 2) (omega arith)))
        (λ l. listed_earlier (part.stitches (i / 2) (omega arith)))
        (lt_or_ge i (2 * (i / 2) + 1));
  }

  conflicts : (k : ℕ) → k < size → Lists g.conflicts k (conflicts_at (places_of starts entries) k)
  conflicts k h =
      let read = ap (λ (n : Neighbours). n.conflicts) (place_read starts entries k (omega (arith, half))) in
      subst⁻¹ (Lists g.conflicts k) read ((laid.part (2 * k) (omega arith)).conflicts k refl)

  stitches : (k : ℕ) → k < size → Lists g.stitches k (stitches_at (places_of starts entries) k)
  stitches k h =
      let read = ap (λ (n : Neighbours). n.stitches) (place_read starts entries k (omega (arith, half))) in
      subst⁻¹ (Lists g.stitches k) read ((laid.part (2 * k + 1) (omega arith)).stitches k refl)

pub places_none : places_of (0 ∷ []) [] ≡ []
unfolding places_of up_from
places_none = refl

pub laid_all : {conflictWords stitchWords : Matrix} {units order starts entries : List ℕ}
    → PartsTo (EdgePart (local_graph (unit_graph conflictWords stitchWords units (length units)) order)) starts entries (2 * length order)
    → LaidOut conflictWords stitchWords units order (places_of starts entries)
laid_all {order = order} {starts} {entries} laid = record {
  size = places_size starts entries ∙ half (length order) laid;
  earlier = λ k h. (listed_earlier (conflicts (length order) laid k h), listed_earlier (stitches (length order) laid k h));
  conflicts = λ u v l h. (conflicts (length order) laid v h).counted u l;
  stitches = λ u v l h. (stitches (length order) laid v h).counted u l;
}

-- ---- What a mask adds

earlier_in : (k : ℕ) (xs : List ℕ) → Earlier k xs → (u : ℕ) → u ∈ xs → u < k
earlier_in k [] h u m = none_in m
earlier_in k (x ∷ xs) h u m = each_cons {Q = λ z. z < k} (h 0 (omega arith)) (earlier_in k xs (λ i l. let more = h (suc i) in more (omega arith))) u m

-- a number's share of a sum is weighed at the end
count_weighed : (weight : ℕ) (f : ℕ → Bool) (xs : List ℕ) → weight * count_of f xs ≡ sum_of (λ x. given (f x) weight) xs
unfolding count_of sum_of
count_weighed weight f [] = omega arith
count_weighed weight f (x ∷ xs) =
    by_test (f x)
    (λ e. rw e (omega (arith, count_weighed weight f xs)))
    (λ e. rw e (omega (arith, count_weighed weight f xs)))

pub laid_adds : {conflictWords stitchWords : Matrix} {units order : List ℕ} {places : List Neighbours} → LaidOut conflictWords stitchWords units order places
    → (weight : ℕ) (p : List ℕ) (m : ℕ) → length p < length order
    → local_added weight places p m ≡ added weight (local_graph (unit_graph conflictWords stitchWords units (length units)) order) p m
unfolding local_added
laid_adds {conflictWords} {stitchWords} {units} {order} {places} laid weight p m h =
    let k = length p in
    let g = local_graph (unit_graph conflictWords stitchWords units (length units)) order in
    let on : weight * on_mask p m (conflicts_at places k) ≡ sum_of (λ i. given (eqb (get_or p i 0) m) weight) (conflicts_at places k)
    = count_weighed weight (λ i. eqb (get_or p i 0) m) (conflicts_at places k) in
    let off : off_mask p m (stitches_at places k) ≡ sum_of (λ i. given (not (eqb (get_or p i 0) m)) 1) (stitches_at places k)
    = count_sum (λ i. not (eqb (get_or p i 0) m)) (stitches_at places k) in
    ap₂ (λ (a b : ℕ). a + b) on off
    ∙ added_lists weight g p (conflicts_at places k) (stitches_at places k) m
    (record { below = earlier_in k (conflicts_at places k) (laid.earlier k h).0; counted = λ i l. laid.conflicts i k l h })
    (record { below = earlier_in k (stitches_at places k) (laid.earlier k h).1; counted = λ i l. laid.stitches i k l h })
