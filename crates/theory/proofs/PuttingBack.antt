-- Putting back costs nothing. A vertex returns to the same vertices that it left, so what its removal asked of
-- them still holds. A vertex removed by (A) has fewer conflict neighbours among them than there are masks, so some mask is free (pigeonhole), and no
-- stitch neighbour; one removed by (B) has no conflict neighbour, and takes the mask of its only stitch neighbour. Either way its mask costs
-- nothing against those present (`Fits`), and one round of putting back keeps all that is claimed (`one_back`); peeling's induction does the rest.
use mathlib.Core.Bool.{Bool, true, false, not, ◌&&◌, ◌||◌, and-eq-true_iff}
use mathlib.Core.List.{List, ◌∷◌}
use mathlib.Core.Logic.Iff
use mathlib.Core.Logic.{⊎_elim}
use mathlib.Core.Option.{Option, none, some}
use mathlib.Core.Path.{◌≡◌, refl, sym, ap, ◌∙◌}
use Prim.Native.Nat.{ℕ, ◌<◌}
use native.Mathlib.Omega.{arith}
use lib.Dec.{eqb, ltb}
use lib.ListN.{length, set, length-set}
use lib.Seq.{get_or-set_same, get_or-set_other}
use borrow.Author.Tests.{eqb-true, eq-eqb, ltb-true, not-true, not-false}
use Rattle.rules.specs.Basics.{up_to, any_of, keep, find, found_or, without}
use Rattle.rules.specs.Edges.{Graph, in_conflict, in_stitch, joined}
use Rattle.rules.specs.Score.{mask_of, pair_cost}
use Rattle.rules.specs.Peeling.{conflict_degree, stitch_degree, low_degree, is_pendant, is_fixed, may_go, removal_of, Peeled, peel_for}
use Rattle.rules.specs.Decomposition.{Placed, free_mask, put_back, put_back_all}
use Rattle.rules.proofs.Edges.{Undirected}
use Rattle.rules.proofs.Lists.{◌∈◌, here, later, here-or-later, equal-in, any_in, any_out, in_keep, in_up_to, in_without, without_in, without_or, first_in, find_first, find_none, Distinct, Same, distinct_without, length_keep, count_none, none_count, count_two, pigeonhole}
use Rattle.rules.proofs.Tests.{by_test, clash, or_false, and_right}
use Rattle.theory.proofs.Cost.{cost_in, cost_same, cost_without, pair_free, sum_zero}
use Rattle.theory.proofs.Peeling.{peel_induction, parts}

-- What is asked of the vertices: no one stands twice, each has a place among the masks, and none is joined to itself.
pub record Ready (g : Graph) (masks there : List ℕ) : Type 0 where
  pub distinct : Distinct there
  pub placed : (v : ℕ) → v ∈ there → v < length masks
  pub loopless : (v : ℕ) → v ∈ there → joined g v v ≡ false

ready_without : {g : Graph} {masks there : List ℕ} (v : ℕ) → Ready g masks there → Ready g masks (without v there)
ready_without {there} v r = record {
  distinct = distinct_without v there r.distinct;
  placed = λ u m. r.placed u (without_in v there m).0;
  loopless = λ u m. r.loopless u (without_in v there m).0;
}

-- What putting back comes to: `there` is present again, from the core on.
pub record Returned (K : ℕ) (g : Graph) (there core masks : List ℕ) (placed : Placed) : Type 0 where
  pub size : length placed.masks ≡ length masks
  pub members : Same placed.there there
  pub distinct : Distinct placed.there
  pub on_core : (u : ℕ) → u ∈ core → mask_of placed.masks u ≡ mask_of masks u
  pub outside : (u : ℕ) → (u ∈ there → ⊥) → mask_of placed.masks u ≡ mask_of masks u
  pub below : ((u : ℕ) → u ∈ core → mask_of masks u < K) → (u : ℕ) → u ∈ there → mask_of placed.masks u < K
  pub cost : (W : ℕ) → cost_in W g (mask_of placed.masks) there ≡ cost_in W g (mask_of masks) core

-- a mask for v that costs nothing against those present, and is one of the masks if theirs are
record Fits (K : ℕ) (g : Graph) (present : List ℕ) (a : ℕ → ℕ) (v m : ℕ) : Type 0 where
  below : ((u : ℕ) → u ∈ present → a u < K) → m < K
  free : (W u : ℕ) → u ∈ present → pair_cost W g u v (a u) m ≡ 0

module _ (K : ℕ) {g : Graph} (undirected : Undirected g) (v : ℕ) (there : List ℕ) where
  -- the lowest free mask of an (A) vertex
  module _ (isLow : low_degree K g there v ≡ true) (b : Placed) (present : Same b.there (without v there)) where
    free_fits : Fits K g (without v there) (mask_of b.masks) v (free_mask K g b v)
    free_fits = step (find free (up_to K)) refl
      where
        degrees : (eqb (stitch_degree g there v) 0 ≡ true) × (ltb (conflict_degree g there v) K ≡ true)
        degrees = (and-eq-true_iff (eqb (stitch_degree g there v) 0) (ltb (conflict_degree g there v) K)).0 isLow

        -- u stands in the way of mask m
        takes : ℕ → ℕ → Bool
        takes m u = in_conflict g v u && eqb (mask_of b.masks u) m

        free : ℕ → Bool
        free m = not (any_of (takes m) b.there)

        -- a mask that is not free is the mask of a conflict neighbour
        taker : (m : ℕ) → free m ≡ false → (u : ℕ) × (u ∈ keep (in_conflict g v) there) × (mask_of b.masks u ≡ m)
        taker m e =
            let r = any_in (takes m) b.there (not-false (any_of (takes m) b.there) e) in
            let t = (and-eq-true_iff (in_conflict g v r.0) (eqb (mask_of b.masks r.0) m)).0 r.2 in
            (r.0, in_keep (in_conflict g v) (without_in v there ((present r.0).0 r.1)).0 t.0, eqb-true (mask_of b.masks r.0) m t.1)

        -- who has a free mask is no conflict neighbour
        spared : (m u : ℕ) → free m ≡ true → u ∈ without v there → mask_of b.masks u ≡ m → in_conflict g v u ≡ false
        spared m u e i q =
            let r = any_out (takes m) b.there (not-true (any_of (takes m) b.there) e) u ((present u).1 i) in
            by_test (in_conflict g v u) (λ p. clash ((and-eq-true_iff (in_conflict g v u) (eqb (mask_of b.masks u) m)).1 (p, eq-eqb (mask_of b.masks u) m q)) r) (λ p. p)

        step : (o : Option ℕ) → find free (up_to K) ≡ o → Fits K g (without v there) (mask_of b.masks) v (found_or 0 o)
        step none e =
            absurd (omega (
              arith,
              pigeonhole (mask_of b.masks) K (keep (in_conflict g v) there) (λ m l. taker m (find_none free (up_to K) e m ((in_up_to K m).1 l))),
              length_keep (in_conflict g v) there,
              ltb-true (conflict_degree g there v) K degrees.1,
            ))
        step (some m) e =
            let first = find_first free (up_to K) e in
            record {
              below = λ _. (in_up_to K m).0 (first_in first);
              free = λ W u i.
                  pair_free W g u v (mask_of b.masks u) m
                  (λ q. rw (undirected.conflicts u v) (spared m u first.pass i q))
                  (λ _. rw (undirected.stitches u v) (count_none (in_stitch g v) there (eqb-true (stitch_degree g there v) 0 degrees.0) u (without_in v there i).0));
            }

  -- the stitch neighbour's mask of a (B) vertex
  module _ (hasOne : is_pendant g there v ≡ true) (loopless : joined g v v ≡ false) (a : ℕ → ℕ) where
    pendant_fits : Fits K g (without v there) a v (a (found_or v (find (in_stitch g v) there)))
    pendant_fits = step (find (in_stitch g v) there) refl
      where
        degrees : (eqb (conflict_degree g there v) 0 ≡ true) × (eqb (stitch_degree g there v) 1 ≡ true)
        degrees = (and-eq-true_iff (eqb (conflict_degree g there v) 0) (eqb (stitch_degree g there v) 1)).0 hasOne

        one : stitch_degree g there v ≡ 1
        one = eqb-true (stitch_degree g there v) 1 degrees.1

        step : (o : Option ℕ) → find (in_stitch g v) there ≡ o → Fits K g (without v there) a v (a (found_or v o))
        step none e = absurd (omega (arith, one, none_count (in_stitch g v) there (find_none (in_stitch g v) there e)))
        step (some w) e =
            let first = find_first (in_stitch g v) there e in
            let itself : in_stitch g v v ≡ false = (or_false (in_conflict g v v) (in_stitch g v v) loopless).1 in
            record {
              below = λ h. h w (in_without v (first_in first) (λ (q : v ≡ w). clash first.pass (rw (← q) itself)));
              free = λ W u i.
                  pair_free W g u v (a u) (a w)
                  (λ _. rw (undirected.conflicts u v) (count_none (in_conflict g v) there (eqb-true (conflict_degree g there v) 0 degrees.0) u (without_in v there i).0))
                  (λ h. rw (undirected.stitches u v) (by_test (in_stitch g v u)
                  (λ p. absurd (omega (arith, one, count_two (in_stitch g v) (without_in v there i).0 (first_in first) p first.pass (λ (q : u ≡ w). h (ap a q)))))
                  (λ p. p)));
            }

  -- whichever rule removed v, the mask it takes fits
  takes : (fixed : ℕ → ℕ) (b : Placed) → Same b.there (without v there) → may_go K g fixed there v ≡ true → joined g v v ≡ false
      → (m : ℕ) × Fits K g (without v there) (mask_of b.masks) v m × (put_back K g (removal_of K g there v) b ≡ record { there = v ∷ b.there; masks = set b.masks v m })
  unfolding put_back may_go
  takes fixed b present goes loop =
      let either = and_right (not (is_fixed fixed v)) (low_degree K g there v || is_pendant g there v) goes in
      by_test (low_degree K g there v)
      (λ e. (free_mask K g b v, free_fits e b present, rw e))
      (λ e. (mask_of b.masks (found_or v (find (in_stitch g v) there)), pendant_fits (rw e at either) loop (mask_of b.masks), rw e))

  -- one vertex returns
  one_back : {core masks : List ℕ} {b : Placed} {m : ℕ} → v ∈ there → Distinct there → v < length masks → ((u : ℕ) → u ∈ core → u ∈ without v there)
      → Returned K g (without v there) core masks b → Fits K g (without v there) (mask_of b.masks) v m
      → Returned K g there core masks (record { there = v ∷ b.there; masks = set b.masks v m })
  one_back {core} {masks} {b} {m} i d l inside r f =
      let a : ℕ → ℕ = mask_of (set b.masks v m) in
      let new : a v ≡ m = get_or-set_same b.masks v m 0 (omega (arith, r.size)) in
      let old : (u : ℕ) → u ∈ without v there → a u ≡ mask_of b.masks u = λ u n. get_or-set_other b.masks v u m 0 (λ e. (without_in v there n).1 (sym e)) in
      record {
        size = length-set b.masks v m ∙ r.size;
        members = λ u. (
          λ n. ⊎_elim (λ e. equal-in e i) (λ o. (without_in v there ((r.members u).0 o)).0) (here-or-later n),
          λ n. ⊎_elim (λ e. here e) (λ o. later ((r.members u).1 o)) (without_or v n),
        );
        distinct = (λ n. (without_in v there ((r.members v).0 n)).1 refl, r.distinct);
        on_core = λ u n. old u (inside u n) ∙ r.on_core u n;
        outside = λ u h. get_or-set_other b.masks v u m 0 (λ e. h (equal-in e i)) ∙ r.outside u (λ n. h (without_in v there n).0);
        below = λ h u n. ⊎_elim (λ (e : u ≡ v). rw (e, new) (f.below (r.below h))) (λ o. rw (old u o) (r.below h u o)) (without_or v n);
        cost = λ W. omega (
          arith,
          cost_without W undirected a i d,
          cost_same W g a (mask_of b.masks) (without v there) old,
          r.cost W,
          sum_zero (λ u. pair_cost W g u v (a u) (a v)) (without v there) (λ u n. rw (new, old u n) (f.free W u n)),
        );
      }

-- those removed return to the core with these masks
abbrev back : ℕ → Graph → List ℕ → Peeled → Placed
back K g masks p = put_back_all K g p.removed (record { there = p.core; masks = masks })

module _ (K : ℕ) {g : Graph} (undirected : Undirected g) (fixed : ℕ → ℕ) (masks : List ℕ) where
  pub returned : (rounds : ℕ) (there : List ℕ) → Ready g masks there
      → let peeled = peel_for rounds K g fixed there in
      Returned K g there peeled.core masks (put_back_all K g peeled.removed (record { there = peeled.core; masks = masks }))
  unfolding put_back_all
  returned =
      peel_induction K g fixed (λ there p. Ready g masks there → Returned K g there p.core masks (back K g masks p))
      (λ there r. record {
        size = refl;
        members = λ u. Iff.rfl;
        distinct = r.distinct;
        on_core = λ u m. refl;
        outside = λ u h. refl;
        below = λ h. h;
        cost = λ W. refl;
      })
      (λ rounds there v first ih r.
      let rest = peel_for rounds K g fixed (without v there) in
      let old = ih (ready_without v r) in
      let i = first_in first in
      let t = takes K undirected v there fixed (back K g masks rest) old.members first.pass (r.loopless v i) in
      rw t.2 (one_back K undirected v there i r.distinct (r.placed v i) (parts K g fixed rounds (without v there)).core_in old t.1))
