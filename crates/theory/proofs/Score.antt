-- The score of masks that are all set is the cost among all vertices (`score_cost`), and the sum of what each place adds in a search is the cost among the component's
-- vertices (`total_cost`), in whatever order they stand. Both sums put one vertex after the others at a time, so each follows from the law that one
-- more vertex at the end costs what its edges to the earlier ones do (`cost_snoc`). A component's masks, put down at its vertices, are found
-- there again and change no other vertex.
use mathlib.Core.Bool.{not}
use mathlib.Core.List.{List, [], ◌∷◌, ◌++◌, map, append-nil, append_assoc, map-append}
use mathlib.Core.Path.{◌≡◌, refl, sym, ap, ap₂, ◌∙◌}
use Prim.Native.Nat.{ℕ, zero, suc, ◌+◌, ◌*◌, ◌<◌}
use native.Mathlib.Omega.{arith}
use lib.ListN.{length, get_or, set, length-set, length-map, get_or-append}
use lib.Seq.{get_or-set_same, get_or-set_other, get_or-append_seam}
use Rattle.rules.specs.Basics.{given, sum_to, sum_of, sum_pairs, up_from, up_to}
use Rattle.rules.specs.Edges.{Graph}
use Rattle.rules.specs.Score.{mask_of, same_mask, cost_of, score_of, pair_cost}
use Rattle.rules.specs.Search.{local_graph, added, total_after, total}
use Rattle.rules.specs.Decomposition.{put_masks}
use Rattle.rules.proofs.Edges.{Undirected}
use Rattle.rules.proofs.Lists.{◌∈◌, here, later, set_each, Distinct, length_up_to, get_d_up_to, up_to_snoc}
use Rattle.rules.proofs.Tests.{by_test}
use Rattle.theory.proofs.Cost.{edge_cost, cross_cost, cost_in, cost_snoc}
use Rattle.theory.proofs.Each.{Each, get_d_map}
use Rattle.theory.proofs.HalfDone.{AllSet, whole_conflicts, whole_stitches}

-- ---- Sums by number

sum_front : (f : ℕ → ℕ) (n : ℕ) → sum_to f (suc n) ≡ f 0 + sum_to (λ i. f (suc i)) n
unfolding sum_to
sum_front f zero = omega arith
sum_front f (suc n) = omega (arith, sum_front f n)

-- a sum over places is the sum over the list's members
pub sum_places : (f h : ℕ → ℕ) (xs : List ℕ) → ((i : ℕ) → i < length xs → f i ≡ h (get_or xs i 0)) → sum_to f (length xs) ≡ sum_of h xs
unfolding sum_to sum_of
sum_places f h [] e = refl
sum_places f h (x ∷ xs) e = sum_front f (length xs) ∙ omega (arith, e 0 (omega arith), sum_places (λ i. f (suc i)) h xs (λ i l. e (suc i) (omega arith)))

pub sum_up_to : (f : ℕ → ℕ) (n : ℕ) → sum_to f n ≡ sum_of f (up_to n)
sum_up_to f n = rw (length_up_to n) at (sum_places f f (up_to n) (λ i l. ap f (sym (get_d_up_to n i (rw (length_up_to n) at l)))))

-- a weighted sum and another are one sum
sum_weighted : (W : ℕ) (f h k : ℕ → ℕ) → ((i : ℕ) → W * f i + h i ≡ k i) → (n : ℕ) → W * sum_to f n + sum_to h n ≡ sum_to k n
unfolding sum_to
sum_weighted W f h k e zero = omega arith
sum_weighted W f h k e (suc n) = omega (arith, sum_weighted W f h k e n, e n)

pub pairs_weighted : (W : ℕ) (f h k : ℕ → ℕ → ℕ) → ((u v : ℕ) → W * f u v + h u v ≡ k u v) → (n : ℕ) → W * sum_pairs f n + sum_pairs h n ≡ sum_pairs k n
unfolding sum_pairs
pairs_weighted W f h k e =
    sum_weighted W (λ v. sum_to (λ u. f u v) v) (λ v. sum_to (λ u. h u v) v) (λ v. sum_to (λ u. k u v) v)
    (λ v. sum_weighted W (λ u. f u v) (λ u. h u v) (λ u. k u v) (λ u. e u v) v)

module _ (W : ℕ) {g : Graph} (undirected : Undirected g) where
  -- ---- The score

  pairs_cost : (a : ℕ → ℕ) (n : ℕ) → sum_pairs (λ u v. pair_cost W g u v (a u) (a v)) n ≡ cost_in W g a (up_to n)
  unfolding sum_pairs sum_to cost_in up_from
  pairs_cost a zero = refl
  pairs_cost a (suc n) =
      ap₂ ◌+◌ (pairs_cost a n) (sum_up_to (edge_cost W g a n) n)
      ∙ sym (ap (cost_in W g a) (up_to_snoc n) ∙ cost_snoc W undirected a (up_to n) n)

  pub score_cost : (masks : List ℕ) (n : ℕ) → AllSet n masks → (score_of W g masks n).cost ≡ cost_in W g (mask_of masks) (up_to n)
  unfolding score_of pair_cost
  score_cost masks n all =
      ap₂ (cost_of W) (whole_conflicts g masks n all) (whole_stitches g masks n all)
      ∙ pairs_weighted W (λ u v. given (same_mask masks u v) (g.conflicts u v)) (λ u v. given (not (same_mask masks u v)) (g.stitches u v))
      (λ u v. pair_cost W g u v (mask_of masks u) (mask_of masks v))
      (λ u v. by_test (same_mask masks u v) (λ e. rw e (omega arith)) (λ e. rw e (omega arith))) n
      ∙ pairs_cost (mask_of masks) n

  -- ---- The search's local problem

  module _ (a : ℕ → ℕ) (order : List ℕ) where
    added_cost : (done : List ℕ) (v : ℕ) (rest : List ℕ) → done ++ v ∷ rest ≡ order → added W (local_graph g order) (map a done) (a v) ≡ cross_cost W g a v done
    unfolding added pair_cost
    added_cost done v rest e =
        let at : ℕ → ℕ = λ i. get_or (done ++ v ∷ rest) i 0 in
        rw (length-map done a, ← e)
        (sum_places (λ i. pair_cost W g (at i) (at (length done)) (get_or (map a done) i 0) (a v)) (edge_cost W g a v) done
        (λ i l. rw (get_or-append_seam done v rest 0, get_or-append done (v ∷ rest) 0 i l, get_d_map a done i l)))

    total_from : (done rest : List ℕ) → done ++ rest ≡ order → total_after (added W (local_graph g order)) (map a done) (cost_in W g a done) (map a rest) ≡ cost_in W g a order
    unfolding total_after
    total_from done [] e = ap (cost_in W g a) (sym (append-nil done) ∙ e)
    total_from done (v ∷ rest) e =
        ap₂ (λ (p : List ℕ) (c : ℕ). total_after (added W (local_graph g order)) p c (map a rest))
        (sym (map-append a done (v ∷ [])))
        (ap (λ (n : ℕ). cost_in W g a done + n) (added_cost done v rest e) ∙ sym (cost_snoc W undirected a done v))
        ∙ total_from (done ++ (v ∷ [])) rest (append_assoc done (v ∷ []) rest ∙ e)

    pub total_cost : total (added W (local_graph g order)) (map a order) ≡ cost_in W g a order
    unfolding cost_in
    total_cost = total_from [] order refl

-- ---- A component's masks put down

pub put_length : (order p masks : List ℕ) → length (put_masks order p masks) ≡ length masks
unfolding put_masks
put_length [] p masks = refl
put_length (v ∷ order) [] masks = refl
put_length (v ∷ order) (m ∷ p) masks = put_length order p (set masks v m) ∙ length-set masks v m

-- masks below a bound, put down among such
pub put_below : {K : ℕ} (order p masks : List ℕ) → Each (λ m. m < K) p → ((i : ℕ) → mask_of masks i < K) → (i : ℕ) → mask_of (put_masks order p masks) i < K
unfolding put_masks
put_below [] p masks e h i = h i
put_below (v ∷ order) [] masks e h i = h i
put_below {K} (v ∷ order) (m ∷ p) masks e h i = put_below order p (set masks v m) e.1 (set_each (λ x. x < K) masks v m e.0 h) i

pub put_other : (order p masks : List ℕ) (u : ℕ) → (u ∈ order → ⊥) → mask_of (put_masks order p masks) u ≡ mask_of masks u
unfolding put_masks
put_other [] p masks u h = refl
put_other (v ∷ order) [] masks u h = refl
put_other (v ∷ order) (m ∷ p) masks u h = put_other order p (set masks v m) u (λ i. h (later i)) ∙ get_or-set_other masks v u m 0 (λ e. h (here e))

pub put_own : (order p masks : List ℕ) → Distinct order → ((v : ℕ) → v ∈ order → v < length masks) → length p ≡ length order
    → map (mask_of (put_masks order p masks)) order ≡ p
unfolding put_masks
put_own [] [] masks d l e = refl
put_own [] (m ∷ p) masks d l e = absurd (omega arith)
put_own (v ∷ order) [] masks d l e = absurd (omega arith)
put_own (v ∷ order) (m ∷ p) masks d l e =
    ap₂ (λ (x : ℕ) (xs : List ℕ). x ∷ xs)
    (put_other order p (set masks v m) v d.0 ∙ get_or-set_same masks v m 0 (l v (here refl)))
    (put_own order p (set masks v m) d.1 (λ u i. rw (length-set masks v m) (l u (later i))) (omega arith))

-- what a component's masks cost in the search, they cost put down
pub put_cost : (W : ℕ) {g : Graph} → Undirected g → (order p masks : List ℕ) → Distinct order → ((v : ℕ) → v ∈ order → v < length masks) → length p ≡ length order
    → cost_in W g (mask_of (put_masks order p masks)) order ≡ total (added W (local_graph g order)) p
put_cost W {g} undirected order p masks d l e =
    sym (total_cost W undirected (mask_of (put_masks order p masks)) order) ∙ ap (total (added W (local_graph g order))) (put_own order p masks d l e)
