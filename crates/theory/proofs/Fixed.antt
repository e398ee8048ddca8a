-- Fixed masks. A vertex may have a mask that is below K and, where its mask is fixed, is that one (`May`). What the search tries at a place, and what the first
-- assignment takes there, the place may have. In a component with a fixed place the search tries every mask that a place may have, so it allows
-- every rival (`allowed_fixed`); in one without, it tries what it tries where no masks are fixed (`candidates_free`, `allowed_free`).
use mathlib.Core.Bool.{true, false}
use mathlib.Core.List.{List, [], ◌∷◌, ◌++◌, map}
use mathlib.Core.Logic.{⊎_elim}
use mathlib.Core.Path.{◌≡◌, refl, sym, ap, subst, ◌∙◌}
use Prim.Native.Nat.{ℕ, zero, suc, ◌+◌, ◌-◌, ◌≤◌, ◌<◌, min}
use native.Mathlib.Nat.{not-suc-le-zero, le_of_suc-le-suc}
use native.Mathlib.Omega.{arith}
use lib.ListN.{length, get_or, length-append, length-map, get_or-append}
use lib.Seq.{get_or-append_seam}
use Rattle.rules.specs.Basics.{up_to, any_of}
use Rattle.rules.specs.Peeling.{is_fixed}
use Rattle.rules.specs.Search.{local_fixed, cheapest, first_after, first_mask, different, candidates, candidates_in}
use Rattle.rules.proofs.Lists.{◌∈◌, here, later, in_up_to, out_any, place_in}
use Rattle.rules.proofs.Tests.{by_test, clash, lt_or_ge}
use Rattle.theory.proofs.Each.{Each, each_imp, each_run, get_d_map}
use Rattle.theory.proofs.Search.{Allowed, cheapest_below}

-- v may have mask m
pub record May (K : ℕ) (fixed : ℕ → ℕ) (v m : ℕ) : Type 0 where
  pub below : m < K
  pub kept : is_fixed fixed v ≡ true → m ≡ fixed v

-- the fixed masks of the vertices vs are masks
abbrev pub FixedBelow : ℕ → (ℕ → ℕ) → List ℕ → Type 0
FixedBelow K fixed vs = (v : ℕ) → v ∈ vs → is_fixed fixed v ≡ true → fixed v < K

-- each of the first places may have its mask in p
abbrev pub Fits : ℕ → (ℕ → ℕ) → List ℕ → Type 0
Fits K fixed p = (i : ℕ) → i < length p → May K fixed i (get_or p i 0)

pub fits_none : {K : ℕ} {fixed : ℕ → ℕ} → Fits K fixed []
fits_none i l = absurd (not-suc-le-zero l)

pub fits_snoc : {K : ℕ} {fixed : ℕ → ℕ} (p : List ℕ) (m : ℕ) → Fits K fixed p → May K fixed (length p) m → Fits K fixed (p ++ (m ∷ []))
fits_snoc p m h n i l =
    ⊎_elim
    (λ k. rw (get_or-append p (m ∷ []) 0 i k) (h i k))
    (λ k. let e : i ≡ length p = omega (arith, length-append p (m ∷ [])) in rw (e, get_or-append_seam p m [] 0) n)
    (lt_or_ge i (length p))

-- ---- From vertices to places and back

place_of : {u : ℕ} {xs : List ℕ} → u ∈ xs → (i : ℕ) × (i < length xs) × (get_or xs i 0 ≡ u)
place_of (here e) = (0, omega arith, sym e)
place_of (later m) = let (i, l, e) = place_of m in (suc i, omega arith, e)

-- a place has the fixed mask of its vertex
pub local_at : (fixed : ℕ → ℕ) (order : List ℕ) (i : ℕ) → i < length order → local_fixed fixed order i ≡ fixed (get_or order i 0)
local_at fixed [] i l = absurd (not-suc-le-zero l)
local_at fixed (v ∷ order) zero l = refl
local_at fixed (v ∷ order) (suc i) l = local_at fixed order i (le_of_suc-le-suc l)

module _ {K : ℕ} {fixed : ℕ → ℕ} (order : List ℕ) where
  at_place : {i m : ℕ} → i < length order → May K fixed (get_or order i 0) m → May K (local_fixed fixed order) i m
  at_place {i} l h = let e = local_at fixed order i l in record { below = h.below; kept = λ t. h.kept (rw e at t) ∙ sym e }

  at_vertex : {i m : ℕ} → i < length order → May K (local_fixed fixed order) i m → May K fixed (get_or order i 0) m
  at_vertex {i} l h = let e = local_at fixed order i l in record { below = h.below; kept = λ t. h.kept (rw e t) ∙ e }

  pub local_below : FixedBelow K fixed order → (i : ℕ) → i < length order → is_fixed (local_fixed fixed order) i ≡ true → local_fixed fixed order i < K
  local_below h i l t = let e = local_at fixed order i l in rw e (h (get_or order i 0) (place_in order i l) (rw e at t))

  module _ (a : ℕ → ℕ) where
    pub image_fits : ((u : ℕ) → u ∈ order → May K fixed u (a u)) → Fits K (local_fixed fixed order) (map a order)
    image_fits h i l =
        let k : i < length order = rw (length-map order a) at l in
        rw (get_d_map a order i k) (at_place k (h (get_or order i 0) (place_in order i k)))

    pub fits_image : Fits K (local_fixed fixed order) (map a order) → (u : ℕ) → u ∈ order → May K fixed u (a u)
    fits_image h u m =
        let (i, k, e) = place_of m in
        let f : May K (local_fixed fixed order) i (a (get_or order i 0)) = rw (get_d_map a order i k) at (h i (rw (length-map order a) k)) in
        subst (λ v. May K fixed v (a v)) e (at_vertex k f)

-- ---- What the search tries

-- candidates are masks
pub candidates_below : (K : ℕ) → 0 < K → (p : List ℕ) → Each (λ m. m < K) (candidates K p)
unfolding candidates
candidates_below K h p = each_run 0 (suc (min (different p) (K - 1))) (λ m l. omega arith)

module _ (K : ℕ) (pos : 0 < K) (fixed : ℕ → ℕ) (k : ℕ) (below : (i : ℕ) → i < k → is_fixed fixed i ≡ true → fixed i < K) where
  -- a place may have what is tried there
  pub candidates_may : (p : List ℕ) → length p < k → Each (May K fixed (length p)) (candidates_in K fixed k p)
  unfolding candidates_in
  candidates_may p l =
      by_test (is_fixed fixed (length p))
      (λ e. rw e (record { below = below (length p) l e; kept = λ _. refl }, tt))
      (λ e. rw e
      (by_test (any_of (is_fixed fixed) (up_to k))
      (λ q. rw q (each_run 0 K (λ m h. record { below = omega arith; kept = λ t. clash t e })))
      (λ q. rw q (each_imp (λ m h. record { below = h; kept = λ t. clash t e }) (candidates K p) (candidates_below K pos p)))))

  -- and what the first assignment takes there
  pub first_may : (add : List ℕ → ℕ → ℕ) (p : List ℕ) → length p < k → May K fixed (length p) (first_mask add K fixed p)
  unfolding first_mask
  first_may add p l =
      by_test (is_fixed fixed (length p))
      (λ e. rw e (record { below = below (length p) l e; kept = λ _. refl }))
      (λ e. rw e (record { below = cheapest_below (add p) K pos; kept = λ t. clash t e }))

-- where a place is fixed, every mask that a place may have is tried there
pub allowed_fixed : (K : ℕ) (fixed : ℕ → ℕ) (k : ℕ) → any_of (is_fixed fixed) (up_to k) ≡ true
    → (p q : List ℕ) → ((j : ℕ) → j < length q → May K fixed (length p + j) (get_or q j 0)) → Allowed (candidates_in K fixed k) p q
unfolding candidates_in
allowed_fixed K fixed k some p [] h = tt
allowed_fixed K fixed k some p (m ∷ q) h =
    let now : May K fixed (length p) m = subst (λ (n : ℕ). May K fixed n m) (let e : length p + 0 ≡ length p = omega arith in e) (h 0 (omega arith)) in (
      by_test (is_fixed fixed (length p))
          (λ e. rw e (here (now.kept e)))
          (λ e. rw (e, some) ((in_up_to K m).1 now.below)),
      allowed_fixed K fixed k some (p ++ (m ∷ [])) q (λ j l.
          subst (λ (n : ℕ). May K fixed n (get_or q j 0))
          (let e : length p + suc j ≡ length (p ++ (m ∷ [])) + j = omega (arith, length-append p (m ∷ [])) in e)
          (h (suc j) (omega arith))),
    )

-- ---- Where no place is fixed

module _ (K : ℕ) (fixed : ℕ → ℕ) (k : ℕ) (free : (i : ℕ) → i < k → is_fixed fixed i ≡ false) where
  -- the search tries the candidates
  pub candidates_free : (p : List ℕ) → length p < k → candidates_in K fixed k p ≡ candidates K p
  unfolding candidates_in
  candidates_free p l = rw (free (length p) l, out_any (is_fixed fixed) (up_to k) (λ i m. free i ((in_up_to k i).0 m)))

  pub allowed_free : (p q : List ℕ) → length p + length q ≤ k → Allowed (candidates K) p q → Allowed (candidates_in K fixed k) p q
  allowed_free p [] l h = tt
  allowed_free p (m ∷ q) l h =
      (rw (candidates_free p (omega arith)) h.0, allowed_free (p ++ (m ∷ [])) q (omega (arith, length-append p (m ∷ []))) h.1)

  -- and each place of the first assignment takes the mask that adds least
  pub first_free : (add : List ℕ → ℕ → ℕ) (left : ℕ) (p : List ℕ) → length p + left ≤ k → first_after (first_mask add K fixed) left p ≡ first_after (λ q. cheapest (add q) K) left p
  unfolding first_after first_mask
  first_free add zero p l = refl
  first_free add (suc left) p l =
      let m = cheapest (add p) K in
      ap (λ (x : ℕ). first_after (first_mask add K fixed) left (p ++ (x ∷ []))) (rw (free (length p) (omega arith)))
      ∙ first_free add left (p ++ (m ∷ [])) (omega (arith, length-append p (m ∷ [])))
