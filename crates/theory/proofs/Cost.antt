-- What the edges inside a list of vertices cost, for masks given as a function. The cost is a sum over pairs, each pair once: a vertex pays for its
-- edges to those after it. Since edges have no direction, the order does not matter: a list splits by any test into two parts, whose costs and the
-- cost of the edges between them make up the whole. So a part never costs more than the whole, and parts that no edge joins add up.
use mathlib.Core.Bool.{Bool, false, not}
use mathlib.Core.List.{List, [], ◌∷◌, ◌++◌}
use mathlib.Core.Path.{◌≡◌, refl}
use Prim.Native.Nat.{ℕ, ◌+◌, ◌≤◌}
use native.Mathlib.Omega.{arith}
use native.Mathlib.Nat.{mul-zero}
use lib.Dec.{eqb}
use borrow.Author.Tests.{eqb-true, eqb-false, ltb-false}
use Rattle.rules.specs.Basics.{sum_of, keep, without}
use Rattle.rules.specs.Edges.{Graph, in_conflict, in_stitch, joined}
use Rattle.rules.specs.Score.{pair_cost}
use Rattle.rules.proofs.Edges.{Undirected}
use Rattle.rules.proofs.Lists.{◌∈◌, here, later, split_cases, Distinct, Same, distinct_without, without_head, without_tail, same_nil, same_without}
use Rattle.rules.proofs.Tests.{by_test, or_false, eqb_sym}

-- ---- Sums over a list

pub sum_same : (f h : ℕ → ℕ) (xs : List ℕ) → ((u : ℕ) → u ∈ xs → f u ≡ h u) → sum_of f xs ≡ sum_of h xs
unfolding sum_of
sum_same f h [] e = refl
sum_same f h (x ∷ xs) e = rw (e x (here refl), sum_same f h xs (λ u m. e u (later m)))

pub sum_zero : (f : ℕ → ℕ) (xs : List ℕ) → ((u : ℕ) → u ∈ xs → f u ≡ 0) → sum_of f xs ≡ 0
unfolding sum_of
sum_zero f [] e = refl
sum_zero f (x ∷ xs) e = rw (e x (here refl), sum_zero f xs (λ u m. e u (later m)))

pub sum_add : (f h : ℕ → ℕ) (xs : List ℕ) → sum_of (λ u. f u + h u) xs ≡ sum_of f xs + sum_of h xs
unfolding sum_of
sum_add f h [] = refl
sum_add f h (x ∷ xs) = omega (arith, sum_add f h xs)

pub sum_append : (f : ℕ → ℕ) (xs ys : List ℕ) → sum_of f (xs ++ ys) ≡ sum_of f xs + sum_of f ys
unfolding sum_of
sum_append f [] ys = omega arith
sum_append f (x ∷ xs) ys = omega (arith, sum_append f xs ys)

pub sum_split : (f : ℕ → ℕ) (t : ℕ → Bool) (xs : List ℕ) → sum_of f xs ≡ sum_of f (keep t xs) + sum_of f (keep (λ u. not (t u)) xs)
unfolding sum_of keep
sum_split f t [] = refl
sum_split f t (x ∷ xs) =
    let r = sum_split f t xs in
    split_cases t (λ l m. f x + sum_of f xs ≡ sum_of f l + sum_of f m) x xs (λ _. omega arith) (λ _. omega arith)

pub sum_without : (f : ℕ → ℕ) {v : ℕ} {xs : List ℕ} → v ∈ xs → Distinct xs → sum_of f xs ≡ f v + sum_of f (without v xs)
unfolding sum_of
sum_without f (here e) d = rw (without_head e d, e)
sum_without f (later m) d = rw (without_tail m d) (omega (arith, sum_without f m d.1))

pub sum_members : (f : ℕ → ℕ) (xs ys : List ℕ) → Distinct xs → Distinct ys → Same xs ys → sum_of f xs ≡ sum_of f ys
unfolding sum_of
sum_members f [] ys d e s = rw (same_nil ys s)
sum_members f (x ∷ xs) ys d e s =
    omega (arith, sum_without f ((s x).0 (here refl)) e, sum_members f xs (without x ys) d.1 (distinct_without x ys e) (same_without d s))

-- ---- Costs

-- what the edges between v and u cost
abbrev pub edge_cost : ℕ → Graph → (ℕ → ℕ) → ℕ → ℕ → ℕ
edge_cost W g a v u = pair_cost W g u v (a u) (a v)

-- what the edges between v and the vertices vs cost
abbrev pub cross_cost : ℕ → Graph → (ℕ → ℕ) → ℕ → List ℕ → ℕ
cross_cost W g a v vs = sum_of (edge_cost W g a v) vs

-- what the edges among the vertices vs cost
unfoldable pub cost_in : ℕ → Graph → (ℕ → ℕ) → List ℕ → ℕ
cost_in W g a [] = 0
cost_in W g a (v ∷ vs) = cross_cost W g a v vs + cost_in W g a vs

-- what the edges from the vertices us to the vertices vs cost
abbrev pub between : ℕ → Graph → (ℕ → ℕ) → List ℕ → List ℕ → ℕ
between W g a us vs = sum_of (λ v. cross_cost W g a v us) vs

-- A pair costs nothing where its masks agree and no conflict edge joins it, or they differ and no stitch edge does.
pub pair_free : (W : ℕ) (g : Graph) (u v x y : ℕ) → (x ≡ y → in_conflict g u v ≡ false) → ((x ≡ y → ⊥) → in_stitch g u v ≡ false) → pair_cost W g u v x y ≡ 0
unfolding pair_cost
pair_free W g u v x y agree differ =
    by_test (eqb x y)
    (λ e. let q : g.conflicts u v ≡ 0 = omega (arith, ltb-false 0 (g.conflicts u v) (agree (eqb-true x y e))) in rw (e, q, mul-zero))
    (λ e. rw e (omega (arith, ltb-false 0 (g.stitches u v) (differ (eqb-false x y e)))))

module _ (W : ℕ) (g : Graph) where
  -- masks that agree on the vertices cost the same
  pub cost_same : (a b : ℕ → ℕ) (vs : List ℕ) → ((u : ℕ) → u ∈ vs → a u ≡ b u) → cost_in W g a vs ≡ cost_in W g b vs
  unfolding cost_in
  cost_same a b [] e = refl
  cost_same a b (v ∷ vs) e =
      omega (
        arith,
        cost_same a b vs (λ u m. e u (later m)),
        sum_same (edge_cost W g a v) (edge_cost W g b v) vs (λ u m. cc (e u (later m), e v (here refl))),
      )

  -- parts that no edge joins have no cost between them
  pub between_apart : (a : ℕ → ℕ) (us vs : List ℕ) → ((u v : ℕ) → u ∈ us → v ∈ vs → joined g u v ≡ false) → between W g a us vs ≡ 0
  between_apart a us vs h =
      sum_zero (λ v. cross_cost W g a v us) vs (λ v n. sum_zero (edge_cost W g a v) us (λ u m.
      let r = or_false (in_conflict g u v) (in_stitch g u v) (h u v m n) in
      pair_free W g u v (a u) (a v) (λ _. r.0) (λ _. r.1)))

module _ (W : ℕ) {g : Graph} (undirected : Undirected g) where
  pub pair_sym : (u v x y : ℕ) → pair_cost W g u v x y ≡ pair_cost W g v u y x
  unfolding pair_cost
  pair_sym u v x y = rw (eqb_sym x y, undirected.conflicts u v, undirected.stitches u v)

  module _ (a : ℕ → ℕ) where
    between_cons : (u : ℕ) (us vs : List ℕ) → between W g a (u ∷ us) vs ≡ cross_cost W g a u vs + between W g a us vs
    unfolding sum_of
    between_cons u us vs =
        omega (
          arith,
          sum_add (λ v. edge_cost W g a v u) (λ v. cross_cost W g a v us) vs,
          sum_same (λ v. edge_cost W g a v u) (edge_cost W g a u) vs (λ v m. pair_sym u v (a u) (a v)),
        )

    -- the cost of the whole is that of two parts and of the edges between them
    pub cost_split : (t : ℕ → Bool) (vs : List ℕ)
        → cost_in W g a vs ≡ cost_in W g a (keep t vs) + cost_in W g a (keep (λ u. not (t u)) vs) + between W g a (keep t vs) (keep (λ u. not (t u)) vs)
    unfolding cost_in keep sum_of
    cost_split t [] = refl
    cost_split t (v ∷ vs) =
        let whole = cost_split t vs in
        let cross = sum_split (edge_cost W g a v) t vs in
        split_cases t (λ ks fs. cross_cost W g a v vs + cost_in W g a vs ≡ cost_in W g a ks + cost_in W g a fs + between W g a ks fs) v vs
        (λ _. omega (arith, between_cons v (keep t vs) (keep (λ u. not (t u)) vs)))
        (λ _. omega arith)

    -- a part costs no more than the whole
    pub cost_part : (t : ℕ → Bool) (vs : List ℕ) → cost_in W g a (keep t vs) ≤ cost_in W g a vs
    cost_part t vs = omega (arith, cost_split t vs)

    -- parts that no edge joins add up
    pub cost_apart : (t : ℕ → Bool) (vs : List ℕ) → ((u v : ℕ) → u ∈ keep t vs → v ∈ keep (λ u. not (t u)) vs → joined g u v ≡ false)
        → cost_in W g a vs ≡ cost_in W g a (keep t vs) + cost_in W g a (keep (λ u. not (t u)) vs)
    cost_apart t vs h = omega (arith, cost_split t vs, between_apart W g a (keep t vs) (keep (λ u. not (t u)) vs) h)

    -- one vertex taken out
    pub cost_without : {v : ℕ} {vs : List ℕ} → v ∈ vs → Distinct vs → cost_in W g a vs ≡ cost_in W g a (without v vs) + cross_cost W g a v (without v vs)
    unfolding cost_in sum_of
    cost_without (here e) d = rw (without_head e d, e) (omega arith)
    cost_without {v} (later {x} m) d =
        rw (without_tail m d) (omega (arith, cost_without m d.1, sum_without (edge_cost W g a x) m d.1, pair_sym x v (a x) (a v)))

    -- one vertex more at the end
    pub cost_snoc : (vs : List ℕ) (v : ℕ) → cost_in W g a (vs ++ (v ∷ [])) ≡ cost_in W g a vs + cross_cost W g a v vs
    unfolding cost_in sum_of
    cost_snoc [] v = refl
    cost_snoc (u ∷ vs) v = omega (arith, sum_append (edge_cost W g a u) vs (v ∷ []), cost_snoc vs v, pair_sym u v (a u) (a v))

    -- the order does not matter
    pub cost_members : (us vs : List ℕ) → Distinct us → Distinct vs → Same us vs → cost_in W g a us ≡ cost_in W g a vs
    unfolding cost_in
    cost_members [] vs d e s = rw (same_nil vs s)
    cost_members (u ∷ us) vs d e s =
        let f : Distinct (without u vs) = distinct_without u vs e in
        omega (
          arith,
          cost_without ((s u).0 (here refl)) e,
          cost_members us (without u vs) d.1 f (same_without d s),
          sum_members (edge_cost W g a u) us (without u vs) d.1 f (same_without d s),
        )
