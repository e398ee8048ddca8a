-- A part that grows by a frontier. It starts with v alone. Each turn takes a vertex of the frontier, lets its neighbours in, and has them wait in the
-- frontier. A vertex that no longer waits has all its neighbours inside, so when none waits no edge leaves the part, and it is v's component. Assumes nothing.
use mathlib.Core.Bool.{true, false}
use mathlib.Core.List.{List, ◌∷◌}
use mathlib.Core.Logic.{◌↔◌, ◌⊎◌, inl, inr, ⊎_elim}
use mathlib.Core.Path.{◌≡◌, refl, sym, ◌∙◌, subst}
use Prim.Native.Nat.{ℕ}
use lib.Dec.{eqb}
use borrow.Author.Tests.{eqb-true, eqb-false}
use Rattle.rules.specs.Basics.{keep, occurs, without}
use Rattle.rules.specs.Edges.{Graph, joined}
use Rattle.rules.specs.Components.{component_of}
use Rattle.rules.proofs.Lists.{◌∈◌, in_without, without_in}
use Rattle.rules.proofs.Tests.{by_test}
use Rattle.theory.proofs.Reach.{Symmetric, Linked, stay, step, linked_trans, linked_sym, linked_wider}
use Rattle.theory.proofs.Components.{Component, component_same, component_of_lem, component_of_in}

-- The part inside, of the list left: it holds v, each of its vertices is linked to v, and no edge leads out of one that does not wait.
pub record Grown (g : Graph) (left inside frontier : List ℕ) (v : ℕ) : Type 0 where
  pub within : (u : ℕ) → u ∈ inside → u ∈ left
  pub begun : v ∈ inside
  pub border : (u : ℕ) → u ∈ frontier → u ∈ inside
  pub linked : (u : ℕ) → u ∈ inside → Linked g inside u v
  pub closed : (u w : ℕ) → u ∈ inside → (u ∈ frontier → ⊥) → w ∈ left → (w ∈ inside → ⊥) → joined g u w ≡ false

-- v alone, which waits
pub grown_one : (g : Graph) {left inside : List ℕ} {v : ℕ} → v ∈ left → ((u : ℕ) → (u ∈ inside) ↔ (u ≡ v)) → Grown g left inside inside v
grown_one g {left} {inside} {v} m one = record {
  within = λ u i. subst (λ x. x ∈ left) (sym ((one u).0 i)) m;
  begun = (one v).1 refl;
  border = λ u i. i;
  linked = λ u i. subst (λ x. Linked g inside u x) ((one u).0 i) (stay i);
  closed = λ u w i n l o. absurd (n i);
}

-- u is taken from the frontier, and its neighbours come in
module _ {g : Graph} {left inside frontier new insideNow frontierNow : List ℕ} {v u : ℕ} (s : Symmetric g) (old : Grown g left inside frontier v) (waits : u ∈ frontier)
    (neighbours : (w : ℕ) → (w ∈ new) ↔ ((w ∈ left) × (joined g u w ≡ true) × (w ∈ inside → ⊥)))
    (grow : (w : ℕ) → (w ∈ insideNow) ↔ ((w ∈ inside) ⊎ (w ∈ new)))
    (wait : (w : ℕ) → (w ∈ frontierNow) ↔ ((w ∈ without u frontier) ⊎ (w ∈ new))) where
  stays : (w : ℕ) → w ∈ inside → w ∈ insideNow
  stays w m = (grow w).1 (inl m)

  comes : (w : ℕ) → w ∈ new → Linked g insideNow w v
  comes w m = step ((grow w).1 (inr m)) (s w u ∙ ((neighbours w).0 m).1) (linked_wider stays (old.linked u (old.border u waits)))

  shut : (x w : ℕ) → x ∈ inside → (x ∈ frontierNow → ⊥) → w ∈ left → (w ∈ insideNow → ⊥) → joined g x w ≡ false
  shut x w i n l o =
      by_test (eqb u x)
      (λ e. by_test (joined g x w)
      (λ j. absurd (o ((grow w).1 (inr ((neighbours w).1 (l, subst (λ y. joined g y w ≡ true) (sym (eqb-true u x e)) j, λ m. o (stays w m)))))))
      (λ j. j))
      (λ e. old.closed x w i (λ m. n ((wait x).1 (inl (in_without u m (eqb-false u x e))))) l (λ m. o (stays w m)))

  pub grown_more : Grown g left insideNow frontierNow v
  grown_more = record {
    within = λ w m. ⊎_elim (old.within w) (λ n. ((neighbours w).0 n).0) ((grow w).0 m);
    begun = stays v old.begun;
    border = λ w m. ⊎_elim (λ i. stays w (old.border w (without_in u frontier i).0)) (λ n. (grow w).1 (inr n)) ((wait w).0 m);
    linked = λ w m. ⊎_elim (λ i. linked_wider stays (old.linked w i)) (comes w) ((grow w).0 m);
    closed = λ x w m n l o. ⊎_elim (λ i. shut x w i n l o) (λ i. absurd (n ((wait x).1 (inr i)))) ((grow x).0 m);
  }

-- none waits
pub grown_component : {g : Graph} {left inside frontier : List ℕ} {v : ℕ} → Symmetric g → Grown g left inside frontier v → ((u : ℕ) → u ∈ frontier → ⊥)
    → keep (λ u. occurs u inside) left ≡ inside → Component g left inside
grown_component {v} s grown none kept = record {
  kept = kept;
  member = (v, grown.begun);
  closed = λ u w m n h. grown.closed u w m (none u) n h;
  connected = λ u w m n. linked_trans (grown.linked u m) (linked_sym s (grown.linked w n));
}

pub component_first : {g : Graph} {left inside : List ℕ} {v : ℕ} → Symmetric g → Component g left inside → v ∈ inside
    → (after : List ℕ) → left ≡ v ∷ after → inside ≡ component_of g v after
component_first {g} {inside} {v} s k m after e =
    component_same (subst (λ l. Component g l inside) e k) (component_of_lem g s v after) m (component_of_in g v after)
