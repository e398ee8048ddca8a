-- What `reach_for` comes to. It lets in, one at a time, a vertex outside that is joined to one inside. So each vertex that comes in is linked to those that
-- were there at first, by the one that it was joined to. Each round takes one from outside, so with as many rounds as vertices outside it ends only when
-- none outside is joined to one inside.
use mathlib.Core.Bool.{Bool, true, false, not}
use mathlib.Core.List.Memᴰ
use mathlib.Core.List.Memᴰ.{head as here}
use mathlib.Core.List.Memᴰ.{tail as later}
use mathlib.Core.List.{List, [], ◌∷◌}
use mathlib.Core.Logic.{◌⊎◌, inl, inr, ⊎_elim}
use mathlib.Core.Option.{Option, none, some}
use mathlib.Core.Path.{◌≡◌, refl, sym, ◌∙◌}
use Prim.Native.Nat.{ℕ, zero, suc, ◌≤◌}
use native.Mathlib.Omega.{arith}
use borrow.Author.Tests.{not-true, not-false}
use lib.ListN.{length}
use Rattle.rules.specs.Basics.{any_of, find, without}
use Rattle.rules.specs.Edges.{Graph, joined}
use Rattle.rules.specs.Components.{reach_for}
use Rattle.rules.proofs.Lists.{◌∈◌, none_in, any_in, any_out, without_in, in_without, first_in, find_first, find_none, without_shorter}
use Rattle.rules.proofs.Tests.{by_test, clash}

-- an edge has no direction
abbrev pub Symmetric : Graph → Type 0
Symmetric g = (u v : ℕ) → joined g u v ≡ joined g v u

-- no edge joins a vertex of xs that passes the test to one that does not
abbrev pub Apart : Graph → (ℕ → Bool) → List ℕ → Type 0
Apart g f xs = (u w : ℕ) → u ∈ xs → f u ≡ true → w ∈ xs → f w ≡ false → joined g u w ≡ false

-- then none joins one that does not to one that does
pub apart_not : (g : Graph) (f : ℕ → Bool) (xs : List ℕ) → Symmetric g → Apart g f xs → Apart g (λ u. not (f u)) xs
apart_not g f xs s a u w m p n q = s u w ∙ a w u n (not-false (f w) q) m (not-true (f u) p)

-- a path from u to w through members of xs
pub data Linked (g : Graph) (xs : List ℕ) : ℕ → ℕ → Type 0 where
  stay : {u : ℕ} → u ∈ xs → Linked g xs u u
  step : {u v w : ℕ} → u ∈ xs → joined g u v ≡ true → Linked g xs v w → Linked g xs u w

pub linked_start : {g : Graph} {xs : List ℕ} {u w : ℕ} → Linked g xs u w → u ∈ xs
linked_start (stay h) = h
linked_start (step h e l) = h

pub linked_trans : {g : Graph} {xs : List ℕ} {u v w : ℕ} → Linked g xs u v → Linked g xs v w → Linked g xs u w
linked_trans (stay h) k = k
linked_trans (step h e l) k = step h e (linked_trans l k)

pub linked_sym : {g : Graph} {xs : List ℕ} {u w : ℕ} → Symmetric g → Linked g xs u w → Linked g xs w u
linked_sym s (stay h) = stay h
linked_sym s (step {u = u} {v = v} h e l) = linked_trans (linked_sym s l) (step (linked_start l) (s v u ∙ e) (stay h))

pub linked_wider : {g : Graph} {xs ys : List ℕ} {u w : ℕ} → ((v : ℕ) → v ∈ xs → v ∈ ys) → Linked g xs u w → Linked g ys u w
linked_wider f (stay {u = u} h) = stay (f u h)
linked_wider f (step {u = u} h e l) = step (f u h) e (linked_wider f l)

-- a path does not leave what no edge leaves
pub linked_stays : {g : Graph} {f : ℕ → Bool} {xs : List ℕ} {u w : ℕ} → Apart g f xs → Linked g xs u w → f u ≡ true → f w ≡ true
linked_stays a (stay h) p = p
linked_stays {f} a (step {u = u} {v = v} h e l) p = linked_stays a l (by_test (f v) (λ q. q) (λ q. clash e (a u v h p (linked_start l) q)))

-- what comes of inside and outside
pub record Closure (g : Graph) (inside outside reached : List ℕ) : Type 0 where
  pub grown : (u : ℕ) → u ∈ inside → u ∈ reached
  pub within : (u : ℕ) → u ∈ reached → (u ∈ inside) ⊎ (u ∈ outside)
  pub closed : (u w : ℕ) → u ∈ outside → (u ∈ reached → ⊥) → w ∈ reached → joined g u w ≡ false
  pub linked : (u : ℕ) → u ∈ reached → (w : ℕ) × (w ∈ inside) × Linked g reached u w

-- nothing outside is joined to what is inside
closure_done : {g : Graph} {inside outside : List ℕ} → ((u : ℕ) → u ∈ outside → any_of (joined g u) inside ≡ false) → Closure g inside outside inside
closure_done {g} {inside} apart = record {
  grown = λ u h. h;
  within = λ u h. inl h;
  closed = λ u w o n i. any_out (joined g u) inside (apart u o) w i;
  linked = λ u h. (u, h, stay h);
}

-- v came in
closure_more : {g : Graph} {v : ℕ} {inside outside reached : List ℕ} → v ∈ outside → any_of (joined g v) inside ≡ true
    → Closure g (v ∷ inside) (without v outside) reached → Closure g inside outside reached
closure_more {g} {v} {inside} {outside} o j c = record {
  grown = λ u h. c.grown u (later h);
  within = λ u h. ⊎_elim
      (λ i. ⊎_elim (λ e. inr (Memᴰ.cast e o)) (λ k. inl k) (Memᴰ.cases_cons i))
      (λ k. inr (without_in v outside k).0)
      (c.within u h);
  closed = λ u w p n r. c.closed u w (in_without v p (λ e. n (c.grown u (here (sym e))))) n r;
  linked = λ u h.
      let (w, i, l) = c.linked u h in
      ⊎_elim
      (λ e. let (x, k, t) = any_in (joined g v) inside j in (x, k, linked_trans l (rw e (step (c.grown v (here refl)) t (stay (c.grown x (later k)))))))
      (λ k. (w, k, l))
      (Memᴰ.cases_cons i);
}

-- what holds where nothing was found and where v was found
pub by_found : {P : Type 0} (o : Option ℕ) → (o ≡ none → P) → ((v : ℕ) → o ≡ some v → P) → P
by_found none n s = n refl
by_found (some v) n s = s v refl

pub reach_closure : (rounds : ℕ) (g : Graph) (inside outside : List ℕ) → length outside ≤ rounds → Closure g inside outside (reach_for rounds g inside outside)
unfolding reach_for
reach_closure zero g inside [] h = closure_done (λ u m. none_in m)
reach_closure zero g inside (x ∷ outside) h = absurd (omega arith)
reach_closure (suc rounds) g inside outside h =
    let f : ℕ → Bool = λ v. any_of (joined g v) inside in
    by_found (find f outside)
    (λ e. rw (e, reach_for) (closure_done (find_none f outside e)))
    (λ v e.
    let first = find_first f outside e in
    let o = first_in first in
    let shorter = without_shorter o in
    rw (e, reach_for) (closure_more o first.pass (reach_closure rounds g (v ∷ inside) (without v outside) (omega arith))))
