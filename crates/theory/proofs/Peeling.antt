-- What peeling leaves. A round takes one vertex out of those there, so by induction on the rounds (`peel_induction`) the core is what the list keeps when
-- every removed vertex is taken out. All that is claimed of the parts follows from that law of `keep` (`parts`). With as many rounds as vertices,
-- none of the core may go (`core_stays`). A vertex with a fixed mask is never removed (`gone_free`).
use mathlib.Core.Bool.{Bool, true, false, not, ◌&&◌, ◌||◌}
use mathlib.Core.List.{List, [], ◌∷◌, map}
use mathlib.Core.Logic.{◌⊎◌, inl, inr}
use mathlib.Core.Option.{Option, none, some}
use mathlib.Core.Path.{◌≡◌, refl, sym, ap, ◌∙◌}
use Prim.Native.Nat.{ℕ, zero, suc, ◌≤◌}
use native.Mathlib.Omega.{arith}
use lib.Dec.{eqb}
use lib.ListN.{length}
use borrow.Author.Tests.{not-true}
use Rattle.rules.specs.Basics.{any_of, keep, find, occurs, without}
use Rattle.rules.specs.Edges.{Graph}
use Rattle.rules.specs.Peeling.{Removal, low, pendant, Peeled, is_fixed, may_go, low_degree, is_pendant, removal_of, peel_for}
use Rattle.rules.proofs.Lists.{◌∈◌, equal-in, none_in, each_cons, occurs_in, keep_same, keep_all, keep_keep, keep_in, in_keep, without_in, First, first_in, find_first, Distinct, Rising, distinct_keep, rising_keep, without_shorter}
use Rattle.rules.proofs.Tests.{by_test, clash, eqb_sym, and_left}

-- the vertex that was removed, and all of them in their order
abbrev pub vertex_of : Removal → ℕ
vertex_of (low v) = v
vertex_of (pendant v u) = v

abbrev pub gone : Peeled → List ℕ
gone p = map vertex_of p.removed

-- The parts that peeling makes of a list: the core is kept, the others are gone.
pub record Parts (there : List ℕ) (p : Peeled) : Type 0 where
  pub kept : p.core ≡ keep (λ u. not (occurs u (gone p))) there
  pub core_in : (u : ℕ) → u ∈ p.core → u ∈ there
  pub gone_in : (u : ℕ) → u ∈ gone p → u ∈ there
  pub apart : (u : ℕ) → u ∈ gone p → u ∈ p.core → ⊥
  pub cover : (u : ℕ) → u ∈ there → (u ∈ p.core) ⊎ (u ∈ gone p)
  pub distinct : Distinct there → Distinct p.core
  pub rising : Rising there → Rising p.core

module _ (K : ℕ) (g : Graph) (fixed : ℕ → ℕ) where
  removal_vertex : (there : List ℕ) (v : ℕ) → vertex_of (removal_of K g there v) ≡ v
  removal_vertex there v = by_test (low_degree K g there v) (λ e. rw e) (λ e. rw e)

  -- What holds where none goes, and holds again of each round if it holds of the rounds after it, holds of peeling.
  pub peel_induction : (Q : List ℕ → Peeled → Type 0)
      → ((there : List ℕ) → Q there (record { removed = []; core = there }))
      → ((rounds : ℕ) (there : List ℕ) (v : ℕ) → First (may_go K g fixed there) there v
      → let rest = peel_for rounds K g fixed (without v there) in
      Q (without v there) rest → Q there (record { removed = removal_of K g there v ∷ rest.removed; core = rest.core }))
      → (rounds : ℕ) (there : List ℕ) → Q there (peel_for rounds K g fixed there)
  unfolding peel_for
  peel_induction Q last round zero there = last there
  peel_induction Q last round (suc rounds) there = step (find (may_go K g fixed there) there) refl (λ v. peel_induction Q last round rounds (without v there))
    where
      step : (o : Option ℕ) → find (may_go K g fixed there) there ≡ o
          → ((v : ℕ) → Q (without v there) (peel_for rounds K g fixed (without v there)))
          → Q there (peel_for (suc rounds) K g fixed there)
      step none e ih = rw (e, peel_for) (last there)
      step (some v) e ih = rw (e, peel_for) (round rounds there v (find_first (may_go K g fixed there) there e) (ih v))

  kept : (rounds : ℕ) (there : List ℕ) → let p = peel_for rounds K g fixed there in p.core ≡ keep (λ u. not (occurs u (gone p))) there
  unfolding any_of
  kept =
      peel_induction (λ there p. p.core ≡ keep (λ u. not (occurs u (gone p))) there)
      (λ there. sym (keep_all (λ u. true) there (λ u m. refl)))
      (λ rounds there v f ih.
      let rest = peel_for rounds K g fixed (without v there) in
      let p : Peeled = record { removed = removal_of K g there v ∷ rest.removed; core = rest.core } in
      ih ∙ keep_keep (λ u. not (occurs u (gone rest))) (λ u. not (eqb v u)) there
      ∙ keep_same (λ u. not (eqb v u) && not (occurs u (gone rest))) (λ u. not (occurs u (gone p))) there
      (λ u m. rw (removal_vertex there v, eqb_sym v u) (by_test (eqb u v) (λ e. rw e) (λ e. rw e))))

  gone_in : (rounds : ℕ) (there : List ℕ) (u : ℕ) → u ∈ gone (peel_for rounds K g fixed there) → u ∈ there
  gone_in =
      peel_induction (λ there p. (u : ℕ) → u ∈ gone p → u ∈ there)
      (λ there u m. none_in m)
      (λ rounds there v f ih. each_cons {Q = λ u. u ∈ there} (equal-in (removal_vertex there v) (first_in f)) (λ u m. (without_in v there (ih u m)).0))

  -- no vertex with a fixed mask is removed
  pub gone_free : (rounds : ℕ) (there : List ℕ) (u : ℕ) → u ∈ gone (peel_for rounds K g fixed there) → is_fixed fixed u ≡ false
  unfolding may_go
  gone_free =
      peel_induction (λ there p. (u : ℕ) → u ∈ gone p → is_fixed fixed u ≡ false)
      (λ there u m. none_in m)
      (λ rounds there v f ih. each_cons {Q = λ u. is_fixed fixed u ≡ false}
      (rw (removal_vertex there v) (not-true (is_fixed fixed v) (and_left (not (is_fixed fixed v)) (low_degree K g there v || is_pendant g there v) f.pass)))
      ih)

  -- a vertex without a fixed mask may go by its degrees alone
  pub may_free : (there : List ℕ) (v : ℕ) → is_fixed fixed v ≡ false → may_go K g fixed there v ≡ (low_degree K g there v || is_pendant g there v)
  unfolding may_go
  may_free there v e = rw e

  pub parts : (rounds : ℕ) (there : List ℕ) → Parts there (peel_for rounds K g fixed there)
  parts rounds there =
      let p = peel_for rounds K g fixed there in
      let k = kept rounds there in
      let stays : ℕ → Bool = λ u. not (occurs u (gone p)) in
      record {
        kept = k;
        core_in = λ u m. (keep_in stays there (rw k at m)).0;
        gone_in = gone_in rounds there;
        apart = λ u m n. clash ((occurs_in u (gone p)).1 m) (not-true (occurs u (gone p)) (keep_in stays there (rw k at n)).1);
        cover = λ u m. by_test (occurs u (gone p)) (λ e. inr ((occurs_in u (gone p)).0 e)) (λ e. inl (rw k (in_keep stays m (ap not e))));
        distinct = λ d. rw k (distinct_keep stays there d);
        rising = λ r. rw k (rising_keep stays there r);
      }

  -- with as many rounds as vertices, none of the core may go
  pub core_stays : (rounds : ℕ) (there : List ℕ) → length there ≤ rounds → let core = (peel_for rounds K g fixed there).core in find (may_go K g fixed core) core ≡ none
  unfolding peel_for find
  core_stays zero [] h = refl
  core_stays zero (v ∷ there) h = absurd (omega arith)
  core_stays (suc rounds) there h = step (find (may_go K g fixed there) there) refl (λ v. core_stays rounds (without v there))
    where
      step : (o : Option ℕ) → find (may_go K g fixed there) there ≡ o
          → ((v : ℕ) → length (without v there) ≤ rounds → let core = (peel_for rounds K g fixed (without v there)).core in find (may_go K g fixed core) core ≡ none)
          → let core = (peel_for (suc rounds) K g fixed there).core in find (may_go K g fixed core) core ≡ none
      step none e ih = rw (e, peel_for) e
      step (some v) e ih = rw (e, peel_for) (ih v (omega (arith, without_shorter (first_in (find_first (may_go K g fixed there) there e)))))
