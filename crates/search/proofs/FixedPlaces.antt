-- Places with a fixed mask: which masks count as in use before a place, and which are tried there. Assumes nothing.
use mathlib.Core.Bool.{Bool, true, false, ◌||◌, cond}
use mathlib.Core.List.{List, [], ◌∷◌, ◌++◌}
use mathlib.Core.Logic.{◌⊎◌, inl, inr, ⊎_elim}
use mathlib.Core.Path.{◌≡◌, sym, ap, ◌∙◌}
use Prim.Native.Nat.{ℕ, suc, ◌+◌, ◌-◌, ◌≤◌, ◌<◌, min, max}
use native.Mathlib.Omega.{arith}
use lib.Dec.{eqb, ltb}
use lib.ListN.{length, take}
use lib.Seq.{length-take-le}
use borrow.Author.Tests.{lt-ltb, le-ltb, eq-eqb, ne_eqb}
use Rattle.rules.specs.Basics.{up_to, up_from, occurs}
use Rattle.rules.specs.Settings.{unset}
use Rattle.rules.specs.Peeling.{is_fixed}
use Rattle.rules.specs.Search.{different, candidates, candidates_in}
use Rattle.rules.proofs.Lists.{any_snoc, any_found}
use Rattle.rules.proofs.Tests.{lt_or_ge, clash}
use Rattle.theory.proofs.Renaming.{different_snoc}
use Rattle.search.specs.declared.incumbent.Walk.{Walk}
use Rattle.search.specs.declared.branch.Problem.{Problem}
use Rattle.search.specs.Branch.{size_in, fixed_in, tried_in, Used, renamed, every, Ready}

-- ---- Masks in use

-- one mask more, at most u
below_next : (u m x : ℕ) → m ≤ u → (ltb x u || eqb x m) ≡ ltb x (max u (m + 1))
below_next u m x h =
    ⊎_elim
    (λ l. ⊎_elim
    (λ b. rw (lt-ltb x u b, lt-ltb x (max u (m + 1)) l))
    (λ b. rw (le-ltb x u b, lt-ltb x (max u (m + 1)) l) (eq-eqb x m (omega arith)))
    (lt_or_ge x u))
    (λ l. rw (le-ltb x u (omega arith), le-ltb x (max u (m + 1)) l, ne_eqb x m (λ z. omega arith)))
    (lt_or_ge x (max u (m + 1)))

count_next : (q : List ℕ) (u m : ℕ) → different q ≡ u → ((x : ℕ) → occurs x q ≡ ltb x u) → m ≤ u → different (q ++ (m ∷ [])) ≡ max u (m + 1)
count_next q u m e b h = ⊎_elim
    (λ l. different_snoc q m ∙ rw (b m ∙ lt-ltb m u l) (omega arith))
    (λ l. different_snoc q m ∙ rw (b m ∙ le-ltb m u l) (omega arith))
    (lt_or_ge m u)

pub used-next : {K : ℕ} {someFixed : Bool} {q : List ℕ} {u : ℕ} → Used K someFixed q u → (m : ℕ) → m < K → m ≤ u → Used K someFixed (q ++ (m ∷ [])) (max u (m + 1))
used-next {q = q} {u = u} (renamed e count below) m l h =
    renamed e (count_next q u m count below h) (λ x. any_snoc (eqb x) q m ∙ ap (λ (b : Bool). b || eqb x m) (below x) ∙ below_next u m x h)
used-next (every e f) m l h = every e (omega (arith, f))

-- where a place is fixed, all masks are
used_all : {K : ℕ} {someFixed : Bool} {q : List ℕ} {u : ℕ} → Used K someFixed q u → someFixed ≡ true → u ≡ K
used_all (renamed e count below) t = clash t e
used_all (every e f) t = f

-- ---- Masks tried

-- at a place that is not fixed
tried_free : {K : ℕ} {someFixed : Bool} {q : List ℕ} {u : ℕ} → Used K someFixed q u → 1 ≤ K → up_from 0 (min (suc u) K) ≡ cond someFixed (up_to K) (candidates K q)
unfolding candidates
tried_free {K} {q = q} {u = u} (renamed e count below) h = let n : min (suc u) K ≡ suc (min (different q) (K - 1)) = omega arith in rw (n, e)
tried_free {K} {u = u} (every e f) h = let n : min (suc u) K ≡ K = omega arith in rw (n, e)

-- What is tried from the number x that is read at place p. A fixed mask is one of those that would be tried were the place not fixed.
module _ {b : Problem} {w : Walk} {p c u left : ℕ} (ready : Ready b w p c u left) (place : p < size_in b) {x : ℕ} (own : x ≡ fixed_in b p) where
  long : length (take p w.partial) ≡ p
  long = length-take-le p w.partial (omega (arith, ready.at, b.local.few, ready.whole))

  module _ (d : x ≡ unset → ⊥) where
    fix : is_fixed (fixed_in b) p ≡ true
    fix = rw (ne_eqb (fixed_in b p) unset (λ e. d (own ∙ e)))

    own_low : x < b.limits.masks
    own_low = omega (arith, own, ready.sound.fixed_low p place fix)

    all_used : u ≡ b.limits.masks
    all_used = used_all ready.used (any_found (is_fixed (fixed_in b)) (size_in b) place fix)

  pub tried_at : (first last : ℕ) → ((x ≡ unset → ⊥) × (first ≡ x) × (last ≡ x + 1)) ⊎ ((x ≡ unset) × (first ≡ 0) × (last ≡ min b.limits.masks (u + 1)))
      → (first ≤ last) × (last ≤ tried_in b u) × (up_from first (last - first) ≡ candidates_in b.limits.masks (fixed_in b) (size_in b) (take p w.partial))
  unfolding candidates_in up_from
  tried_at first last (inl h) =
      let one : last - first ≡ 1 = omega (arith, h.1, h.2) in
      (omega (arith, h.1, h.2), omega (arith, h.2, own_low h.0, all_used h.0), rw (one, h.1, own, long, fix h.0))
  tried_at first last (inr h) =
      let free : is_fixed (fixed_in b) p ≡ false = rw (eq-eqb (fixed_in b p) unset (sym own ∙ h.0)) in
      let all : last - first ≡ min (suc u) b.limits.masks = omega (arith, h.1, h.2) in
      (omega (arith, h.1), omega (arith, h.2), rw (all, h.1, long, free) (tried_free ready.used ready.sound.some))
