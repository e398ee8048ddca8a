-- The least of a row, mask by mask, as an iterator's `min_by_key` finds it. Assumes nothing.
use mathlib.Core.List.{List, [], ◌∷◌}
use mathlib.Core.Path.{◌≡◌, refl, sym, ap, ap₂, subst, ◌∙◌}
use Prim.Native.Nat.{ℕ, ◌+◌, ◌≤◌, ◌<◌}
use native.Mathlib.Numerals.{add-one}
use native.Mathlib.Omega.{arith}
use denote.Param.Members.{Mut}
use denote.Ref.{Bor}
use lib.Dec.{ltb}
use borrow.Author.Tests.{lt-ltb, le-ltb}
use Rattle.std.proofs.iter.Yields.{nat_range_steps}
use Rattle.std.proofs.lemmas.Cmp.{ranked}
use Rattle.std.specs.declared.ops.Range.{Range}
use Rattle.std.specs.Fn.{CalledAt}
use Rattle.std.specs.Prelude.{Option, Some, None, unwrap_or}
use Rattle.std.specs.Iterator.{Yields, KeyTurn, PicksMinByKey}
use Rattle.std.specs.List.{FoldsTo}
use Rattle.std.proofs.Common.{Ordering, Less, Equal, Greater}
use Rattle.std.specs.Ordering.{MatchOrdering, nat_cmp, min_by_ordering}
use Rattle.rules.specs.Search.{cheapest}
use Rattle.rules.proofs.Tests.{by_test}

module _ (f : ℕ → ℕ) where
  pub cheapest_one : cheapest f 1 ≡ 0
  unfolding cheapest
  cheapest_one = by_test (ltb (f 0) (f 0)) (λ e. rw e) (λ e. rw e)

  pub cheapest_new : (m : ℕ) → f m < f (cheapest f m) → cheapest f (m + 1) ≡ m
  unfolding cheapest
  cheapest_new m h = rw (add-one m, lt-ltb (f m) (f (cheapest f m)) h)

  pub cheapest_old : (m : ℕ) → f (cheapest f m) ≤ f m → cheapest f (m + 1) ≡ cheapest f m
  unfolding cheapest
  cheapest_old m h = rw (add-one m, le-ltb (f m) (f (cheapest f m)) h)

  -- b is the mask m or the best before it, whichever costs less
  cheapest_next : (best m : ℕ) (o : Ordering) → best ≡ cheapest f m → MatchOrdering o (f best < f m) (f best ≡ f m) (f m < f best) → min_by_ordering o best m ≡ cheapest f (m + 1)
  cheapest_next best m Less e h = e ∙ sym (cheapest_old m (omega (arith, ap f e)))
  cheapest_next best m Equal e h = e ∙ sym (cheapest_old m (omega (arith, ap f e)))
  cheapest_next best m Greater e h = sym (cheapest_new m (omega (arith, ap f e)))

  -- the best keeps its key
  key_kept : (o : Ordering) (best m : ℕ) → min_by_ordering o (f best) (f m) ≡ f (min_by_ordering o best m)
  key_kept Less best m = refl
  key_kept Equal best m = refl
  key_kept Greater best m = refl

  -- the value h that is called gives the cost of a number
  module _ {F : Type 0} {g : Mut F (Bor ℕ × Unit {0}) ℕ} (h : F) (acts : (x k : ℕ) (h' : F) → CalledAt g h x k h' → (h' ≡ h) × (k ≡ f x)) where
    -- the best of the numbers below s.start becomes that of those below t.start
    cheapest_after : (xs : List ℕ) (s t : Range ℕ) (p q : (F × ℕ) × ℕ) → s.start ≤ s.end → p.0.0 ≡ h → p.0.1 ≡ f p.1 → p.1 ≡ cheapest f s.start
        → Yields nat_range_steps s xs t → FoldsTo {P = (F × ℕ) × ℕ} (KeyTurn min_by_ordering min_by_ordering g nat_cmp) p xs q
        → (q.1 ≡ cheapest f t.start) × (t.start ≤ t.end) × (t.end ≡ s.end)
    cheapest_after [] s t p q low same key best y turns =
        (ap (λ (p : (F × ℕ) × ℕ). p.1) (sym turns) ∙ best ∙ ap (λ (s : Range ℕ). cheapest f s.start) y, rw (← y) low, ap (λ (s : Range ℕ). s.end) (sym y))
    cheapest_after (x ∷ xs) s t p q low same key best y turns =
        let turn = turns.1 in
        let o = turn.1 in
        let act = acts x turn.0 turns.0.0.0 (subst (λ (h : F). CalledAt g h x turn.0 turns.0.0.0) same turn.2) in
        let order = ranked (f p.1) (f x) o (sym turn.3 ∙ ap₂ nat_cmp key act.1) in
        let next : x + 1 ≡ y.0.start = omega (arith, y.1.1.1, y.1.1.2) in
        let best' : turns.0.1 ≡ cheapest f y.0.start = turn.5 ∙ cheapest_next p.1 x o (best ∙ ap (cheapest f) (sym y.1.1.1)) order ∙ ap (cheapest f) next in
        let key' : turns.0.0.1 ≡ f turns.0.1 = turn.4 ∙ ap₂ (min_by_ordering o) key act.1 ∙ key_kept o p.1 x ∙ ap f (sym turn.5) in
        let rest = cheapest_after xs y.0 t turns.0 q (omega (arith, y.1.0, y.1.1.0, y.1.1.2)) act.0 key' best' y.2 turns.2 in
        (rest.0, rest.1, rest.2 ∙ y.1.0)

    pub cheapest_picked : (n : ℕ) → 1 ≤ n → (r : Option ℕ) → PicksMinByKey nat_range_steps g nat_cmp (record { start = 0; end = n }) h r → unwrap_or r 0 ≡ cheapest f n
    cheapest_picked n some None w = let none = w.1.2.1.0 in absurd (omega (arith, ap (λ (s : Range ℕ). s.end) w.1.1, ap (λ (s : Range ℕ). s.start) w.1.1))
    cheapest_picked n some (Some m) w =
        let x = w.0 in
        let first = w.5.1.1 in
        let last = w.5.1.2 in
        let at : first.0.start ≡ 1 = omega (arith, first.1.1.2) in
        let act = acts x w.2 w.3 w.6 in
        let best : x ≡ cheapest f first.0.start = first.1.1.1 ∙ sym cheapest_one ∙ ap (cheapest f) (sym at) in
        let all = cheapest_after w.1 first.0 w.5.1.0 ((w.3, w.2), x) (w.4, m) (omega (arith, first.1.0)) act.0 act.1 best first.2 w.7 in
        let end : w.5.1.0.start ≡ n = omega (arith, all.1, all.2, first.1.0, last.1.0) in
        all.0 ∙ ap (cheapest f) end
