-- Where a search ends, by whether the library serves the component. Assumes nothing.
use mathlib.Core.Bool.{Bool, true, false, not, ◌&&◌}
use mathlib.Core.Option.{none, some}
use mathlib.Core.Path.{◌≡◌, sym, ap}
use Prim.Native.Nat.{ℕ, ◌*◌, ◌≤◌}
use lib.Dec.{eqb, leb}
use borrow.Author.Tests.{eq-eqb, le-leb}
use Rattle.std.specs.Prelude.{Option, Some, None}
use Rattle.rules.specs.Basics.{up_to, any_of}
use Rattle.rules.specs.Edges.{Graph}
use Rattle.rules.specs.Peeling.{is_fixed}
use Rattle.rules.specs.Library.{entry_of, index_of, served, library_bound, unlisted_at}
use Rattle.rules.proofs.Tests.{by_test, and_right}
use Rattle.early_end.specs.Ends.{end_of}

-- the end for a bound given where a test passes
abbrev end_if : ℕ → Bool → Option ℕ
end_if b t = end_of (elim t [ true ↦ some b | false ↦ none ])

module _ (K : ℕ) (g : Graph) (fixed : ℕ → ℕ) (k : ℕ) where
  -- what the library serves has only edges that it lists
  pub served_listed : served K g fixed k ≡ true → not (any_of (unlisted_at g) (up_to k)) ≡ true
  unfolding served
  served_listed = and_right (eqb K 3 && leb k 5 && not (any_of (is_fixed fixed) (up_to k))) (not (any_of (unlisted_at g) (up_to k)))

  -- it serves what passes all its tests
  pub serves : K ≡ 3 → k ≤ 5 → any_of (is_fixed fixed) (up_to k) ≡ false → not (any_of (unlisted_at g) (up_to k)) ≡ true → served K g fixed k ≡ true
  unfolding served
  serves three fits free listed = rw (eq-eqb K 3 three, le-leb k 5 fits, free, listed)

  -- the end where it does not serve, and where it does
  pub end_none : (W : ℕ) → (served K g fixed k ≡ true → ⊥) → None ≡ end_of (library_bound K W g fixed k)
  end_none W h = by_test (served K g fixed k) (λ e. absurd (h e)) (λ e. sym (ap (end_if (W * entry_of (index_of g k))) e))

  pub end_some : (W : ℕ) → served K g fixed k ≡ true → Some (W * entry_of (index_of g k)) ≡ end_of (library_bound K W g fixed k)
  end_some W e = sym (ap (end_if (W * entry_of (index_of g k))) e)
