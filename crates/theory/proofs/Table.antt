-- Least numbers of conflicts that can be computed quickly: the search with no cost to end at, by weight 1 and with a budget that is enough, ends at the least
-- (`least_by_lem`). So a table of digits that is equal to what it ends at for each index has the least numbers (`digits_at`). Assumes nothing.
use mathlib.Core.Bool.{false}
use mathlib.Core.List.{List, map}
use mathlib.Core.Option.{none}
use mathlib.Core.Path.{◌≡◌, refl, sym, ap, subst, ◌∙◌}
use Prim.Native.Nat.{ℕ, ◌+◌, ◌≤◌, ◌<◌}
use native.Mathlib.Nat.{le_trans, le_of_eq, le_antisymm}
use native.Mathlib.Omega.{arith}
use lib.ListN.{length, get_or}
use Rattle.rules.specs.Basics.{up_to}
use Rattle.rules.specs.Edges.{Graph}
use Rattle.rules.specs.Settings.{unset}
use Rattle.rules.specs.Score.{conflicts_of}
use Rattle.rules.specs.Library.{least_conflicts, indexed}
use Rattle.rules.specs.Search.{added, total, at_bound}
use Rattle.rules.proofs.Lists.{mapped_up_to}
use Rattle.rules.proofs.Tests.{clash}
use Rattle.theory.proofs.Each.{Each, each_of, each_at}
use Rattle.theory.proofs.HalfDone.{AllSet, below_set}
use Rattle.theory.proofs.Budget.{search_until}
use Rattle.theory.proofs.Enough.{all_steps, until_enough}
use Rattle.theory.proofs.Least.{over_low, over_met, Unstitched, total_conflicts}
use Rattle.theory.proofs.Renaming.{until_feasible, until_cheapest}

-- what the search ends at, where no place is fixed
unfoldable pub least_by : ℕ → Graph → ℕ → ℕ
least_by K g n = (search_until (at_bound none) K 1 (all_steps K n) g (λ i. unset) n 0 false).cost

module _ (K : ℕ) (some : 0 < K) (few : K ≤ unset) (g : Graph) (n : ℕ) (plain : Unstitched g n) where
  -- n masks below K cost as much as they have conflicts
  counted : (q : List ℕ) → length q ≡ n → Each (λ m. m < K) q → total (added 1 g) q ≡ conflicts_of g q n
  counted q e b =
      let all : AllSet (length q) q = λ i l. below_set q i (let low : get_or q i 0 < K = each_at (λ m. m < K) q b i l in omega (arith, low)) in
      total_conflicts 1 g q (subst (Unstitched g) (sym e) plain) all ∙ rw e (omega arith)

  pub least_by_lem : least_by K g n ≡ least_conflicts K g n
  unfolding least_by least_conflicts
  least_by_lem =
      let fixed : ℕ → ℕ = λ i. unset in
      let s = search_until (at_bound none) K 1 (all_steps K n) g fixed n 0 false in
      let f : List ℕ → ℕ = λ masks. conflicts_of g masks n in
      let found = until_feasible (at_bound none) K 1 g fixed (all_steps K n) n 0 false some (λ i l e. clash e refl) in
      let below : Each (λ m. m < K) s.incumbent = each_of (λ m. m < K) s.incumbent (λ i l. (found.fits i l).below) in
      let least = over_met K some n f in
      le_antisymm
      (le_trans
      (until_cheapest (at_bound none) K 1 g fixed (all_steps K n) n 0 false (until_enough (at_bound none) K 1 g fixed n some) least.masks least.size
      (λ i l. record { below = each_at (λ m. m < K) least.masks least.below i l; kept = λ e. clash e refl }) (λ x e. clash e refl))
      (le_of_eq (counted least.masks least.size least.below ∙ least.value)))
      (le_trans (over_low K n f s.incumbent found.size below) (le_of_eq (sym (found.cost ∙ counted s.incumbent found.size below))))

-- what it ends at for the graphs on n pieces with the indices 0, 1, .., k - 1, as digits of a text
unfoldable pub least_digits : ℕ → ℕ → ℕ → List ℕ
least_digits n K k = map (λ i. 48 + least_by K (indexed n i) n) (up_to k)

module _ (n K k : ℕ) (some : 0 < K) (few : K ≤ unset) (i : ℕ) (l : i < k) where
  pub digits_at : get_or (least_digits n K k) i 0 ≡ 48 + least_conflicts K (indexed n i) n
  unfolding least_digits
  digits_at = mapped_up_to (λ i. 48 + least_by K (indexed n i) n) 0 k i l ∙ ap (λ (x : ℕ). 48 + x) (least_by_lem K some few (indexed n i) n (λ u v l m. refl))
