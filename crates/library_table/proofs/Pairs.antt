-- The pairs of five pieces: their numbers, and that each has at most one conflict. Assumes nothing.
use mathlib.Core.Bool.{not}
use mathlib.Core.List.{List}
use mathlib.Core.Path.{◌≡◌}
use Prim.Native.Nat.{ℕ, zero, suc, ◌+◌, ◌*◌, ◌-◌, ◌/◌, ◌≤◌, ◌<◌, min, max}
use native.Mathlib.Nat.{mul-le-mul_right}
use native.Mathlib.Omega.{arith}
use lib.Dec.{eqb}
use borrow.Author.Tests.{ne_eqb}
use Rattle.rules.specs.Basics.{sum_to, sum_pairs}
use Rattle.rules.specs.Score.{same_mask}
use Rattle.rules.specs.Library.{pair_number, bit_at, indexed}
use Rattle.rules.proofs.Sums.{pairs_le}
use Rattle.rules.proofs.ScoreBounds.{given_le}
use Rattle.library_table.specs.Assignments.{conflicts_between}

-- what is computed for the pair u < v
pub record Numbered (u v : ℕ) : Type 0 where
  pub product : u * (9 - u) ≤ 20
  pub number : u * (9 - u) / 2 + (v - u - 1) ≡ pair_number 5 u v
  pub small : u * (9 - u) / 2 + (v - u - 1) < 10

pub numbered : (u v : ℕ) → u < v → v < 5 → Numbered u v
unfolding pair_number sum_to
numbered zero v l h = record { product = omega arith; number = omega arith; small = omega arith }
numbered (suc zero) v l h = record { product = omega arith; number = omega arith; small = omega arith }
numbered (suc (suc zero)) v l h = record { product = omega arith; number = omega arith; small = omega arith }
numbered (suc (suc (suc zero))) v l h = record { product = omega arith; number = omega arith; small = omega arith }
numbered (suc (suc (suc (suc u)))) v l h = absurd (omega arith)

-- its conflict edges are the bit at its number
pub edges_of : (index u v : ℕ) → u < v → (indexed 5 index).conflicts u v ≡ bit_at index (pair_number 5 u v)
edges_of index u v l =
    let less : min u v ≡ u = omega arith in
    let more : max u v ≡ v = omega arith in
    rw (ne_eqb u v (λ e. omega arith), less, more)

pub between_le : (index : ℕ) (masks : List ℕ) (u v : ℕ) → conflicts_between index masks u v ≤ 1
unfolding bit_at
between_le index masks u v = given_le (same_mask masks u v) (given_le (not (eqb u v)) (omega arith))

pub pairs_few : (index : ℕ) (masks : List ℕ) (v : ℕ) → v ≤ 5 → sum_pairs (conflicts_between index masks) v ≤ 10
pairs_few index masks v l = omega (arith, pairs_le (conflicts_between index masks) v (between_le index masks), mul-le-mul_right v l)
