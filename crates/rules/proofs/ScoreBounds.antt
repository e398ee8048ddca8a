-- How large counts and costs get. Two vertices have at most one edge of a kind, so 512 of them count at most 130,816 of each kind, and a cost is at most
-- 1,000 for each conflict and 1 for each stitch. Assumes nothing.
use mathlib.Core.Bool.{Bool, true, false}
use mathlib.Core.List.{List}
use mathlib.Core.Path.{◌≡◌, refl}
use Prim.Native.Nat.{ℕ, ◌≤◌}
use native.Mathlib.Nat.{mul-le-mul}
use native.Mathlib.Omega.{arith}
use mir.Val.{bool_byte}
use Rattle.rules.specs.Basics.{given}
use Rattle.rules.specs.Edges.{Graph}
use Rattle.rules.specs.Score.{together, apart, conflicts_of, stitches_of, cost_of}
use Rattle.rules.proofs.Sums.{pairs_small}

pub given_le : (b : Bool) {x k : ℕ} → x ≤ k → given b x ≤ k
given_le true h = h
given_le false h = omega arith

pub given_nothing : (b : Bool) → given b 0 ≡ 0
given_nothing true = refl
given_nothing false = refl

-- a test as the number that it is turned into
pub given_byte : (b : Bool) → given b 1 ≡ bool_byte b
given_byte true = refl
given_byte false = refl

-- counts in a graph with at most one edge of a kind between two vertices
module _ (g : Graph) (masks : List ℕ) (n : ℕ) (few : n ≤ 512) where
  pub conflicts_small : ((u v : ℕ) → g.conflicts u v ≤ 1) → conflicts_of g masks n ≤ 130_816
  unfolding conflicts_of
  conflicts_small single = pairs_small _ n (λ u v. given_le (together masks u v) (single u v)) few

  pub stitches_small : ((u v : ℕ) → g.stitches u v ≤ 1) → stitches_of g masks n ≤ 130_816
  unfolding stitches_of
  stitches_small single = pairs_small _ n (λ u v. given_le (apart masks u v) (single u v)) few

pub cost_small : {weight conflicts stitches : ℕ} → weight ≤ 1_000 → conflicts ≤ 130_816 → stitches ≤ 130_816 → cost_of weight conflicts stitches ≤ 130_946_816
cost_small w c s = omega (arith, mul-le-mul w c)
