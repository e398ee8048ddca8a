-- `bitset::drop_lowest` meets its contract: `x & (x - 1)` clears the lowest set bit, and is at most x - 1. Assumes nothing.
use Prim.Native.Nat.{◌-◌}
use native.Mathlib.Omega.{arith}
use lib.Bits.{and_le_r}
use Rattle.bitset.proofs.Words.{bit_drop}
use Rattle.bitset.proofs.drop_lowest.Goals as goal

pub returns : goal.returns
returns c =
    let x = c.args.x in
    record { less = omega (arith, and_le_r x (x - 1)); bits = λ r low k. bit_drop x r k low.set low.below }
