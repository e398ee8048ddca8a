-- `bitset::lowest_bit` meets its contract: a word that is not 0 has a set bit, and `trailing_zeros` is the lowest.
-- Assumes nothing.
use Prim.Native.Nat.{◌<◌}
use native.Mathlib.Nat.{lt_of_le_of_lt}
use lib.Dec.{lit<}
use lib.Count.{count_trailing_zeros, trailing_le}
use Rattle.bitset.proofs.Words.{trailing_lt, trailing_set, trailing_clear}
use Rattle.bitset.proofs.lowest_bit.Goals as goal

pub overflow_cast-result : goal.overflow_cast-result
overflow_cast-result c = record { fits = lt_of_le_of_lt (trailing_le 64 _) (lit< tt) }

pub returns : goal.returns
returns c =
    let x = c.args.x in
    let small : count_trailing_zeros 64 x < 64 = trailing_lt 64 x c.requires c.ranges.x.fits in
    record { small = small; set = trailing_set 64 x small; below = trailing_clear 64 x }
