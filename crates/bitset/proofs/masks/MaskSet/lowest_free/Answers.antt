-- `MaskSet::lowest_free` meets its contract: the zeros that `!` ends with are the ones that the set's bits end with. Assumes nothing.
use native.Mathlib.Omega.{arith}
use Rattle.bitset.proofs.Words.{free_below, free_clear}
use Rattle.bitset.proofs.masks.MaskSet.lowest_free.Goals as goal

pub returns-then-m-lt8 : goal.returns-then-m-lt8
returns-then-m-lt8 c =
    let x = c.self.inside.bits in
    rw (← c.self.view_is) (record { small = c.if-m-lt8.true; clear = free_clear 8 x (omega arith) c.if-m-lt8.true; below = free_below 8 x (omega arith) })

pub returns-else-m-lt8 : goal.returns-else-m-lt8
returns-else-m-lt8 c = λ k l. rw (← c.self.view_is) (free_below 8 c.self.inside.bits (omega arith) k (omega arith))
