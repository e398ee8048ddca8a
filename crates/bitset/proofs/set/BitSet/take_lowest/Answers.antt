use native.Mathlib.Omega.{arith}
use Rattle.bitset.specs.Bits.{member}
use Rattle.bitset.proofs.Rising.{none_next, first_here}
use Rattle.bitset.proofs.Sets.{member_at, member_drop}
use Rattle.bitset.proofs.set.BitSet.take_lowest.Goals as goal

pub returns-then-word-ne0 : goal.returns-then-word-ne0
returns-then-word-ne0 c =
    let s = c.loop-w.self-inside.words in
    let w = c.loop-w.w in
    let low = c.lowest_bit.ensures in
    rw (← c.loop-w.invariant.0)
    (record {
      small = omega (arith, low.small);
      first = first_here (member s) w _ (member_at s w) c.loop-w.invariant.1 (omega arith) c.lowest_bit.result low;
      out = member_drop s w c.lowest_bit.result _ (omega arith) low.small (omega arith) c.drop_lowest.result c.drop_lowest.ensures low;
    })

pub loop-w-preserved : goal.loop-w-preserved
loop-w-preserved c =
    let s = c.loop-w.self-inside.words in
    let w = c.loop-w.w in
    (c.loop-w.invariant.0, none_next (member s) w _ (member_at s w) c.loop-w.invariant.1 c.if-word-ne0.false)
