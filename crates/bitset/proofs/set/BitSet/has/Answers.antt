-- `BitSet::has` meets its contract: the bit is tested after a shift. Assumes nothing.
use Prim.Native.Nat.{◌/◌, ◌%◌}
use lib.ListN.{get_or}
use Rattle.bitset.specs.Bits.{member}
use Rattle.bitset.proofs.Words.{bit_test}
use Rattle.bitset.proofs.set.BitSet.has.Goals as goal

pub returns : goal.returns
unfolding member
returns c =
    let at = c.args in
    rw c.self.view_is (bit_test (get_or at.self.now (at.j / 64) 0) (at.j % 64))
