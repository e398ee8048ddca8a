-- `BitSet::take_out` meets its contract: the word that is stored lacks j's bit. Assumes nothing.
use Prim.Native.Nat.{◌/◌, ◌%◌}
use native.Mathlib.Omega.{arith}
use Rattle.bitset.proofs.Sets.{member_out}
use Rattle.bitset.proofs.set.BitSet.take_out.Goals as goal

pub returns : goal.returns
returns c =
    let j = c.args.j in
    rw (← c.self.view_is) (member_out c.self.inside.words (j / 64) (j % 64) j (omega arith) (omega arith) (omega arith))
