-- `BitSet::put` meets its contract: the word that is stored has j's bit too. Assumes nothing.
use Prim.Native.Nat.{◌/◌, ◌%◌}
use native.Mathlib.Omega.{arith}
use Rattle.bitset.proofs.Sets.{member_put}
use Rattle.bitset.proofs.set.BitSet.put.Goals as goal

pub returns : goal.returns
returns c =
    let j = c.args.j in
    rw (← c.self.view_is) (member_put c.self.inside.words (j / 64) (j % 64) j (omega arith) (omega arith) (omega arith))
