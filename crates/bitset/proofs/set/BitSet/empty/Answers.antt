-- `BitSet::empty` meets its contract: words of 0 have no member. Assumes nothing.
use mathlib.Core.Path.{refl}
use Rattle.bitset.proofs.Sets.{member_none}
use Rattle.bitset.proofs.set.BitSet.empty.Goals as goal

pub returns : goal.returns
returns c = record { words = refl; none = member_none 8 }
