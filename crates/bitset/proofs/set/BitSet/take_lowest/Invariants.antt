-- `BitSet::take_lowest` meets its contract. The invariant: nothing below the word w is a member, and no word was written.
-- Assumes nothing.
use mathlib.Core.Path.{◌≡◌}
use mathlib.Core.Bool.{false}
use Prim.Native.Nat.{ℕ, ◌<◌, ◌*◌}
use Rattle.bitset.specs.Bits.{member}
use Rattle.bitset.proofs.set.BitSet.take_lowest.Given as goal

abbrev pub invariant-loop-w : goal.invariant-loop-w
invariant-loop-w l = (l.self-inside.words ≡ l.fn.self) × ((k : ℕ) → k < 64 * l.w → member l.self-inside.words k ≡ false)
