-- `BitSet::union` meets its contract. Assumes nothing.
use borrow.Author.Rules.{rules}
use mathlib.Core.Bool.{◌||◌}
use mathlib.Core.Path.{◌≡◌}
use Prim.Native.Nat.{ℕ, ◌<◌}
use lib.Bits.{bit_or}
use lib.ListN.{get_or}
use Rattle.bitset.specs.Bits.{member}
use Rattle.bitset.proofs.Words.{bit-or}
use Rattle.bitset.proofs.Sets.{member_at, member_words}
use Rattle.bitset.proofs.set.BitSet.union.Goals as goal

pub returns : goal.returns
returns c =
    let s = c.args.self.now in
    let t = c.args.other.now in
    let words : (w : ℕ) → w < 8 → get_or c.from_fn.result w 0 ≡ bit_or (get_or s w 0) (get_or t w 0) = λ w h.
    let (p, q, called) = c.from_fn.ensures.items.at w 0 h in search rules
    in
    member_words (λ k. member s k || member t k) c.from_fn.result
    (λ w k h l. rw (member_at s w k l, member_at t w k l, words w h) (bit-or (get_or s w 0) (get_or t w 0) k))
