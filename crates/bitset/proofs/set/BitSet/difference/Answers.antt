-- `BitSet::difference` meets its contract. Assumes nothing.
use borrow.Author.Rules.{rules}
use mathlib.Core.Bool.{◌&&◌, not}
use mathlib.Core.Path.{◌≡◌}
use Prim.Native.Nat.{ℕ, ◌<◌}
use lib.ListN.{get_or}
use Rattle.bitset.specs.Bits.{bit, member}
use Rattle.bitset.proofs.Sets.{member_at, member_words}
use Rattle.bitset.proofs.set.BitSet.difference.Goals as goal

pub returns : goal.returns
returns c =
    let s = c.args.self.now in
    let t = c.args.other.now in
    let words : (w k : ℕ) → w < 8 → k < 64 → bit (get_or c.from_fn.result w 0) k ≡ (bit (get_or s w 0) k && not (bit (get_or t w 0) k)) = λ w k h l.
    let (p, q, called) = c.from_fn.ensures.items.at w 0 h in search rules
    in
    member_words (λ k. member s k && not (member t k)) c.from_fn.result
    (λ w k h l. rw (member_at s w k l, member_at t w k l) (words w k h l))
