-- `BitSet::intersection` meets its contract. Assumes nothing.
use borrow.Author.Rules.{rules}
use mathlib.Core.Bool.{◌&&◌, and-false}
use mathlib.Core.Path.{◌≡◌, sym}
use Prim.Native.Nat.{ℕ, ◌<◌}
use lib.Bits.{bit_and}
use lib.ListN.{get_or}
use Rattle.bitset.specs.Bits.{member}
use Rattle.bitset.proofs.Sets.{intersection_word, member_words, member_all, member_past}
use Rattle.bitset.proofs.set.BitSet.intersection.Goals as goal

pub returns : goal.returns
returns c =
    let s = c.args.self.now in
    let t = c.args.other.now in
    let words : (w : ℕ) → w < 8 → get_or c.from_fn.result w 0 ≡ bit_and (get_or s w 0) (get_or t w 0) = λ w h.
    let (p, q, called) = c.from_fn.ensures.items.at w 0 h in search rules
    in
    member_all (λ k. member s k && member t k) c.from_fn.result c.from_fn.ensures.items.long
    (λ k h. rw (member_past t k (rw (← c.other.view_is, c.other.told) h)) (and-false (member s k)))
    (member_words (λ k. member s k && member t k) c.from_fn.result (λ w k h l. rw (words w h) (sym (intersection_word s t w k l))))
