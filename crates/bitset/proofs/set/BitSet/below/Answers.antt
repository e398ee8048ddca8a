-- `BitSet::below` meets its contract: after words of ones, a word of ones in its low bits. Assumes nothing.
use mathlib.Core.Path.{◌≡◌}
use Prim.Native.Nat.{ℕ, ◌*◌, ◌-◌, ◌^◌, ◌/◌, ◌%◌}
use native.Mathlib.Omega.{arith}
use lib.ListN.{length, take, replicate}
use Rattle.std.proofs.lemmas.List.{length-append, length-replicate, length-drop, length-take-le}
use Rattle.bitset.proofs.Sets.{member_ones, member_fill}
use Rattle.bitset.proofs.Words.{shl_one}
use Rattle.bitset.proofs.set.BitSet.below.Goals as goal
use Rattle.bitset.proofs.set.BitSet.below.Goals.{then-full-lt8, else-full-lt8}

filled : (c : goal.Joined-full-lt8) → c.fill.new.self ≡ replicate (c.args.n / 64) (2 ^ 64 - 1)
filled c =
    let long : length (take (c.args.n / 64) (replicate {A = ℕ} 8 0)) ≡ c.args.n / 64 = length-take-le (c.args.n / 64) (replicate {A = ℕ} 8 0) (omega arith) in
    rw long at (c.fill.ensures.after (λ y h. h))

pub returns : goal.returns
returns c =
    let n = c.args.n in
    elim c.if-full-lt8.branch [
      | then-full-lt8 w ↦ rw (w.words-is, shl_one 64 (n % 64) (omega arith), filled c)
          (member_fill _ (n / 64) (n % 64) n (simp (length-append, length-replicate, length-drop) (omega arith)) (omega arith) (omega arith) (member_ones (n / 64) 8))
      | else-full-lt8 w ↦
          let e : 64 * (n / 64) ≡ n = omega arith in
          rw (w.words-is, filled c) (rw e at (member_ones (n / 64) 8))
    ]
