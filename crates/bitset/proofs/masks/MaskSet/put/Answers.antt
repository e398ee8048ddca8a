-- `MaskSet::put` meets its contract: `1 << m` has bit m alone. Assumes nothing.
use mathlib.Core.Path.{◌∙◌}
use Prim.Native.Nat.{◌*◌, ◌%◌, ◌^◌}
use Rattle.bitset.proofs.Words.{bit-or, bit_shl}
use Rattle.bitset.proofs.masks.MaskSet.put.Goals as goal

pub returns : goal.returns
returns c =
    let m = c.args.m in
    λ k. rw (← c.self.view_is) (bit-or c.self.inside.bits ((1 * 2 ^ m) % 2 ^ 8) k ∙ rw (bit_shl 8 m k c.requires))
