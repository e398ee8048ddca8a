-- `bitset::minus` meets its contract. Assumes nothing.
use mathlib.Core.Path.{◌∙◌}
use native.Mathlib.Omega.{arith}
use Rattle.bitset.proofs.Words.{bit-and, bit_not}
use Rattle.bitset.proofs.minus.Goals as goal

pub returns : goal.returns
returns c = λ k l. bit-and c.args.a _ k ∙ rw (bit_not 64 c.args.b k (omega arith) l)
