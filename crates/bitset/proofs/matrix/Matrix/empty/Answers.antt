-- `Matrix::empty` meets its contract: each row is the set with no member. Assumes nothing.
use mathlib.Core.Path.{ap, sym, ◌∙◌}
use mathlib.Core.List.{List}
use Prim.Native.Nat.{ℕ}
use lib.ListN.{replicate}
use Rattle.bitset.proofs.Sets.{row_none}
use Rattle.bitset.proofs.matrix.Matrix.empty.Goals as goal

pub invariant_of-result : goal.invariant_of-result
invariant_of-result c = record { both_ways = λ a b. row_none c.empty.ensures.words a b ∙ sym (row_none c.empty.ensures.words b a) }

pub returns : goal.returns
returns c = record { rows = ap (replicate {A = List ℕ} 512) c.empty.ensures.words; none = row_none c.empty.ensures.words }
