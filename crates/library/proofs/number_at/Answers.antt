-- `number_at`: a digit of the table is 48 and the least number of conflicts. Assumes nothing.
use mathlib.Core.List.{List}
use mathlib.Core.Path.{◌≡◌, ap, ◌∙◌}
use Prim.Native.Nat.{ℕ, ◌+◌, ◌<◌}
use native.Mathlib.Omega.{arith}
use lib.ListN.{get_or}
use Rattle.rules.specs.Library.{entry_of}
use Rattle.theory.proofs.Table.{least_digits, digits_at}
use Rattle.library.proofs.number_at.Goals as goal

digit : (entries : List ℕ) (i : ℕ) → entries ≡ least_digits 5 3 1024 → i < 1024 → get_or entries i 0 ≡ 48 + entry_of i
digit entries i e l = ap (λ (ds : List ℕ). get_or ds i 0) e ∙ digits_at 5 3 1024 (omega arith) (omega arith) i l

pub overflow_sub-result : goal.overflow_sub-result
overflow_sub-result c = omega (arith, digit c.args.entries.now c.args.index c.requires.entries_value c.requires.index_bound)

pub returns : goal.returns
returns c = omega (arith, digit c.args.entries.now c.args.index c.requires.entries_value c.requires.index_bound)
