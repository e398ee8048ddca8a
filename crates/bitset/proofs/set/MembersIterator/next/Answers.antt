-- `next` of the iterator over a set's members meets its contract: without its least member a set has one member less. Assumes nothing.
use mathlib.Core.List.{List}
use Prim.Native.Nat.{ℕ}
use native.Mathlib.Omega.{arith}
use Rattle.std.specs.Iterator.{MakesProgress, at_most}
use Rattle.std.specs.Prelude.{Option, None, Some}
use Rattle.bitset.specs.Bits.{member, count_below, TakesLeast}
use Rattle.bitset.proofs.Rising.{taken_less}
use Rattle.bitset.proofs.set.MembersIterator.next.Goals as goal

progress : (can : List ℕ → Type 0) → ((s : List ℕ) → can s) → (s t : List ℕ) (o : Option ℕ) → TakesLeast s o t
    → MakesProgress can (λ r. at_most (count_below 512 (member r))) s o t
progress can may s t None none = record { on = λ _. tt; keeps = tt; rests = λ _. tt }
progress can may s t (Some r) taken = record { on = λ _. (may t, tt, omega (arith, taken_less taken)); keeps = may t; rests = λ _. tt }

pub returns-clause-goes : goal.returns-clause-goes
returns-clause-goes c = rw (← c.self.view_is) (progress _ (λ _. tt) _ _ _ c.take_lowest.ensures)
