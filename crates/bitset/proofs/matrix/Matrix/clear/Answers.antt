-- `Matrix::clear` meets its contract: each of the 512 rows is a clone of the set with no member. Assumes nothing.
use borrow.Author.Rules.{rules}
use mathlib.Core.Path.{◌≡◌, refl, sym, ap₂, ◌∙◌}
use mathlib.Core.List.{List}
use Prim.Native.Nat.{ℕ}
use lib.ListN.{length, replicate}
use Rattle.bitset.proofs.Sets.{row_none}
use Rattle.bitset.proofs.matrix.Matrix.clear.Goals as goal

cleared : (c : goal.After-self-1) → c.fill.new.self ≡ replicate 512 (replicate 8 0)
cleared c =
    let long : length c.args.self.now.rows ≡ 512 = search rules in
    c.fill.ensures.after (λ y h. search rules) ∙ ap₂ (replicate {A = List ℕ}) long c.empty.ensures.words

pub invariant_of-self : goal.invariant_of-self
invariant_of-self c = record { both_ways = λ a b. rw (cleared c) (row_none refl a b ∙ sym (row_none refl b a)) }

pub returns : goal.returns
returns c = record { rows = cleared c.before; none = λ a b. rw (cleared c.before) (row_none refl a b) }
