use native.Mathlib.Omega.{arith}
use mathlib.Core.List.{List}
use mathlib.Core.Path.{◌≡◌, sym, ap, ◌∙◌}
use Prim.Native.Nat.{ℕ, ◌+◌, ◌*◌, ◌<◌}
use Rattle.std.proofs.Common.{rules}
use borrow.Author.Tests.{tests}
use Rattle.rules.specs.Library.{value_of}
use Rattle.early_end.proofs.Index.{below, below_all, below_none, below_next, below_more, digits_left}
use Rattle.early_end.proofs.ends.index_of.Goals as goal
use Rattle.early_end.proofs.ends.index_of.Goals.{After-rev}

-- all digits are left at first
begun : (c : After-rev) → below c.rev.result.iter.rest.now 0 ≡ value_of c.args.counts.now
begun c = let rest : c.rev.result.iter.rest.now ≡ c.args.counts.now = search rules in rw rest (below_all c.args.counts.now)

pub fold-requires-clause-callable : goal.fold-requires-clause-callable
fold-requires-clause-callable c = record {
  at = λ xs t q x u y f e.
      let left = digits_left (λ f n x r f' k. search (rules, tests)) (value_of c.args.counts.now) xs _ t _ q (begun (goal.at.fold-requires-clause-callable c).After-rev) y f in
      let next : below u.iter.rest.now (x.now + 2 * q.1) ≡ value_of c.args.counts.now = sym (below_next u.iter.rest.now x.now q.1) ∙ ap (λ (l : List ℕ). below l q.1) (sym e) ∙ left in
      let small : x.now + 2 * q.1 < 1024 = omega (arith, below_more u.iter.rest.now (x.now + 2 * q.1), c.requires) in
      search rules;
}

pub returns : goal.returns
returns c =
    let ran = c.fold.ensures.ran in
    let left = digits_left (λ f n x r f' k. search (rules, tests)) (value_of c.args.counts.now) ran.0 _ ran.2.1.0 _ _ (begun (goal.at.returns c).After-rev) ran.2.1.1 ran.3 in
    sym (below_none ran.2.1.0.iter.rest.now c.fold.result ran.2.1.2.0) ∙ left
