-- `conflicts_before`: the sum over the numbers below v, of which each adds at most 1. Assumes nothing.
use Rattle.std.proofs.Common.{◌∙◌, ℕ, refl, arith, rules}
use Rattle.std.proofs.lemmas.Iterator.{YieldsList-from_range, YieldsList-from_map}
use Rattle.std.proofs.lemmas.Iterator.Consumers.{YieldsList-at, sum_from_yields_List, fits_from_yields_list}
use Rattle.rules.proofs.Sums.{sum_le}
use Rattle.library_table.specs.Assignments.{conflicts_between}
use Rattle.library_table.proofs.Pairs.{between_le}
use Rattle.library_table.proofs.Sums.{sum_range}
use Rattle.library_table.proofs.conflicts_before.Goals as goal

pub sum-requires-clause-fits : goal.sum-requires-clause-fits
sum-requires-clause-fits c =
    let f : ℕ → ℕ = λ u. conflicts_between c.args.index c.args.masks.now u c.args.v in
    fits_from_yields_list c.map.result _
    (YieldsList-from_map _ f (YieldsList-at c.map.ensures.source (YieldsList-from_range 0 c.args.v c.args.v refl (omega arith))) c.map.ensures.closure (λ x r q k. search rules))
    (omega (arith, sum_range f c.args.v, sum_le f c.args.v (λ u. between_le c.args.index c.args.masks.now u c.args.v)))

pub returns : goal.returns
returns c =
    let f : ℕ → ℕ = λ u. conflicts_between c.args.index c.args.masks.now u c.args.v in
    sum_from_yields_List c.map.result _ c.sum.ensures.ran
    (YieldsList-from_map _ f (YieldsList-at c.map.ensures.source (YieldsList-from_range 0 c.args.v c.args.v refl (omega arith))) c.map.ensures.closure (λ x r q k. search rules))
    ∙ sum_range f c.args.v
