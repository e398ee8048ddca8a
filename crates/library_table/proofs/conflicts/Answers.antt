-- `conflicts`: the sum over the pieces is the sum over their pairs. Assumes nothing.
use Rattle.std.proofs.Common.{◌∙◌, ℕ, List, refl, sym, ap, arith, rules}
use Rattle.std.proofs.lemmas.Iterator.{YieldsList-from_range, YieldsList-from_map}
use Rattle.std.proofs.lemmas.Iterator.Consumers.{YieldsList-at, sum_from_yields_List, fits_from_yields_list}
use Rattle.rules.specs.Basics.{sum_to, sum_pairs}
use Rattle.library_table.specs.Assignments.{conflicts_between}
use Rattle.library_table.proofs.Pairs.{pairs_few}
use Rattle.library_table.proofs.Sums.{sum_range}
use Rattle.library_table.proofs.Tried.{by_pairs}
use Rattle.library_table.proofs.conflicts.Goals as goal

pub sum-requires-clause-fits : goal.sum-requires-clause-fits
unfolding sum_pairs
sum-requires-clause-fits c =
    let masks : List ℕ = c.masks_of-masks.result in
    let f : ℕ → ℕ = λ v. sum_to (λ u. conflicts_between c.args.index masks u v) v in
    fits_from_yields_list c.map.result _
    (YieldsList-from_map _ f (YieldsList-at c.map.ensures.source (YieldsList-from_range 0 5 5 refl refl)) c.map.ensures.closure (λ x r q k. search rules))
    (omega (arith, sum_range f 5, pairs_few c.args.index masks 5 (omega arith)))

pub returns : goal.returns
unfolding sum_pairs
returns c =
    let masks : List ℕ = c.masks_of-masks.result in
    let f : ℕ → ℕ = λ v. sum_to (λ u. conflicts_between c.args.index masks u v) v in
    sum_from_yields_List c.map.result _ c.sum.ensures.ran
    (YieldsList-from_map _ f (YieldsList-at c.map.ensures.source (YieldsList-from_range 0 5 5 refl refl)) c.map.ensures.closure (λ x r q k. search rules))
    ∙ sum_range f 5
    ∙ ap (λ (l : List ℕ). sum_pairs (conflicts_between c.args.index l) 5) c.masks_of-masks.ensures
    ∙ sym (by_pairs c.args.index c.args.assignment)
