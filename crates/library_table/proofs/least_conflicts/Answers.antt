-- `least_conflicts`: the least over the numbers of the assignments is the least over the assignments. Assumes nothing.
use Rattle.std.proofs.Common.{◌≡◌, ◌∙◌, ℕ, refl, arith, rules}
use Rattle.std.proofs.lemmas.Iterator.{YieldsList-from_range, YieldsList-from_map}
use Rattle.std.proofs.lemmas.Iterator.Consumers.{YieldsList-at, min_from_yields_List}
use Rattle.rules.specs.Score.{conflicts_of}
use Rattle.rules.specs.Library.{least_to, least_conflicts, indexed}
use Rattle.theory.proofs.Least.{to_low}
use Rattle.library_table.specs.Assignments.{masks_of}
use Rattle.library_table.proofs.Tried.{tried, least_found, conflicts_few}
use Rattle.library_table.proofs.least_conflicts.Goals as goal

pub returns : goal.returns
unfolding least_conflicts
returns c =
    let f : ℕ → ℕ = λ a. conflicts_of (indexed 5 c.args.index) (masks_of a) 5 in
    let found =
    min_from_yields_List c.map.result _ c.min.ensures.ran
    (YieldsList-from_map _ f (YieldsList-at c.map.ensures.source (YieldsList-from_range 0 243 243 refl refl)) c.map.ensures.closure (λ x r q k. search rules)) in
    let least : c.unwrap.result ≡ least_to f 242 = least_found f 242 _ _ found c.unwrap.ensures in
    (least ∙ tried (λ masks. conflicts_of (indexed 5 c.args.index) masks 5), omega (arith, to_low f 242 0 (omega arith), conflicts_few c.args.index 0))
