use mathlib.Core.Path.{◌∙◌}
use Prim.Native.Nat.{ℕ}
use Rattle.std.proofs.Common.{rules}
use borrow.Author.Tests.{tests}
use lib.ListN.{length, get_or}
use Rattle.first_assignment.proofs.Cheapest.{cheapest_picked}
use Rattle.first_assignment.proofs.first.cheapest_mask.Goals as goal

pub returns : goal.returns
returns c =
    c.unwrap_or.ensures
    ∙ cheapest_picked (λ (m : ℕ). get_or c.args.costs.now m 0) _ (λ x k h e. search (rules, tests)) (length c.args.costs.now) c.requires c.min_by_key.result c.min_by_key.ensures.ran
