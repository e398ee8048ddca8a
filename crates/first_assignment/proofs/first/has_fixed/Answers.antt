use Rattle.std.proofs.Common.{rules, true, not, eqb, length, get_or, ◌≡◌, ◌∙◌, ap, ◌↔◌, IsTrue}
use Rattle.std.specs.List.{SomeIndex}
use Rattle.rules.specs.Settings.{unset}
use Rattle.rules.proofs.Lists.{any_ext, default_same}
use Rattle.first_assignment.proofs.Any.{any_where}
use Rattle.first_assignment.proofs.first.has_fixed.Goals as goal

pub returns : goal.returns
returns c =
    let fixed = c.args.fixed.now in
    let found : IsTrue c.any.result ↔ SomeIndex fixed (λ k. not (eqb (get_or fixed k 0) unset) ≡ true) = search rules in
    any_where (λ k. not (eqb (get_or fixed k 0) unset)) (length fixed) c.any.result found
    ∙ any_ext (length fixed) (λ i l. ap (λ x. not (eqb x unset)) (default_same fixed i 0 unset l))
