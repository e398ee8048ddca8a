-- `search_component`: the first assignment, held as the incumbent, and the search from place 0, unless it has ended there. Assumes nothing.
use mathlib.Core.Logic.{inl, inr}
use mathlib.Core.Path.{sym, ◌∙◌}
use lib.ListN.{length}
use Rattle.std.proofs.lemmas.List.{length-drop}
use Rattle.search.proofs.FromFirst.{ends_as, ready_first, searched_ended, searched_first}
use Rattle.search.proofs.component.search_component.Goals as goal
use Rattle.search.proofs.component.search_component.Goals.{then-has_fixed, else-has_fixed}

pub returns-then-eq : goal.returns-then-eq
returns-then-eq c =
    searched_ended c.args.local.now c.args.limits c.args.end c.new.result c.new.ensures c.requires _ (length-drop (length c.args.local.now.fixed.now) _) c.first_assignment-cost.ensures
    (sym (ends_as c.args.end c.first_assignment-cost.result) ∙ sym c.eq.ensures ∙ c.if-eq.true)

pub search_place-rest-requires-clause-ready : goal.search_place-rest-requires-clause-ready
search_place-rest-requires-clause-ready c =
    ready_first c.args.local.now c.args.limits c.args.end c.new.result c.new.ensures c.requires _ (length-drop (length c.args.local.now.fixed.now) _) c.first_assignment-cost.ensures
    (sym (ends_as c.args.end c.first_assignment-cost.result) ∙ sym c.eq.ensures ∙ c.if-eq.false) c.if-has_fixed.used
    (elim c.if-has_fixed.branch [
      | then-has_fixed w ↦ inl (sym c.has_fixed.ensures ∙ w.if-has_fixed.true, w.used-is)
      | else-has_fixed w ↦ inr (sym c.has_fixed.ensures ∙ w.if-has_fixed.false, w.used-is)
    ])

pub returns : goal.returns
returns c =
    rw c.unwrap_or-progress.ensures
    (searched_first c.args.local.now c.args.limits c.args.end c.new.result c.new.ensures c.requires _ (length-drop (length c.args.local.now.fixed.now) _) c.first_assignment-cost.ensures c.search_place-rest.ensures)
