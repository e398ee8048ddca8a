-- `may_go`: a fixed vertex stays; of another the two counts are the rules' degrees. Assumes nothing.
use Rattle.std.proofs.Common.{◌≡◌, sym, ap, ◌∙◌, arith}
use Rattle.std.specs.Prelude.{Option, is_some, ℕ}
use Rattle.rules.specs.Settings.{unset, stated_mask}
use Rattle.rules.proofs.Lists.{default_same}
use Rattle.rules.proofs.StatedMasks.{is_stated, not_stated}
use Rattle.adjacency.specs.UnitGraph.{fixed_at}
use Rattle.reduction.proofs.PeelLaws.{go_fixed, go_unstitched, go_pendant, go_never}
use Rattle.reduction.proofs.peeling.Peeling.may_go.Goals as goal
use Rattle.reduction.proofs.peeling.Peeling.may_go.Goals.{After-is_some, Else-is_some}

-- the test is whether the vertex has a fixed mask
tested : (c : After-is_some) → is_some (stated_mask (fixed_at c.args.self.now.fixed.now c.args.v)) ≡ c.is_some.result
tested c =
    ap (λ m. is_some (stated_mask m)) (sym (default_same c.args.self.now.fixed.now c.args.v 0 unset (omega (arith, c.args.self.now.room))))
    ∙ ap (λ (o : Option ℕ). is_some o) (sym c.stated_mask.ensures)
    ∙ sym c.is_some.ensures

pub returns-then-is_some : goal.returns-then-is_some
returns-then-is_some c = go_fixed _ _ _ _ _ (is_stated _ (tested (goal.at.returns-then-is_some c).After-is_some ∙ c.if-is_some.true))

free : (c : Else-is_some) → fixed_at c.args.self.now.fixed.now c.args.v ≡ unset
free c = not_stated _ (tested c.before ∙ c.if-is_some.false)

pub returns-in-0 : goal.returns-in-0
returns-in-0 c =
    let edges = c.args.self.now.edges.now in
    go_unstitched _ edges.conflicts edges.stitches _ _ _ _ _ c.degree_in-near.ensures c.degree_in.ensures (free (goal.at.returns-in-0 c).Else-is_some) c.in-0.is

pub returns-in-1 : goal.returns-in-1
returns-in-1 c =
    let edges = c.args.self.now.edges.now in
    go_pendant _ edges.conflicts edges.stitches _ _ _ _ _ c.degree_in-near.ensures c.degree_in.ensures (free (goal.at.returns-in-1 c).Else-is_some) c.in-1.is

pub returns-in_default : goal.returns-in_default
returns-in_default c =
    let edges = c.args.self.now.edges.now in
    go_never _ edges.conflicts edges.stitches _ _ _ _ _ c.degree_in-near.ensures c.degree_in.ensures (free (goal.at.returns-in_default c).Else-is_some) (λ e. omega arith) (λ e. omega arith)
