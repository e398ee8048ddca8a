use Rattle.std.proofs.Common.{ap₂, ◌∙◌, arith}
use mathlib.Core.Bool.{◌||◌}
use Prim.Native.Nat.{ℕ}
use Rattle.bitset.specs.Edges.{has_edge}
use Rattle.units.specs.Steps.{two_units}
use Rattle.units.proofs.MergeLaws.{row_none, row_next, row_all}
use Rattle.units.proofs.merging.merge_row.Goals as goal

pub loop-i-init : goal.loop-i-init
loop-i-init c =
    rw (c.into_iter-i-iterator.ensures.into_iter_gives, c.members-i-items.ensures)
    (row_none _ _ _ (omega (arith, c.requires.j_bound, c.requires.few)) c.below.result c.neighbours_in.result c.below.ensures c.neighbours_in.ensures _)

pub loop-i-preserved : goal.loop-i-preserved
loop-i-preserved c =
    row_next c.loop-i.invariant c.in-Some.ensures.steps
    (λ a b.
    c.join_units.ensures a b
    ∙ ap₂ (λ (x y : ℕ). has_edge c.loop-i.merged a b || two_units x y a b) c.from.ensures c.from-unit.ensures)

pub returns : goal.returns
returns c = row_all c.loop-i.invariant c.in-None.ensures.steps.0
