use Rattle.components.proofs.Taking.{fewer_left}
use Rattle.units.proofs.NumberLaws.{numbering_next, numbering_all}
use Rattle.units.proofs.numbering.number_units.Goals as goal

pub loop-v-smaller : goal.loop-v-smaller
loop-v-smaller c =
    let (small, first) = c.in-Some.ensures in
    fewer_left c.loop-v.rest c.difference-rest.result small first c.component-unit.ensures c.difference-rest.ensures

pub loop-v-preserved : goal.loop-v-preserved
loop-v-preserved c =
    let (small, first) = c.in-Some.ensures in
    numbering_next c.loop-v.invariant c.put.new.self c.difference-rest.result small first c.component-unit.ensures c.give_number.ensures c.put.ensures c.difference-rest.ensures

pub returns : goal.returns
returns c = numbering_all c.loop-v.invariant c.requires c.below-rest.ensures c.in_default.ensures
