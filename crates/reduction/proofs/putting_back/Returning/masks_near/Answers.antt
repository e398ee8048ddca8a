use Rattle.reduction.proofs.ReturnLaws.{seen_none, seen_all, seen_more, met_there}
use Rattle.reduction.proofs.putting_back.Returning.masks_near.Goals as goal

pub loop-u-init : goal.loop-u-init
loop-u-init c =
    rw (c.into_iter-u-iterator.ensures.into_iter_gives, c.members-u-items.ensures)
    (seen_none _ _ _ _ c.args.v _ c.empty-used.ensures c.neighbours_in.ensures)

pub bounds-res-u : goal.bounds-res-u
bounds-res-u c = c.requires.masked.placed _ c.in-Some.ensures.steps.small (met_there c.loop-u.invariant c.in-Some.ensures.steps)

pub loop-u-preserved : goal.loop-u-preserved
loop-u-preserved c = seen_more c.loop-u.invariant c.in-Some.ensures.steps c.put.ensures

pub returns : goal.returns
returns c = seen_all c.loop-u.invariant c.in-None.ensures.steps.0
