use Rattle.std.proofs.Common.{rules, ◌≡◌}
use Rattle.reduction.proofs.ReturnLaws.{returning_none, returning_more, returning_all}
use Rattle.reduction.proofs.putting_back.put_back.Goals as goal

pub loop-removal-init : goal.loop-removal-init
loop-removal-init c =
    let all : c.into_iter-removal-iterator.result.iter.rest.now ≡ c.args.removals.now = search rules in
    rw all (returning_none _ _ _ c.requires.placeable c.requires.masked)

pub loop-removal-preserved : goal.loop-removal-preserved
loop-removal-preserved c = returning_more c.next.new.self.iter.rest.now c.loop-removal.invariant c.in-Some.ensures.steps c.mask_of.ensures c.put.ensures

pub returns : goal.returns
returns c = returning_all c.loop-removal.invariant c.in-None.ensures.steps.0
