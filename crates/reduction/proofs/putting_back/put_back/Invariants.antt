-- `put_back`. The invariant: the removals that are left, put back to those present now, make what all of them make of those present at the start.
-- Assumes nothing.
use Rattle.reduction.proofs.ReturnLaws.{Returning}
use Rattle.reduction.proofs.putting_back.put_back.Given as goal

abbrev pub invariant-loop-removal : goal.invariant-loop-removal
invariant-loop-removal l = Returning l.masks l.conflicts l.removals l.removal-iterator.iter.rest.now l.there l.initial.res l.present l.res
