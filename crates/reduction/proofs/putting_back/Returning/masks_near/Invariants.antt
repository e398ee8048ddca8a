-- `masks_near`. The invariant: the masks in use, and those of the neighbours still to come, are those of all neighbours. Assumes nothing.
use Rattle.reduction.proofs.ReturnLaws.{Seen}
use Rattle.reduction.proofs.putting_back.Returning.masks_near.Given as goal

abbrev pub invariant-loop-u : goal.invariant-loop-u
invariant-loop-u l = Seen l.self.conflicts.now l.there l.res l.u-iterator l.v l.used
