-- `spread_masks`: the pieces before i have their units' masks. Assumes nothing.
use Rattle.decomposer.proofs.Spreading.{SpreadTo}
use Rattle.decomposer.proofs.run.spread_masks.Given as goal

abbrev pub invariant-loop-i : goal.invariant-loop-i
invariant-loop-i l = SpreadTo l.units l.initial.masks l.masks l.i
