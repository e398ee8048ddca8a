use native.Mathlib.Omega.{arith}
use Rattle.decomposer.proofs.Spreading.{spread_all}
use Rattle.decomposer.proofs.run.spread_masks.Goals as goal

pub returns : goal.returns
returns c = spread_all c.requires.grouping c.loop-i.invariant (omega (arith, c.loop-i.invariant.within, c.loop-i.invariant.size))
