-- `components::component` meets its contract. The invariant: the part inside has grown from v. The measure is
-- how many vertices were not looked at. Assumes nothing.
use Prim.Native.Nat.{◌-◌}
use Rattle.bitset.specs.Bits.{count_below}
use Rattle.components.proofs.Turns.{GrownSets, looked}
use Rattle.components.proofs.component.Given as goal

abbrev pub invariant-loop-u : goal.invariant-loop-u
invariant-loop-u l = GrownSets l.conflicts l.stitches l.left l.v l.inside l.frontier

abbrev pub decreases-loop-u : goal.decreases-loop-u
decreases-loop-u l = 512 - count_below 512 (looked l.inside l.frontier)
