use native.Mathlib.Omega.{arith}
use Prim.Native.Nat.{ℕ, ◌≤◌, ◌<◌}
use lib.ListN.{get_or}
use Rattle.rows.proofs.Rows.{on_none, on_first, row_less}
use Rattle.rows.proofs.row.drop_stitches.Goals as goal
use Rattle.rows.proofs.row.drop_stitches.Goals.{In-loop-neighbour}

-- the mask of the neighbour that is passed, and that one can be taken off its cost
module _ (turn : In-loop-neighbour) where
  abbrev mask : ℕ
  mask = get_or turn.args.before.now (get_or turn.args.neighbours.now turn.loop-neighbour.neighbour-index 0) 0

  low : mask < 8
  low = turn.requires.low _ (turn.requires.earlier turn.loop-neighbour.neighbour-index (omega arith))

  some : 1 ≤ get_or turn.loop-neighbour.sums mask 0
  some = omega (arith, turn.loop-neighbour.invariant mask low, turn.requires.enough mask low, on_first turn.args.neighbours.now turn.args.before.now mask turn.loop-neighbour.neighbour-index (omega arith))

pub loop-neighbour-init : goal.loop-neighbour-init
loop-neighbour-init c m l = omega (arith, on_none c.args.neighbours.now c.args.before.now m)

pub overflow_sub-sums : goal.overflow_sub-sums
overflow_sub-sums c = some (goal.at.overflow_sub-sums c).In-loop-neighbour

pub loop-neighbour-preserved : goal.loop-neighbour-preserved
loop-neighbour-preserved c =
    let turn = (goal.at.loop-neighbour-preserved c).In-loop-neighbour in
    row_less c.args.neighbours.now c.args.before.now c.loop-neighbour.sums c.args.sums.now c.loop-neighbour.neighbour-index (omega arith) (omega arith) (low turn) c.loop-neighbour.invariant (some turn)
