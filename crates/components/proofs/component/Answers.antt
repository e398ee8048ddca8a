use native.Mathlib.Omega.{arith}
use Rattle.bitset.proofs.Counts.{count_le}
use Rattle.components.proofs.Turns.{Turn, looked, start_grown, turn_grown, turn_count, grown_done}
use Rattle.components.proofs.component.Goals as goal
use Rattle.components.proofs.component.Goals.{After-union-frontier}

pub loop-u-init : goal.loop-u-init
loop-u-init c =
    let at = c.args in
    start_grown _ _ at.v c.empty-inside.ensures c.put.ensures at.conflicts.now at.stitches.now at.left.now c.requires.v_bound c.requires.v_value

-- what the calls of a turn say
turn : (c : After-union-frontier) →
    let given = c.args in
    let at = c.loop-u in
    Turn given.conflicts.now given.stitches.now given.left.now at.inside at.frontier
    c.take_lowest.new.self c.rows_without-new.result c.union-inside.result c.union-frontier.result c.in-Some.u
turn c = record {
  taken = c.in-Some.ensures;
  news = c.rows_without-new.ensures;
  grow = c.union-inside.ensures;
  wait = c.union-frontier.ensures;
}

pub loop-u-smaller : goal.loop-u-smaller
loop-u-smaller c =
    omega (arith, turn_count c.args.v (turn c) c.loop-u.invariant, count_le 512 (looked c.union-inside.result c.union-frontier.result))

pub loop-u-preserved : goal.loop-u-preserved
loop-u-preserved c = turn_grown c.args.v (turn c) c.loop-u.invariant

pub returns : goal.returns
returns c =
    let at = c.loop-u in
    let given = c.args in
    grown_done given.conflicts.now given.stitches.now given.left.now given.v at.inside at.frontier c.in_default.ensures.0 at.invariant
