use native.Mathlib.Omega.{arith}
use native.Mathlib.Nat.{mul-le-mul}
use mathlib.Core.Path.{ap, subst, ◌∙◌}
use Prim.Native.Nat.{ℕ, ◌+◌, ◌*◌, ◌≤◌, ◌<◌}
use lib.Dec.{eqb}
use lib.ListN.{get_or, take}
use Rattle.places.specs.Local.{on_mask}
use Rattle.rows.specs.Weights.{Weights}
use Rattle.rows.proofs.Rows.{on_none, on_first, row_more, given_most}
use Rattle.rows.proofs.row.add_conflicts.Goals as goal
use Rattle.rows.proofs.row.add_conflicts.Goals.{At-loop-neighbour, In-loop-neighbour}

-- the weights are those of the weight that a contract sees
weights : (at : At-loop-neighbour) → Weights at.table.inside.weights at.args.table.now
weights at = subst (Weights at.table.inside.weights) at.table.view_is at.table.invariant

-- at most 1,000 were added for each neighbour that was passed
few_more : (at : At-loop-neighbour) (m : ℕ) → m < 8 → get_or at.loop-neighbour.sums m 0 ≤ get_or at.args.sums.now m 0 + 1000 * at.loop-neighbour.neighbour-index
few_more at m l =
    let i = at.loop-neighbour.neighbour-index in
    let few : on_mask at.args.before.now m (take i at.args.neighbours.now) ≤ i = on_first at.args.neighbours.now at.args.before.now m i (omega arith) in
    omega (arith, at.loop-neighbour.invariant m l, mul-le-mul (weights at).light few)

-- the mask of the neighbour that is passed
module _ (turn : In-loop-neighbour) where
  abbrev mask : ℕ
  mask = get_or turn.args.before.now (get_or turn.args.neighbours.now turn.loop-neighbour.neighbour-index 0) 0

  low : mask < 8
  low = turn.requires.low _ (turn.requires.earlier turn.loop-neighbour.neighbour-index (omega arith))

pub loop-neighbour-init : goal.loop-neighbour-init
loop-neighbour-init c m l = omega (arith, ap (λ (k : ℕ). c.args.table.now * k) (on_none c.args.neighbours.now c.args.before.now m))

pub add_each-requires : goal.add_each-requires
add_each-requires c m l =
    let turn = (goal.at.add_each-requires c).In-loop-neighbour in
    let at = (goal.at.add_each-requires c).At-loop-neighbour in
    let w = weights at in
    omega (arith, few_more at m l, c.requires.few, c.requires.small m l, w.entries (mask turn) m (low turn) l, given_most (eqb (mask turn) m) c.args.table.now, w.light)

pub loop-neighbour-preserved : goal.loop-neighbour-preserved
loop-neighbour-preserved c m l =
    let turn = (goal.at.loop-neighbour-preserved c).In-loop-neighbour in
    row_more c.args.neighbours.now c.args.before.now c.loop-neighbour.sums c.add_each.new.sums c.args.sums.now c.args.table.now c.loop-neighbour.neighbour-index m (omega arith) (c.loop-neighbour.invariant m l)
    (c.add_each.ensures m l
    ∙ ap (λ (x : ℕ). get_or c.loop-neighbour.sums m 0 + x) ((weights (goal.at.loop-neighbour-preserved c).At-loop-neighbour).entries (mask turn) m (low turn) l))

pub returns-clause-few_more : goal.returns-clause-few_more
returns-clause-few_more c m l = omega (arith, few_more (goal.at.returns-clause-few_more c).At-loop-neighbour m l)
