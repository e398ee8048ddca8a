use mathlib.Core.Path.{◌≡◌, ap}
use Prim.Native.Nat.{◌≤◌}
use native.Mathlib.Omega.{arith}
use Rattle.rules.specs.Basics.{given}
use Rattle.rules.specs.Score.{mask_of}
use Rattle.rules.proofs.ScoreBounds.{given_le, given_byte}
use Rattle.counting.specs.Counted.{edge_counts}
use Rattle.counting.proofs.RowLaws.{counting_start, counting_small, counting_next, counting_end}
use Rattle.counting.proofs.count_edges.Goals as goal
use Rattle.counting.proofs.count_edges.Goals.{After-from-count}

pub loop-i-init : goal.loop-i-init
loop-i-init c =
    rw (c.into_iter-i-iterator.ensures.into_iter_gives, c.members-i-items.ensures)
    (counting_start _ _ _ _ c.below.result c.below.ensures c.neighbours_in.ensures)

-- one edge more was counted, or none
term : (c : After-from-count) → c.from-count.result ≡ given (edge_counts c.args.edge (mask_of c.args.masks.now c.in-Some.i) (mask_of c.args.masks.now c.args.j)) 1
term c = rw (c.from-count.ensures, ← given_byte c.counts.result) (ap (λ b. given b 1) c.counts.ensures)

small : (c : After-from-count) → c.from-count.result ≤ 1
small c = rw (term c) (given_le _ {x = 1} (omega arith))

pub overflow_add-count : goal.overflow_add-count
overflow_add-count c = omega (arith, counting_small _ _ _ _ c.loop-i.invariant, small (goal.at.overflow_add-count c).After-from-count, c.requires.j_bound)

pub loop-i-preserved : goal.loop-i-preserved
loop-i-preserved c = counting_next _ _ _ _ c.loop-i.invariant c.in-Some.ensures.steps _ (term (goal.at.loop-i-preserved c).After-from-count)

pub returns : goal.returns
returns c = counting_end _ _ _ _ c.loop-i.invariant c.in-None.ensures.steps.0 c.requires.j_bound
