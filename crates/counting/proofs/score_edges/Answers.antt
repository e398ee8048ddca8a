use mathlib.Core.Path.{◌≡◌, refl, ap₂, ◌∙◌}
use Prim.Native.Nat.{ℕ, ◌+◌, ◌*◌, ◌≤◌}
use lib.ListN.{length}
use native.Mathlib.Omega.{arith}
use Rattle.rules.specs.declared.layer.Edge.{Edge}
use Rattle.rules.specs.declared.answers.Score.{Score}
use Rattle.rules.specs.Basics.{sum_to, sum_pairs}
use Rattle.rules.specs.Score.{score_of, conflicts_of, stitches_of}
use Rattle.counting.specs.Counted.{edge_in}
use Rattle.rules.proofs.Sums.{pairs_more, pairs_small}
use Rattle.counting.proofs.RowLaws.{edge_le}
use Rattle.counting.proofs.score_edges.Goals as goal
use Rattle.counting.proofs.score_edges.Goals.{After-count_edges-conflicts, After-count_edges-stitches, After-loop-j}

pub loop-j-init : goal.loop-j-init
unfolding sum_pairs sum_to
loop-j-init c = (refl, refl)

-- the sums after this turn, which are at most 1 for each pair
conflicts : (c : After-count_edges-conflicts) →
    let at = c.loop-j in
    let a = c.args in
    (at.conflicts + c.count_edges-conflicts.result ≡ sum_pairs (edge_in Edge.Conflict a.edges.now.conflicts a.masks.now) (at.j + 1))
    × (at.conflicts + c.count_edges-conflicts.result ≤ 130_816)
conflicts c =
    let at = c.loop-j in
    let a = c.args in
    pairs_more _ _ (edge_le Edge.Conflict a.edges.now.conflicts a.masks.now) (omega arith) at.invariant.0 c.count_edges-conflicts.ensures

pub overflow_add-conflicts : goal.overflow_add-conflicts
overflow_add-conflicts c = omega (arith, conflicts (goal.at.overflow_add-conflicts c).After-count_edges-conflicts)

stitches : (c : After-count_edges-stitches) →
    let at = c.loop-j in
    let a = c.args in
    (at.stitches + c.count_edges-stitches.result ≡ sum_pairs (edge_in Edge.Stitch a.edges.now.stitches a.masks.now) (at.j + 1))
    × (at.stitches + c.count_edges-stitches.result ≤ 130_816)
stitches c =
    let at = c.loop-j in
    let a = c.args in
    pairs_more _ _ (edge_le Edge.Stitch a.edges.now.stitches a.masks.now) (omega arith) at.invariant.1 c.count_edges-stitches.ensures

pub overflow_add-stitches : goal.overflow_add-stitches
overflow_add-stitches c = omega (arith, stitches (goal.at.overflow_add-stitches c).After-count_edges-stitches)

pub loop-j-preserved : goal.loop-j-preserved
loop-j-preserved c =
    ((conflicts (goal.at.loop-j-preserved c).After-count_edges-conflicts).0, (stitches (goal.at.loop-j-preserved c).After-count_edges-stitches).0)

pub score_of-requires-clause-conflicts_bound : goal.score_of-requires-clause-conflicts_bound
score_of-requires-clause-conflicts_bound c = rw c.loop-j.invariant.0 (pairs_small _ _ (edge_le Edge.Conflict c.args.edges.now.conflicts c.args.masks.now) (omega arith))

pub score_of-requires-clause-stitches_bound : goal.score_of-requires-clause-stitches_bound
score_of-requires-clause-stitches_bound c = rw c.loop-j.invariant.1 (pairs_small _ _ (edge_le Edge.Stitch c.args.edges.now.stitches c.args.masks.now) (omega arith))

pub returns : goal.returns
unfolding score_of conflicts_of stitches_of
returns c =
    let at = c.loop-j in
    let a = c.args in
    let e : at.j ≡ length a.masks.now = omega arith in
    let scored : ℕ → ℕ → Score = λ x y. record { conflicts = x; stitches = y; cost = a.weight * x + y } in
    rw c.score_of.ensures (ap₂ scored (at.invariant.0 ∙ rw e) (at.invariant.1 ∙ rw e))
