use mathlib.Core.Path.{◌≡◌, refl, ◌∙◌}
use Prim.Native.Nat.{◌+◌, ◌≤◌, ◌<◌}
use native.Mathlib.Omega.{arith}
use lib.ListN.{length}
use Rattle.rules.specs.Basics.{sum_to, sum_pairs}
use Rattle.pair_tests.specs.PairTests.{conflict_at, stitch_at}
use Rattle.rules.proofs.Sums.{pairs_more, pairs_count}
use Rattle.adjacency.proofs.AdjacencyLaws.{rows_none, rows_more, rows_ties}
use Rattle.pair_tests.proofs.PairLaws.{conflict_le, stitch_le, pairs_conflicts, pairs_stitches}
use Rattle.pair_tests.proofs.test_pairs.Goals as goal
use Rattle.pair_tests.proofs.test_pairs.Goals.{After-test_row, After-loop-j}

pub loop-j-init : goal.loop-j-init
unfolding sum_pairs sum_to
loop-j-init c =
    let (tested, (conflicts, stitches)) = c.default-tally.ensures in
    rw (tested, conflicts, stitches) (record { tested = refl; conflicts = refl; stitches = refl; ties = rows_none _ c.clear.ensures })

-- the numbers after this turn, which are at most 1 for each pair
module _ (c : After-test_row) where
  inside : c.loop-j.j < 512
  inside = omega (arith, c.args.layer.now.drawn.few)

  tested : (c.loop-j.tally.tested + c.test_row.result.tested ≡ sum_pairs (λ u v. 1) (c.loop-j.j + 1))
      × (c.loop-j.tally.tested + c.test_row.result.tested ≤ 130_816)
  tested = pairs_more (λ u v. 1) _ (λ u v. omega arith) inside c.loop-j.invariant.tested c.test_row.ensures.tested_value

  conflicts : let a = c.args in
      (c.loop-j.tally.conflicts + c.test_row.result.conflicts ≡ sum_pairs (conflict_at a.layer.now.settings a.layer.now.pieces.now a.masks.now) (c.loop-j.j + 1))
      × (c.loop-j.tally.conflicts + c.test_row.result.conflicts ≤ 130_816)
  conflicts = pairs_more _ _ (conflict_le c.args.layer.now.settings c.args.layer.now.pieces.now c.args.masks.now) inside c.loop-j.invariant.conflicts c.test_row.ensures.conflicts_value

  stitches : let a = c.args in
      (c.loop-j.tally.stitches + c.test_row.result.stitches ≡ sum_pairs (stitch_at a.layer.now.settings a.layer.now.pieces.now a.masks.now) (c.loop-j.j + 1))
      × (c.loop-j.tally.stitches + c.test_row.result.stitches ≤ 130_816)
  stitches = pairs_more _ _ (stitch_le c.args.layer.now.settings c.args.layer.now.pieces.now c.args.masks.now) inside c.loop-j.invariant.stitches c.test_row.ensures.stitches_value

pub add_assign-requires : goal.add_assign-requires
add_assign-requires c =
    let at = (goal.at.add_assign-requires c).After-test_row in
    (omega (arith, tested at), omega (arith, conflicts at), omega (arith, stitches at))

pub loop-j-preserved : goal.loop-j-preserved
loop-j-preserved c =
    let at = (goal.at.loop-j-preserved c).After-test_row in
    rw c.add_assign.ensures.after
    (record {
      tested = (tested at).0;
      conflicts = (conflicts at).0;
      stitches = (stitches at).0;
      ties = rows_more _ c.loop-j.j c.loop-j.invariant.ties c.test_row.ensures.row_to;
    })

pub returns : goal.returns
returns c =
    let s = c.args.layer.now.settings in
    let ps = c.args.layer.now.pieces.now in
    let masks = c.args.masks.now in
    let all = c.loop-j.invariant in
    let e : c.loop-j.j ≡ length ps = omega arith in
    record {
      tested_value = rw e at all.tested ∙ pairs_count (length ps);
      conflicts_value = rw e at all.conflicts ∙ pairs_conflicts s ps masks (length ps);
      stitches_value = rw e at all.stitches ∙ pairs_stitches s ps masks (length ps);
      ties = rows_ties s ps c.args.layer.now.drawn (rw e at all.ties);
    }
