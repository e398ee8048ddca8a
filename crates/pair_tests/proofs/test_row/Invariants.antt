-- `test_row`. The invariant: what the pairs of j and the pieces before i come to. Assumes nothing.
use mathlib.Core.Path.{◌≡◌}
use Rattle.rules.specs.Basics.{sum_to}
use Rattle.adjacency.specs.Adjacency.{tie_of, RowTo}
use Rattle.pair_tests.specs.PairTests.{conflict_at, stitch_at}
use Rattle.pair_tests.proofs.test_row.Given as goal

abbrev pub invariant-loop-i : goal.invariant-loop-i
invariant-loop-i l = record {
  tested : l.tally.tested ≡ sum_to (λ u. 1) l.i;
  conflicts : l.tally.conflicts ≡ sum_to (λ u. conflict_at l.fn.layer.settings l.fn.layer.pieces.now l.fn.masks u l.fn.j) l.i;
  stitches : l.tally.stitches ≡ sum_to (λ u. stitch_at l.fn.layer.settings l.fn.layer.pieces.now l.fn.masks u l.fn.j) l.i;
  ties : RowTo (tie_of l.fn.layer.settings l.fn.layer.pieces.now) l.i l.fn.j l.initial.ties l.ties;
}
