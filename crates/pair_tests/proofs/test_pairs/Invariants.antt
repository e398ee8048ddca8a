-- `test_pairs`. The invariant: what the pairs of the pieces before j come to. Assumes nothing.
use mathlib.Core.Path.{◌≡◌}
use Rattle.rules.specs.Basics.{sum_pairs}
use Rattle.adjacency.specs.Adjacency.{tie_of}
use Rattle.pair_tests.specs.PairTests.{conflict_at, stitch_at}
use Rattle.adjacency.proofs.AdjacencyLaws.{Rows}
use Rattle.pair_tests.proofs.test_pairs.Given as goal

abbrev pub invariant-loop-j : goal.invariant-loop-j
invariant-loop-j l = record {
  tested : l.tally.tested ≡ sum_pairs (λ u v. 1) l.j;
  conflicts : l.tally.conflicts ≡ sum_pairs (conflict_at l.fn.layer.settings l.fn.layer.pieces.now l.fn.masks) l.j;
  stitches : l.tally.stitches ≡ sum_pairs (stitch_at l.fn.layer.settings l.fn.layer.pieces.now l.fn.masks) l.j;
  ties : Rows (tie_of l.fn.layer.settings l.fn.layer.pieces.now) l.j l.ties;
}
