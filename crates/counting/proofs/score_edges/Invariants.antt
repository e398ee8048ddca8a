-- `score_edges`. The invariant: the sums over the pairs of numbers before j. Assumes nothing.
use mathlib.Core.Path.{◌≡◌}
use Rattle.rules.specs.declared.layer.Edge.{Edge}
use Rattle.rules.specs.Basics.{sum_pairs}
use Rattle.counting.specs.Counted.{edge_in}
use Rattle.counting.proofs.score_edges.Given as goal

abbrev pub invariant-loop-j : goal.invariant-loop-j
invariant-loop-j l = (l.conflicts ≡ sum_pairs (edge_in Edge.Conflict l.edges.conflicts l.masks) l.j) × (l.stitches ≡ sum_pairs (edge_in Edge.Stitch l.edges.stitches l.masks) l.j)
