-- The graph of adjacency words is symmetric, and joins two numbers where the words of either kind do. Assumes nothing.
use mathlib.Core.Bool.{◌||◌}
use mathlib.Core.Path.{◌≡◌}
use Prim.Native.Nat.{ℕ}
use Rattle.bitset.specs.Edges.{has_edge}
use Rattle.bitset.specs.declared.matrix.Matrix.{Matrix}
use Rattle.rules.specs.Edges.{joined}
use Rattle.adjacency.specs.Adjacency.{word_graph}
use Rattle.adjacency.proofs.AdjacencyLaws.{given_test}
use Rattle.theory.proofs.Reach.{Symmetric}

module _ (conflicts stitches : Matrix) where
  pub word_symmetric : Symmetric (word_graph conflicts stitches)
  word_symmetric u w = rw (conflicts.both_ways u w, stitches.both_ways u w)

  pub word_joined : (u w : ℕ) → joined (word_graph conflicts stitches) u w ≡ (has_edge conflicts u w || has_edge stitches u w)
  word_joined u w = rw (given_test (has_edge conflicts u w), given_test (has_edge stitches u w))
