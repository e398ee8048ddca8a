-- Adjacency words of units. Assumes nothing: these are definitions.
use Rattle.std.specs.Prelude.{List, ◌≡◌, ℕ, ◌<◌, ltb}
use Rattle.bitset.specs.Edges.{has_edge}
use Rattle.bitset.specs.declared.matrix.Matrix.{Matrix}
use Rattle.rules.specs.Basics.{given}
use Rattle.rules.specs.Units.{edges_between}
use Rattle.adjacency.specs.UnitGraph.{unit_at}

-- two units are joined where their pieces have an edge between them
pub record Merged (words : Matrix) (units : List ℕ) (n : ℕ) (merged : Matrix) : Type 0 where
  pub bits : (a b : ℕ) → a < 512 → b < 512 → has_edge merged a b ≡ ltb 0 (edges_between (λ i j. given (has_edge words i j) 1) (unit_at units) n a b)
