-- What is laid out of a component, from adjacency words: its places stand in rising order of their units. Assumes nothing: these are definitions.
use Rattle.std.specs.Prelude.{true, false, List, ◌≡◌, ℕ, ◌<◌, length}
use Rattle.bitset.specs.Edges.{has_edge}
use Rattle.bitset.specs.declared.matrix.Matrix.{Matrix}
use Rattle.rules.specs.Search.{local_graph}
use Rattle.adjacency.specs.UnitGraph.{unit_graph}
use Rattle.places.specs.Local.{Neighbours, conflicts_at, stitches_at, Earlier, list_graph}

-- no two pieces are joined by words of both kinds
abbrev pub Exclusive : Matrix → Matrix → Type 0
Exclusive conflictWords stitchWords = (a b : ℕ) → has_edge conflictWords a b ≡ true → has_edge stitchWords a b ≡ false

-- The units of the order are laid out as places: a place has earlier neighbours only, and each as often as the rules give the two an edge in the graph of units.
pub record LaidOut (conflictWords stitchWords : Matrix) (units order : List ℕ) (places : List Neighbours) : Type 0 where
  pub size : length places ≡ length order
  pub earlier : (k : ℕ) → k < length order → Earlier k (conflicts_at places k) × Earlier k (stitches_at places k)
  pub conflicts : (u v : ℕ) → u < v → v < length order
      → (list_graph places).conflicts u v ≡ (local_graph (unit_graph conflictWords stitchWords units (length units)) order).conflicts u v
  pub stitches : (u v : ℕ) → u < v → v < length order
      → (list_graph places).stitches u v ≡ (local_graph (unit_graph conflictWords stitchWords units (length units)) order).stitches u v
