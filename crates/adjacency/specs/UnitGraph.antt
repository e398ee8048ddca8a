-- The graph of units, from adjacency words of pieces and an array that has the unit of each piece. Assumes nothing: these are definitions.
use Rattle.std.specs.Prelude.{List, ℕ, get_or}
use Rattle.bitset.specs.declared.matrix.Matrix.{Matrix}
use Rattle.rules.specs.Settings.{unset}
use Rattle.rules.specs.Edges.{Graph}
use Rattle.rules.specs.Units.{merged_graph}
use Rattle.adjacency.specs.Adjacency.{word_graph}

-- the unit of piece i
abbrev pub unit_at : List ℕ → ℕ → ℕ
unit_at units i = get_or units i 0

-- the fixed mask of unit v, from an array that has one for each
abbrev pub fixed_at : List ℕ → ℕ → ℕ
fixed_at fixed v = get_or fixed v unset

-- the first n pieces merged into their units
abbrev pub unit_graph : Matrix → Matrix → List ℕ → ℕ → Graph
unit_graph conflictWords stitchWords units n = merged_graph (unit_at units) n (word_graph conflictWords stitchWords)
