-- The edges of a graph that a matrix holds. Assumes nothing: these are definitions.
use Rattle.std.specs.Prelude.{ℕ, ◌≡◌, Bool, false, not, ◌&&◌, ◌||◌, List, [], get_or, replicate}
use Rattle.bitset.specs.declared.matrix.Matrix.{Matrix}
use Rattle.bitset.specs.Bits.{member}

-- whether j is a member of row i
abbrev pub has_edge : Matrix → ℕ → ℕ → Bool
has_edge m i j = member (get_or m.rows i []) j

-- the 512 rows are words of 0, so that nothing is joined
pub record NoEdge (m : Matrix) : Type 0 where
  pub rows : m.rows ≡ replicate 512 (replicate 8 0)
  pub none : (i j : ℕ) → has_edge m i j ≡ false

-- whether j is in row i of the matrix and in the set
abbrev pub both : Matrix → ℕ → List ℕ → ℕ → Bool
both m i s j = has_edge m i j && member s j

-- whether j is in row i of either matrix and in the set s, and not in the set t
abbrev pub rows_without : Matrix → Matrix → ℕ → List ℕ → List ℕ → ℕ → Bool
rows_without a b i s t j = (has_edge a i j || has_edge b i j) && member s j && not (member t j)
