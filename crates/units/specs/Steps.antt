-- What one step leaves: a unit's number given to its members, and the edges of one piece merged. Assumes nothing: these are definitions.
use Rattle.std.specs.Prelude.{Bool, true, false, not, ◌&&◌, ◌||◌, List, ◌≡◌, ℕ, ◌<◌, eqb, length}
use Rattle.bitset.specs.Bits.{member}
use Rattle.bitset.specs.Edges.{has_edge}
use Rattle.bitset.specs.declared.matrix.Matrix.{Matrix}
use Rattle.rules.specs.Basics.{up_to, any_of}
use Rattle.adjacency.specs.Adjacency.{is_pair}
use Rattle.adjacency.specs.UnitGraph.{unit_at}

-- the members of a set were given a number, and no other piece was
pub record GivenNumber (members : List ℕ) (number : ℕ) (before after : List ℕ) : Type 0 where
  pub whole : length after ≡ length before
  pub inside : (k : ℕ) → k < 512 → member members k ≡ true → unit_at after k ≡ number
  pub others : (k : ℕ) → (k < 512 → member members k ≡ false) → unit_at after k ≡ unit_at before k

-- x and y are two units, and a and b are these two, either way
abbrev pub two_units : ℕ → ℕ → ℕ → ℕ → Bool
two_units x y a b = not (eqb x y) && is_pair x y a b

-- an edge between pieces j and i joins the units a and b
abbrev pub joins_units : Matrix → List ℕ → ℕ → ℕ → ℕ → ℕ → Bool
joins_units words units a b j i = has_edge words j i && two_units (unit_at units i) (unit_at units j) a b

-- units were joined by the edges between piece j and the pieces before it
pub record MergedRow (words : Matrix) (units : List ℕ) (j : ℕ) (before after : Matrix) : Type 0 where
  pub bits : (a b : ℕ) → has_edge after a b ≡ (has_edge before a b || any_of (joins_units words units a b j) (up_to j))
