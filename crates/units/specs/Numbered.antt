-- What numbering the units leaves. Assumes nothing: these are definitions.
use Rattle.std.specs.Prelude.{List, ◌≡◌, ℕ, ◌<◌, length}
use Rattle.bitset.specs.declared.matrix.Matrix.{Matrix}
use Rattle.rules.specs.declared.layer.Settings.{Settings}
use Rattle.rules.specs.declared.layer.Piece.{Piece}
use Rattle.rules.specs.Basics.{up_to}
use Rattle.rules.specs.Components.{components}
use Rattle.rules.specs.Units.{part_of, unit_of, unit_numbers}
use Rattle.adjacency.specs.Adjacency.{word_graph}
use Rattle.adjacency.specs.Members.{members_of}
use Rattle.adjacency.specs.UnitGraph.{unit_at}

-- The n pieces have the numbers of their units, which are the components that the words join; the set has the units' numbers.
pub record Numbered (tieWords : Matrix) (n : ℕ) (units numberSet : List ℕ) : Type 0 where
  pub whole : length units ≡ n
  pub unit : (i : ℕ) → i < n → unit_at units i ≡ part_of (components (word_graph tieWords tieWords) (up_to n)) i
  pub numbers : members_of numberSet ≡ unit_numbers (unit_at units) n

-- the units of a layer's pieces, and the set of their numbers
pub record UnitsOf (s : Settings) (ps : List Piece) (units numberSet : List ℕ) : Type 0 where
  pub whole : length units ≡ length ps
  pub unit : (i : ℕ) → i < length ps → unit_at units i ≡ unit_of s ps i
  pub numbers : members_of numberSet ≡ unit_numbers (unit_of s ps) (length ps)
