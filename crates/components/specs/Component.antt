-- What the component of a vertex is, as a bit set. Assumes nothing: these are definitions.
use Rattle.std.specs.Prelude.{true, List, ◌∷◌, ◌≡◌, ℕ, ◌<◌}
use Rattle.bitset.specs.Bits.{member}
use Rattle.bitset.specs.declared.matrix.Matrix.{Matrix}
use Rattle.rules.specs.Components.{component_of}
use Rattle.adjacency.specs.Adjacency.{word_graph}
use Rattle.adjacency.specs.Members.{members_of}

-- The set r is the component of v among those left: the rules' component where v is the lowest of them.
pub record IsComponent (conflictWords stitchWords : Matrix) (left : List ℕ) (v : ℕ) (r : List ℕ) : Type 0 where
  pub component : (after : List ℕ) → members_of left ≡ v ∷ after → members_of r ≡ component_of (word_graph conflictWords stitchWords) v after
  pub within : (k : ℕ) → k < 512 → member r k ≡ true → member left k ≡ true
  pub first : member r v ≡ true
