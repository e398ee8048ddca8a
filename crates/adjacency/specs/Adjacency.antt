-- What adjacency words hold. A pair of pieces is one of row j where j is its greater number, so that each pair is one of one row.
-- Assumes nothing: these are definitions.
use Rattle.std.specs.Prelude.{Bool, ◌&&◌, ◌||◌, List, ◌≡◌, ℕ, min, max, eqb, ltb}
use Rattle.bitset.specs.Edges.{has_edge}
use Rattle.bitset.specs.declared.matrix.Matrix.{Matrix}
use Rattle.rules.specs.declared.layer.Settings.{Settings}
use Rattle.rules.specs.declared.layer.Piece.{Piece}
use Rattle.rules.specs.Basics.{given}
use Rattle.rules.specs.Settings.{piece_at}
use Rattle.rules.specs.Edges.{conflict_edge, stitch_edge, tied, Graph, graph_of}
use Rattle.rules.specs.Units.{tie_graph}

-- whether pieces a and b are joined by a conflict edge, by a stitch edge, and by a tie
abbrev pub conflict_of : Settings → List Piece → ℕ → ℕ → Bool
conflict_of s ps a b = conflict_edge s (piece_at ps a) (piece_at ps b)

abbrev pub stitch_of : Settings → List Piece → ℕ → ℕ → Bool
stitch_of s ps a b = stitch_edge s (piece_at ps a) (piece_at ps b)

abbrev pub tie_of : Settings → List Piece → ℕ → ℕ → Bool
tie_of s ps a b = tied s (piece_at ps a) (piece_at ps b)

-- a and b are i and j, either way
abbrev pub is_pair : ℕ → ℕ → ℕ → ℕ → Bool
is_pair i j a b = (eqb a i && eqb b j) || (eqb a j && eqb b i)

-- a and b are j and a number below i
abbrev pub in_row : ℕ → ℕ → ℕ → ℕ → Bool
in_row i j a b = ltb (min a b) i && eqb (max a b) j

-- the words after the edges between j and the numbers below i were added
pub record RowTo (edge : ℕ → ℕ → Bool) (i j : ℕ) (before after : Matrix) : Type 0 where
  pub bits : (a b : ℕ) → has_edge after a b ≡ (has_edge before a b || (edge a b && in_row i j a b))

-- The words hold the edges between the numbers below n: bit (a, b) is set exactly where both are below n and joined.
pub record Holds (edges : ℕ → ℕ → ℕ) (n : ℕ) (words : Matrix) : Type 0 where
  pub bits : (a b : ℕ) → has_edge words a b ≡ (ltb a n && ltb b n && ltb 0 (edges a b))

-- the words of both kinds of edges, of a layer of n pieces
pub record Adjacency (s : Settings) (ps : List Piece) (n : ℕ) (conflictWords stitchWords : Matrix) : Type 0 where
  pub conflicts : Holds (graph_of s ps).conflicts n conflictWords
  pub stitches : Holds (graph_of s ps).stitches n stitchWords

-- the words of ties
abbrev pub Ties : Settings → List Piece → ℕ → Matrix → Type 0
Ties s ps n words = Holds (tie_graph s ps).stitches n words

-- the graph of adjacency words: two vertices have an edge of a kind where the words of that kind join them
abbrev pub word_graph : Matrix → Matrix → Graph
word_graph conflictWords stitchWords = record {
  conflicts = λ u v. given (has_edge conflictWords u v) 1;
  stitches = λ u v. given (has_edge stitchWords u v) 1;
}
