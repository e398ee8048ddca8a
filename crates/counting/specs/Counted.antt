-- What an edge counts for between ends with masks. Assumes nothing: these are definitions.
use Rattle.std.specs.Prelude.{Bool, false, not, ◌&&◌, List, ℕ, eqb}
use Rattle.bitset.specs.Edges.{has_edge}
use Rattle.bitset.specs.declared.matrix.Matrix.{Matrix}
use Rattle.rules.specs.declared.layer.Edge.{Edge}
use Rattle.rules.specs.Basics.{given}
use Rattle.rules.specs.Settings.{unset}
use Rattle.rules.specs.Score.{mask_of}

-- whether two masks are set and one, or set and two
abbrev pub one_mask : ℕ → ℕ → Bool
one_mask a b = not (eqb a unset) && not (eqb b unset) && eqb a b

abbrev pub two_masks : ℕ → ℕ → Bool
two_masks a b = not (eqb a unset) && not (eqb b unset) && not (eqb a b)

-- whether an edge counts whose ends have these masks: a conflict edge on one mask, a stitch edge on two
abbrev pub edge_counts : Edge → ℕ → ℕ → Bool
edge_counts Edge.Conflict a b = one_mask a b
edge_counts Edge.Stitch a b = two_masks a b
edge_counts Edge.Tie a b = false
edge_counts Edge.None a b = false

-- what u and v count for by the words of one kind of edges
abbrev pub edge_in : Edge → Matrix → List ℕ → ℕ → ℕ → ℕ
edge_in edge words masks u v = given (edge_counts edge (mask_of masks u) (mask_of masks v)) (given (has_edge words u v) 1)
