-- Ties and units (RULES 17). Pieces that ties connect form a unit with one mask. Its number is that of its lowest piece, and the decomposition's vertices are
-- the units.
use Rattle.std.specs.Prelude.{Bool, not, cond, ◌&&◌, ◌||◌, List, [], ◌∷◌, map, ℕ, eqb, length, get_or}
use Rattle.rules.specs.declared.layer.Settings.{Settings}
use Rattle.rules.specs.declared.layer.Piece.{Piece}
use Rattle.rules.specs.Basics.{given, sum_of, up_to, keep, find, found_or, found_at, occurs}
use Rattle.rules.specs.Settings.{unset, piece_at}
use Rattle.rules.specs.Edges.{tied, Graph}
use Rattle.rules.specs.Score.{mask_of, same_mask, is_set}
use Rattle.rules.specs.Components.{components}

-- ---- Which unit a piece is in

-- the graph whose edges are the ties
abbrev pub tie_graph : Settings → List Piece → Graph
tie_graph s ps = record {
  conflicts = λ u v. 0;
  stitches = λ u v. given (tied s (piece_at ps u) (piece_at ps v)) 1;
}

-- the units are the components of the ties, in the order of their lowest pieces
abbrev pub units_of : Settings → List Piece → List (List ℕ)
units_of s ps = components (tie_graph s ps) (up_to (length ps))

-- the first of a rising list
abbrev pub lowest : List ℕ → ℕ
lowest c = get_or c 0 0

-- the lowest number of the part that i is in
unfoldable pub part_of : List (List ℕ) → ℕ → ℕ
part_of [] i = i
part_of (c ∷ cs) i = cond (occurs i c) (lowest c) (part_of cs i)

-- the number of the unit that piece i is in
abbrev pub unit_of : Settings → List Piece → ℕ → ℕ
unit_of s ps i = part_of (units_of s ps) i

-- ---- A graph with its vertices 0, 1, .., n - 1 merged: `unit` gives for each the lowest of those that it is merged with

-- those merged into u
abbrev pub merged_into : (ℕ → ℕ) → ℕ → ℕ → List ℕ
merged_into unit n u = keep (λ i. eqb (unit i) u) (up_to n)

-- the numbers of the units, a rising list
abbrev pub unit_numbers : (ℕ → ℕ) → ℕ → List ℕ
unit_numbers unit n = keep (λ i. eqb (unit i) i) (up_to n)

-- the edges from the members of one to the members of the other, none inside a unit
unfoldable pub edges_between : (ℕ → ℕ → ℕ) → (ℕ → ℕ) → ℕ → ℕ → ℕ → ℕ
edges_between edges unit n u v = given (not (eqb u v)) (sum_of (λ i. sum_of (λ j. edges i j) (merged_into unit n v)) (merged_into unit n u))

abbrev pub merged_graph : (ℕ → ℕ) → ℕ → Graph → Graph
merged_graph unit n g = record {
  conflicts = edges_between g.conflicts unit n;
  stitches = edges_between g.stitches unit n;
}

-- every vertex has the mask of its unit
unfoldable pub spread : (ℕ → ℕ) → ℕ → List ℕ → List ℕ
spread unit n masks = map (λ i. mask_of masks (unit i)) (up_to n)

-- ---- Masks that are set by hand, and fixed masks

-- the lowest set vertex of unit u, or u where none is set
abbrev pub lowest_set : (ℕ → ℕ) → ℕ → List ℕ → ℕ → ℕ
lowest_set unit n masks u = found_or u (find (λ i. is_set masks i && eqb (unit i) u) (up_to n))

-- the fixed mask of unit u: that of its lowest piece with one, or `unset` where none has one (RULES 18)
abbrev pub unit_fixed : (ℕ → ℕ) → ℕ → List ℕ → ℕ → ℕ
unit_fixed unit n fixed u = found_at (mask_of fixed) unset (find (λ i. is_set fixed i && eqb (unit i) u) (up_to n))

-- whether vertex i is not set, or has the mask of the lowest set vertex of its unit
abbrev pub fits_unit : (ℕ → ℕ) → ℕ → List ℕ → ℕ → Bool
fits_unit unit n masks i = not (is_set masks i) || same_mask masks i (lowest_set unit n masks (unit i))
