-- The layer text (RULES 9), as a list of bytes.
use Rattle.std.specs.Prelude.{Bool, cond, List, [], ◌∷◌, ◌++◌, map, ℕ, suc, eqb, length}
use Prim.Native.String.{String}
use Rattle.rules.specs.declared.layer.Settings.{Settings}
use Rattle.rules.specs.declared.layer.Piece.{Piece}
use Rattle.rules.specs.Settings.{masks_in_range, spacing_in_range, margin_in_range, weight_in_range, budget_in_range, count_in_range, unset}
use Rattle.rules.specs.Lines.{ascii, line, number_lines}

-- a line with one number: its key, and the range of the number
pub record NumberLine : Type 0 where
  pub key : List ℕ
  pub range : ℕ → Bool

abbrev pub number_line : String → (ℕ → Bool) → NumberLine
number_line key range = record { key = ascii key; range = range }

-- the six lines before the pieces: the settings in the order of the table, and the number of pieces
abbrev pub header_lines : List NumberLine
header_lines =
    number_line "masks=" masks_in_range
    ∷ number_line "spacing=" spacing_in_range
    ∷ number_line "margin=" margin_in_range
    ∷ number_line "weight=" weight_in_range
    ∷ number_line "budget=" budget_in_range
    ∷ number_line "pieces=" count_in_range
    ∷ []

abbrev pub header_keys : List (List ℕ)
header_keys = map (λ l. l.key) header_lines

-- their numbers
abbrev pub header_numbers : Settings → ℕ → List ℕ
header_numbers s n = s.masks ∷ s.spacing ∷ s.margin ∷ s.weight ∷ s.budget ∷ n ∷ []

abbrev pub piece_numbers : Piece → List ℕ
piece_numbers p = p.shape ∷ p.x1 ∷ p.y1 ∷ p.x2 ∷ p.y2 ∷ []

abbrev pub piece_line : Piece → List ℕ
piece_line p = line (ascii "piece=") (piece_numbers p)

unfoldable pub piece_lines : List Piece → List ℕ
piece_lines [] = []
piece_lines (p ∷ ps) = piece_line p ++ piece_lines ps

-- the line that fixes the mask of piece i, where it has a fixed one
abbrev pub fixed_line : ℕ → Piece → List ℕ
fixed_line i p = cond (eqb p.fixed unset) [] (line (ascii "fixed=") (i ∷ p.fixed ∷ []))

-- these lines for the pieces from number i on
unfoldable pub fixed_lines : ℕ → List Piece → List ℕ
fixed_lines i [] = []
fixed_lines i (p ∷ ps) = fixed_line i p ++ fixed_lines (suc i) ps

unfoldable pub layer_text : Settings → List Piece → List ℕ
layer_text s ps = number_lines header_keys (header_numbers s (length ps)) ++ piece_lines ps ++ fixed_lines 0 ps
