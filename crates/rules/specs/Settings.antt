-- Settings and pieces (RULES 1).
use Rattle.std.specs.Prelude.{Bool, cond, ◌&&◌, ◌||◌, List, map, ℕ, eqb, leb, ltb, get_or, Option, Some, None}
use Rattle.rules.specs.declared.layer.Settings.{Settings}
use Rattle.rules.specs.declared.layer.Piece.{Piece}

-- from the least to the greatest value, both allowed
abbrev pub within : ℕ → ℕ → ℕ → Bool
within least greatest x = leb least x && leb x greatest

-- The ranges of the settings, in the order of the table.
abbrev pub masks_in_range : ℕ → Bool
masks_in_range = within 2 8

abbrev pub spacing_in_range : ℕ → Bool
spacing_in_range = within 1 100_000

abbrev pub margin_in_range : ℕ → Bool
margin_in_range = within 1 100_000

abbrev pub weight_in_range : ℕ → Bool
weight_in_range = within 1 1_000

abbrev pub budget_in_range : ℕ → Bool
budget_in_range = within 0 1_000_000_000

unfoldable pub settings_in_range : Settings → Bool
settings_in_range s =
    masks_in_range s.masks
    && spacing_in_range s.spacing
    && margin_in_range s.margin
    && weight_in_range s.weight
    && budget_in_range s.budget

-- The ranges of the number of pieces, of a shape number and of a coordinate.
abbrev pub count_in_range : ℕ → Bool
count_in_range = within 0 512

abbrev pub shape_in_range : ℕ → Bool
shape_in_range = within 0 511

abbrev pub coordinate_in_range : ℕ → Bool
coordinate_in_range = within 0 1_000_000

unfoldable pub piece_in_range : Piece → Bool
piece_in_range p =
    shape_in_range p.shape
    && coordinate_in_range p.x1
    && coordinate_in_range p.y1
    && coordinate_in_range p.x2
    && coordinate_in_range p.y2

-- a rectangle has width and height
unfoldable pub has_area : Piece → Bool
has_area p = ltb p.x1 p.x2 && ltb p.y1 p.y2

-- what stands in the place of a mask where there is none: as the fixed mask of a piece that may have any, and, where masks are scored, of a piece that is not
-- set yet
abbrev pub unset : ℕ
unset = 255

-- the mask that such a number states, where it states one
abbrev pub stated_mask : ℕ → Option ℕ
stated_mask m = cond (eqb m unset) None (Some m)

-- a fixed mask is one of the K masks, where there is one
abbrev pub fixed_in_range : ℕ → ℕ → Bool
fixed_in_range K m = eqb m unset || ltb m K

abbrev pub no_settings : Settings
no_settings = record { masks = 0; spacing = 0; margin = 0; weight = 0; budget = 0 }

abbrev pub no_piece : Piece
no_piece = record { shape = 0; x1 = 0; y1 = 0; x2 = 0; y2 = 0; fixed = 0 }

-- the piece with number i, from 0
abbrev pub piece_at : List Piece → ℕ → Piece
piece_at ps i = get_or ps i no_piece

-- the fixed masks of all pieces
abbrev pub fixed_masks : List Piece → List ℕ
fixed_masks ps = map (λ (p : Piece). p.fixed) ps
