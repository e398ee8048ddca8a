-- The records of the layers that the cases lend, 513 of each, so that one more than a layer may have can be lent. Assumes nothing: these are definitions.
use Rattle.std.specs.Prelude.{List, [], ◌∷◌, map, ℕ, ◌+◌, ◌*◌, ◌/◌, ◌%◌, replicate}
use Rattle.rules.specs.declared.layer.Piece.{Piece}
use Rattle.rules.specs.Basics.{up_to}
use Rattle.rules.specs.Questions.{piece_from, fix_at}
use Rattle.record_cases.specs.declared.layers.Layer.{Layer}

-- four records, each stated by five numbers, and then the first one again
unfoldable pub four_records : List ℕ → List ℕ → List ℕ → List ℕ → List Piece
four_records a b c d = piece_from a ∷ piece_from b ∷ piece_from c ∷ piece_from d ∷ replicate 509 (piece_from a)

-- a square of 20 nm with its lower left corner
abbrev pub square : ℕ → ℕ → ℕ → Piece
square shape x y = piece_from (shape ∷ x ∷ y ∷ (x + 20) ∷ (y + 20) ∷ [])

-- piece i of a grid of squares that are far apart, 32 in a row
abbrev pub far_square : ℕ → Piece
far_square i = square i (2_000 * (i % 32)) (2_000 * (i / 32))

-- three squares in a row, the same with a thin one, and two tied pieces with two neighbours
abbrev pub row_records : List Piece
row_records = four_records (0 ∷ 0 ∷ 0 ∷ 20 ∷ 20 ∷ []) (1 ∷ 40 ∷ 0 ∷ 60 ∷ 20 ∷ []) (2 ∷ 80 ∷ 0 ∷ 100 ∷ 20 ∷ []) (0 ∷ 0 ∷ 0 ∷ 20 ∷ 20 ∷ [])

abbrev pub thin_records : List Piece
thin_records = four_records (0 ∷ 0 ∷ 0 ∷ 20 ∷ 20 ∷ []) (1 ∷ 40 ∷ 0 ∷ 40 ∷ 20 ∷ []) (2 ∷ 80 ∷ 0 ∷ 100 ∷ 20 ∷ []) (0 ∷ 0 ∷ 0 ∷ 20 ∷ 20 ∷ [])

abbrev pub tied_records : List Piece
tied_records = four_records (0 ∷ 0 ∷ 0 ∷ 20 ∷ 20 ∷ []) (0 ∷ 20 ∷ 11 ∷ 40 ∷ 31 ∷ []) (1 ∷ 10 ∷ 60 ∷ 30 ∷ 80 ∷ []) (2 ∷ 60 ∷ 60 ∷ 80 ∷ 80 ∷ [])

-- the records of each layer
abbrev pub records_of : Layer → List Piece
records_of Layer.Row = row_records
records_of Layer.Thin = thin_records
records_of Layer.Outside = four_records (0 ∷ 0 ∷ 0 ∷ 20 ∷ 20 ∷ []) (1 ∷ 40 ∷ 0 ∷ 60 ∷ 20 ∷ []) (2 ∷ 80 ∷ 0 ∷ 1_000_001 ∷ 20 ∷ []) (0 ∷ 0 ∷ 0 ∷ 20 ∷ 20 ∷ [])
records_of Layer.Overlap = four_records (0 ∷ 0 ∷ 0 ∷ 20 ∷ 20 ∷ []) (1 ∷ 40 ∷ 0 ∷ 60 ∷ 20 ∷ []) (0 ∷ 10 ∷ 10 ∷ 30 ∷ 30 ∷ []) (0 ∷ 0 ∷ 0 ∷ 20 ∷ 20 ∷ [])
records_of Layer.Wire = four_records (0 ∷ 100 ∷ 0 ∷ 200 ∷ 20 ∷ []) (0 ∷ 200 ∷ 0 ∷ 300 ∷ 20 ∷ []) (1 ∷ 100 ∷ 90 ∷ 161 ∷ 110 ∷ []) (2 ∷ 239 ∷ 90 ∷ 300 ∷ 110 ∷ [])
records_of Layer.Far = map far_square (up_to 513)
records_of Layer.Tied = tied_records
records_of Layer.FixedRow = fix_at 1 0 row_records
records_of Layer.FixedThin = fix_at 1 2 thin_records
records_of Layer.FixedTied = fix_at 1 1 (fix_at 0 0 tied_records)
