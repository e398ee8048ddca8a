-- A point of XY by its number, and the piece between two opposite corners. Coordinates are read without their sign; a stream fixes no mask.
use Rattle.std.specs.Prelude.{List, ℕ, ◌+◌, ◌-◌, ◌*◌, ◌%◌, min, max, ℤ, pos, negsuc}
use Rattle.rules.specs.declared.layer.Piece.{Piece}
use Rattle.rules.specs.Settings.{unset}
use Rattle.rules.specs.Stream as rules
use Rattle.rules.specs.Stream.{word32}
use Rattle.gds_data.specs.declared.rectangle.Point.{Point}

abbrev pub word_point : List ℕ → ℕ → Point
word_point bytes i = record { x = word32 bytes (8 * i); y = word32 bytes (8 * i + 4) }

-- the four bytes of a coordinate as a number without a sign
abbrev pub unsigned32 : ℤ → ℕ
unsigned32 (pos n) = n
unsigned32 (negsuc n) = 4_294_967_295 - n % 2_147_483_648

abbrev pub corner_piece : rules.Point → rules.Point → ℕ → Piece
corner_piece a c shape = record {
  shape = shape;
  x1 = min (unsigned32 a.x) (unsigned32 c.x);
  y1 = min (unsigned32 a.y) (unsigned32 c.y);
  x2 = max (unsigned32 a.x) (unsigned32 c.x);
  y2 = max (unsigned32 a.y) (unsigned32 c.y);
  fixed = unset;
}
