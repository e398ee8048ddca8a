-- What the readers of elements answer, by the definitions of the rules. A piece of the code has its shape up to the cap and its coordinates without their sign.
use Rattle.std.specs.Prelude.{List, map, ◌≡◌, ℕ, ◌≤◌, ◌<◌, min, length, take, Result}
use Rattle.rules.specs.declared.layer.Piece.{Piece}
use Rattle.rules.specs.declared.refusal.Refused.{Refused}
use Rattle.rules.specs.Lines.{value}
use Rattle.rules.specs.Questions.{done}
use Rattle.rules.specs.Stream.{unfilled, Element, read_property, read_element, read_elements}
use Rattle.numerals.specs.Numerals.{cap}
use Rattle.gds_data.specs.Rectangles.{corner_piece}
use Rattle.gds_records.specs.Records.{Told}
use Rattle.gds_elements.specs.declared.elements.Elements.{Elements}

-- ---- A property

-- a shape was read
pub record PropertyRead (k : ℕ) (bytes rest : List ℕ) (shape : ℕ) : Type 0 where
  pub digits : List ℕ
  pub read : read_property k bytes ≡ done (record { bytes = digits; rest = rest })
  pub number : shape ≡ min (value (unfilled digits)) cap
  pub less : length rest ≤ length bytes

abbrev pub PropertyTold : ℕ → List ℕ → List ℕ → Result ℕ Refused → Type 0
PropertyTold k bytes rest = Told (read_property k bytes) (PropertyRead k bytes rest)

-- ---- An element

-- the piece of an element as it is stored; one in range is the element's own
abbrev pub stored_piece : Element → Piece
stored_piece e = corner_piece e.corner e.opposite (min e.shape cap)

-- an element was read, with its piece
pub record ElementIs (k : ℕ) (bytes rest : List ℕ) (p : Piece) : Type 0 where
  pub element : Element
  pub read : read_element k bytes ≡ done (record { element = element; rest = rest })
  pub piece : p ≡ stored_piece element
  pub less : length rest < length bytes

abbrev pub ElementTold : ℕ → List ℕ → List ℕ → Result Piece Refused → Type 0
ElementTold k bytes rest = Told (read_element k bytes) (ElementIs k bytes rest)

-- ---- All elements

-- elements were read, with the pieces of the first 512
pub record Collected (k : ℕ) (bytes rest : List ℕ) (r : Elements) : Type 0 where
  pub elements : List Element
  pub read : read_elements (length bytes) k bytes ≡ done (record { elements = elements; rest = rest })
  pub counted : length elements ≡ r.count
  pub kept : r.pieces ≡ map stored_piece (take 512 elements)

abbrev pub ElementsTold : ℕ → List ℕ → List ℕ → Result Elements Refused → Type 0
ElementsTold k bytes rest = Told (read_elements (length bytes) k bytes) (Collected k bytes rest)
