-- What the reader of a stream answers, by the definitions of the rules.
use Rattle.std.specs.Prelude.{List, map, ◌≡◌, ℕ, length, take, Result}
use Rattle.rules.specs.declared.layer.Piece.{Piece}
use Rattle.rules.specs.declared.layer.Settings.{Settings}
use Rattle.rules.specs.declared.refusal.Place.{Place}
use Rattle.rules.specs.declared.refusal.Refused.{Refused}
use Rattle.rules.specs.Settings.{piece_at}
use Rattle.rules.specs.Questions.{Outcome, done, and_then, ask_each, judge_record, Layer, layer_from}
use Rattle.rules.specs.Stream.{Element, read_stream_elements, piece_of, judge_elements}
use Rattle.gds_records.specs.Records.{Told}
use Rattle.gds_elements.specs.declared.elements.Elements.{Elements}
use Rattle.gds_elements.specs.Elements.{stored_piece}

-- the stream states elements, with the pieces of the first 512
pub record Held (stream : List ℕ) (r : Elements) : Type 0 where
  pub elements : List Element
  pub read : read_stream_elements stream ≡ done elements
  pub counted : length elements ≡ r.count
  pub kept : r.pieces ≡ map stored_piece (take 512 elements)

abbrev pub ElementsTold : List ℕ → Result Elements Refused → Type 0
ElementsTold stream = Told (read_stream_elements stream) (Held stream)

-- 4 to 6, 13 and 14 of pieces, and the layer
abbrev pub judged_records : Settings → List Piece → Outcome Layer
judged_records s ps = and_then (ask_each (λ i. judge_record s.masks (Place.Piece i) (piece_at ps i)) (length ps)) λ _. layer_from s ps

-- elements judged, and the layer
abbrev pub judged_elements : Settings → List Element → Outcome Layer
judged_elements s es = and_then (judge_elements es) λ _. done (record { settings = s; pieces = map piece_of es })
