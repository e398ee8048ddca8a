-- What is read of a PROPVALUE, by the definitions of the rules. A value above the cap is read as the cap.
use Rattle.std.specs.Prelude.{Option, Some, None, List, ℕ, min, if◌then◌else◌}
use Rattle.rules.specs.Lines.{is_numeral, value}
use Rattle.rules.specs.Stream.{unfilled}
use Rattle.numerals.specs.Numerals.{cap}

unfoldable pub shape_of : List ℕ → Option ℕ
shape_of bytes = if is_numeral (unfilled bytes) then Some (min (value (unfilled bytes)) cap) else None
