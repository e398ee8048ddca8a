-- What the reader of numerals hands back, by the definitions of the rules. Numbers are read up to the cap.
use Rattle.std.specs.Prelude.{true, false, List, [], ◌∷◌, ℕ, suc, min, take, drop, Option, Some, None, if◌then◌else◌}
use Rattle.std.proofs.Math.Option.{none, some}
use Rattle.std.proofs.Math.Option as rules
use Rattle.rules.specs.Lines.{is_digit, is_numeral, value}
use Rattle.rules.specs.Questions.{NumberRead}
use Rattle.numerals.specs.declared.Numeral.{Numeral}

-- a value above this is read as this
abbrev pub cap : ℕ
cap = 4_294_967_295

-- how many digits a text starts with
unfoldable pub digits_in : List ℕ → ℕ
digits_in [] = 0
digits_in (b ∷ bs) = elim (is_digit b) [ true ↦ suc (digits_in bs) | false ↦ 0 ]

-- the digits that a text starts with
abbrev pub digits_of : List ℕ → List ℕ
digits_of text = take (digits_in text) text

-- what a call came to that reads a numeral
abbrev pub numeral_as : Option Numeral → rules.Option NumberRead
numeral_as None = none
numeral_as (Some n) = some (record { number = n.value; rest = n.rest.now })

-- the numeral, if the digits are one, and the text after it
unfoldable pub numeral_of : List ℕ → rules.Option NumberRead
numeral_of text = if is_numeral (digits_of text) then some (record { number = min (value (digits_of text)) cap; rest = drop (digits_in text) text }) else none
