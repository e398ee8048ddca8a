-- What the reader of lines hands back, by the definitions of the rules. Numbers are read up to the cap.
use Rattle.std.specs.Prelude.{true, false, List, [], ◌∷◌, map, ℕ, min, eqb, Option, Some, None}
use Rattle.std.proofs.Math.Option.{none, some}
use Rattle.std.proofs.Math.Option as rules
use Rattle.rules.specs.Lines.{comma, NumbersRead}
use Rattle.rules.specs.Questions.{NumberRead}
use Rattle.numerals.specs.Numerals.{cap, numeral_of}
use Rattle.lines.specs.declared.read.Line.{Line}

-- ---- Numbers

abbrev pub capped : List ℕ → List ℕ
capped ns = map (λ n. min n cap) ns

-- a comma and a numeral, and the text after them
unfoldable pub next_numeral : List ℕ → rules.Option NumberRead
next_numeral [] = none
next_numeral (b ∷ text) = elim (eqb b comma) [ true ↦ numeral_of text | false ↦ none ]

abbrev pub numbers_read : rules.Option (List ℕ) → Option (List ℕ)
numbers_read none = None
numbers_read (some ns) = Some (capped ns)

-- ---- Lines

-- what a call came to that reads a line
abbrev pub line_as : {N : ℕ} → Option (Line N) → rules.Option NumbersRead
line_as None = none
line_as (Some l) = some (record { numbers = l.values; rest = l.rest.now })

-- the line's numbers, up to the cap
abbrev pub line_read : rules.Option NumbersRead → rules.Option NumbersRead
line_read none = none
line_read (some l) = some (record { numbers = capped l.numbers; rest = l.rest })
