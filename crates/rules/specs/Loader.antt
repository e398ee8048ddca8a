-- The number that the job loader's call returns, and what the program `layer` prints (RULES 12).
use Rattle.std.specs.Prelude.{cond, ◌||◌, List, [], ◌∷◌, ℕ, ◌+◌, ◌*◌, eqb, length}
use Rattle.rules.specs.declared.refusal.Place.{Place}
use Rattle.rules.specs.Settings.{within}
use Rattle.rules.specs.Lines.{ascii, line}
use Rattle.rules.specs.Questions.{Outcome, done, refused}

-- a place as a number
abbrev pub place_number : Place → ℕ
place_number (Place.Line k) = k
place_number (Place.Piece i) = i
place_number (Place.Record k) = k
place_number Place.Nothing = 0

-- the result's length, or a number that states the refusal
abbrev pub loader_number : Outcome (List ℕ) → ℕ
loader_number (done text) = length text
loader_number (refused number place) = 10_000 * number + place_number place

-- the place that a refusal of a text names, from its number and its place as a number
abbrev pub place_from : ℕ → ℕ → Place
place_from number k = cond (within 3 5 number || eqb number 13) (Place.Line k) (cond (eqb number 6 || eqb number 14) (Place.Piece k) Place.Nothing)

-- the result text, or a line that states the refusal
abbrev pub printed : Outcome (List ℕ) → List ℕ
printed (done text) = text
printed (refused number place) = line (ascii "refused=") (number ∷ place_number place ∷ [])
