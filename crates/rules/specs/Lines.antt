-- Lines of text (RULES 9), as lists of bytes: numbers to base ten, and a line with a key and numbers. How they are written, and what makes a line one in its
-- form. A key is given by its bytes.
use Rattle.std.specs.Prelude.{Bool, true, false, not, ◌&&◌, List, [], ◌∷◌, ◌++◌, ℕ, zero, suc, ◌+◌, ◌-◌, ◌*◌, ◌/◌, ◌%◌, eqb, ltb, leb}
use Rattle.std.proofs.Math.Option.{Option, none, some}
use Prim.Native.Char.{code}
use Prim.Native.String.{String}

-- the bytes of a text in ASCII
unfoldable pub ascii : String → List ℕ
ascii String.[] = []
ascii (String.◌∷◌ c s) = code c ∷ ascii s

abbrev pub newline : ℕ
newline = 10

abbrev pub comma : ℕ
comma = 44

abbrev pub digit0 : ℕ
digit0 = 48

-- ---- Writing

-- the digits of n to base ten, with no leading zero; the first argument bounds how many
unfoldable pub digits_for : ℕ → ℕ → List ℕ
digits_for zero n = []
digits_for (suc more) n = elim (ltb n 10) [
  | true ↦ (digit0 + n) ∷ []
  | false ↦ digits_for more (n / 10) ++ ((digit0 + n % 10) ∷ [])
]

abbrev pub decimal : ℕ → List ℕ
decimal n = digits_for (suc n) n

-- numbers with a comma between two
unfoldable pub comma_list : List ℕ → List ℕ
comma_list [] = []
comma_list (n ∷ []) = decimal n
comma_list (n ∷ m ∷ ns) = decimal n ++ (comma ∷ comma_list (m ∷ ns))

-- a line: a key, numbers, byte 10
unfoldable pub line : List ℕ → List ℕ → List ℕ
line key ns = key ++ comma_list ns ++ (newline ∷ [])

-- lines with one number each
unfoldable pub number_lines : List (List ℕ) → List ℕ → List ℕ
number_lines [] ns = []
number_lines (key ∷ keys) [] = []
number_lines (key ∷ keys) (n ∷ ns) = line key (n ∷ []) ++ number_lines keys ns

-- ---- Form

-- a text's first line without its byte 10, and the text after it; or the text has no byte 10
pub data FirstLine : Type 0 where
  ended : List ℕ → List ℕ → FirstLine
  unended : FirstLine

abbrev pub longer : ℕ → FirstLine → FirstLine
longer b (ended body rest) = ended (b ∷ body) rest
longer b unended = unended

unfoldable pub first_line : List ℕ → FirstLine
first_line [] = unended
first_line (b ∷ text) = elim (eqb b newline) [
  | true ↦ ended [] text
  | false ↦ longer b (first_line text)
]

-- what follows a key
unfoldable pub after_key : List ℕ → List ℕ → Option (List ℕ)
after_key [] body = some body
after_key (k ∷ key) [] = none
after_key (k ∷ key) (b ∷ body) = elim (eqb k b) [ true ↦ after_key key body | false ↦ none ]

abbrev pub is_digit : ℕ → Bool
is_digit b = leb digit0 b && leb b (digit0 + 9)

unfoldable pub all_digits : List ℕ → Bool
all_digits [] = true
all_digits (b ∷ bs) = is_digit b && all_digits bs

-- one digit, or more of them of which the first is not 0
unfoldable pub is_numeral : List ℕ → Bool
is_numeral [] = false
is_numeral (b ∷ []) = is_digit b
is_numeral (b ∷ c ∷ bs) = not (eqb b digit0) && all_digits (b ∷ c ∷ bs)

-- the number that digits state, of any length, after those that state n
unfoldable pub value_after : ℕ → List ℕ → ℕ
value_after n [] = n
value_after n (b ∷ bs) = value_after (10 * n + (b - digit0)) bs

abbrev pub value : List ℕ → ℕ
value bs = value_after 0 bs

-- the parts between commas
abbrev pub in_front : ℕ → List (List ℕ) → List (List ℕ)
in_front b [] = (b ∷ []) ∷ []
in_front b (part ∷ parts) = (b ∷ part) ∷ parts

unfoldable pub parts_of : List ℕ → List (List ℕ)
parts_of [] = [] ∷ []
parts_of (b ∷ bs) = elim (eqb b comma) [ true ↦ [] ∷ parts_of bs | false ↦ in_front b (parts_of bs) ]

-- the numbers of the parts, if each is a numeral and there are as many as expected
unfoldable pub numbers_of : ℕ → List (List ℕ) → Option (List ℕ)
numbers_of zero [] = some []
numbers_of zero (part ∷ parts) = none
numbers_of (suc count) [] = none
numbers_of (suc count) (part ∷ parts) = elim (is_numeral part) [
  | false ↦ none
  | true ↦ elim (numbers_of count parts) [ none ↦ none | some ns ↦ some (value part ∷ ns) ]
]

-- the numbers of a line in its form: the key, then as many numbers as expected
unfoldable pub line_numbers : List ℕ → ℕ → List ℕ → Option (List ℕ)
line_numbers key count body = elim (after_key key body) [ none ↦ none | some rest ↦ numbers_of count (parts_of rest) ]

-- numbers, and the text after them
pub record NumbersRead : Type 0 where
  pub numbers : List ℕ
  pub rest : List ℕ

-- the first line of a text, if it has the key and as many numbers as expected
unfoldable pub line_of : List ℕ → ℕ → List ℕ → Option NumbersRead
line_of key count text = elim (first_line text) [
  | unended ↦ none
  | ended body rest ↦ elim (line_numbers key count body) [ none ↦ none | some ns ↦ some (record { numbers = ns; rest = rest }) ]
]
