-- What the next line comes to by the rules: refused, or its numbers up to the cap and the text after it. Assumes nothing.
use mathlib.Core.List.{List}
use mathlib.Core.Option.{none, some}
use mathlib.Core.Path.{◌≡◌, refl, sym, ap, ap₂, ◌∙◌}
use Prim.Native.Nat.{ℕ, min}
use lib.ListN.{get_or, get_or-map}
use Rattle.rules.specs.declared.refusal.Place.{Place}
use Rattle.rules.specs.Lines.{NumbersRead, line_of}
use Rattle.rules.specs.Questions.{Outcome, done, refused, read_line}
use Rattle.numerals.specs.Numerals.{cap}
use Rattle.lines.specs.ReadLines.{capped, line_read}
use Rattle.lines.specs.Readers.{capped_line}
use Rattle.lines.proofs.GoodLines.{bad_line, good_line}

module _ (text key : List ℕ) (count lineNo : ℕ) where
  pub form_refused : none ≡ line_read (line_of key count text) → refused 3 (Place.Line lineNo) ≡ capped_line (read_line key count lineNo text)
  unfolding read_line
  form_refused bad = rw (bad_line text key count bad, read_line)

  pub line_found : {values rest : List ℕ} → some (record { numbers = values; rest = rest }) ≡ line_read (line_of key count text)
      → done (record { numbers = values; rest = rest }) ≡ capped_line (read_line key count lineNo text)
  unfolding read_line
  line_found good = let g = good_line text key count good in rw (g.found, read_line) (ap₂ (λ (ns rest : List ℕ). done (record { numbers = ns; rest = rest })) g.numbers g.after)

-- ---- From the numbers up to the cap to the numbers themselves

pub line_refused : (o : Outcome NumbersRead) (number : ℕ) (place : Place) → refused number place ≡ capped_line o → o ≡ refused number place
line_refused (done l) number place e = absurd (cc e)
line_refused (refused n p) number place e = sym e

-- the line whose numbers up to the cap were read, and the text after it
pub record LineThere (o : Outcome NumbersRead) (values rest : List ℕ) : Type 0 where
  pub line : NumbersRead
  pub found : o ≡ done line
  pub capped_numbers : values ≡ capped line.numbers
  pub after : rest ≡ line.rest

pub line_there : (o : Outcome NumbersRead) (values rest : List ℕ) → done (record { numbers = values; rest = rest }) ≡ capped_line o → LineThere o values rest
line_there (done l) values rest e =
    let same : ◌≡◌ {A = NumbersRead} (record { numbers = values; rest = rest }) (record { numbers = capped l.numbers; rest = l.rest }) = cc e in
    record { line = l; found = refl; capped_numbers = ap (λ (n : NumbersRead). n.numbers) same; after = ap (λ (n : NumbersRead). n.rest) same }
line_there (refused n p) values rest e = absurd (cc e)

-- number i
pub value_there : {o : Outcome NumbersRead} {values rest : List ℕ} (t : LineThere o values rest) (i : ℕ) → get_or values i 0 ≡ min (get_or t.line.numbers i 0) cap
value_there t i = ap (λ (vs : List ℕ). get_or vs i 0) t.capped_numbers ∙ get_or-map (λ n. min n cap) t.line.numbers i 0
