-- The six lines before the pieces. A number that is read up to the cap is in a range below the cap exactly when the number itself is, so a line is judged as
-- the rules judge it; and the lines are read one after the other. Assumes nothing.
use Rattle.std.proofs.Common.{◌≡◌, refl, sym, ap, ◌∙◌, ℕ, suc, ◌<◌, min, true, false, List, [], ◌∷◌, ◌++◌, get_or, ◌+◌, arith}
use mathlib.Core.List.{append-nil}
use mathlib.Core.Path.{ap₂}
use lib.Seq.{append_snoc}
use Rattle.rules.specs.declared.refusal.Place.{Place}
use Rattle.rules.specs.Lines.{NumbersRead}
use Rattle.rules.specs.LayerText.{NumberLine, header_lines}
use Rattle.rules.specs.Settings.{within}
use Rattle.rules.specs.Questions.{Outcome, done, refused, and_then, read_line, read_number, read_numbers, header_from, read_header}
use Rattle.numerals.specs.Numerals.{cap}
use Rattle.numerals.proofs.Cap.{cap_range, cap_same}
use Rattle.lines.specs.Readers.{capped_line}
use Rattle.lines.proofs.ReaderLaws.{LineThere, line_refused, line_there, value_there}

-- ---- A line with one number

module _ (text key : List ℕ) (least greatest lineNo : ℕ) where
  abbrev expected : NumberLine
  expected = record { key = key; range = within least greatest }

  pub number_form : (number : ℕ) (place : Place) → refused number place ≡ capped_line (read_line key 1 lineNo text) → refused number place ≡ read_number expected lineNo text
  unfolding read_number
  number_form number place e = sym (rw (line_refused _ number place e, read_number))

  module _ (small : greatest < cap) (values rest : List ℕ) (read : done (record { numbers = values; rest = rest }) ≡ capped_line (read_line key 1 lineNo text)) where
    there : LineThere (read_line key 1 lineNo text) values rest
    there = line_there _ values rest read

    abbrev number : ℕ
    number = get_or there.line.numbers 0 0

    up_to : get_or values 0 0 ≡ min number cap
    up_to = value_there there 0

    ranged : within least greatest (get_or values 0 0) ≡ within least greatest number
    ranged = ap (within least greatest) up_to ∙ cap_range least greatest number small

    pub number_out : within least greatest (get_or values 0 0) ≡ false → refused 4 (Place.Line lineNo) ≡ read_number expected lineNo text
    unfolding read_number
    number_out h = sym (rw (there.found, read_number) (rw (sym ranged ∙ h)))

    pub number_in : within least greatest (get_or values 0 0) ≡ true → done (record { number = get_or values 0 0; rest = rest }) ≡ read_number expected lineNo text
    unfolding read_number
    number_in h =
        let inside : within least greatest number ≡ true = sym ranged ∙ h in
        let same : get_or values 0 0 ≡ number = up_to ∙ cap_same least greatest number small inside in
        sym (rw (there.found, read_number) (rw inside (ap₂ (λ (n : ℕ) (rest : List ℕ). done (record { number = n; rest = rest })) (sym same) (sym there.after))))

-- ---- The six lines

-- numbers in front of others
abbrev ahead : List ℕ → Outcome NumbersRead → Outcome NumbersRead
ahead vs (done l) = done (record { numbers = vs ++ l.numbers; rest = l.rest })
ahead vs (refused number place) = refused number place

ahead_none : (o : Outcome NumbersRead) → o ≡ ahead [] o
ahead_none (done l) = refl
ahead_none (refused n place) = refl

ahead_snoc : (vs : List ℕ) (v : ℕ) (o : Outcome NumbersRead) → ahead vs (and_then o λ l. done (record { numbers = v ∷ l.numbers; rest = l.rest })) ≡ ahead (vs ++ (v ∷ [])) o
ahead_snoc vs v (done l) = ap (λ (ns : List ℕ). done (record { numbers = ns; rest = l.rest })) (sym (append_snoc vs v l.numbers))
ahead_snoc vs v (refused n place) = refl

-- what the numbers that were read, the lines that are to come, the number of the first of them and the text from it on say of all six
pub record Read (text vs : List ℕ) (lines : List NumberLine) (lineNo : ℕ) (rest : List ℕ) : Type 0 where
  pub same : read_numbers header_lines 1 text ≡ ahead vs (read_numbers lines lineNo rest)

pub read_start : {text rest : List ℕ} {lineNo : ℕ} → rest ≡ text → lineNo ≡ 1 → Read text [] header_lines lineNo rest
read_start {text} whole first = rw (whole, first) (record { same = ahead_none (read_numbers header_lines 1 text) })

module _ {text vs rest : List ℕ} {expected : NumberLine} {lines : List NumberLine} {lineNo : ℕ} (passed : Read text vs (expected ∷ lines) lineNo rest) where
  pub read_on : {v next : ℕ} {after : List ℕ} → done (record { number = v; rest = after }) ≡ read_number expected lineNo rest → next ≡ lineNo + 1 → Read text (vs ++ (v ∷ [])) lines next after
  unfolding read_numbers
  read_on {v} {next} {after} one further =
      let line : next ≡ suc lineNo = omega arith in
      rw line (record { same = passed.same ∙ rw (sym one, read_numbers) (ahead_snoc vs v (read_numbers lines (suc lineNo) after)) })

  pub read_stop : {number : ℕ} {place : Place} → refused number place ≡ read_number expected lineNo rest → refused number place ≡ read_header text
  unfolding read_numbers read_header
  read_stop {number} {place} one =
      let all : read_numbers header_lines 1 text ≡ refused number place = passed.same ∙ rw (sym one, read_numbers) in
      sym (rw all)

pub read_end : {text vs rest : List ℕ} {lineNo : ℕ} → Read text vs [] lineNo rest → done (header_from (record { numbers = vs; rest = rest })) ≡ read_header text
unfolding read_numbers read_header
read_end {text} {vs} {rest} passed =
    let all : read_numbers header_lines 1 text ≡ done (record { numbers = vs; rest = rest })
    = passed.same ∙ ap (λ (ns : List ℕ). done (record { numbers = ns; rest = rest })) (append-nil vs) in
    sym (rw all)
