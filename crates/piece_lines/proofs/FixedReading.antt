-- A line that fixes a mask, read up to the cap, is judged as the rules judge it, and these lines are read one after the other up to the end of the text.
-- Assumes nothing.
use Rattle.std.proofs.Common.{◌≡◌, refl, sym, ap, ◌∙◌, ℕ, ◌+◌, ◌≤◌, ◌<◌, min, true, ◌⊎◌, inl, inr, List, [], ◌∷◌, length, get_or, add-one, arith}
use mathlib.Core.Bool.{and-false}
use lib.Dec.{leb, ltb}
use borrow.Author.Tests.{le-leb, lt-leb, lt-ltb, le-ltb, ltb-true, ltb-false}
use Rattle.rules.specs.declared.layer.Piece.{Piece}
use Rattle.rules.specs.declared.refusal.Place.{Place}
use Rattle.rules.specs.Lines.{ascii}
use Rattle.rules.specs.Questions.{done, refused, read_line, FixedRead, read_fixed, fix_at, read_all_fixed}
use Rattle.rules.proofs.Tests.{by_test}
use Rattle.numerals.specs.Numerals.{cap}
use Rattle.lines.specs.Readers.{capped_line}
use Rattle.lines.proofs.ReaderLaws.{LineThere, line_refused, line_there, value_there}
use Rattle.text_theory.proofs.FixedLines.{OneFixed, fixed_written, goes_on, stops, none_left}

-- ---- One line

-- a number up to the cap is below a limit under the cap exactly when the number itself is
cap_below : (x limit : ℕ) → limit ≤ cap → ltb (min x cap) limit ≡ ltb x limit
cap_below x limit h =
    by_test (ltb x limit)
    (λ t. lt-ltb (min x cap) limit (omega (arith, ltb-true x limit t)) ∙ sym t)
    (λ t. le-ltb (min x cap) limit (omega (arith, ltb-false x limit t)) ∙ sym t)

module _ (text : List ℕ) (lineNo least n K : ℕ) where
  pub fixed_form : (number : ℕ) (place : Place) → refused number place ≡ capped_line (read_line (ascii "fixed=") 2 lineNo text) → refused number place ≡ read_fixed K n least lineNo text
  unfolding read_fixed
  fixed_form number place e = sym (rw (line_refused _ number place e, read_fixed))

  module _ (low : least ≤ cap) (values rest : List ℕ) (read : done (record { numbers = values; rest = rest }) ≡ capped_line (read_line (ascii "fixed=") 2 lineNo text)) where
    there : LineThere (read_line (ascii "fixed=") 2 lineNo text) values rest
    there = line_there _ values rest read

    abbrev piece : ℕ
    piece = get_or there.line.numbers 0 0

    abbrev mask : ℕ
    mask = get_or there.line.numbers 1 0

    piece_up_to : get_or values 0 0 ≡ min piece cap
    piece_up_to = value_there there 0

    mask_up_to : get_or values 1 0 ≡ min mask cap
    mask_up_to = value_there there 1

    pub fixed_back : get_or values 0 0 < least → refused 3 (Place.Line lineNo) ≡ read_fixed K n least lineNo text
    unfolding read_fixed
    fixed_back h = sym (rw (there.found, read_fixed, lt-leb least piece (omega (arith, piece_up_to))))

    module _ (rising : least ≤ get_or values 0 0) (few : n ≤ cap) (masks : K ≤ cap) where
      risen : leb least piece ≡ true
      risen = le-leb least piece (omega (arith, piece_up_to))

      piece_below : ltb piece n ≡ ltb (get_or values 0 0) n
      piece_below = sym (ap (λ (x : ℕ). ltb x n) piece_up_to ∙ cap_below piece n few)

      mask_below : ltb mask K ≡ ltb (get_or values 1 0) K
      mask_below = sym (ap (λ (x : ℕ). ltb x K) mask_up_to ∙ cap_below mask K masks)

      pub fixed_out : (n ≤ get_or values 0 0) ⊎ (K ≤ get_or values 1 0) → refused 13 (Place.Line lineNo) ≡ read_fixed K n least lineNo text
      unfolding read_fixed
      fixed_out (inl h) = sym (rw (there.found, read_fixed, risen, piece_below, le-ltb _ n h))
      fixed_out (inr h) = sym (rw (there.found, read_fixed, risen, mask_below, le-ltb _ K h, and-false))

      pub fixed_good : get_or values 0 0 < n → get_or values 1 0 < K → done (record { piece = get_or values 0 0; mask = get_or values 1 0; rest = rest }) ≡ read_fixed K n least lineNo text
      unfolding read_fixed
      fixed_good h k =
          let same_piece : piece ≡ get_or values 0 0 = omega (arith, piece_up_to) in
          let same-mask : mask ≡ get_or values 1 0 = omega (arith, mask_up_to) in
          sym (rw (there.found, read_fixed, risen, piece_below, lt-ltb _ n h, mask_below, lt-ltb _ K k) (λ i. done (record { piece = same_piece i; mask = same-mask i; rest = sym there.after i })))

-- what a line that was read says
pub fixed_facts : (text : List ℕ) (lineNo least n K : ℕ) (f : FixedRead) → done f ≡ read_fixed K n least lineNo text → OneFixed K n least text f
fixed_facts text lineNo least n K f e = fixed_written K n least lineNo text f (sym e)

-- ---- The lines from one on

-- what the lines before a place have fixed, and the lines from there on, say of all lines
pub record Passed (K first : ℕ) (all : List Piece) (text : List ℕ) (least lineNo : ℕ) (ps : List Piece) (rest : List ℕ) : Type 0 where
  pub left : ℕ
  pub enough : length rest ≤ left
  pub same : read_all_fixed (length text) K 0 first all text ≡ read_all_fixed left K least lineNo ps rest

empty : (text : List ℕ) → length text ≡ 0 → text ≡ []
empty [] e = refl
empty (b ∷ text) e = absurd (omega arith)

module _ (K first : ℕ) (all : List Piece) (text : List ℕ) where
  pub passed_none : Passed K first all text 0 first all text
  passed_none = record { left = length text; enough = omega arith; same = refl }

  module _ (least lineNo : ℕ) (ps : List Piece) (rest : List ℕ) (p : Passed K first all text least lineNo ps rest) where
    pub passed_one : (f : FixedRead) → done f ≡ read_fixed K (length ps) least lineNo rest → Passed K first all text (f.piece + 1) (lineNo + 1) (fix_at f.piece f.mask ps) f.rest
    passed_one f e =
        let on = goes_on p.left K least lineNo ps rest f p.enough (sym e) in
        record {
          left = on.left;
          enough = on.enough;
          same = p.same ∙ on.same ∙ (λ k. read_all_fixed on.left K (sym (add-one f.piece) k) (sym (add-one lineNo) k) (fix_at f.piece f.mask ps) f.rest);
        }

    pub passed_stop : (number : ℕ) (place : Place) → 0 < length rest → refused number place ≡ read_fixed K (length ps) least lineNo rest
        → refused number place ≡ read_all_fixed (length text) K 0 first all text
    passed_stop number place some e = sym (p.same ∙ stops p.left K least lineNo ps rest number place some p.enough (sym e))

    pub passed_all : length rest ≡ 0 → done ps ≡ read_all_fixed (length text) K 0 first all text
    passed_all e = sym (p.same ∙ ap (read_all_fixed p.left K least lineNo ps) (empty rest e) ∙ none_left p.left K least lineNo ps)
