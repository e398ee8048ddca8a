-- Mask lines: a line that was read is the line of its number, and lines that were read one after the other are those of all their numbers. Assumes nothing.
use mathlib.Core.List.{List, [], ◌∷◌, ◌++◌, map, append-nil, append_assoc, map-append}
use mathlib.Core.Option.{some}
use mathlib.Core.Path.{◌≡◌, refl, sym, ap, ap₂, ◌∙◌}
use Prim.Native.Nat.{ℕ, ◌+◌, ◌<◌, min}
use native.Mathlib.Omega.{arith}
use lib.Dec.{leb}
use lib.ListN.{length, get_or, length-append, length-take, length-map}
use lib.Seq.{take-nil, take_all, take-append-le}
use borrow.Author.Tests.{leb-true, leb-false, lt-leb}
use Rattle.rules.specs.Lines.{ascii, line, line_of}
use Rattle.rules.specs.ResultText.{mask_line, mask_lines}
use Rattle.rules.proofs.Tests.{by_test}
use Rattle.numerals.specs.Numerals.{cap}
use Rattle.lines.specs.ReadLines.{line_read}
use Rattle.lines.proofs.GoodLines.{good_line}
use Rattle.line_writer.proofs.LineSizes.{line_length}
use Rattle.lines.proofs.Written.{line_written}
use Rattle.score.specs.Masks.{mask_of, masks_of, MaskRead, NoMaskLine, AllStored, BadLine}

-- ---- A line

-- a number up to the cap is handed on as the number itself
mask_capped : (n : ℕ) → mask_of (min n cap) ≡ mask_of n
mask_capped n =
    by_test (leb n 255)
    (λ e. let h = leb-true n 255 e in let same : min n cap ≡ n = omega arith in ap mask_of same)
    (λ e. let h = leb-false n 255 e in rw (lt-leb (min n cap) 255 (omega arith), e))

single : (ns : List ℕ) → length ns ≡ 1 → ns ≡ get_or ns 0 0 ∷ []
single [] h = absurd (omega arith)
single (n ∷ []) h = refl
single (n ∷ m ∷ ns) h = absurd (omega arith)

module _ (text : List ℕ) {values rest : List ℕ} (e : some (record { numbers = values; rest = rest }) ≡ line_read (line_of (ascii "mask=") 1 text)) where
  pub line_good : (mask : ℕ) → mask ≡ mask_of (get_or values 0 0) → MaskRead text mask rest
  line_good mask told =
      let read = good_line text (ascii "mask=") 1 e in
      let written = line_written (ascii "mask=") 1 text read.line read.found in
      let n = get_or read.line.numbers 0 0 in
      record {
        number = n;
        line = written.0 ∙ ap₂ (λ (ns after : List ℕ). line (ascii "mask=") ns ++ after) (single read.line.numbers written.1) (sym read.after);
        value = told ∙ ap mask_of (read.value 0) ∙ mask_capped n;
      }

-- a mask line takes some of the text
pub shorter : {text after : List ℕ} {mask : ℕ} → MaskRead text mask after → length after < length text
shorter {text} {after} r = omega (arith, ap length r.line, length-append (mask_line r.number) after, line_length (ascii "mask=") (r.number ∷ []))

-- ---- The lines before a place of the text

lines_snoc : (ns : List ℕ) (n : ℕ) → mask_lines (ns ++ (n ∷ [])) ≡ mask_lines ns ++ mask_line n
unfolding mask_lines
lines_snoc [] n = append-nil (mask_line n)
lines_snoc (m ∷ ns) n = ap (λ (l : List ℕ). mask_line m ++ l) (lines_snoc ns n) ∙ sym (append_assoc (mask_line m) (mask_lines ns) (mask_line n))

-- the numbers of the lines before this one, whose masks are stored as far as there is room, and the text that is left
pub record Passed (text masks rest : List ℕ) (line : ℕ) : Type 0 where
  pub numbers : List ℕ
  pub place : line ≡ length numbers + 1
  pub split : text ≡ mask_lines numbers ++ rest
  pub stored : masks ≡ masks_of numbers

pub passed_start : (text : List ℕ) → Passed text [] text 1
unfolding mask_lines
passed_start text = record { numbers = []; place = refl; split = refl; stored = sym (take-nil 513) }

-- a list of no length
empty : (l : List ℕ) → length l ≡ 0 → l ≡ []
empty [] h = refl
empty (x ∷ l) h = absurd (omega arith)

-- one mask more, if there is room for it
module _ (masks ns : List ℕ) (n : ℕ) (stored : masks ≡ masks_of ns) where
  mapped : length (map mask_of ns) ≡ length ns
  mapped = length-map ns mask_of

  size : length masks ≡ min 513 (length ns)
  size = ap length stored ∙ length-take 513 (map mask_of ns) ∙ ap (min 513) mapped

  more : length masks < 513 → masks ++ (mask_of n ∷ []) ≡ masks_of (ns ++ (n ∷ []))
  more h =
      let few : length ns < 513 = omega (arith, size) in
      let all : masks ≡ map mask_of ns = stored ∙ take_all 513 (map mask_of ns) (omega (arith, mapped)) in
      rw (all, map-append mask_of ns (n ∷ []))
      (sym (take_all 513 (map mask_of ns ++ (mask_of n ∷ [])) (omega (arith, mapped, length-append (map mask_of ns) (mask_of n ∷ [])))))

  full : length masks ≡ 513 → masks ≡ masks_of (ns ++ (n ∷ []))
  full h = rw (map-append mask_of ns (n ∷ [])) (stored ∙ sym (take-append-le 513 (map mask_of ns) (mask_of n ∷ []) (omega (arith, mapped, size))))

module _ (text masks rest : List ℕ) (line : ℕ) (p : Passed text masks rest line) where
  module _ (mask : ℕ) (after : List ℕ) (r : MaskRead rest mask after) where
    abbrev on : (longer : List ℕ) → longer ≡ masks_of (p.numbers ++ (r.number ∷ [])) → Passed text longer after (line + 1)
    on longer stored =
        let ns = p.numbers in
        let n = r.number in
        record {
          numbers = ns ++ (n ∷ []);
          place = ap (λ (k : ℕ). k + 1) (p.place ∙ sym (length-append ns (n ∷ [])));
          split = p.split ∙ ap (λ (l : List ℕ). mask_lines ns ++ l) r.line ∙ sym (append_assoc (mask_lines ns) (mask_line n) after) ∙ ap (λ (l : List ℕ). l ++ after) (sym (lines_snoc ns n));
          stored = stored;
        }

    pub passed_on : length masks < 513 → Passed text (masks ++ (mask ∷ [])) after (line + 1)
    passed_on h = on (masks ++ (mask ∷ [])) (rw r.value (more masks p.numbers r.number p.stored h))

    pub passed_full : length masks ≡ 513 → Passed text masks after (line + 1)
    passed_full h = on masks (full masks p.numbers r.number p.stored h)

  pub passed_stop : 0 < length rest → NoMaskLine rest → BadLine text line
  passed_stop h bad = record {
    numbers = p.numbers;
    rest = rest;
    lines = p.split;
    place = p.place;
    more = h;
    bad = bad;
  }

  pub passed_end : length rest ≡ 0 → AllStored text masks
  passed_end h = record {
    numbers = p.numbers;
    lines = p.split ∙ ap (λ (l : List ℕ). mask_lines p.numbers ++ l) (empty rest h) ∙ append-nil (mask_lines p.numbers);
    stored = p.stored;
  }
