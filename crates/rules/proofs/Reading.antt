-- Every layer text is read as a sound layer, which is valid, or refused with a number and a place of the rules. The law goes through the lines in their order.
-- A line that is read takes one line off the text, so the line that is refused is one that the text has, or the next. The laws of lines with one number hold for
-- any refusals that allow 3 and 4 there. Assumes nothing.
use mathlib.Core.Bool.{Bool, true, false, ◌&&◌, or-true}
use mathlib.Core.List.{List, [], ◌∷◌}
use mathlib.Core.Option.{Option, none, some}
use mathlib.Core.Logic.{by_cases}
use mathlib.Core.Path.{◌≡◌, refl, ap, ◌∙◌}
use Prim.Native.Nat.{ℕ, zero, suc, ◌+◌, ◌≤◌, ◌<◌}
use native.Mathlib.Decide.{ℕ_discrete}
use native.Mathlib.Omega.{arith}
use lib.Dec.{eqb, leb, ltb}
use lib.ListN.{length, get_or, length-set}
use lib.Seq.{get_or-set_same, get_or-set_other}
use borrow.Author.Tests.{leb-true, ltb-true, lt-ltb}
use Rattle.rules.specs.declared.layer.Piece.{Piece}
use Rattle.rules.specs.declared.refusal.Place.{Place}
use Rattle.rules.specs.Basics.{count_of}
use Rattle.rules.specs.Settings.{settings_in_range, count_in_range, piece_in_range, has_area, unset, fixed_in_range, no_piece, piece_at}
use Rattle.rules.specs.Lines.{ascii, newline, FirstLine, ended, unended, first_line, line_numbers, NumbersRead, line_of}
use Rattle.rules.specs.LayerText.{NumberLine, header_lines}
use Rattle.rules.specs.Questions.{done, Valid, Layer, read_line, read_number, read_numbers, piece_from, read_piece, read_pieces, is_empty, read_fixed, with_fixed, fix_at, read_all_fixed, HeaderRead, read_header, layer_from, read_body, read_layer}
use Rattle.rules.specs.Refusals.{Ends, accepts, refuses, line_count, LineOf, OfText, size, form, range, area, fixed_range, overlap, fixed_split}
use Rattle.rules.proofs.Outcomes.{ends_then, ends_ask, ends_if, accepted}
use Rattle.rules.proofs.Ranges.{within_facts}
use Rattle.rules.proofs.Tests.{both}
use Rattle.rules.proofs.Validity.{Sound, sound_valid, judged_piece, judged_overlaps, judged_fixed}

-- ---- Lines are counted

-- the first line is one of the text's lines
first_counted : (text body rest : List ℕ) → first_line text ≡ ended body rest → line_count text ≡ suc (line_count rest)
unfolding first_line count_of
first_counted [] body rest e = let z : ◌≡◌ {A = ℕ} 0 1 = cc e in absurd (omega arith)
first_counted (b ∷ text) body rest e = go (eqb b newline) refl (first_line text) refl (first_counted text)
  where
    go : (t : Bool) → eqb b newline ≡ t → (o : FirstLine) → first_line text ≡ o → ((body rest : List ℕ) → first_line text ≡ ended body rest → line_count text ≡ suc (line_count rest))
        → line_count (b ∷ text) ≡ suc (line_count rest)
    go true et o eo ih =
        let e' = rw (et, first_line) at e in
        let er : text ≡ rest = cc e' in
        rw (et, er) (omega arith)
    go false et (ended body' rest') eo ih =
        let e' = rw (et, first_line, eo) at e in
        let er : rest' ≡ rest = cc e' in
        rw (et, ← er) (omega (arith, ih body' rest' eo))
    go false et unended eo ih = let e' = rw (et, first_line, eo) at e in let z : ◌≡◌ {A = ℕ} 0 1 = cc e' in absurd (omega arith)

-- where a reader of the whole text is: the text left begins with line `lineNo`
pub record Position (whole : List ℕ) (lineNo : ℕ) (text : List ℕ) : Type 0 where
  pub first : 1 ≤ lineNo
  pub counted : lineNo + line_count text ≡ line_count whole + 1

pub here : {whole text : List ℕ} {lineNo : ℕ} → Position whole lineNo text → lineNo ≤ 1_031 → LineOf whole lineNo
here p h = record { first = p.first; next = omega (arith, p.counted); most = h }

-- no line more
on : {whole text : List ℕ} {lineNo : ℕ} → Position whole lineNo text → Position whole (lineNo + 0) text
on p = record { first = omega (arith, p.first); counted = omega (arith, p.counted) }

-- the refusals of a line: any that allow 3 there, and 4 where it has a range
module _ (whole : List ℕ) {R : ℕ → Place → Type 0} where
  line_ends : (key : List ℕ) (count lineNo : ℕ) (text : List ℕ) → Position whole lineNo text → R 3 (Place.Line lineNo)
      → Ends (λ l. Position whole (suc lineNo) l.rest) R (read_line key count lineNo text)
  unfolding read_line line_of
  line_ends key count lineNo text p r3 = go (first_line text) refl
    where
      in-form : (rest : List ℕ) → Position whole (suc lineNo) rest → (body : List ℕ) → first_line text ≡ ended body rest → (o : Option (List ℕ)) → line_numbers key count body ≡ o
          → Ends {A = NumbersRead} (λ l. Position whole (suc lineNo) l.rest) R (read_line key count lineNo text)
      in-form rest q body e none eo = rw (e, line_of, eo, read_line) (refuses r3)
      in-form rest q body e (some ns) eo = rw (e, line_of, eo, read_line) (accepts q)

      go : (l : FirstLine) → first_line text ≡ l → Ends {A = NumbersRead} (λ l. Position whole (suc lineNo) l.rest) R (read_line key count lineNo text)
      go unended e = rw (e, line_of, read_line) (refuses r3)
      go (ended body rest) e = in-form rest (record { first = omega arith; counted = omega (arith, p.counted, first_counted text body rest e) }) body e (line_numbers key count body) refl

  number_ends : (expected : NumberLine) (lineNo : ℕ) (text : List ℕ) → Position whole lineNo text → R 3 (Place.Line lineNo) → R 4 (Place.Line lineNo)
      → Ends (λ r. (expected.range r.number ≡ true) × Position whole (suc lineNo) r.rest) R (read_number expected lineNo text)
  unfolding read_number
  number_ends expected lineNo text p r3 r4 =
      ends_then (line_ends expected.key 1 lineNo text p r3) λ l q.
      ends_then (ends_ask (expected.range (get_or l.numbers 0 0)) 4 _ r4) λ _ r.
      accepts (r, q)

-- each number is in the range that its line has
abbrev InRanges : List NumberLine → List ℕ → Type 0
InRanges ls ns = (i : ℕ) → i < length ls → (get_or ls i (record { key = []; range = λ _. true })).range (get_or ns i 0) ≡ true

-- both at each line of the text up to a last one
abbrev pub AtLines : List ℕ → (ℕ → Place → Type 0) → ℕ → Type 0
AtLines whole R last = (lineNo : ℕ) → LineOf whole lineNo → lineNo ≤ last → R 3 (Place.Line lineNo) × R 4 (Place.Line lineNo)

module _ (whole : List ℕ) {R : ℕ → Place → Type 0} (last : ℕ) (most : last ≤ 1_031) (allowed : AtLines whole R last) where
  numbers_end : (ls : List NumberLine) (lineNo : ℕ) (text : List ℕ) → Position whole lineNo text → lineNo + length ls ≤ suc last
      → Ends (λ r. InRanges ls r.numbers × Position whole (lineNo + length ls) r.rest) R (read_numbers ls lineNo text)
  unfolding read_numbers
  numbers_end [] lineNo text p h = accepts {a = record { numbers = []; rest = text }} (λ i l. absurd (omega arith), on p)
  numbers_end (expected ∷ more) lineNo text p h =
      let r = allowed lineNo (here p (omega arith)) (omega arith) in
      ends_then (number_ends whole expected lineNo text p r.0 r.1) λ n f.
      ends_then (numbers_end more (suc lineNo) n.rest f.1 (omega arith)) λ ns g.
      accepts (λ i. elim i as (λ k. k < suc (length more) → (get_or (expected ∷ more) k (record { key = []; range = λ _. true })).range (get_or (n.number ∷ ns.numbers) k 0) ≡ true) [ zero ↦ λ l. f.0 | suc i ↦ λ l. g.0 i (omega arith) ], record { first = omega (arith, p.first); counted = omega (arith, g.1.counted) })

module _ (whole : List ℕ) where
  -- what is true of n pieces that were read, and of the text after them
  record Pieces (n lineNo : ℕ) (ps : List Piece) (rest : List ℕ) : Type 0 where
    count : length ps ≡ n
    ranges : (i : ℕ) → i < length ps → piece_in_range (piece_at ps i) ≡ true
    areas : (i : ℕ) → i < length ps → has_area (piece_at ps i) ≡ true
    free : (i : ℕ) → i < length ps → (piece_at ps i).fixed ≡ unset
    after : Position whole (lineNo + n) rest

  one_more : {n lineNo : ℕ} {ps : List Piece} {rest : List ℕ} (p : Piece) → piece_in_range p ≡ true → has_area p ≡ true → p.fixed ≡ unset → Pieces n (suc lineNo) ps rest → Pieces (suc n) lineNo (p ∷ ps) rest
  one_more {ps = ps} p r a u f = record {
    count = ap suc f.count;
    ranges = λ i. elim i as (λ k. k < suc (length ps) → piece_in_range (piece_at (p ∷ ps) k) ≡ true) [ zero ↦ λ h. r | suc i ↦ λ h. f.ranges i (omega arith) ];
    areas = λ i. elim i as (λ k. k < suc (length ps) → has_area (piece_at (p ∷ ps) k) ≡ true) [ zero ↦ λ h. a | suc i ↦ λ h. f.areas i (omega arith) ];
    free = λ i. elim i as (λ k. k < suc (length ps) → (piece_at (p ∷ ps) k).fixed ≡ unset) [ zero ↦ λ h. u | suc i ↦ λ h. f.free i (omega arith) ];
    after = record { first = omega (arith, f.after.first); counted = omega (arith, f.after.counted) };
  }

  piece_ends : (lineNo : ℕ) (text : List ℕ) → Position whole lineNo text → lineNo ≤ 1_031
      → Ends (λ r. (piece_in_range r.piece ≡ true) × (has_area r.piece ≡ true) × (r.piece.fixed ≡ unset) × Position whole (suc lineNo) r.rest) (OfText whole) (read_piece lineNo text)
  unfolding read_piece
  piece_ends lineNo text p h =
      ends_then (line_ends whole (ascii "piece=") 5 lineNo text p (form (here p h))) λ l q.
      ends_then (judged_piece (Place.Line lineNo) (piece_from l.numbers) (range (here p h)) (area (here p h))) λ _ f.
      accepts (f.0, f.1, refl, q)

  pieces_end : (n lineNo : ℕ) (text : List ℕ) → Position whole lineNo text → lineNo + n ≤ 520 → Ends (λ r. Pieces n lineNo r.pieces r.rest) (OfText whole) (read_pieces n lineNo text)
  unfolding read_pieces
  pieces_end zero lineNo text p h = accepts {a = record { pieces = []; rest = text }} (record {
    count = refl;
    ranges = λ i l. absurd (omega arith);
    areas = λ i l. absurd (omega arith);
    free = λ i l. absurd (omega arith);
    after = on p;
  })
  pieces_end (suc n) lineNo text p h =
      ends_then (piece_ends lineNo text p (omega arith)) λ one f.
      ends_then (pieces_end n (suc lineNo) one.rest f.3 (omega arith)) λ r g.
      accepts (one_more one.piece f.0 f.1 f.2 g)

  -- ---- Lines that fix masks

  -- n pieces that are in range, with fixed masks below K where they have one
  record Fixed (K n : ℕ) (ps : List Piece) : Type 0 where
    count : length ps ≡ n
    ranges : (i : ℕ) → i < length ps → piece_in_range (piece_at ps i) ≡ true
    areas : (i : ℕ) → i < length ps → has_area (piece_at ps i) ≡ true
    masks : (i : ℕ) → i < length ps → fixed_in_range K (piece_at ps i).fixed ≡ true

  -- what is true of every piece, and of piece i with its mask fixed, is true after that
  each_fixed : (Q : Piece → Type 0) (ps : List Piece) (i m : ℕ) → Q (with_fixed m (piece_at ps i)) → ((k : ℕ) → k < length ps → Q (piece_at ps k))
      → (k : ℕ) → k < length (fix_at i m ps) → Q (piece_at (fix_at i m ps) k)
  each_fixed Q ps i m q h k l =
      let inside : k < length ps = rw (length-set ps i (with_fixed m (piece_at ps i))) at l in
      by_cases (ℕ_discrete k i)
      (λ e. rw (e, get_or-set_same ps i (with_fixed m (piece_at ps i)) no_piece (omega arith)) q)
      (λ d. rw (get_or-set_other ps i k (with_fixed m (piece_at ps i)) no_piece d) (h k inside))

  fixed_more : {K n : ℕ} {ps : List Piece} (i m : ℕ) → i < n → m < K → Fixed K n ps → Fixed K n (fix_at i m ps)
  unfolding piece_in_range has_area
  fixed_more {K} {n} {ps} i m l b f =
      let inside : i < length ps = omega (arith, f.count) in
      record {
        count = length-set ps i (with_fixed m (piece_at ps i)) ∙ f.count;
        ranges = each_fixed (λ p. piece_in_range p ≡ true) ps i m (f.ranges i inside) f.ranges;
        areas = each_fixed (λ p. has_area p ≡ true) ps i m (f.areas i inside) f.areas;
        masks = each_fixed (λ p. fixed_in_range K p.fixed ≡ true) ps i m (rw (lt-ltb m K b) (or-true (eqb m unset))) f.masks;
      }

  fixed_ends : (K n least lineNo : ℕ) (text : List ℕ) → Position whole lineNo text → lineNo ≤ 1_031
      → Ends (λ r. (r.piece < n) × (r.mask < K) × (least ≤ r.piece) × Position whole (suc lineNo) r.rest) (OfText whole) (read_fixed K n least lineNo text)
  unfolding read_fixed
  fixed_ends K n least lineNo text p h =
      ends_then (line_ends whole (ascii "fixed=") 2 lineNo text p (form (here p h))) λ l q.
      ends_then (ends_ask (leb least (get_or l.numbers 0 0)) 3 _ (form (here p h))) λ _ a.
      ends_then (ends_ask (ltb (get_or l.numbers 0 0) n && ltb (get_or l.numbers 1 0) K) 13 _ (fixed_range (here p h))) λ _ b.
      let t = both (ltb (get_or l.numbers 0 0) n) (ltb (get_or l.numbers 1 0) K) b in
      accepts (ltb-true _ n t.0, ltb-true _ K t.1, leb-true least _ a, q)

  -- pieces rise, so there are no more lines than pieces
  all_fixed_end : (more K n least lineNo : ℕ) (ps : List Piece) (text : List ℕ) → n ≤ 512 → Fixed K n ps → Position whole lineNo text → lineNo ≤ 7 + n + least → least ≤ n
      → Ends (Fixed K n) (OfText whole) (read_all_fixed more K least lineNo ps text)
  unfolding read_all_fixed
  all_fixed_end zero K n least lineNo ps text few f p a b = accepts f
  all_fixed_end (suc more) K n least lineNo ps text few f p a b =
      ends_if (is_empty text)
      (ends_then (fixed_ends K (length ps) least lineNo text p (omega arith)) λ r g.
      let inside : r.piece < n = omega (arith, g.0, f.count) in
      all_fixed_end more K n (suc r.piece) (suc lineNo) (fix_at r.piece r.mask ps) r.rest few (fixed_more r.piece r.mask inside g.1 f) g.3
      (omega (arith, g.2)) (omega arith))
      (accepts f)

-- what is true of the six lines that were read, and of the text after them
pub record Header (whole : List ℕ) (h : HeaderRead) : Type 0 where
  pub settings : settings_in_range h.settings ≡ true
  pub count : count_in_range h.count ≡ true
  pub after : Position whole 7 h.rest

-- the six lines, with any refusals R that allow 3 and 4 there
pub header_ends : {R : ℕ → Place → Type 0} (text : List ℕ) → AtLines text R 6 → Ends (Header text) R (read_header text)
unfolding read_header settings_in_range
header_ends text allowed =
    ends_then (numbers_end text 6 (omega arith) allowed header_lines 1 text (record { first = omega arith; counted = omega arith }) (omega arith)) λ l f.
    accepts (record {
      settings = rw (f.0 0 (omega arith), f.0 1 (omega arith), f.0 2 (omega arith), f.0 3 (omega arith), f.0 4 (omega arith));
      count = f.0 5 (omega arith);
      after = f.1;
    })

-- of a layer text
text_header : (text : List ℕ) → Ends (Header text) (OfText text) (read_header text)
text_header text = header_ends text λ lineNo l h. (form l, range l)

pub few : (n : ℕ) → count_in_range n ≡ true → n ≤ 512
few n e = (within_facts 0 512 n e).high

-- there are at most 512 pieces
pub header_few : (text : List ℕ) (h : HeaderRead) → read_header text ≡ done h → h.count ≤ 512
header_few text h e = few h.count (accepted (text_header text) e).count

pub read_ends : (text : List ℕ) → Ends (λ l. Sound l.settings l.pieces) (OfText text) (read_layer text)
unfolding read_layer read_body layer_from
read_ends text =
    ends_then (ends_ask (leb (length text) 32_768) 2 _ size) λ _ _.
    ends_then (text_header text) λ h f.
    ends_then (pieces_end text h.count 7 h.rest f.after (omega (arith, few h.count f.count))) λ read g.
    let small = few h.count f.count in
    let start : Fixed text h.settings.masks h.count read.pieces = record { count = g.count; ranges = g.ranges; areas = g.areas; masks = λ i l. rw (g.free i l) } in
    ends_then (all_fixed_end text (length read.rest) h.settings.masks h.count 0 (7 + h.count) read.pieces read.rest small start g.after (omega arith) (omega arith)) λ ps k.
    ends_then (judged_overlaps ps (λ j o l. overlap o (omega (arith, k.count, g.after.counted)) (omega (arith, k.count, small)))) λ _ d.
    ends_then (judged_fixed h.settings ps (λ j o l. fixed_split o (omega (arith, k.count, g.after.counted)) (omega (arith, k.count, small)))) λ _ e.
    accepts (record { settings = f.settings; count = rw k.count f.count; ranges = k.ranges; areas = k.areas; apart = d; fixed = k.masks; agree = e })

-- a layer that was read is valid
pub read_valid : (text : List ℕ) (l : Layer) → read_layer text ≡ done l → Valid l.settings l.pieces
read_valid text l e = sound_valid l.settings l.pieces (accepted (read_ends text) e)
