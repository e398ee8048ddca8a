-- The records of a stream come to elements whose corners are apart, or to a refusal 9, 10 or 11 with the number of a record. A record that passes has the bytes
-- that are due, an even number of them. On the average that is more than seven bytes a record: what is above seven is counted as spare bytes, which last for the
-- records of an element that have less. So seven times the number of the record that is refused is at most the stream's length and 8. Assumes nothing.
use mathlib.Core.Bool.{true, false, not}
use mathlib.Core.List.{List, [], ◌∷◌}
use mathlib.Core.Path.{◌≡◌}
use Prim.Native.Nat.{ℕ, zero, suc, ◌+◌, ◌-◌, ◌*◌, ◌%◌, ◌≤◌, ◌<◌}
use native.Mathlib.Omega.{arith}
use borrow.Author.Tests.{leb-true, eqb-true, not-true}
use lib.Dec.{eqb, leb, ltb}
use lib.ListN.{length, get_or, drop, length-take, length-drop}
use Rattle.rules.specs.declared.refusal.Place.{Place}
use Rattle.rules.specs.Basics.{any_of}
use Rattle.rules.specs.Settings.{within}
use Rattle.rules.specs.Questions.{Outcome, and_then}
use Rattle.rules.specs.Stream.{Due, header, bgnlib, libname, units, bgnstr, strname, boundary, layer, datatype, xy, propattr, propvalue, endel, endstr, endlib, front, record_size, is_due, RecordRead, record_of, read_record, pass_records, Element, element_from, read_property, read_element, read_elements, read_stream_elements, same, is_rectangle, no_element}
use Rattle.rules.specs.Refusals.{Ends, accepts, RecordOf, OfStream, record_form, rectangle, unit}
use Rattle.rules.proofs.Outcomes.{ends_then, ends_ask, ends_if}
use Rattle.rules.proofs.Ranges.{within_facts}
use Rattle.rules.proofs.Tests.{both}

-- ---- Records

-- what is true where the bytes start with a whole record that is due
pub record Formed (due : Due) (bytes : List ℕ) : Type 0 where
  pub fits : record_size bytes ≤ length bytes
  pub low : 4 + due.least ≤ record_size bytes
  pub high : record_size bytes ≤ 4 + due.greatest
  pub even : record_size bytes % 2 ≡ 0
  pub kind : get_or bytes 2 0 ≡ due.record_type
  pub form : get_or bytes 3 0 ≡ due.data_type

pub formed : (due : Due) (bytes : List ℕ) → is_due due bytes ≡ true → Formed due bytes
unfolding is_due
formed due bytes e =
    let size = record_size bytes in
    let h4 = both _ (eqb (get_or bytes 3 0) due.data_type) e in
    let h3 = both _ (eqb (get_or bytes 2 0) due.record_type) h4.0 in
    let h2 = both _ (eqb (size % 2) 0) h3.0 in
    let h1 = both (leb size (length bytes)) (within (4 + due.least) (4 + due.greatest) size) h2.0 in
    let range = within_facts (4 + due.least) (4 + due.greatest) size h1.1 in
    record {
      fits = leb-true size (length bytes) h1.0;
      low = range.low;
      high = range.high;
      even = eqb-true (size % 2) 0 h2.1;
      kind = eqb-true (get_or bytes 2 0) due.record_type h3.1;
      form = eqb-true (get_or bytes 3 0) due.data_type h4.1;
    }

-- what is true of a record that passes: its data and the bytes after it are all but its first four bytes
pub record Passed (due : Due) (bytes : List ℕ) (r : RecordRead) : Type 0 where
  pub whole : Formed due bytes
  pub parts : 4 + length r.bytes + length r.rest ≡ length bytes
  pub even : length r.bytes % 2 ≡ 0
  pub least : due.least ≤ length r.bytes
  pub right : due.right r.bytes ≡ true

pub record_ends : {R : ℕ → Place → Type 0} (due : Due) (k : ℕ) (bytes : List ℕ) → R 9 (Place.Record k) → R due.number (Place.Record k)
    → Ends (Passed due bytes) R (read_record due k bytes)
unfolding read_record
record_ends due k bytes r9 r =
    ends_then (ends_ask (is_due due bytes) 9 _ r9) λ _ e.
    ends_then (ends_ask (due.right (record_of bytes).bytes) due.number _ r) λ _ f.
    let w = formed due bytes e in
    let d : length (record_of bytes).bytes + 4 ≡ record_size bytes = omega (arith, w.fits, w.low, length-take (record_size bytes - 4) (drop 4 bytes), length-drop 4 bytes) in
    accepts (record {
      whole = w;
      parts = omega (arith, w.fits, length-drop (record_size bytes) bytes);
      even = omega (arith, w.even);
      least = omega (arith, w.low);
      right = f;
    })

-- ---- Elements

-- the corners of an element are apart in x and in y
pub record Apart (e : Element) : Type 0 where
  pub in_x : same e.corner.x e.opposite.x ≡ false
  pub in_y : same e.corner.y e.opposite.y ≡ false

abbrev pub AllApart : List Element → Type 0
AllApart es = (i : ℕ) → i < length es → Apart (get_or es i no_element)

all_cons : (e : Element) (es : List Element) → Apart e → AllApart es → AllApart (e ∷ es)
all_cons e es a f zero h = a
all_cons e es a f (suc i) h = f i (omega arith)

rectangle_apart : (points digits : List ℕ) → is_rectangle points ≡ true → Apart (element_from points digits)
unfolding is_rectangle
rectangle_apart points digits e =
    let both-apart = both _ _ (both _ _ (both _ _ e).0).0 in
    record { in_x = not-true _ both-apart.0; in_y = not-true _ both-apart.1 }

-- ---- The whole stream

-- where a reader of the stream is: the bytes left begin with record `k`, and the records before it have `spare` bytes and more above seven each
record At (stream : List ℕ) (spare k : ℕ) (bytes : List ℕ) : Type 0 where
  first : 1 ≤ k
  room : 7 * k + spare + length bytes ≤ length stream + 8

at_record : {stream bytes : List ℕ} {spare k : ℕ} → At stream spare k bytes → RecordOf stream k
at_record a = record { first = a.first; next = omega (arith, a.room) }

-- the number of the record by another term, and fewer spare bytes
renumbered : {stream bytes : List ℕ} {spare k k' : ℕ} → At stream spare k bytes → k ≡ k' → At stream spare k' bytes
renumbered a e = record { first = omega (arith, a.first); room = omega (arith, a.room) }

moved : {stream bytes : List ℕ} {spare k : ℕ} {less k' : ℕ} → At stream spare k bytes → less ≤ spare → k ≡ k' → At stream less k' bytes
moved a l e = record { first = omega (arith, a.first); room = omega (arith, a.room) }

module _ (settings stream : List ℕ) where
  abbrev R : ℕ → Place → Type 0
  R = OfStream settings stream

  -- one record more, which leaves `more` spare bytes
  step : {B : Type 0} {P : B → Type 0} {after : RecordRead → Outcome B} {spare k : ℕ} {bytes : List ℕ} (due : Due) (more : ℕ) → At stream spare k bytes
      → (RecordOf stream k → R due.number (Place.Record k)) → more + 7 ≤ spare + (4 + due.least)
      → ((r : RecordRead) → Passed due bytes r → At stream more (suc k) r.rest → Ends P R (after r)) → Ends P R (and_then (read_record due k bytes) after)
  step {k} {bytes} due more a r h go_on =
      ends_then (record_ends due k bytes (record_form (at_record a)) (r (at_record a))) λ read p.
      go_on read p (record { first = omega arith; room = omega (arith, a.room, p.parts, p.least) })

  -- the six records before the elements have 49 spare bytes or more
  front_ends : Ends (At stream 49 7) R (pass_records front 1 stream)
  unfolding pass_records
  front_ends =
      let start : At stream 1 1 stream = record { first = omega arith; room = omega arith } in
      step header 0 start record_form (omega arith) λ _ _ a.
      step bgnlib 21 a record_form (omega arith) λ _ _ a.
      step libname 18 a record_form (omega arith) λ _ _ a.
      step units 31 a (λ _. unit) (omega arith) λ _ _ a.
      step bgnstr 52 a record_form (omega arith) λ _ _ a.
      step strname 49 a record_form (omega arith) λ _ _ a.
      accepts a

  -- a record alone of which nothing is kept
  pass : {spare k : ℕ} {bytes : List ℕ} (due : Due) (more : ℕ) → At stream spare k bytes → (RecordOf stream k → R due.number (Place.Record k)) → more + 7 ≤ spare + (4 + due.least)
      → Ends (At stream more (suc k)) R (pass_records (due ∷ []) k bytes)
  unfolding pass_records
  pass due more a r h = step due more a r h λ _ _ b. accepts b

  property_ends : (k : ℕ) (bytes : List ℕ) → At stream 81 k bytes → Ends (λ r. At stream 49 (3 + k) r.rest) R (read_property k bytes)
  unfolding read_property
  property_ends k bytes a =
      ends_then (pass propattr 80 a record_form (omega arith)) λ _ b.
      step propvalue 77 (renumbered b (omega arith)) record_form (omega arith) λ _ _ c.
      ends_then (pass endel 74 (renumbered c (omega arith)) record_form (omega arith)) λ rest d.
      accepts {a = record { bytes = _; rest = rest }} (moved d (omega arith) (omega arith))

  -- the three records before XY have 16 bytes, 5 less than seven each
  figure_ends : (k : ℕ) (bytes : List ℕ) → At stream 49 k bytes → Ends (At stream 44 (3 + k)) R (pass_records (boundary ∷ layer ∷ datatype ∷ []) k bytes)
  unfolding pass_records
  figure_ends k bytes a =
      step boundary 46 a record_form (omega arith) λ _ _ b.
      step layer 45 b record_form (omega arith) λ _ _ c.
      step datatype 44 c record_form (omega arith) λ _ _ d.
      accepts (moved d (omega arith) (omega arith))

  -- an element has 74 bytes or more, so it takes no spare bytes
  element_ends : (k : ℕ) (bytes : List ℕ) → At stream 49 k bytes → Ends (λ r. Apart r.element × At stream 49 (7 + k) r.rest) R (read_element k bytes)
  unfolding read_element
  element_ends k bytes a =
      ends_then (figure_ends k bytes a) λ figure b.
      step xy 81 b rectangle (omega arith) λ points p c.
      ends_then (property_ends (4 + k) points.rest (renumbered c (omega arith))) λ digits d.
      accepts (rectangle_apart points.bytes digits.bytes p.right, moved d (omega arith) (omega arith))

  elements_end : (more k : ℕ) (bytes : List ℕ) → At stream 49 k bytes
      → Ends (λ r. AllApart r.elements × At stream 49 (k + 7 * length r.elements) r.rest) R (read_elements more k bytes)
  unfolding read_elements
  elements_end zero k bytes a = accepts {a = record { elements = []; rest = bytes }} (λ i h. absurd (omega arith), moved a (omega arith) (omega arith))
  elements_end (suc more) k bytes a =
      ends_if (is_due boundary bytes)
      (accepts {a = record { elements = []; rest = bytes }} (λ i h. absurd (omega arith), moved a (omega arith) (omega arith)))
      (ends_then (element_ends k bytes a) λ e f.
      ends_then (elements_end more (7 + k) e.rest f.1) λ es g.
      accepts (all_cons e.element es.elements f.0 g.0, moved g.1 (omega arith) (omega arith)))

  pub stream_elements_end : Ends AllApart R (read_stream_elements stream)
  unfolding read_stream_elements pass_records
  stream_elements_end =
      ends_then front_ends λ body a.
      ends_then (elements_end (length body) 7 body a) λ read f.
      ends_then (step endstr 46 f.1 record_form (omega arith) λ _ _ b. step endlib 43 b record_form (omega arith) λ _ _ c. accepts c) λ rest c.
      ends_then (ends_ask (not (any_of (ltb 0) rest)) 9 _ (record_form (at_record (renumbered c (omega arith))))) λ _ _.
      accepts f.0
