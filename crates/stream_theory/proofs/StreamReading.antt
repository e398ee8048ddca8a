-- Every settings text and stream are read as a sound layer, which is valid, or refused with a number and a place of the rules. The law goes through the settings
-- text, the records and the pieces in their order. A rectangle without a negative coordinate has an area, so 5 never comes; and elements meet the questions that
-- their pieces meet as lent records. Assumes nothing.
use mathlib.Core.Bool.{true, false, not}
use mathlib.Core.List.{List, [], ◌∷◌, map}
use mathlib.Core.Path.{◌≡◌, refl, ap}
use Prim.Native.Nat.{ℕ, zero, suc, ◌<◌, min, max}
use native.Mathlib.Omega.{arith}
use borrow.Author.Tests.{eqb-false, lt-ltb, not-true}
use lib.Dec.{eqb, leb}
use lib.IntN.{ℤ, pos, negsuc}
use lib.ListN.{length, get_or, length-map}
use Rattle.rules.specs.declared.layer.Settings.{Settings}
use Rattle.rules.specs.declared.layer.Piece.{Piece}
use Rattle.rules.specs.declared.refusal.Place.{Place}
use Rattle.rules.specs.Settings.{settings_in_range, count_in_range, piece_in_range, has_area, piece_at}
use Rattle.rules.specs.Questions.{Outcome, done, refused, and_then, ask_each, Layer, Valid, is_empty, judge_piece, judge_record, judge_records, judge_layer}
use Rattle.rules.specs.Stream.{Element, same, negative, magnitude, any_negative, piece_of, no_element, judge_element, judge_elements, read_settings, read_stream}
use Rattle.rules.specs.Refusals.{Ends, accepts, LineOf, OfStream, size, form, setting, count, range, overlap}
use Rattle.rules.proofs.Outcomes.{ends_then, ends_map, ends_ask, ends_each, accepted, each_ext}
use Rattle.rules.proofs.Reading.{here, header_ends, few}
use Rattle.stream_theory.proofs.StreamRecords.{Apart, AllApart, stream_elements_end}
use Rattle.rules.proofs.Tests.{clash, or_false}
use Rattle.rules.proofs.Unfixed.{NoneFixed, none_judged}
use Rattle.rules.proofs.Validity.{Sound, sound_valid, judged_overlaps, judged_fixed}

-- ---- The settings text

settings_end : (settings stream : List ℕ) → Ends (λ s. settings_in_range s ≡ true) (OfStream settings stream) (read_settings settings)
unfolding read_settings
settings_end settings stream =
    ends_then (header_ends settings (λ lineNo l h. (form l (omega arith), setting l h))) λ h f.
    let sixth : LineOf settings 6 = record { first = omega arith; next = omega (arith, f.after.counted); most = omega arith } in
    ends_then (ends_ask (eqb h.count 0) 4 _ (setting sixth (omega arith))) λ _ _.
    ends_then (ends_ask (is_empty h.rest) 3 _ (form (here f.after (omega arith)) (omega arith))) λ _ _.
    accepts f.settings

-- ---- The pieces

-- the element's piece stands where the element does
pub piece_of_lem : (es : List Element) (i : ℕ) → i < length es → piece_at (map piece_of es) i ≡ piece_of (get_or es i no_element)
piece_of_lem [] i l = absurd (omega arith)
piece_of_lem (e ∷ es) zero l = refl
piece_of_lem (e ∷ es) (suc i) l = piece_of_lem es i (omega arith)

-- a stream fixes no masks
none_fixed : (es : List Element) → NoneFixed (map piece_of es)
none_fixed es i l = ap (λ (p : Piece). p.fixed) (piece_of_lem es i (omega (arith, length-map es piece_of)))

-- two numbers without a sign that are not the same
ordered : (a b : ℤ) → negative a ≡ false → negative b ≡ false → same a b ≡ false → min (magnitude a) (magnitude b) < max (magnitude a) (magnitude b)
ordered (pos a) (pos b) p q e = omega (arith, eqb-false a b e)
ordered (pos a) (negsuc b) p q e = clash refl q
ordered (negsuc a) (pos b) p q e = clash refl p
ordered (negsuc a) (negsuc b) p q e = clash refl p

record NotNegative (e : Element) : Type 0 where
  x1 : negative e.corner.x ≡ false
  y1 : negative e.corner.y ≡ false
  x2 : negative e.opposite.x ≡ false
  y2 : negative e.opposite.y ≡ false

not_negative : (e : Element) → any_negative e ≡ false → NotNegative e
not_negative e h =
    let p = or_false _ (negative e.opposite.y) h in
    let q = or_false _ (negative e.opposite.x) p.0 in
    let r = or_false (negative e.corner.x) (negative e.corner.y) q.0 in
    record { x1 = r.0; y1 = r.1; x2 = q.1; y2 = p.1 }

apart_area : (e : Element) → Apart e → any_negative e ≡ false → has_area (piece_of e) ≡ true
unfolding has_area
apart_area e a h =
    let n = not_negative e h in
    rw (
      lt-ltb _ _ (ordered e.corner.x e.opposite.x n.x1 n.x2 a.in_x),
      lt-ltb _ _ (ordered e.corner.y e.opposite.y n.y1 n.y2 a.in_y),
    )

-- 4 for an element and for its piece; its area is sure
judged_element : {R : ℕ → Place → Type 0} (place : Place) (e : Element) → R 4 place → Apart e
    → Ends (λ _. (piece_in_range (piece_of e) ≡ true) × (has_area (piece_of e) ≡ true)) R (judge_element place e)
unfolding judge_element judge_piece
judged_element place e r4 a =
    ends_then (ends_ask (not (any_negative e)) 4 place r4) λ _ n.
    let area = apart_area e a (not-true _ n) in
    ends_then (ends_ask (piece_in_range (piece_of e)) 4 place r4) λ _ p.
    rw area (accepts (p, refl))

judged_elements : (s : Settings) (settings stream : List ℕ) (es : List Element) → settings_in_range s ≡ true → AllApart es
    → Ends (λ _. Sound s (map piece_of es)) (OfStream settings stream) (judge_elements es)
unfolding judge_elements
judged_elements s settings stream es f a =
    let same_count = length-map es piece_of in
    ends_then (ends_ask (count_in_range (length es)) 4 _ count) λ _ c.
    ends_then (ends_each _ (length es) (λ i h. judged_element (Place.Piece i) (get_or es i no_element) (range (omega (arith, few (length es) c))) (a i h))) λ _ p.
    ends_map
    (λ _ d. record {
      settings = f;
      count = rw same_count c;
      ranges = λ i h. let l : i < length es = omega arith in rw (piece_of_lem es i l) (p i l).0;
      areas = λ i h. let l : i < length es = omega arith in rw (piece_of_lem es i l) (p i l).1;
      apart = d;
      fixed = λ i h. rw (none_fixed es i h);
      agree = accepted (judged_fixed {R = λ _ _. Unit {0}} s (map piece_of es) (λ _ _ _. tt)) (none_judged s (map piece_of es) (none_fixed es));
    })
    (judged_overlaps (map piece_of es) (λ j o h. overlap o (omega (arith, few (length es) c))))

pub stream_ends : (settings stream : List ℕ) → Ends (λ l. Sound l.settings l.pieces) (OfStream settings stream) (read_stream settings stream)
unfolding read_stream
stream_ends settings stream =
    ends_then (ends_ask (leb (length settings) 32_768) 2 _ size) λ _ _.
    ends_then (ends_ask (leb (length stream) 65_536) 2 _ size) λ _ _.
    ends_then (settings_end settings stream) λ s f.
    ends_then (stream_elements_end settings stream) λ es a.
    ends_then (judged_elements s settings stream es f a) λ _ sound.
    accepts sound

-- a layer that was read is valid
pub stream_valid : (settings stream : List ℕ) (l : Layer) → read_stream settings stream ≡ done l → Valid l.settings l.pieces
stream_valid settings stream l e = sound_valid l.settings l.pieces (accepted (stream_ends settings stream) e)

-- ---- Elements, and their pieces as lent records, meet the same questions

elements_alike : (K : ℕ) (es : List Element) → ((i : ℕ) → i < length es → any_negative (get_or es i no_element) ≡ false)
    → ask_each (λ i. judge_element (Place.Piece i) (get_or es i no_element)) (length es) ≡ ask_each (λ i. judge_record K (Place.Piece i) (piece_at (map piece_of es) i)) (length es)
unfolding judge_element judge_piece judge_record
elements_alike K es n = each_ext (length es) (λ i h. rw (n i h, piece_of_lem es i h))

-- at settings in range, where no coordinate is negative
pub lent_alike : (s : Settings) (es : List Element) → settings_in_range s ≡ true → ((i : ℕ) → i < length es → any_negative (get_or es i no_element) ≡ false)
    → judge_elements es ≡ judge_layer s (map piece_of es)
unfolding judge_elements judge_layer judge_records
lent_alike s es f n =
    rw (f, length-map es piece_of, elements_alike s.masks es n, none_judged s (map piece_of es) (none_fixed es)) (no_more _)
  where
    no_more : (o : Outcome (Unit {0})) → o ≡ (and_then o λ _. done tt)
    no_more (done tt) = refl
    no_more (refused number place) = refl
