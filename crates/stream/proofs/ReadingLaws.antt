-- A stream read, and its pieces judged as lent ones. Where every element's piece passes, it is the element's own piece, and none has a fixed mask, so both ways of
-- judging come to the same layer. Assumes nothing.
use mathlib.Core.Bool.{Bool, true, ◌||◌}
use mathlib.Core.List.{List, [], ◌∷◌, map}
use mathlib.Core.Path.{◌≡◌, refl, sym, ap, ◌∙◌}
use Prim.Native.Nat.{ℕ, zero, suc, ◌≤◌, ◌<◌, zero-le}
use native.Mathlib.Omega.{arith}
use lib.ListN.{length, get_or, length-map}
use lib.Seq.{ext_get_or, take_all}
use borrow.Author.Tests.{le-leb, lt-leb}
use Rattle.std.specs.List.{list_any}
use Rattle.rules.specs.declared.layer.Piece.{Piece}
use Rattle.rules.specs.declared.layer.Settings.{Settings}
use Rattle.rules.specs.declared.refusal.Place.{Place}
use Rattle.rules.specs.Basics.{any_of}
use Rattle.rules.specs.Settings.{piece_in_range, has_area, unset, no_piece, piece_at}
use Rattle.rules.specs.Questions.{Outcome, done, refused, and_then, ask_each, judge_piece, judge_record, judge_overlaps, layer_from}
use Rattle.rules.specs.Stream.{Element, piece_of, no_element, judge_element, judge_elements}
use Rattle.rules.proofs.Outcomes.{accepted, each_ext, ends_each}
use Rattle.rules.proofs.Unfixed.{NoneFixed, none_judged}
use Rattle.rules.proofs.Validity.{judged_piece}
use Rattle.stream_theory.proofs.StreamReading.{piece_of_lem}
use Rattle.gds_elements.specs.declared.elements.Elements.{Elements}
use Rattle.gds_elements.specs.Elements.{stored_piece}
use Rattle.gds_elements.proofs.StoredLaws.{same_piece, judged_alike}
use Rattle.stream.specs.Reading.{Held, judged_records, judged_elements}

pub any_is : (f : ℕ → Bool) (xs : List ℕ) → list_any f xs ≡ any_of f xs
unfolding any_of
any_is f [] = refl
any_is f (x ∷ xs) = ap (λ (t : Bool). f x || t) (any_is f xs)

-- ---- The pieces judged

-- a piece without a fixed mask is asked as a lent record
free_asked : (K : ℕ) (place : Place) (p : Piece) → p.fixed ≡ unset → judge_record K place p ≡ judge_piece place p
unfolding judge_record judge_piece
free_asked K place p e = rw e

-- what is stored stands where the element does
stored_at : (es : List Element) (i : ℕ) → i < length es → piece_at (map stored_piece es) i ≡ stored_piece (get_or es i no_element)
stored_at [] i l = absurd (omega arith)
stored_at (e ∷ es) zero l = refl
stored_at (e ∷ es) (suc i) l = stored_at es i (omega arith)

module _ (stream : List ℕ) (r : Elements) (held : Held stream r) where
  abbrev es : List Element
  es = held.elements

  pub too_many : 512 < r.count → judge_elements es ≡ refused 4 Place.Nothing
  unfolding judge_elements
  too_many h = rw (held.counted, le-leb 0 r.count zero-le, lt-leb r.count 512 h)

  module _ (few : r.count ≤ 512) where
    abbrev ps : List Piece
    ps = r.pieces

    all_kept : ps ≡ map stored_piece es
    all_kept = held.kept ∙ ap (map stored_piece) (take_all 512 es (omega (arith, held.counted)))

    size : length ps ≡ r.count
    size = ap length all_kept ∙ length-map es stored_piece ∙ held.counted

    at : (i : ℕ) → i < r.count → piece_at ps i ≡ stored_piece (get_or es i no_element)
    at i h = ap (λ (l : List Piece). piece_at l i) all_kept ∙ stored_at es i (omega (arith, held.counted))

    abbrev of_piece : ℕ → Outcome (Unit {0})
    of_piece i = judge_piece (Place.Piece i) (piece_at ps i)

    abbrev of_element : ℕ → Outcome (Unit {0})
    of_element i = judge_element (Place.Piece i) (get_or es i no_element)

    -- no piece has a fixed mask
    free : NoneFixed ps
    free i h = ap (λ (p : Piece). p.fixed) (at i (omega (arith, size)))

    -- asked alike
    records_asked : (K : ℕ) → ask_each (λ i. judge_record K (Place.Piece i) (piece_at ps i)) r.count ≡ ask_each of_piece r.count
    records_asked K = each_ext r.count λ i h. free_asked K (Place.Piece i) (piece_at ps i) (free i (omega (arith, size)))

    asked : ask_each of_piece r.count ≡ ask_each of_element r.count
    asked = each_ext r.count λ i h. ap (judge_piece (Place.Piece i)) (at i h) ∙ judged_alike (get_or es i no_element) (Place.Piece i)

    -- where all pass, the pieces are the elements' own
    own : ask_each of_piece r.count ≡ done tt → ps ≡ map piece_of es
    own e =
        let ranges = accepted (ends_each {P = λ i. (piece_in_range (piece_at ps i) ≡ true) × (has_area (piece_at ps i) ≡ true)} {R = λ _ _. Unit {0}} of_piece r.count (λ i h. judged_piece (Place.Piece i) (piece_at ps i) tt tt)) e in
        ext_get_or no_piece ps (map piece_of es) (size ∙ sym (length-map es piece_of ∙ held.counted)) λ i h.
        let l : i < r.count = omega (arith, size) in
        at i l ∙ same_piece (get_or es i no_element) (rw (at i l) at (ranges i l).0) ∙ sym (piece_of_lem es i (omega (arith, held.counted)))

    in_count : judge_elements es ≡ (and_then (ask_each of_element r.count) λ _. judge_overlaps (map piece_of es))
    unfolding judge_elements
    in_count = rw (held.counted, le-leb 0 r.count zero-le, le-leb r.count 512 few)

    pub judged_same : (s : Settings) → judged_elements s es ≡ judged_records s ps
    unfolding layer_from
    judged_same s = rw (in_count, size, records_asked s.masks, ← asked) (go (ask_each of_piece r.count) refl)
      where
        go : (o : Outcome (Unit {0})) → ask_each of_piece r.count ≡ o
            → (and_then (and_then o λ _. judge_overlaps (map piece_of es)) λ _. done (record { settings = s; pieces = map piece_of es })) ≡ (and_then o λ _. layer_from s ps)
        go (refused number place) e = refl
        go (done tt) e = rw (none_judged s ps free) (ap (λ (l : List Piece). and_then (judge_overlaps l) λ _. done (record { settings = s; pieces = l })) (sym (own e)))
