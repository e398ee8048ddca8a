-- The piece of an element as it is stored is judged as its element, and is the element's own where it is in range: a negative coordinate lies above every range, and so
-- does the cap. Assumes nothing.
use mathlib.Core.Bool.{true, false}
use mathlib.Core.Path.{◌≡◌, refl, sym, ap, ◌∙◌}
use lib.IntN.{ℤ, pos, negsuc}
use Prim.Native.Nat.{◌≤◌}
use native.Mathlib.Omega.{arith}
use Rattle.rules.specs.declared.layer.Piece.{Piece}
use Rattle.rules.specs.declared.refusal.Place.{Place}
use Rattle.rules.specs.Settings.{piece_in_range}
use Rattle.rules.specs.Questions.{judge_piece}
use Rattle.rules.specs.Stream.{Element, negative, magnitude, any_negative, piece_of, judge_element}
use Rattle.rules.proofs.Ranges.{piece_facts, piece_ranges}
use Rattle.rules.proofs.Tests.{by_test, clash, or_false}
use Rattle.numerals.proofs.Cap.{cap_range, cap_same}
use Rattle.gds_data.specs.Rectangles.{unsigned32, corner_piece}
use Rattle.gds_elements.specs.Elements.{stored_piece}

-- ---- One coordinate

low_positive : (z : ℤ) → unsigned32 z ≤ 1_000_000 → negative z ≡ false
low_positive (pos n) h = refl
low_positive (negsuc n) h = absurd (omega arith)

size_of : (z : ℤ) → negative z ≡ false → magnitude z ≡ unsigned32 z
size_of (pos n) h = refl
size_of (negsuc n) h = clash refl h

-- ---- Judged

module _ (e : Element) where
  abbrev p : Piece
  p = stored_piece e

  -- in range, no coordinate is negative
  no_sign : piece_in_range p ≡ true → any_negative e ≡ false
  no_sign h =
      let f = piece_facts p h in
      rw (
        low_positive e.corner.x (omega (arith, f.x2)),
        low_positive e.corner.y (omega (arith, f.y2)),
        low_positive e.opposite.x (omega (arith, f.x2)),
        low_positive e.opposite.y (omega (arith, f.y2)),
      )

  -- without negative coordinates, only the cap is between the two
  abbrev q : Piece
  q = corner_piece e.corner e.opposite e.shape

  unsigned : any_negative e ≡ false → piece_of e ≡ q
  unsigned h =
      let h3 = or_false _ (negative e.opposite.y) h in
      let h2 = or_false _ (negative e.opposite.x) h3.0 in
      let h1 = or_false (negative e.corner.x) (negative e.corner.y) h2.0 in
      rw (size_of e.corner.x h1.0, size_of e.corner.y h1.1, size_of e.opposite.x h2.1, size_of e.opposite.y h3.1)

  capped_range : piece_in_range p ≡ piece_in_range q
  unfolding piece_in_range
  capped_range = rw (cap_range 0 511 e.shape (omega arith))

  capped_same : piece_in_range p ≡ true → p ≡ q
  capped_same h = ap (corner_piece e.corner e.opposite) (cap_same 0 511 e.shape (omega arith) (piece_ranges q (sym capped_range ∙ h)).shape)

  pub same_piece : piece_in_range p ≡ true → p ≡ piece_of e
  same_piece h = capped_same h ∙ sym (unsigned (no_sign h))

  pub judged_alike : (place : Place) → judge_piece place p ≡ judge_element place e
  unfolding judge_piece judge_element
  judged_alike place =
      by_test (piece_in_range p)
      (λ yes-range. rw (no_sign yes-range) (ap (judge_piece place) (same_piece yes-range)))
      (λ no-range. by_test (any_negative e)
      (λ below. rw (no-range, below))
      (λ above. rw (no-range, above) (sym (ap (judge_piece place) (unsigned above) ∙ rw (sym capped_range ∙ no-range)))))
