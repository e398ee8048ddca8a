-- Masks are scored exactly if the layer is valid and they are half done (`scored_exactly`). One way: pieces of a unit that are set have the mask that an assignment
-- has on that unit, so 12 passes. The other way: 8 and 12 passed, so each unit can be given the mask of its lowest set piece, or mask 0 where none is set
-- (`filled`); that breaks no tie, is below K, and is what the set pieces have. An assignment is half done with nothing missing (`whole_half_done`), and in its score
-- every edge counts (`whole_counts`).
use mathlib.Core.Bool.{Bool, true, not, cond, ◌||◌}
use mathlib.Core.List.{List, map}
use mathlib.Core.Logic.{◌↔◌}
use mathlib.Core.Path.{◌≡◌, refl, sym, ap, ◌∙◌}
use Prim.Native.Nat.{ℕ, ◌<◌}
use native.Mathlib.Omega.{arith}
use lib.Dec.{eqb, ltb}
use lib.ListN.{length, length-map}
use borrow.Author.Tests.{eqb-true, eq-eqb, ltb-true, lt-ltb}
use Rattle.rules.specs.declared.layer.Settings.{Settings}
use Rattle.rules.specs.declared.layer.Piece.{Piece}
use Rattle.rules.specs.declared.refusal.Place.{Place}
use Rattle.rules.specs.Basics.{up_to}
use Rattle.rules.specs.Edges.{graph_of}
use Rattle.rules.specs.Score.{mask_of, is_set, score_of}
use Rattle.rules.specs.Units.{unit_of, lowest_set, fits_unit}
use Rattle.rules.specs.Questions.{done, ask, ask_each, judge_layer, Valid}
use Rattle.rules.specs.Calls.{score_masks}
use Rattle.rules.specs.Demands.{Assignment, Extends, HalfDone, EachEdge, layer_scoring}
use Rattle.rules.proofs.Lists.{length_up_to, mapped_up_to}
use Rattle.rules.proofs.Outcomes.{ends_ask, ends_each, accepted, each_passes, then_with, ask_yes}
use Rattle.rules.proofs.Ranges.{settings_facts}
use Rattle.rules.proofs.Tests.{by_test}
use Rattle.rules.proofs.Validity.{valid_sound}
use Rattle.theory.proofs.FixedUnits.{lowest_of}
use Rattle.theory.proofs.HalfDone.{AllSet, below_set, whole_conflicts, whole_stitches}
use Rattle.theory.proofs.Units.{unit_keeps, tied_unit}

-- ---- The masks of a valid layer

module _ (s : Settings) (ps : List Piece) (valid : Valid s ps) where
  -- there is one
  pub masks_above_0 : 0 < s.masks
  masks_above_0 = omega (arith, (settings_facts s (valid_sound s ps valid).settings).masks.low)

  -- and those below K are set
  pub masks_set : (masks : List ℕ) → ((i : ℕ) → i < length ps → mask_of masks i < s.masks) → AllSet (length ps) masks
  masks_set masks below i l = below_set masks i (omega (arith, below i l, (settings_facts s (valid_sound s ps valid).settings).masks.high))

  pub whole_counts : (masks : List ℕ) → Assignment s ps masks → EachEdge s ps masks
  unfolding score_of
  whole_counts masks a =
      let all = masks_set masks a.below in
      record {
        conflicts = whole_conflicts (graph_of s ps) masks (length ps) all;
        stitches = whole_stitches (graph_of s ps) masks (length ps) all;
        cost = refl;
      }

module _ (s : Settings) (ps : List Piece) (masks : List ℕ) where
  pub whole_half_done : Assignment s ps masks → HalfDone s ps masks
  whole_half_done a = record { size = a.size; whole = masks; assignment = a; extends = λ i l e. refl }

  -- 8 of piece i
  abbrev below_limit : ℕ → Bool
  below_limit i = not (is_set masks i) || ltb (mask_of masks i) s.masks

  -- ---- The lowest set piece of a unit

  abbrev lowest : ℕ → ℕ
  lowest u = lowest_set (unit_of s ps) (length ps) masks u

  -- ---- Half done masks pass

  module _ (h : HalfDone s ps masks) where
    -- a set piece has the mask of the assignment
    half_below : (i : ℕ) → i < length ps → below_limit i ≡ true
    half_below i l =
        by_test (is_set masks i)
        (λ e. rw (e, ← h.extends i l e) (lt-ltb (mask_of h.whole i) s.masks (h.assignment.below i l)))
        (λ e. rw e)

    half_fits : (i : ℕ) → i < length ps → fits_unit (unit_of s ps) (length ps) masks i ≡ true
    half_fits i l =
        by_test (is_set masks i)
        (λ e.
        let low = lowest_of (unit_of s ps) (length ps) masks i l e in
        let j = lowest (unit_of s ps i) in
        let one : mask_of masks i ≡ mask_of masks j
        = sym (h.extends i l e) ∙ unit_keeps s ps (mask_of h.whole) h.assignment.ties i j l low.inside (sym low.own) ∙ h.extends j low.inside low.is_one in
        rw e (eq-eqb (mask_of masks i) (mask_of masks j) one))
        (λ e. rw e)

  -- ---- Masks that pass are half done

  -- the mask of a vertex, or 0 where it is not below K
  abbrev mask_or0 : ℕ → ℕ
  mask_or0 j = cond (ltb (mask_of masks j) s.masks) (mask_of masks j) 0

  -- each unit on the mask of its lowest set piece, or on mask 0
  abbrev filled : List ℕ
  filled = map (λ i. mask_or0 (lowest (unit_of s ps i))) (up_to (length ps))

  filled_at : (i : ℕ) → i < length ps → mask_of filled i ≡ mask_or0 (lowest (unit_of s ps i))
  filled_at i l = mapped_up_to (λ i. mask_or0 (lowest (unit_of s ps i))) 0 (length ps) i l

  filled_below : 0 < s.masks → (i : ℕ) → i < length ps → mask_of filled i < s.masks
  filled_below pos i l =
      let j = lowest (unit_of s ps i) in
      rw (filled_at i l)
      (by_test (ltb (mask_of masks j) s.masks) (λ e. rw e (ltb-true (mask_of masks j) s.masks e)) (λ e. rw e pos))

  filled_whole : 0 < s.masks → Assignment s ps filled
  filled_whole pos = record {
    size = length-map (up_to (length ps)) (λ i. mask_or0 (lowest (unit_of s ps i))) ∙ length_up_to (length ps);
    below = filled_below pos;
    ties = λ i j l k e. filled_at i l ∙ ap (λ (u : ℕ). mask_or0 (lowest u)) (tied_unit s ps i j l k e) ∙ sym (filled_at j k);
  }

  filled_extends : ((i : ℕ) → i < length ps → below_limit i ≡ true) → ((i : ℕ) → i < length ps → fits_unit (unit_of s ps) (length ps) masks i ≡ true)
      → Extends (length ps) masks filled
  filled_extends below fits i l e =
      let j = lowest (unit_of s ps i) in
      let one : mask_of masks i ≡ mask_of masks j = eqb-true (mask_of masks i) (mask_of masks j) (rw e at (fits i l)) in
      let low : ltb (mask_of masks i) s.masks ≡ true = rw e at (below i l) in
      filled_at i l ∙ rw (← one, low)

  -- ---- So masks are scored exactly if they are half done

  asked : (test : ℕ → Bool) (number : ℕ) → ask_each (λ i. ask (test i) number (Place.Piece i)) (length ps) ≡ done tt → (i : ℕ) → i < length ps → test i ≡ true
  asked test number e = accepted (ends_each {R = λ _ _. Unit {0}} _ (length ps) (λ i l. ends_ask (test i) number (Place.Piece i) tt)) e

  passes : (test : ℕ → Bool) (number : ℕ) → ((i : ℕ) → i < length ps → test i ≡ true) → ask_each (λ i. ask (test i) number (Place.Piece i)) (length ps) ≡ done tt
  passes test number h = each_passes _ (length ps) (λ i l. rw (h i l))

  pub scored_exactly : (score_masks s ps masks ≡ done (layer_scoring s ps masks)) ↔ (Valid s ps × HalfDone s ps masks)
  unfolding score_masks
  scored_exactly = (
    λ e.
        then_with (judge_layer s ps) _ (layer_scoring s ps masks) e λ _ valid e1.
        then_with (ask (eqb (length masks) (length ps)) 7 Place.Nothing) _ (layer_scoring s ps masks) e1 λ _ count e2.
        then_with (ask_each _ (length ps)) _ (layer_scoring s ps masks) e2 λ _ low e3.
        then_with (ask_each _ (length ps)) _ (layer_scoring s ps masks) e3 λ _ units _. (
          valid,
          record {
            size = eqb-true _ _ (ask_yes (eqb (length masks) (length ps)) 7 Place.Nothing count);
            whole = filled;
            assignment = filled_whole (masks_above_0 s ps valid);
            extends = filled_extends (asked below_limit 8 low) (asked (fits_unit (unit_of s ps) (length ps) masks) 12 units);
          },
        ),
    λ h.
        rw (
          h.0,
          eq-eqb (length masks) (length ps) h.1.size,
          passes below_limit 8 (half_below h.1),
          passes (fits_unit (unit_of s ps) (length ps) masks) 12 (half_fits h.1),
        ),
  )
