-- The score of masks on the layer of a text: from the layer that was read, and by masks in place of the numbers that they are handed on for. Assumes nothing.
use mathlib.Core.Bool.{Bool, true, false, not, ◌||◌}
use mathlib.Core.List.{List, map}
use mathlib.Core.Path.{◌≡◌, sym, ap, ap₂, ◌∙◌}
use Prim.Native.Nat.{ℕ, ◌≤◌, ◌<◌, min}
use native.Mathlib.Omega.{arith}
use lib.Dec.{eqb, leb, ltb}
use lib.ListN.{length, get_or, take, length-take, length-map, get_or-map}
use lib.Seq.{get_or-take, ext_get_or}
use borrow.Author.Tests.{eqb-true, eq-eqb, ne_eqb, le-ltb, leb-false}
use Rattle.rules.specs.declared.layer.Settings.{Settings}
use Rattle.rules.specs.declared.layer.Piece.{Piece}
use Rattle.rules.specs.declared.refusal.Place.{Place}
use Rattle.rules.specs.declared.answers.LayerRead.{LayerRead}
use Rattle.std.proofs.Common.{Result}
use Rattle.rules.specs.declared.answers.Scoring.{Scoring}
use Rattle.rules.specs.declared.refusal.Refused.{Refused}
use Rattle.rules.specs.Answers.{answer_of}
use Rattle.rules.specs.Calls.{score_masks}
use Rattle.rules.specs.Edges.{graph_of}
use Rattle.rules.specs.Questions.{Outcome, done, ask, and_then, ask_each, Valid, judge_layer, read_layer}
use Rattle.rules.specs.Settings.{unset}
use Rattle.rules.specs.Score.{score_of, pairs_of}
use Rattle.rules.specs.Units.{unit_of, fits_unit}
use Rattle.rules.proofs.Outcomes.{accepted, ends_ask, ends_each, each_ext, ask_yes, then_same}
use Rattle.rules.proofs.Ranges.{within_facts, settings_facts}
use Rattle.rules.proofs.Tests.{by_test, clash, same}
use Rattle.rules.proofs.Validity.{valid_sound}
use Rattle.text.proofs.HandedLayers.{WasRead}
use Rattle.score.specs.Masks.{mask_of, masks_of, AllStored}
use Rattle.score.specs.Texts.{score_text, ScoreOfNumbers}

-- ---- The layer that was read

pub score_read : (text masks : List ℕ) {r : LayerRead} → WasRead (read_layer text) r
    → (answer : Result Scoring Refused) → answer_of answer ≡ score_masks r.settings (take r.count r.pieces) masks → answer_of answer ≡ score_text text masks
score_read text masks w answer told =
    told ∙ ap₂ (λ (s : Settings) (qs : List Piece). score_masks s qs masks) w.settings w.pieces ∙ sym (rw w.read)

-- ---- Masks for numbers

-- a number passes 8 exactly when its mask does, and is then its own mask
module _ (limit : ℕ) (small : limit ≤ 8) where
  abbrev allowed : ℕ → Bool
  allowed n = not (not (eqb n unset)) || ltb n limit

  too_large : (n : ℕ) → 255 < n → allowed n ≡ false
  too_large n h = rw (ne_eqb n unset (λ e. omega arith), le-ltb n limit (omega arith))

  mask_allowed : (n : ℕ) → allowed (mask_of n) ≡ allowed n
  mask_allowed n =
      by_test (leb n 255)
      (λ e. rw e)
      (λ e. rw e (le-ltb 254 limit (omega arith) ∙ sym (too_large n (leb-false n 255 e))))

  mask_same : (n : ℕ) → allowed n ≡ true → mask_of n ≡ n
  mask_same n h = by_test (leb n 255) (λ e. rw e) (λ e. clash h (too_large n (leb-false n 255 e)))

module _ (s : Settings) (ps : List Piece) (ns : List ℕ) (valid : Valid s ps) where
  abbrev masks : List ℕ
  masks = masks_of ns

  few : length ps ≤ 512
  few = (within_facts 0 512 (length ps) (valid_sound s ps valid).count).high

  small : s.masks ≤ 8
  small = (settings_facts s (valid_sound s ps valid).settings).masks.high

  size : length masks ≡ min 513 (length ns)
  size = length-take 513 (map mask_of ns) ∙ ap (min 513) (length-map ns mask_of)

  -- so many masks, exactly where there are so many numbers
  counted : eqb (length masks) (length ps) ≡ eqb (length ns) (length ps)
  counted =
      same (eqb (length masks) (length ps)) (eqb (length ns) (length ps))
      (λ h. eq-eqb (length ns) (length ps) (omega (arith, eqb-true (length masks) (length ps) h, size, few)))
      (λ h. eq-eqb (length masks) (length ps) (omega (arith, eqb-true (length ns) (length ps) h, size, few)))

  module _ (all : length ns ≡ length ps) where
    mask_at : (i : ℕ) → i < length ps → get_or masks i 0 ≡ mask_of (get_or ns i 0)
    mask_at i h = get_or-take 513 (map mask_of ns) i 0 (omega (arith, few)) ∙ get_or-map mask_of ns i 0

    abbrev question : List ℕ → ℕ → Outcome (Unit {0})
    question ms i = ask (allowed s.masks small (get_or ms i 0)) 8 (Place.Piece i)

    asked : ask_each (question masks) (length ps) ≡ ask_each (question ns) (length ps)
    asked = each_ext (length ps) λ i h. rw (mask_at i h, mask_allowed s.masks small (get_or ns i 0))

    all_pass : ask_each (question ns) (length ps) ≡ done tt → (i : ℕ) → i < length ps → allowed s.masks small (get_or ns i 0) ≡ true
    all_pass e = accepted (ends_each {R = λ _ _. Unit {0}} (question ns) (length ps) (λ i h. ends_ask (allowed s.masks small (get_or ns i 0)) 8 _ tt)) e

    as_numbers : ask_each (question ns) (length ps) ≡ done tt → masks ≡ ns
    as_numbers e =
        ext_get_or 0 masks ns (omega (arith, size, few)) λ i h.
        let inside : i < length ps = omega (arith, size) in
        mask_at i inside ∙ mask_same s.masks small (get_or ns i 0) (all_pass e i inside)

same_score : (s : Settings) (ps : List Piece) (ns : List ℕ) → score_masks s ps (masks_of ns) ≡ score_masks s ps ns
unfolding score_masks
same_score s ps ns =
    then_same (judge_layer s ps) λ _ valid.
    rw (counted s ps ns valid)
    (then_same (ask (eqb (length ns) (length ps)) 7 Place.Nothing) λ _ counts.
    let all = eqb-true (length ns) (length ps) (ask_yes (eqb (length ns) (length ps)) 7 Place.Nothing counts) in
    rw (asked s ps ns valid all)
    (then_same (ask_each (question s ps ns valid all ns) (length ps)) λ _ below.
    ap (λ (ms : List ℕ). and_then (ask_each (λ i. ask (fits_unit (unit_of s ps) (length ps) ms i) 12 (Place.Piece i)) (length ps)) λ _. done (record { score = score_of s.weight (graph_of s ps) ms (length ps); tested = pairs_of (length ps) }))
    (as_numbers s ps ns valid all below)))

-- masks that were stored from a text of mask lines
pub scored_numbers : (layer text list : List ℕ) (answer : Result Scoring Refused) → AllStored text list
    → answer_of answer ≡ score_text layer list → ScoreOfNumbers layer text answer
scored_numbers layer text list answer a e =
    let ns = a.numbers in
    record {
      numbers = ns;
      lines = a.lines;
      score = e ∙ ap (score_text layer) a.stored ∙ then_same (read_layer layer) (λ l _. same_score l.settings l.pieces ns);
    }
