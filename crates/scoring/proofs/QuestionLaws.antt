-- The questions of given masks: 8 of one mask, and 12 by an array of units. Assumes nothing.
use mathlib.Core.List.{List}
use mathlib.Core.Path.{◌≡◌, ap, ◌∙◌}
use Prim.Native.Nat.{ℕ, ◌<◌}
use native.Mathlib.Omega.{arith}
use lib.Dec.{eqb}
use lib.ListN.{length}
use Rattle.rules.specs.declared.layer.Settings.{Settings}
use Rattle.rules.specs.declared.layer.Piece.{Piece}
use Rattle.rules.specs.declared.refusal.Place.{Place}
use Rattle.rules.specs.Settings.{unset, fixed_in_range}
use Rattle.rules.specs.Score.{mask_of}
use Rattle.rules.specs.Questions.{Outcome, done, ask, and_then, ask_each}
use Rattle.rules.proofs.Tests.{by_test}
use Rattle.adjacency.specs.UnitGraph.{unit_at}
use Rattle.units.specs.Noted.{split_question}
use Rattle.units.specs.Numbered.{UnitsOf}
use Rattle.units.proofs.SplitLaws.{unit_inside, splits_same}
use Rattle.scoring.specs.MaskQuestions.{mask_question, scoring_of, units_scored}

-- 8, asked of the mask
pub mask_asked : (limit : ℕ) (masks : List ℕ) (i : ℕ) → mask_question limit masks i ≡ ask (fixed_in_range limit (mask_of masks i)) 8 (Place.Piece i)
mask_asked limit masks i = by_test (eqb (mask_of masks i) unset) (λ e. rw e) (λ e. rw e)

-- ---- 12, by an array of units

module _ (s : Settings) (ps : List Piece) (masks : List ℕ) (long : length masks ≡ length ps) {units numbers : List ℕ} (numbered : UnitsOf s ps units numbers) where
  -- each piece's unit has a mask
  pub unit_masked : (i : ℕ) → i < length masks → unit_at units i < length masks
  unit_masked i l = omega (arith, unit_inside s ps numbered i (omega arith))

  -- what comes of the answer to 12
  pub split_asked : {o : Outcome (Unit {0})} → o ≡ ask_each (split_question 12 (unit_at units) (length masks) masks) (length masks)
      → (and_then o λ _. done (scoring_of s ps masks)) ≡ units_scored s ps masks
  split_asked e =
      ap (λ (a : Outcome (Unit {0})). and_then a λ _. done (scoring_of s ps masks))
      (e
      ∙ ap (λ (k : ℕ). ask_each (split_question 12 (unit_at units) k masks) k) long
      ∙ splits_same s ps numbered masks 12)
