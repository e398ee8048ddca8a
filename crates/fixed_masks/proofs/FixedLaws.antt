-- Question 14 of a layer is asked by an array of its units, and a layer that passes 4 to 6 and 13 has few pieces. Assumes nothing.
use mathlib.Core.List.{List}
use mathlib.Core.Path.{◌≡◌, sym, ap, ◌∙◌}
use Prim.Native.Nat.{ℕ, ◌≤◌}
use lib.ListN.{length, length-map}
use Rattle.rules.specs.declared.layer.Settings.{Settings}
use Rattle.rules.specs.declared.layer.Piece.{Piece}
use Rattle.rules.specs.declared.refusal.Place.{Place}
use Rattle.rules.specs.Settings.{settings_in_range, count_in_range, fixed_masks}
use Rattle.rules.specs.Questions.{done, ask, ask_each, judge_fixed, judge_records}
use Rattle.rules.proofs.Outcomes.{then_with, ask_yes}
use Rattle.rules.proofs.Reading.{few}
use Rattle.adjacency.specs.UnitGraph.{unit_at}
use Rattle.theory.proofs.FixedUnits.{judged_lowest}
use Rattle.units.specs.Numbered.{UnitsOf}
use Rattle.units.specs.Noted.{split_question}
use Rattle.units.proofs.SplitLaws.{splits_same}

pub masks_length : (ps : List Piece) → length (fixed_masks ps) ≡ length ps
masks_length ps = length-map ps (λ (p : Piece). p.fixed)

module _ (s : Settings) (ps : List Piece) where
  pub records_few : judge_records s ps ≡ done tt → length ps ≤ 512
  unfolding judge_records
  records_few e =
      then_with (ask (settings_in_range s) 4 Place.Nothing) _ tt e λ _ _ e.
      then_with (ask (count_in_range (length ps)) 4 Place.Nothing) _ tt e λ _ q _.
      few (length ps) (ask_yes (count_in_range (length ps)) 4 Place.Nothing q)

  pub fixed_asked : {units numbers : List ℕ} → UnitsOf s ps units numbers
      → judge_fixed s ps ≡ ask_each (split_question 14 (unit_at units) (length (fixed_masks ps)) (fixed_masks ps)) (length (fixed_masks ps))
  fixed_asked {units} numbered =
      judged_lowest s ps
      ∙ sym (splits_same s ps numbered (fixed_masks ps) 14)
      ∙ ap (λ (k : ℕ). ask_each (split_question 14 (unit_at units) k (fixed_masks ps)) k) (sym (masks_length ps))
