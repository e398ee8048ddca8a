-- `judge_units`: the words of ties give the units of the pieces, and the first piece that does not fit its unit answers 14 of each. Assumes nothing.
use Rattle.std.proofs.Common.{◌≡◌, length, take, sym, ap, ◌∙◌, arith}
use Rattle.units.specs.Numbered.{UnitsOf}
use Rattle.units.proofs.SplitLaws.{unit_inside}
use Rattle.units.proofs.TieUnits.{front_numbered}
use Rattle.fixed_masks.proofs.FixedLaws.{masks_length, fixed_asked}
use Rattle.fixed_masks.proofs.judge_units.Goals as goal
use Rattle.fixed_masks.proofs.judge_units.Goals.{After-number_units}

-- the units are the layer's
numbered : (c : After-number_units) → UnitsOf c.args.settings c.args.pieces.now c.number_units.new.units c.number_units.result
numbered c = front_numbered _ _ c.tie_words.ensures c.requires c.number_units.ensures

pub judge_masks-requires-clause-by_index : goal.judge_masks-requires-clause-by_index
judge_masks-requires-clause-by_index c =
    let size = ap length (c.as_slice.ensures.value ∙ c.fixed_masks_of-masks.ensures) ∙ masks_length c.args.pieces.now in
    λ i l. omega (arith, size, unit_inside _ _ (numbered (goal.at.judge_masks-requires-clause-by_index c).After-number_units) i (omega arith))

pub returns : goal.returns
returns c =
    rw (c.as_slice.ensures.value ∙ c.fixed_masks_of-masks.ensures) at c.judge_masks.ensures
    ∙ sym (fixed_asked _ _ (numbered (goal.at.returns c).After-number_units))
