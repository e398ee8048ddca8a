-- `score_units`: the words of ties give the layer's units, and the pairs its counts, so 12 and the score are those of the layer. Assumes nothing.
use mathlib.Core.Path.{ap, ◌∙◌}
use Prim.Native.Nat.{◌≤◌}
use Rattle.std.proofs.lemmas.Result.{err_from_is_err_and}
use Rattle.rules.specs.Questions.{done}
use Rattle.rules.proofs.Validity.{layer_facts}
use Rattle.units.specs.Numbered.{UnitsOf}
use Rattle.units.proofs.TieUnits.{front_numbered}
use Rattle.scoring.proofs.TallyLaws.{few_pairs, tally_scoring}
use Rattle.scoring.proofs.QuestionLaws.{unit_masked, split_asked}
use Rattle.scoring.proofs.scores.score_units.Goals as goal
use Rattle.scoring.proofs.scores.score_units.Goals.{After-number_units, After-test_pairs-tally}

-- the units are the layer's
numbered : (c : After-number_units) → UnitsOf c.args.layer.now.settings c.args.layer.now.pieces.now c.number_units.new.units c.number_units.result
numbered c = front_numbered _ _ c.test_pairs-tally.ensures.ties (layer_facts _ _ c.args.layer.now.valid).few c.number_units.ensures

pub judge_masks-requires-clause-by_index : goal.judge_masks-requires-clause-by_index
judge_masks-requires-clause-by_index c = unit_masked _ _ c.args.masks.now c.requires (numbered (goal.at.judge_masks-requires-clause-by_index c).After-number_units)

pub returns-in_err-judge_masks : goal.returns-in_err-judge_masks
returns-in_err-judge_masks c =
    let p = err_from_is_err_and c.from_residual.result c.from_residual.ensures.1 in
    rw (p.1, p.2)
    (split_asked _ _ c.args.masks.now c.requires (numbered (goal.at.returns-in_err-judge_masks c).After-number_units) c.in_err-judge_masks.ensures)

module _ (c : After-test_pairs-tally) where
  small : (c.test_pairs-tally.result.conflicts ≤ 130_816) × (c.test_pairs-tally.result.stitches ≤ 130_816)
  small = few_pairs c.args.layer.now.settings c.args.layer.now.pieces.now c.args.masks.now c.test_pairs-tally.result c.test_pairs-tally.ensures.conflicts_value c.test_pairs-tally.ensures.stitches_value (layer_facts _ _ c.args.layer.now.valid).few

pub scoring_of-requires-clause-weight_bound : goal.scoring_of-requires-clause-weight_bound
scoring_of-requires-clause-weight_bound c = (layer_facts _ _ c.args.layer.now.valid).settings.weight.high

pub scoring_of-requires-clause-conflicts_bound : goal.scoring_of-requires-clause-conflicts_bound
scoring_of-requires-clause-conflicts_bound c = (small (goal.at.scoring_of-requires-clause-conflicts_bound c).After-test_pairs-tally).0

pub scoring_of-requires-clause-stitches_bound : goal.scoring_of-requires-clause-stitches_bound
scoring_of-requires-clause-stitches_bound c = (small (goal.at.scoring_of-requires-clause-stitches_bound c).After-test_pairs-tally).1

pub returns : goal.returns
returns c =
    let a = c.args in
    ap done (c.scoring_of.ensures ∙ tally_scoring a.layer.now.settings a.layer.now.pieces.now a.masks.now c.test_pairs-tally.result c.test_pairs-tally.ensures.conflicts_value c.test_pairs-tally.ensures.stitches_value c.test_pairs-tally.ensures.tested_value)
    ∙ split_asked _ _ a.masks.now c.requires (numbered (goal.at.returns c).After-number_units) c.in_ok-judge_masks.ensures
