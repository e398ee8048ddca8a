-- `judge_masks`: the first piece that does not fit answers the question of each. Assumes nothing.
use mathlib.Core.Path.{sym}
use Rattle.rules.specs.Answers.{refusal_number}
use Rattle.units.proofs.SplitLaws.{all_fit, one_splits}
use Rattle.units.proofs.noting.judge_masks.Goals as goal

pub returns-in-Some : goal.returns-in-Some
returns-in-Some c = rw c.at.ensures (sym (one_splits (refusal_number c.args.refusal) c.in-Some.ensures))

pub returns-in-None : goal.returns-in-None
returns-in-None c = sym (all_fit (refusal_number c.args.refusal) c.in-None.ensures)
