use mathlib.Core.Path.{refl, sym, ◌∙◌}
use native.Mathlib.Omega.{arith}
use Rattle.rules.specs.Questions.{ask_each}
use Rattle.rules.proofs.Outcomes.{each_next, each_refused}
use Rattle.rules.proofs.Tests.{passed, failed}
use Rattle.scoring.proofs.QuestionLaws.{mask_asked}
use mathlib.Core.Path.{ap}
use mathlib.Core.Bool.{not}
use Rattle.scoring.proofs.scores.judge_masks.Goals as goal

pub loop-i-init : goal.loop-i-init
unfolding ask_each
loop-i-init c = refl

pub returns-then-not-mask_in_range : goal.returns-then-not-mask_in_range
returns-then-not-mask_in_range c =
    let a = c.args in
    rw c.at.ensures
    (sym (each_refused _ _ {i = c.loop-i.i} (omega arith) c.loop-i.invariant (mask_asked a.limit a.masks.now c.loop-i.i ∙ rw (failed _ _ c.mask_in_range.ensures (ap not c.if-not-mask_in_range.true)))))

pub loop-i-preserved : goal.loop-i-preserved
loop-i-preserved c =
    let a = c.args in
    each_next _ _ c.loop-i.invariant (mask_asked a.limit a.masks.now c.loop-i.i ∙ rw (passed _ _ c.mask_in_range.ensures (ap not c.if-not-mask_in_range.false)))
