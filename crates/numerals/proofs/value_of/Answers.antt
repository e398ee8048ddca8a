use Rattle.std.proofs.Common.{arith, refl}
use Rattle.rules.specs.Lines.{value_after}
use Rattle.numerals.proofs.Decimal.{digit_low}
use Rattle.numerals.proofs.Digits.{digit_at, value_next}
use Rattle.numerals.proofs.value_of.Goals as goal

pub loop-b-init : goal.loop-b-init
unfolding value_after
loop-b-init c = refl

pub overflow_sub-b : goal.overflow_sub-b
overflow_sub-b c = digit_low _ (digit_at _ _ c.requires c.loop-b-test.true)

pub loop-b-preserved : goal.loop-b-preserved
loop-b-preserved c = grind (arith, value_next c.args.digits.now c.loop-b.b-index c.loop-b-test.true)
