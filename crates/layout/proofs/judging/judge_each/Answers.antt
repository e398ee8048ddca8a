use Rattle.std.proofs.Common.{sym}
use native.Mathlib.Omega.{arith}
use Rattle.std.proofs.lemmas.Result.{err_from_is_err_and}
use Rattle.rules.proofs.Outcomes.{each_refused}
use Rattle.layout.proofs.judging.judge_each.Goals as goal

pub returns-in_err-judge_record : goal.returns-in_err-judge_record
returns-in_err-judge_record c =
    let p = err_from_is_err_and c.from_residual.result c.from_residual.ensures.1 in
    rw (p.1, p.2) (sym (each_refused _ _ {i = c.loop-i.i} (omega arith) c.loop-i.invariant (sym c.in_err-judge_record.ensures)))
