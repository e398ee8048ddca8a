-- `score`: the questions in their order, then the score. Assumes nothing.
use mathlib.Core.Path.{sym}
use native.Mathlib.Omega.{arith}
use borrow.Author.Tests.{eq-eqb, ne_eqb}
use lib.ListN.{length}
use Rattle.std.proofs.lemmas.Result.{err_from_is_err_and}
use Rattle.rules.specs.Calls.{score_masks}
use Rattle.rules.proofs.Validity.{layer_facts}
use Rattle.scoring.proofs.scores.score.Goals as goal

pub returns-in_err-layer : goal.returns-in_err-layer
unfolding score_masks
returns-in_err-layer c =
    let p = err_from_is_err_and c.from_residual.result c.from_residual.ensures.1 in
    rw (p.1, p.2, ← c.in_err-layer.ensures.answer)

pub returns-then-masks-pieces : goal.returns-then-masks-pieces
unfolding score_masks
returns-then-masks-pieces c = rw (c.at.ensures, ← c.in_ok-layer.ensures.answer, ne_eqb (length c.args.masks.now) (length c.args.pieces.now) (λ e. omega arith))

pub judge_masks-requires : goal.judge_masks-requires
judge_masks-requires c = omega (arith, (layer_facts _ _ (sym c.in_ok-layer.ensures.answer)).few)

pub returns-in_err-judge_masks : goal.returns-in_err-judge_masks
unfolding score_masks
returns-in_err-judge_masks c =
    let p = err_from_is_err_and c.from_residual-in_err-judge_masks.result c.from_residual-in_err-judge_masks.ensures.1 in
    let asked = rw c.if-masks-pieces.false at c.in_err-judge_masks.ensures in
    rw (p.1, p.2, ← c.in_ok-layer.ensures.answer, eq-eqb _ _ c.if-masks-pieces.false, ← asked)

pub returns : goal.returns
unfolding score_masks
returns c =
    let asked = rw c.if-masks-pieces.false at c.in_ok-judge_masks.ensures in
    let same = c.in_ok-layer.ensures.layer in
    rw (c.score_units.ensures, same.0, same.1, ← c.in_ok-layer.ensures.answer, eq-eqb _ _ c.if-masks-pieces.false, ← asked)
