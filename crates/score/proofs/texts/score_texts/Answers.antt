-- `score_texts`: the masks that are stored score as the numbers of the text. Assumes nothing.
use Rattle.std.proofs.lemmas.Result.{err_from_is_err_and}
use Rattle.score.proofs.TextScores.{scored_numbers}
use Rattle.score.proofs.texts.score_texts.Goals as goal

pub returns-in_err-score_layer : goal.returns-in_err-score_layer
returns-in_err-score_layer c =
    let p = err_from_is_err_and c.from_residual-in_err-score_layer.result c.from_residual-in_err-score_layer.ensures.1 in
    rw (p.1, p.2) (scored_numbers _ _ c.deref.result.now _ (rw c.deref.ensures.0 c.in_ok-masks.ensures) c.in_err-score_layer.ensures)

pub returns : goal.returns
returns c = scored_numbers _ _ c.deref.result.now _ (rw c.deref.ensures.0 c.in_ok-masks.ensures) c.in_ok-score_layer.ensures
