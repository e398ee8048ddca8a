-- `decompose_layer`: the questions in their order, then the run. Assumes nothing.
use mathlib.Core.Path.{sym}
use Rattle.std.proofs.lemmas.Result.{err_from_is_err_and}
use Rattle.decomposer.proofs.LayerLaws.{layer_refused, list_refused, run_made}
use Rattle.decomposer.proofs.layer.decompose_layer.Goals as goal

pub returns-in_err-layer : goal.returns-in_err-layer
returns-in_err-layer c =
    let a = c.args in
    let p = err_from_is_err_and c.from_residual.result c.from_residual.ensures.1 in
    let all = layer_refused a.settings a.pieces.now a.masks.now _ _ (sym c.in_err-layer.ensures.answer) in
    rw (p.1, p.2) (record { masks_after = all.0; masks_after_2 = all.1.0; demand3of = all.1.1 })

pub returns-then-masks-pieces : goal.returns-then-masks-pieces
returns-then-masks-pieces c =
    let a = c.args in
    let all = list_refused a.settings a.pieces.now a.masks.now (sym c.in_ok-layer.ensures.answer) c.if-masks-pieces.true in
    rw c.at.ensures (record { masks_after = all.0; masks_after_2 = all.1.0; demand3of = all.1.1 })

pub decompose-requires : goal.decompose-requires
decompose-requires c = rw c.in_ok-layer.ensures.layer.1 c.if-masks-pieces.false

pub returns : goal.returns
returns c =
    let a = c.args in
    let same = c.in_ok-layer.ensures.layer in
    let made = rw (same.0, same.1) at c.decompose.ensures.masks_after in
    let against = rw (same.0, same.1) at c.decompose.ensures.against_larger in
    let all = run_made a.settings a.pieces.now a.masks.now (sym c.in_ok-layer.ensures.answer) c.if-masks-pieces.false made against in
    record { masks_after = all.0; masks_after_2 = all.1.0; demand3of = all.1.1 }
