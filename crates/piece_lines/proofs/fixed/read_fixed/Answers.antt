-- `read_fixed`: the form, the order, then the ranges of the piece and of the mask; numbers up to the cap decide as the numbers themselves. Assumes nothing.
use Rattle.std.proofs.Common.{◌≤◌, inl, inr, length, arith}
use Rattle.std.proofs.lemmas.Result.{err_from_is_err_and}
use Rattle.rules.specs.Lines.{ascii}
use Rattle.numerals.specs.Numerals.{cap}
use Rattle.piece_lines.proofs.FixedReading.{fixed_form, fixed_back, fixed_out, fixed_good}
use Rattle.piece_lines.proofs.fixed.read_fixed.Goals as goal
use Rattle.piece_lines.proofs.fixed.read_fixed.Goals.{then-len-piece-via-then-len-piece, then-len-piece-via-else-len-piece+then-masks-mask}

pub returns-in_err-piece-clause-fixed : goal.returns-in_err-piece-clause-fixed
unfolding ascii
returns-in_err-piece-clause-fixed c =
    let p = err_from_is_err_and c.from_residual.result c.from_residual.ensures.1 in
    rw (p.1, p.2) (fixed_form _ _ _ _ _ _ _ c.in_err-piece.ensures.read)

pub returns-then-piece-least-clause-fixed : goal.returns-then-piece-least-clause-fixed
unfolding ascii
returns-then-piece-least-clause-fixed c =
    rw (c.at.ensures, c.place-place.ensures) (fixed_back _ _ _ _ _ (omega arith) _ _ c.in_ok-piece.ensures.read c.if-piece-least.true)

pub returns-then-len-piece-clause-fixed : goal.returns-then-len-piece-clause-fixed
unfolding ascii
returns-then-len-piece-clause-fixed c =
    let few : length c.args.pieces.now ≤ cap = omega (arith, c.len.ensures.few, c.len.ensures.value) in
    rw (c.at-then-len-piece.ensures, c.place-place.ensures)
    (fixed_out _ _ _ _ _ (omega arith) _ _ c.in_ok-piece.ensures.read c.if-piece-least.false few (omega arith)
    (elim c.then-len-piece.branch [
      | then-len-piece-via-then-len-piece w ↦ inl (rw c.len.ensures.value at w.if-len-piece.true)
      | then-len-piece-via-else-len-piece+then-masks-mask w ↦ inr w.if-masks-mask.true
    ]))

pub returns-clause-fixed : goal.returns-clause-fixed
unfolding ascii
returns-clause-fixed c =
    let few : length c.args.pieces.now ≤ cap = omega (arith, c.len.ensures.few, c.len.ensures.value) in
    fixed_good _ _ _ _ _ (omega arith) _ _ c.in_ok-piece.ensures.read c.if-piece-least.false few (omega arith) (rw c.len.ensures.value at c.if-len-piece.false) c.if-masks-mask.false
