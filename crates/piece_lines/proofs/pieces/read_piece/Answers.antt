-- `read_piece`: the form, then the judgement of the piece; the numbers up to the cap decide as the numbers themselves. Assumes nothing.
use Rattle.std.proofs.lemmas.Result.{err_from_is_err_and}
use Rattle.rules.specs.Lines.{ascii}
use Rattle.piece_lines.proofs.PieceLines.{piece_form, piece_refused, piece_good}
use Rattle.piece_lines.proofs.pieces.read_piece.Goals as goal

pub returns-in_err-next_line-clause-piece : goal.returns-in_err-next_line-clause-piece
unfolding ascii
returns-in_err-next_line-clause-piece c =
    let p = err_from_is_err_and c.from_residual.result c.from_residual.ensures.1 in
    rw (p.1, p.2) (piece_form _ _ _ _ c.in_err-next_line.ensures.read)

pub returns-in_err-judge_piece-clause-piece : goal.returns-in_err-judge_piece-clause-piece
unfolding ascii
returns-in_err-judge_piece-clause-piece c =
    let p = err_from_is_err_and c.from_residual-in_err-judge_piece.result c.from_residual-in_err-judge_piece.ensures.1 in
    let judged = rw (c.place-place.ensures, c.from-piece.ensures) at c.in_err-judge_piece.ensures in
    rw (p.1, p.2) (piece_refused _ _ _ _ c.in_ok-next_line.ensures.read _ _ judged)

pub returns-clause-piece : goal.returns-clause-piece
unfolding ascii
returns-clause-piece c =
    let judged = rw (c.place-place.ensures, c.from-piece.ensures) at c.in_ok-judge_piece.ensures in
    rw c.from-piece.ensures (piece_good _ _ _ _ c.in_ok-next_line.ensures.read judged)
