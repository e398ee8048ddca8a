use Rattle.std.proofs.Common.{arith, [], ◌∷◌, length, length-append, ap}
use Rattle.std.proofs.lemmas.Result.{err_from_is_err_and}
use Rattle.piece_lines.proofs.PieceLines.{read_on, read_stop, read_end}
use Rattle.piece_lines.proofs.pieces.read_pieces.Goals as goal

pub returns-in_err-read_piece-clause-pieces : goal.returns-in_err-read_piece-clause-pieces
returns-in_err-read_piece-clause-pieces c =
    let p = err_from_is_err_and c.from_residual.result c.from_residual.ensures.1 in
    let one = rw c.loop.invariant.line at c.in_err-read_piece.ensures.piece in
    rw (p.1, p.2) (read_stop _ _ _ _ _ _ c.loop.invariant.read c.loop-test.true _ _ one)

pub loop-preserved : goal.loop-preserved
loop-preserved c =
    let one = rw c.loop.invariant.line at c.in_ok-read_piece.ensures.piece in
    record {
      line = omega (arith, c.in_ok-read_piece.ensures.line);
      many = omega (arith, ap length c.push.ensures, length-append c.loop.pieces (c.in_ok-read_piece.field-0 ∷ []));
      read = rw c.push.ensures (read_on _ _ _ _ _ _ c.loop.invariant.read c.loop-test.true _ _ one);
    }

pub returns-clause-pieces : goal.returns-clause-pieces
returns-clause-pieces c = read_end _ _ _ _ _ _ c.loop.invariant.read c.loop-test.false
