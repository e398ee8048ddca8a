-- `read_pieces`: the pieces read and the lines from here on are all lines. Assumes nothing.
use Rattle.std.proofs.Common.{◌≡◌, ◌+◌, length}
use Rattle.piece_lines.proofs.PieceLines.{Read}
use Rattle.piece_lines.proofs.pieces.read_pieces.Given as goal

abbrev pub invariant-loop : goal.invariant-loop
invariant-loop l =
    record {
      line : l.reader.line ≡ l.initial.reader.line + l.counter;
      many : length l.pieces ≡ l.counter;
      read : Read l.initial.reader.line l.initial.reader.rest.now l.count l.pieces l.reader.rest.now l.counter;
    }
