-- `write_pieces`: a line for each piece passed. Assumes nothing.
use lib.ListN.{take}
use Rattle.rules.specs.LayerText.{piece_lines}
use Rattle.line_writer.specs.Writing.{Wrote}
use Rattle.writer.proofs.layer.write_pieces.Given as goal

abbrev pub invariant-loop-piece : goal.invariant-loop-piece
invariant-loop-piece l = Wrote l.initial.out (piece_lines (take l.piece-index l.pieces)) l.out
