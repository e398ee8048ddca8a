use Rattle.rules.specs.Lines.{ascii}
use Rattle.rules.specs.LayerText.{piece_line, piece_lines}
use Rattle.rules.specs.Settings.{no_piece}
use Rattle.line_writer.proofs.Laid.{laid_none, laid_room, laid_more}
use Rattle.writer.proofs.LayerLines.{piece_laid}
use Rattle.writer.proofs.layer.write_pieces.Goals as goal

pub loop-piece-init : goal.loop-piece-init
loop-piece-init c = laid_none piece_line piece_lines piece_laid _

pub line-requires : goal.line-requires
unfolding ascii
line-requires c = laid_room piece_line piece_lines piece_laid c.args.pieces.now c.loop-piece.piece-index no_piece c.loop-piece-test.true c.loop-piece.invariant c.requires

pub loop-piece-preserved : goal.loop-piece-preserved
unfolding ascii
loop-piece-preserved c = laid_more piece_line piece_lines piece_laid c.args.pieces.now c.loop-piece.piece-index no_piece c.loop-piece-test.true c.loop-piece.invariant c.line.ensures
