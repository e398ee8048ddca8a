use Rattle.std.proofs.Common.{ap, arith, ◌∙◌}
use Rattle.rules.specs.Answers.{in_records}
use Rattle.piece_lines.proofs.StoredPieces.{in_all}
use Rattle.piece_lines.proofs.records.Pieces.into_records.Goals as goal

pub returns : goal.returns
returns c = in_all _ _ (omega (arith, c.self.invariant.0, c.self.invariant.1)) c.self.invariant.2 ∙ ap in_records c.self.view_is
