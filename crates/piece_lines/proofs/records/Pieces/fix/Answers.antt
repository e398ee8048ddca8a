use Rattle.std.proofs.Common.{ap, ◌∙◌}
use Rattle.rules.specs.Questions.{fix_at}
use Rattle.piece_lines.proofs.StoredPieces.{fixed_in}
use Rattle.piece_lines.proofs.records.Pieces.fix.Goals as goal

pub returns : goal.returns
returns c = fixed_in _ _ _ _ c.if-prove.false ∙ ap (fix_at c.args.i c.args.mask) c.self.view_is
