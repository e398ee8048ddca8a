use Rattle.std.proofs.Common.{sym, ap, length, arith, ◌∙◌}
use lib.Seq.{length-take-le}
use Rattle.piece_lines.proofs.records.Pieces.len.Goals as goal

pub returns-clause-value : goal.returns-clause-value
returns-clause-value c = sym (length-take-le _ _ (omega (arith, c.self.invariant.0, c.self.invariant.1))) ∙ ap length c.self.view_is
