use Rattle.std.proofs.Common.{◌<◌, ap, length, arith, length-set}
use lib.Seq.{length-take-le}
use Rattle.piece_lines.proofs.StoredPieces.{zero_on}
use Rattle.piece_lines.proofs.records.Pieces.push.Goals as goal

pub invariant_of-self : goal.invariant_of-self
invariant_of-self c =
    let room : c.self.inside.count < 512
    = omega (arith, c.requires, ap length c.self.view_is, length-take-le c.self.inside.count c.self.inside.records (omega arith)) in
    (omega arith, omega (arith, length-set c.self.inside.records c.self.inside.count c.args.piece), zero_on _ _ _ room c.self.invariant.2)
