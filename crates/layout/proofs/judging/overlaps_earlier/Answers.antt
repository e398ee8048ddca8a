-- `overlaps_earlier`: `any` on the part of the list before piece j. Assumes nothing.
use Rattle.std.proofs.Common.{rules}
use Rattle.rules.specs.Edges.{overlapping}
use Rattle.rules.specs.Settings.{piece_at}
use Rattle.layout.proofs.Overlaps.{any_before}
use Rattle.layout.proofs.judging.overlaps_earlier.Goals as goal

pub returns : goal.returns
returns c =
    let ps = c.args.pieces.now in
    any_before (λ p. overlapping p (piece_at ps c.args.j)) ps c.args.j c.any.result c.requires (search rules)
