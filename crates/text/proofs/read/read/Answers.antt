-- `read`: the number of pieces and the number of masks are in their ranges. Assumes nothing.
use Rattle.std.proofs.Common.{sym, arith}
use Rattle.rules.proofs.Reading.{header_few}
use Rattle.text_theory.proofs.WrittenLayers.{header_masks}
use Rattle.text.proofs.read.read.Goals as goal

pub read_pieces-requires-clause-few : goal.read_pieces-requires-clause-few
read_pieces-requires-clause-few c = header_few _ _ (sym c.in_ok-header.ensures.header)

pub read_pieces-requires-clause-room : goal.read_pieces-requires-clause-room
read_pieces-requires-clause-room c = omega (arith, c.in_ok-header.ensures.line, header_few _ _ (sym c.in_ok-header.ensures.header))

pub read_all_fixed-requires-clause-masks : goal.read_all_fixed-requires-clause-masks
read_all_fixed-requires-clause-masks c = header_masks _ _ (sym c.in_ok-header.ensures.header)
