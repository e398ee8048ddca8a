-- `piece_from`: a coordinate without its sign is its four bytes. Assumes nothing.
use Rattle.gds_data.proofs.RectangleLaws.{between}
use Rattle.gds_data.proofs.rectangle.piece_from.Goals as goal

pub returns : goal.returns
returns c =
    rw (c.from.ensures, c.min.ensures, c.min-2.ensures, c.max.ensures, c.max-2.ensures)
    (between c.args.bytes.now c.type_inv.bytes c.args.shape c.point_at-a.result c.point_at-c.result c.point_at-a.ensures c.point_at-c.ensures)
