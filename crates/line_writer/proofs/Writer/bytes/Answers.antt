use mathlib.Core.Path.{refl}
use Rattle.line_writer.proofs.Puts.{part_stored}
use Rattle.line_writer.proofs.Writer.bytes.Goals as goal

pub returns : goal.returns
returns c = record {
  reference = refl;
  put = record { end = refl; stored = part_stored c.args.self.now.buffer.now c.args.self.now.at c.args.bytes.now c.requires c.copy_from_slice.ensures.after };
}
