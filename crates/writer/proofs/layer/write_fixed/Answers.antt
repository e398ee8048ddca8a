use Rattle.std.proofs.Common.{rules}
use Rattle.writer.proofs.LayerLines.{fixed_begun, fixed_room, fixed_more}
use Rattle.writer.proofs.layer.write_fixed.Goals as goal

pub loop-i-init : goal.loop-i-init
loop-i-init c = fixed_begun _

pub write_fixed_line-requires : goal.write_fixed_line-requires
write_fixed_line-requires c = fixed_room _ _ c.loop-i-test.true c.loop-i.invariant c.requires.room

pub loop-i-preserved : goal.loop-i-preserved
loop-i-preserved c = search (rules, fixed_more c.args.pieces.now c.loop-i.i c.loop-i-test.true c.loop-i.invariant)
