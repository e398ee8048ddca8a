use Rattle.rows.proofs.Tables.{table_none, table_next}
use Rattle.rows.proofs.table.Table.new.Goals as goal

pub loop-mask-init : goal.loop-mask-init
loop-mask-init c = table_none c.args.weight

pub loop-mask-preserved : goal.loop-mask-preserved
loop-mask-preserved c = table_next c.loop-mask-test.true c.loop-mask.invariant
