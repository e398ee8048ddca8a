-- `Table::new`: the rows passed are made. Assumes nothing.
use Rattle.rows.proofs.Tables.{TableTo}
use Rattle.rows.proofs.table.Table.new.Given as goal

abbrev pub invariant-loop-mask : goal.invariant-loop-mask
invariant-loop-mask l = TableTo l.weight l.weights l.mask
