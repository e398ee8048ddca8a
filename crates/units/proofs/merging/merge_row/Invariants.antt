-- `merge_row`. The invariant: the edges to the neighbours that were met are merged. Assumes nothing.
use Rattle.units.proofs.MergeLaws.{MergingRow}
use Rattle.units.proofs.merging.merge_row.Given as goal

abbrev pub invariant-loop-i : goal.invariant-loop-i
invariant-loop-i l = MergingRow l.words l.units l.j l.initial.merged l.merged l.i-iterator
