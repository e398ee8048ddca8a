-- `count_edges`. The invariant: the count, and what the members still to come count for, are together the row. Assumes nothing.
use Rattle.counting.proofs.RowLaws.{Counting}
use Rattle.counting.proofs.count_edges.Given as goal

abbrev pub invariant-loop-i : goal.invariant-loop-i
invariant-loop-i l = Counting l.edge l.words l.masks l.j l.i-iterator l.count
