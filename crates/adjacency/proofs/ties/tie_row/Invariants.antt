-- `tie_row`. The invariant: the ties between j and the pieces before i were added. Assumes nothing.
use Rattle.adjacency.specs.Adjacency.{tie_of, RowTo}
use Rattle.adjacency.proofs.ties.tie_row.Given as goal

abbrev pub invariant-loop-i : goal.invariant-loop-i
invariant-loop-i l = RowTo (tie_of l.settings l.pieces) l.i l.j l.initial.ties l.ties
