-- `first_assignment`: the places passed are filled. Assumes nothing.
use lib.ListN.{length}
use Rattle.adjacency.specs.UnitGraph.{fixed_at}
use Rattle.first_assignment.proofs.Firsts.{Filled}
use Rattle.first_assignment.proofs.first.first_assignment.Given as goal

abbrev pub invariant-loop-k : goal.invariant-loop-k
invariant-loop-k l = Filled l.masks l.table l.local.lists.now (fixed_at l.local.fixed.now) (length l.local.fixed.now) l.partial l.cost l.k
