-- `number_units`. The invariant: the pieces that were taken out have the numbers of their units. Assumes nothing.
use lib.ListN.{length}
use Rattle.adjacency.specs.Members.{members_of}
use Rattle.units.proofs.NumberLaws.{Numbering}
use Rattle.units.proofs.numbering.number_units.Given as goal

abbrev pub invariant-loop-v : goal.invariant-loop-v
invariant-loop-v l = Numbering l.ties l.initial.rest (length l.initial.units) l.units l.numbers l.rest

abbrev pub decreases-loop-v : goal.decreases-loop-v
decreases-loop-v l = length (members_of l.rest)
