-- `pieces_of_units`: the pieces passed are in their units' sets. Assumes nothing.
use Rattle.places.proofs.Members.{Sorted}
use Rattle.places.proofs.pieces.pieces_of_units.Given as goal

abbrev pub invariant-loop-q : goal.invariant-loop-q
invariant-loop-q l = Sorted l.units l.q l.pieces
