-- `seat`: the pieces passed have come in. Assumes nothing.
use Rattle.places.proofs.Seating.{Seating}
use Rattle.places.proofs.seats.Seats.seat.Given as goal

abbrev pub invariant-loop-p : goal.invariant-loop-p
invariant-loop-p l = Seating l.pieces l.k l.p-iterator l.initial.self l.self
