use mathlib.Core.Path.{refl}
use Rattle.places.proofs.Seating.{seating_none, seating_next, seating_all}
use Rattle.places.proofs.seats.Seats.seat.Goals as goal

pub loop-p-init : goal.loop-p-init
loop-p-init c = rw (c.into_iter-p-iterator.ensures.into_iter_gives, c.members-p-items.ensures) (seating_none c.args.pieces.now c.args.k c.args.self.now)

pub loop-p-preserved : goal.loop-p-preserved
loop-p-preserved c = seating_next c.loop-p.invariant _ c.in-Some.ensures.steps c.put.ensures refl

pub returns : goal.returns
returns c = seating_all c.loop-p.invariant c.in-None.ensures.steps.0
