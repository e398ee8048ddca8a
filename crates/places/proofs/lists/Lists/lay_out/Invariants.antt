-- `lay_out`: the places passed are laid out. Assumes nothing.
use Rattle.places.proofs.Turns.{Turn}
use Rattle.places.proofs.lists.Lists.lay_out.Given as goal

abbrev pub invariant-loop-k : goal.invariant-loop-k
invariant-loop-k l = Turn l.edges.conflicts l.edges.stitches l.of_units.units.now l.order l.self-inside.starts.items l.self-inside.entries.items l.k l.seats
