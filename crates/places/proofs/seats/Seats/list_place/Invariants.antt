-- `list_place`: the neighbours of the pieces that are left are still to be appended. Assumes nothing.
use mathlib.Core.List.{◌++◌}
use mathlib.Core.Path.{◌≡◌}
use Rattle.adjacency.specs.Members.{members_of}
use Rattle.places.specs.Seats.{place_entries}
use Rattle.places.proofs.seats.Seats.list_place.Given as goal

abbrev pub invariant-loop-piece : goal.invariant-loop-piece
invariant-loop-piece l =
    l.list.items ++ place_entries l.words l.self (members_of l.piece-iterator) ≡ l.initial.list.items ++ place_entries l.words l.self (members_of l.pieces)
