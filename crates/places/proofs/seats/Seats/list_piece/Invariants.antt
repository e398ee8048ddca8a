-- `list_piece`: the places of the neighbours that are left are still to be appended. Assumes nothing.
use mathlib.Core.List.{◌++◌, map}
use mathlib.Core.Path.{◌≡◌}
use Prim.Native.Nat.{ℕ}
use lib.ListN.{get_or}
use Rattle.adjacency.specs.Members.{members_of}
use Rattle.places.specs.Seats.{piece_entries}
use Rattle.places.proofs.seats.Seats.list_piece.Given as goal

abbrev pub invariant-loop-q : goal.invariant-loop-q
invariant-loop-q l = l.list.items ++ map (λ (q : ℕ). get_or l.self.places q 0) (members_of l.q-iterator) ≡ l.initial.list.items ++ piece_entries l.words l.self l.p
