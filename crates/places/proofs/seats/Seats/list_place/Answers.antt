use native.Mathlib.Omega.{arith}
use mathlib.Core.Path.{refl}
use lib.ListN.{length-append}
use Rattle.adjacency.specs.Members.{members_of}
use Rattle.places.specs.Seats.{piece_entries, place_entries}
use Rattle.places.proofs.Appending.{append_room, append_next, append_all}
use Rattle.places.proofs.seats.Seats.list_place.Goals as goal

pub list_piece-requires-clause-room : goal.list_piece-requires-clause-room
unfolding place_entries
list_piece-requires-clause-room c =
    let a = c.args in
    let l = c.loop-piece in
    let room = append_room (place_entries a.words.now a.self.now) l.list.items l.piece-iterator l.invariant c.in-Some.ensures.steps (piece_entries a.words.now a.self.now c.in-Some.piece) refl in
    omega (arith, room, length-append a.list.now.items (place_entries a.words.now a.self.now (members_of a.pieces.now)), c.requires.room)

pub loop-piece-preserved : goal.loop-piece-preserved
unfolding place_entries
loop-piece-preserved c =
    let a = c.args in
    let l = c.loop-piece in
    rw c.list_piece.ensures
    (append_next (place_entries a.words.now a.self.now) l.list.items l.piece-iterator l.invariant c.in-Some.ensures.steps (piece_entries a.words.now a.self.now c.in-Some.piece) refl)

pub returns : goal.returns
unfolding place_entries
returns c = append_all (place_entries c.args.words.now c.args.self.now) c.loop-piece.list.items c.loop-piece.piece-iterator c.loop-piece.invariant c.in-None.ensures.steps.0 refl
