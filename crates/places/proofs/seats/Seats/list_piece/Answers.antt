use native.Mathlib.Omega.{arith}
use mathlib.Core.List.{List, [], ◌∷◌, ◌++◌, map}
use mathlib.Core.Path.{refl, ap}
use Prim.Native.Nat.{ℕ}
use lib.ListN.{get_or, length-append}
use Rattle.places.specs.Seats.{piece_entries}
use Rattle.places.proofs.Appending.{append_room, append_next, append_all}
use Rattle.places.proofs.Counting.{piece_as}
use Rattle.places.proofs.seats.Seats.list_piece.Goals as goal

pub loop-q-init : goal.loop-q-init
loop-q-init c =
    rw (c.into_iter-q-iterator.ensures.into_iter_gives, c.members-q-items.ensures)
    (ap (λ (xs : List ℕ). c.args.list.now.items ++ xs) (piece_as c.args.words.now c.args.self.now c.args.p c.neighbours_in.result c.neighbours_in.ensures))

pub push-requires : goal.push-requires
push-requires c =
    let a = c.args in
    let l = c.loop-q in
    let room = append_room (map (λ (q : ℕ). get_or a.self.now.places q 0)) l.list.items l.q-iterator l.invariant c.in-Some.ensures.steps (get_or a.self.now.places c.in-Some.q 0 ∷ []) refl in
    (omega arith, omega (arith, room, length-append a.list.now.items (piece_entries a.words.now a.self.now a.p), c.requires.room))

pub loop-q-preserved : goal.loop-q-preserved
loop-q-preserved c =
    let a = c.args in
    let l = c.loop-q in
    rw c.push.ensures.items
    (append_next (map (λ (q : ℕ). get_or a.self.now.places q 0)) l.list.items l.q-iterator l.invariant c.in-Some.ensures.steps (get_or a.self.now.places c.in-Some.q 0 ∷ []) refl)

pub returns : goal.returns
returns c = append_all (map (λ (q : ℕ). get_or c.args.self.now.places q 0)) c.loop-q.list.items c.loop-q.q-iterator c.loop-q.invariant c.in-None.ensures.steps.0 refl
