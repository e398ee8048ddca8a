-- A turn of laying out: the places below k are laid out, their pieces have come in, and there is room for the entries of the others. Assumes nothing.
use mathlib.Core.List.{List, [], ◌∷◌, ◌++◌}
use mathlib.Core.Path.{◌≡◌, subst}
use Prim.Native.Nat.{ℕ, ◌+◌, ◌*◌, ◌≤◌, ◌<◌}
use native.Mathlib.Omega.{arith}
use lib.ListN.{length, get_or, length-append}
use Rattle.bitset.specs.declared.matrix.Matrix.{Matrix}
use Rattle.rules.specs.Search.{local_graph}
use Rattle.rules.specs.Units.{merged_into}
use Rattle.adjacency.specs.Members.{members_of}
use Rattle.adjacency.specs.UnitGraph.{unit_at, unit_graph}
use Rattle.places.specs.declared.seats.Seats.{Seats}
use Rattle.places.specs.Seats.{Seated, place_entries}
use Rattle.places.specs.LaidOut.{Exclusive}
use Rattle.places.proofs.Seating.{Placed, placed_next}
use Rattle.places.proofs.Counting.{place_lists, place_few, pieces_few, pieces_in, room_next, room_left}
use Rattle.places.proofs.Laying.{PartsTo, parts_next}
use Rattle.places.proofs.LocalCost.{EdgePart, conflict_part, stitch_part}

pub record Turn (conflictWords stitchWords : Matrix) (units order starts entries : List ℕ) (k : ℕ) (seats : Seats) : Type 0 where
  pub laid : PartsTo (EdgePart (local_graph (unit_graph conflictWords stitchWords units (length units)) order)) starts entries (2 * k)
  pub placed : Placed units (length units) order k seats
  -- an entry at most for each pair of pieces
  pub room : 2 * length entries + length (members_of seats.there) ≤ length (members_of seats.there) * length (members_of seats.there)

-- what is known of the words and of the order
pub record Known (conflictWords stitchWords : Matrix) (units order : List ℕ) : Type 0 where
  pub few : length units ≤ 512
  pub rising : (i j : ℕ) → i < j → j < length order → get_or order i 0 < get_or order j 0
  pub exclusive : Exclusive conflictWords stitchWords

module _ {conflictWords stitchWords : Matrix} {units order starts entries : List ℕ} {k : ℕ} {seats : Seats}
    (known : Known conflictWords stitchWords units order) (turn : Turn conflictWords stitchWords units order starts entries k seats) (l : k < length order) where
  abbrev pieces : List ℕ
  pieces = merged_into (unit_at units) (length units) (get_or order k 0)

  rising : (i : ℕ) → i < k → get_or order i 0 < get_or order k 0
  rising i h = known.rising i k h l

  -- there is room for the entries of place k
  pub turn_room : length entries + (length (place_entries conflictWords seats pieces) + length (place_entries stitchWords seats pieces)) ≤ 131_584
  turn_room =
      room_left (length entries) (length (members_of seats.there)) (length pieces) _ turn.room (place_few conflictWords stitchWords known.exclusive seats pieces)
      (pieces_few known.few turn.placed rising)

  -- place k is laid out
  pub turn_next : {entries₁ starts₁ entries₂ starts₂ : List ℕ} {end₁ end₂ : ℕ} {seats' : Seats}
      → entries₁ ≡ entries ++ place_entries conflictWords seats pieces → end₁ ≡ length entries₁ → starts₁ ≡ starts ++ (end₁ ∷ [])
      → entries₂ ≡ entries₁ ++ place_entries stitchWords seats pieces → end₂ ≡ length entries₂ → starts₂ ≡ starts₁ ++ (end₂ ∷ [])
      → Seated pieces k seats seats' → Turn conflictWords stitchWords units order starts₂ entries₂ (k + 1) seats'
  turn_next {entries₁} {starts₁} {entries₂} {starts₂} {seats' = seats'} more₁ end₁ mark₁ more₂ end₂ mark₂ new =
      let g = local_graph (unit_graph conflictWords stitchWords units (length units)) order in
      let conflicts = place_entries conflictWords seats pieces in
      let stitches = place_entries stitchWords seats pieces in
      let one = parts_next turn.laid conflicts more₁ end₁ mark₁ (conflict_part (place_lists known.few turn.placed rising conflictWords)) in
      let two = parts_next one stitches more₂ end₂ mark₂ (stitch_part (place_lists known.few turn.placed rising stitchWords)) in
      let size : length (members_of seats'.there) ≡ length (members_of seats.there) + length pieces = pieces_in known.few turn.placed rising seats'.there new.put in
      let long : length entries₂ ≡ length entries + (length conflicts + length stitches)
      = rw (more₂, more₁) (omega (arith, length-append (entries ++ conflicts) stitches, length-append entries conflicts)) in
      let at : 2 * k + 1 + 1 ≡ 2 * (k + 1) = omega arith in
      record {
        laid = subst (PartsTo (EdgePart g) starts₂ entries₂) at two;
        placed = placed_next turn.placed rising new;
        room = rw (size, long)
            (room_next (length entries) (length (members_of seats.there)) (length pieces) (length conflicts + length stitches) turn.room
            (place_few conflictWords stitchWords known.exclusive seats pieces));
      }
