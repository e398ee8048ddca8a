use native.Mathlib.Omega.{arith}
use mathlib.Core.List.{List, []}
use mathlib.Core.Path.{◌≡◌, ap, ◌∙◌}
use Rattle.std.proofs.lemmas.List.{get_or_default}
use Prim.Native.Nat.{ℕ, ◌+◌, ◌≤◌, ◌<◌}
use lib.ListN.{length, get_or, length-append}
use Rattle.bitset.specs.declared.matrix.Matrix.{Matrix}
use Rattle.rules.specs.Units.{merged_into}
use Rattle.adjacency.specs.Members.{members_of}
use Rattle.adjacency.specs.UnitGraph.{unit_at}
use Rattle.places.specs.Seats.{place_entries}
use Rattle.places.proofs.Members.{unit_members}
use Rattle.places.proofs.LocalCost.{laid_parts, laid_all}
use Rattle.places.proofs.Turns.{Known, turn_room, turn_next}
use Rattle.places.proofs.lists.Lists.lay_out.Goals as goal
use Rattle.places.proofs.lists.Lists.lay_out.Goals.{In-loop-k}

known : (c : In-loop-k) → Known c.args.edges.now.conflicts c.args.edges.now.stitches c.args.of_units.now.units.now c.args.order.now
known c = record {
  few = c.args.of_units.now.few;
  rising = c.requires.by_index_2;
  exclusive = c.requires.exclusive;
}

-- where a place is laid out: there is room for its entries
module _ (turn : In-loop-k) where
  abbrev unit : ℕ
  unit = get_or turn.args.order.now turn.loop-k.k 0

  abbrev pieces : List ℕ
  pieces = merged_into (unit_at turn.args.of_units.now.units.now) (length turn.args.of_units.now.units.now) unit

  -- the set that is read has the pieces of the unit
  found : (v : ℕ) (d : List ℕ) → v ≡ unit → members_of (get_or turn.args.of_units.now.sets.now v d) ≡ pieces
  found v d at =
      let of_units = turn.args.of_units.now in
      let sets = of_units.sets.now in
      let units = of_units.units.now in
      let long : length sets ≡ 512 = of_units.all in
      let small : unit < 512 = turn.requires.by_index turn.loop-k.k (omega arith) in
      ap (λ (x : ℕ). members_of (get_or sets x d)) at
      ∙ ap members_of (get_or_default sets unit d [] (omega arith))
      ∙ unit_members (get_or sets unit []) units (length units) unit of_units.few (λ q. of_units.sorted unit q small)

  abbrev entries_of : Matrix → List ℕ
  entries_of words = place_entries words turn.loop-k.seats pieces

  room : length turn.loop-k.self-inside.entries.items + (length (entries_of turn.args.edges.now.conflicts) + length (entries_of turn.args.edges.now.stitches)) ≤ 131_584
  room = turn_room (known turn) turn.loop-k.invariant (omega arith)

pub list_place-requires : goal.list_place-requires
list_place-requires c =
    let t = (goal.at.list_place-requires c).In-loop-k in
    record { room = rw (found t c.from.result c.index-of_units-from.result c.from.ensures) (omega (arith, room t)) }

pub list_place-requires-in-loop-k : goal.list_place-requires-in-loop-k
list_place-requires-in-loop-k c =
    let t = (goal.at.list_place-requires-in-loop-k c).In-loop-k in
    let e = found t c.from.result c.index-of_units-from.result c.from.ensures in
    record { room = rw e (omega (arith, room t, ap length (rw e at c.list_place.ensures), length-append t.loop-k.self-inside.entries.items (entries_of t t.args.edges.now.conflicts))) }

pub loop-k-preserved : goal.loop-k-preserved
loop-k-preserved c =
    let t = (goal.at.loop-k-preserved c).In-loop-k in
    let e = found t c.from.result c.index-of_units-from.result c.from.ensures in
    turn_next (known t) c.loop-k.invariant (omega arith)
    (rw e at c.list_place.ensures) c.len.ensures.value c.push-in-loop-k.ensures.items
    (rw e at c.list_place-in-loop-k.ensures) c.len-in-loop-k.ensures.value c.push-in-loop-k-2.ensures.items
    (rw e at c.seat.ensures)

-- all are laid out
pub invariant_of-self : goal.invariant_of-self
invariant_of-self c = laid_parts c.loop-k.k c.loop-k.invariant.laid

pub returns : goal.returns
returns c =
    let end : c.loop-k.k ≡ length c.args.order.now = omega arith in
    laid_all (rw end at c.loop-k.invariant.laid)
