use native.Mathlib.Omega.{arith}
use mathlib.Core.List.{[], ◌∷◌}
use mathlib.Core.Path.{◌≡◌, sym}
use Prim.Native.Nat.{◌+◌, ◌<◌}
use lib.ListN.{get_or}
use Rattle.rules.specs.Lines.{comma, decimal, comma_list}
use Rattle.line_writer.specs.Writing.{HasRoom}
use Rattle.line_writer.proofs.LineSizes.{comma_first, comma_next, comma_part}
use Rattle.line_writer.proofs.Puts.{wrote_none, wrote_on, room_front, room_left, room_within}
use Rattle.line_writer.proofs.Writer.numbers.Goals as goal
use Rattle.line_writer.proofs.Writer.numbers.Goals.{In-loop-k, then-k-gt0, else-k-gt0}

-- there is room for the first number, and for a comma and a later one
first : (c : In-loop-k) → c.loop-k.k ≡ 0 → HasRoom c.loop-k.self (decimal (get_or c.args.numbers.now c.loop-k.k 0))
first c none =
    let numbers = c.args.numbers.now in
    room_within _ (comma_list numbers) c.loop-k.invariant c.requires (rw (sym (comma_first numbers c.loop-k.k none c.loop-k-test.true)) (comma_part (c.loop-k.k + 1) numbers))

later : (c : In-loop-k) → 0 < c.loop-k.k → HasRoom c.loop-k.self (comma ∷ decimal (get_or c.args.numbers.now c.loop-k.k 0))
later c some =
    let numbers = c.args.numbers.now in
    room_within (comma ∷ decimal (get_or numbers c.loop-k.k 0)) (comma_list numbers) c.loop-k.invariant c.requires
    (rw (sym (comma_next numbers c.loop-k.k some c.loop-k-test.true)) (comma_part (c.loop-k.k + 1) numbers))

pub loop-k-init : goal.loop-k-init
unfolding comma_list
loop-k-init c = wrote_none _

pub byte-requires : goal.byte-requires
byte-requires c = room_front c.loop-k.self (comma ∷ []) _ (later (goal.at.byte-requires c).In-loop-k c.if-k-gt0.true)

pub number-requires : goal.number-requires
number-requires c =
    elim c.if-k-gt0.branch [
      | then-k-gt0 w ↦ rw w.self-is (room_left _ w.byte.ensures (later (goal.at.number-requires c).In-loop-k w.if-k-gt0.true))
      | else-k-gt0 w ↦ rw w.self-is (first (goal.at.number-requires c).In-loop-k (omega arith))
    ]

pub loop-k-preserved : goal.loop-k-preserved
loop-k-preserved c =
    let numbers = c.args.numbers.now in
    let k = c.loop-k.k in
    let h = c.loop-k-test.true in
    elim c.if-k-gt0.branch [
      | then-k-gt0 w ↦ rw (comma_next numbers k w.if-k-gt0.true h) (wrote_on c.loop-k.invariant (wrote_on w.byte.ensures (rw w.self-is at c.number.ensures)))
      | else-k-gt0 w ↦ rw (comma_first numbers k (omega arith) h) (wrote_on c.loop-k.invariant (rw w.self-is at c.number.ensures))
    ]
