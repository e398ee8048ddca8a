-- `write_text`: the six lines, the pieces, then the lines that fix masks. Assumes nothing.
use mathlib.Core.Path.{sym, ◌∙◌}
use Prim.Native.Nat.{◌≤◌}
use lib.ListN.{length}
use Rattle.std.proofs.Common.{rules}
use Rattle.rules.specs.LayerText.{layer_text}
use Rattle.line_writer.specs.Writing.{HasRoom, Wrote}
use Rattle.line_writer.proofs.Puts.{wrote_on, room_front, room_left, front_room, front_wrote}
use Rattle.text_theory.proofs.LayerSizes.{layer_room}
use Rattle.writer.proofs.layer.write_text.Goals as goal
use Rattle.writer.proofs.layer.write_text.Goals.{Start, After-new-out, After-write_fixed}

fits : (c : Start) → length (layer_text c.args.layer.now.settings c.args.layer.now.pieces.now) ≤ length c.args.buffer.now
fits c = layer_room _ _ c.args.layer.now.valid c.requires

room : (c : After-new-out) → HasRoom c.new-out.result (layer_text c.args.layer.now.settings c.args.layer.now.pieces.now)
room c = front_room c.new-out.result _ c.new-out.ensures.at c.new-out.ensures.buffer (layer_room _ _ c.args.layer.now.valid c.requires)

whole : (c : After-write_fixed) → Wrote c.new-out.result (layer_text c.args.layer.now.settings c.args.layer.now.pieces.now) c.write_fixed.new.out
unfolding layer_text
whole c = wrote_on (wrote_on c.write_header.ensures c.write_pieces.ensures) c.write_fixed.ensures

pub write_header-requires : goal.write_header-requires
unfolding layer_text
write_header-requires c =
    let w = c.new-out.result in
    room_front w _ _ (room_front w _ _ (room (goal.at.write_header-requires c).After-new-out))

pub write_pieces-requires : goal.write_pieces-requires
unfolding layer_text
write_pieces-requires c = room_left _ c.write_header.ensures (room_front c.new-out.result _ _ (room (goal.at.write_pieces-requires c).After-new-out))

pub write_fixed-requires-clause-room : goal.write_fixed-requires-clause-room
unfolding layer_text
write_fixed-requires-clause-room c = room_left _ (wrote_on c.write_header.ensures c.write_pieces.ensures) (room (goal.at.write_fixed-requires-clause-room c).After-new-out)

pub returns-clause-length : goal.returns-clause-length
returns-clause-length c =
    c.len.ensures
    ∙ (front_wrote c.new-out.ensures.at c.new-out.ensures.buffer (fits (goal.at.returns-clause-length c).Start) (whole (goal.at.returns-clause-length c).After-write_fixed)).0

-- the buffer that comes back is the writer's, since the writer kept the reference
pub returns-clause-written : goal.returns-clause-written
returns-clause-written c =
    let wrote = whole (goal.at.returns-clause-written c).After-write_fixed in
    search (rules, sym c.new-out.ensures.reference ∙ sym wrote.reference)
    ∙ (front_wrote c.new-out.ensures.at c.new-out.ensures.buffer (fits (goal.at.returns-clause-written c).Start) wrote).1
