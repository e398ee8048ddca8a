-- `line`: the key, the numbers, byte 10. Assumes nothing.
use Rattle.rules.specs.Lines.{line}
use Rattle.line_writer.proofs.Puts.{wrote_on, room_front, room_left}
use Rattle.line_writer.proofs.Writer.line.Goals as goal

pub bytes-requires : goal.bytes-requires
unfolding line
bytes-requires c = room_front c.args.self.now _ _ (room_front c.args.self.now _ _ c.requires)

pub numbers-requires : goal.numbers-requires
unfolding line
numbers-requires c = room_left _ c.bytes.ensures (room_front c.args.self.now _ _ c.requires)

pub byte-requires : goal.byte-requires
unfolding line
byte-requires c = room_left _ (wrote_on c.bytes.ensures c.numbers.ensures) c.requires

pub returns : goal.returns
unfolding line
returns c = wrote_on (wrote_on c.bytes.ensures c.numbers.ensures) c.byte.ensures
