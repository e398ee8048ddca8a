-- `pass`: the records that are left come to what all of them come to, and each that was passed has a byte at least.
use Rattle.std.proofs.Common.{◌≡◌, ◌+◌, ◌≤◌, map, length, drop}
use Rattle.rules.specs.Stream.{pass_records}
use Rattle.gds_records.specs.Kinds.{due_of}
use Rattle.gds_records.proofs.reader.Records.pass.Given as goal

abbrev pub invariant-loop-kind : goal.invariant-loop-kind
invariant-loop-kind l = record {
  read : pass_records (map due_of l.kinds) l.initial.self.number l.initial.self.rest.now ≡ pass_records (map due_of (drop l.kind-index l.kinds)) l.self.number l.self.rest.now;
  some : l.kind-index + length l.self.rest.now ≤ length l.initial.self.rest.now;
  number : l.self.number ≡ l.initial.self.number + l.kind-index;
}
