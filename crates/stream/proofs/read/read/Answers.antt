-- `read`: too many elements, or their pieces judged. Assumes nothing.
use Rattle.std.proofs.Common.{arith, sym, length}
use borrow.Author.Tests.{le-leb}
use Rattle.rules.specs.Stream.{read_stream}
use Rattle.stream.proofs.ReadingLaws.{too_many, judged_same}
use Rattle.stream.proofs.read.read.Goals as goal

pub returns-then-elements-gt-COUNT_GREATEST : goal.returns-then-elements-gt-COUNT_GREATEST
unfolding read_stream
returns-then-elements-gt-COUNT_GREATEST c =
    let held = c.in_ok-elements.ensures in
    let many = too_many c.args.stream.now c.in_ok-elements.elements held c.if-elements-gt-COUNT_GREATEST.true in
    rw (
      c.at-then-elements-gt-COUNT_GREATEST.ensures,
      le-leb (length c.args.settings.now) 32_768 (omega arith),
      le-leb (length c.args.stream.now) 65_536 (omega arith),
      ← c.in_ok-settings.ensures,
      held.read,
      many,
    )

pub returns : goal.returns
unfolding read_stream
returns c =
    let held = c.in_ok-elements.ensures in
    let same = judged_same c.args.stream.now c.in_ok-elements.elements held (omega arith) c.in_ok-settings.settings in
    rw (
      c.judge.ensures,
      le-leb (length c.args.settings.now) 32_768 (omega arith),
      le-leb (length c.args.stream.now) 65_536 (omega arith),
      ← c.in_ok-settings.ensures,
      held.read,
    )
    (sym same)
