-- `write_result`: the verdict, the four counts, the masks. Assumes nothing.
use mathlib.Core.List.{List, ◌++◌}
use mathlib.Core.Path.{sym, ap, ◌∙◌}
use Prim.Native.Nat.{ℕ}
use Rattle.std.proofs.Common.{rules}
use lib.Seq.{take_all}
use Rattle.rules.specs.Answers.{run_of}
use Rattle.rules.specs.Decomposition.{Run}
use Rattle.rules.specs.Lines.{ascii, number_lines}
use Rattle.rules.specs.ResultText.{verdict_line, result_keys, result_numbers, mask_line, mask_lines, result_text}
use Rattle.line_writer.specs.Writing.{HasRoom, Wrote, laid}
use Rattle.line_writer.proofs.Puts.{wrote_on, wrote_as, room_front, room_left, front_room, front_wrote}
use Rattle.line_writer.proofs.Laid.{laid_none, laid_room, laid_more}
use Rattle.result_writer.proofs.ResultLines.{mask_laid}
use Rattle.result_writer.proofs.write_result.Goals as goal
use Rattle.result_writer.proofs.write_result.Goals.{After-new-out, After-bytes, After-number_lines, After-len}

abbrev counts : Run → List ℕ
counts r = number_lines result_keys (result_numbers r)

-- the writer begins at the front of a buffer with room for the whole text
room : (c : After-new-out) → HasRoom c.new-out.result (result_text (run_of c.args.res c.args.masks.now))
room c = front_room c.new-out.result _ c.new-out.ensures.at c.new-out.ensures.buffer c.requires

verdict : (c : After-bytes) → Wrote c.new-out.result (verdict_line c.args.res.verdict) c.bytes.new.self
verdict c = wrote_as c.verdict_line.ensures c.bytes.ensures

-- the table has the lines of the counts
four : (c : After-number_lines) → Wrote c.new-out.result (verdict_line c.args.res.verdict ++ counts (run_of c.args.res c.args.masks.now)) c.number_lines.new.self
unfolding laid ascii number_lines
four c = wrote_on (wrote_as c.verdict_line.ensures c.bytes.ensures) c.number_lines.ensures

pub bytes-requires : goal.bytes-requires
unfolding result_text
bytes-requires c =
    let w = c.new-out.result in
    rw c.verdict_line.ensures (room_front w _ _ (room_front w _ (mask_lines c.args.masks.now) (room (goal.at.bytes-requires c).After-new-out)))

pub number_lines-requires : goal.number_lines-requires
unfolding result_text laid ascii number_lines
number_lines-requires c = room_left _ (verdict (goal.at.number_lines-requires c).After-bytes) (room_front c.new-out.result _ (mask_lines c.args.masks.now) (room (goal.at.number_lines-requires c).After-new-out))

pub loop-mask-init : goal.loop-mask-init
loop-mask-init c = laid_none mask_line mask_lines mask_laid _

pub number_line-requires : goal.number_line-requires
unfolding result_text ascii
number_line-requires c =
    let left = room_left (mask_lines c.args.masks.now) (four (goal.at.number_line-requires c).After-number_lines) (room (goal.at.number_line-requires c).After-new-out) in
    rw c.from.ensures (laid_room mask_line mask_lines mask_laid c.args.masks.now c.loop-mask.mask-index 0 c.loop-mask-test.true c.loop-mask.invariant left)

pub loop-mask-preserved : goal.loop-mask-preserved
unfolding ascii
loop-mask-preserved c =
    laid_more mask_line mask_lines mask_laid c.args.masks.now c.loop-mask.mask-index 0 c.loop-mask-test.true c.loop-mask.invariant (rw c.from.ensures at c.number_line.ensures)

-- the whole text
whole : (c : After-len) → Wrote c.new-out.result (result_text (run_of c.args.res c.args.masks.now)) c.loop-mask.out
unfolding result_text laid ascii number_lines
whole c =
    let masks = c.args.masks.now in
    wrote_on (wrote_on (wrote_as c.verdict_line.ensures c.bytes.ensures) c.number_lines.ensures) (wrote_as (ap mask_lines (take_all c.loop-mask.mask-index masks c.loop-mask-test.false)) c.loop-mask.invariant)

pub returns-clause-length : goal.returns-clause-length
returns-clause-length c =
    c.len.ensures ∙ (front_wrote c.new-out.ensures.at c.new-out.ensures.buffer c.requires (whole (goal.at.returns-clause-length c).After-len)).0

-- the buffer that comes back is the writer's, since the writer kept the reference
pub returns-clause-written : goal.returns-clause-written
returns-clause-written c =
    let wrote = whole (goal.at.returns-clause-written c).After-len in
    search (rules, sym c.new-out.ensures.reference ∙ sym wrote.reference)
    ∙ (front_wrote c.new-out.ensures.at c.new-out.ensures.buffer c.requires wrote).1
