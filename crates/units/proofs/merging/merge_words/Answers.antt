use Rattle.std.proofs.Common.{◌≡◌, length, arith}
use Rattle.units.proofs.MergeLaws.{rows_none, rows_next, rows_all}
use Rattle.units.proofs.merging.merge_words.Goals as goal

pub loop-j-init : goal.loop-j-init
loop-j-init c = rows_none _ _ c.clear.ensures

pub loop-j-preserved : goal.loop-j-preserved
loop-j-preserved c = rows_next c.loop-j.invariant c.merge_row.ensures

pub returns : goal.returns
returns c =
    let e : c.loop-j.j ≡ length c.args.units.now = omega arith in
    rows_all (rw e at c.loop-j.invariant)
