use lib.ListN.{length-replicate}
use Rattle.lines.proofs.NumberParts.{read_start, read_on}
use Rattle.lines.proofs.read.read_numbers.Goals as goal

pub loop-k-init : goal.loop-k-init
loop-k-init g c = read_start _ _ _ _ c.requires (length-replicate g.row.N 0) c.in_ok-numeral.ensures

pub loop-k-preserved : goal.loop-k-preserved
loop-k-preserved g c = read_on _ _ c.loop-k.invariant _ c.loop-k-test.true c.in_ok-numeral-2.ensures
