-- `merge_words`. The invariant: the rows before j are merged. Assumes nothing.
use Rattle.units.proofs.MergeLaws.{MergedRows}
use Rattle.units.proofs.merging.merge_words.Given as goal

abbrev pub invariant-loop-j : goal.invariant-loop-j
invariant-loop-j l = MergedRows l.words l.units l.j l.merged
