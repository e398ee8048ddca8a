-- `judge_overlaps`. The invariant: no piece before j overlaps an earlier one. Assumes nothing.
use Rattle.std.proofs.Common.{◌≡◌}
use Rattle.rules.specs.Questions.{done, ask_each}
use Rattle.layout.proofs.judging.judge_overlaps.Given as goal
use Rattle.layout.proofs.Overlaps.{overlap_question}

abbrev pub invariant-loop-j : goal.invariant-loop-j
invariant-loop-j l = ask_each (overlap_question l.pieces) l.j ≡ done tt
