-- `judge_masks`. The invariant: all masks before i pass. Assumes nothing.
use mathlib.Core.Path.{◌≡◌}
use Rattle.rules.specs.Questions.{done, ask_each}
use Rattle.scoring.specs.MaskQuestions.{mask_question}
use Rattle.scoring.proofs.scores.judge_masks.Given as goal

abbrev pub invariant-loop-i : goal.invariant-loop-i
invariant-loop-i l = ask_each (mask_question l.limit l.masks) l.i ≡ done tt
