-- `judge_each`. The invariant: all pieces before i pass. Assumes nothing.
use Rattle.std.proofs.Common.{◌≡◌}
use Rattle.rules.specs.declared.refusal.Place.{Place}
use Rattle.rules.specs.Questions.{done, ask_each, judge_record}
use Rattle.rules.specs.Settings.{piece_at}
use Rattle.layout.proofs.judging.judge_each.Given as goal

abbrev pub invariant-loop-i : goal.invariant-loop-i
invariant-loop-i l = ask_each (λ i. judge_record l.masks (Place.Piece i) (piece_at l.pieces i)) l.i ≡ done tt
