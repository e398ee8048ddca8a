-- What was read and handed back, as an outcome. Assumes nothing: these are definitions.
use Rattle.std.specs.Prelude.{◌≤◌, take, Result, Ok, Err}
use Rattle.rules.specs.declared.answers.LayerRead.{LayerRead}
use Rattle.rules.specs.declared.refusal.Refused.{Refused}
use Rattle.rules.specs.Answers.{refusal_of}
use Rattle.rules.specs.Questions.{Outcome, done, Layer, Valid}

abbrev pub answered : Result (Unit {0}) Refused → Layer → Outcome Layer
answered (Ok u) l = done l
answered (Err r) l = refusal_of r

-- the layer of the first records, or the refusal
abbrev pub outcome_of : LayerRead → Outcome Layer
outcome_of r = answered r.answer (record { settings = r.settings; pieces = take r.count r.pieces })

-- the records have room for the pieces, and the layer is valid
pub record Judged (r : LayerRead) : Type 0 where
  pub few : r.count ≤ 512
  pub valid : Valid r.settings (take r.count r.pieces)
