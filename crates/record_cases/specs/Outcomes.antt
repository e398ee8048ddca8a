-- What a call comes to, as eight numbers: the refusal's number and place; conflicts, stitches and cost; steps, pairs tested, or the length of a text; 1 where the run is best;
-- and 1 where lent memory is not as it must be. What a call does not give is 0. Assumes nothing: these are definitions.
use Rattle.std.specs.Prelude.{not, List, [], ◌∷◌, ℕ, set, Result, Ok, Err}
use Rattle.rules.specs.declared.answers.Verdict.{Verdict}
use Rattle.rules.specs.Answers.{refusal_number}
use Rattle.rules.specs.Basics.{given}
use Rattle.rules.specs.Loader.{place_number}
use Rattle.rules.specs.declared.refusal.Refused.{Refused}
use Rattle.record_cases.specs.declared.outcomes.Done.{Done}
use Rattle.record_cases.specs.declared.outcomes.Outcome.{Outcome}

-- of a verdict
abbrev pub verdict_number : Verdict → ℕ
verdict_number Verdict.Best = 1
verdict_number Verdict.Open = 0

-- of each answer, where lent memory is as it must be
abbrev pub answer_numbers : Result Done Refused → List ℕ
answer_numbers (Ok (Done.Scored s)) = 0 ∷ 0 ∷ s.score.conflicts ∷ s.score.stitches ∷ s.score.cost ∷ s.tested ∷ 0 ∷ 0 ∷ []
answer_numbers (Ok (Done.Decomposed d)) = 0 ∷ 0 ∷ d.score.conflicts ∷ d.score.stitches ∷ d.score.cost ∷ d.steps ∷ verdict_number d.verdict ∷ 0 ∷ []
answer_numbers (Ok (Done.Written size)) = 0 ∷ 0 ∷ 0 ∷ 0 ∷ 0 ∷ size ∷ 0 ∷ 0 ∷ []
answer_numbers (Err r) = refusal_number r.refusal ∷ place_number r.place ∷ 0 ∷ 0 ∷ 0 ∷ 0 ∷ 0 ∷ 0 ∷ []

-- the same, with whether lent memory is as it must be
abbrev pub numbers_of : Outcome → List ℕ
numbers_of o = set (answer_numbers o.answer) 7 (given (not o.kept) 1)
