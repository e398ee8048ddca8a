-- What scoring a layer text and a text of masks comes to.
use Rattle.std.specs.Prelude.{List, ◌≡◌, ℕ, Result, Ok, Err}
use Rattle.rules.specs.declared.answers.Scoring.{Scoring}
use Rattle.rules.specs.declared.refusal.Refused.{Refused}
use Rattle.rules.specs.Answers.{answer_of}
use Rattle.rules.specs.Calls.{score_masks}
use Rattle.rules.specs.Questions.{Outcome, and_then, read_layer}
use Rattle.rules.specs.ResultText.{mask_lines}
use Rattle.score.specs.declared.texts.Unscored.{Unscored}
use Rattle.score.specs.Masks.{BadLine}

-- the score of masks on the layer that a text states
abbrev pub score_text : List ℕ → List ℕ → Outcome Scoring
score_text layer masks = and_then (read_layer layer) λ l. score_masks l.settings l.pieces masks

-- the second text is the mask lines of the numbers that are scored, of whatever size and however many
pub record ScoreOfNumbers (layer text : List ℕ) (answer : Result Scoring Refused) : Type 0 where
  pub numbers : List ℕ
  pub lines : text ≡ mask_lines numbers
  pub score : answer_of answer ≡ score_text layer numbers

abbrev pub TextsScored : List ℕ → List ℕ → Result Scoring Unscored → Type 0
TextsScored layer text (Ok scoring) = ScoreOfNumbers layer text (Ok scoring)
TextsScored layer text (Err (Unscored.Question refused)) = ScoreOfNumbers layer text (Err refused)
TextsScored layer text (Err (Unscored.Form bad)) = BadLine text bad.line
