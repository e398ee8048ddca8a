-- A result text that was written. Assumes nothing: these are definitions.
use Rattle.std.specs.Prelude.{List, ◌≡◌, ℕ, length}
use Rattle.rules.specs.Calls.{buffer_after}
use Rattle.rules.specs.Decomposition.{Run}
use Rattle.rules.specs.Questions.{done}
use Rattle.rules.specs.ResultText.{result_text}

-- the answer is the length of a run's text, and the text stands at the buffer's front
pub record Wrote (r : Run) (before : List ℕ) (answer : ℕ) (after : List ℕ) : Type 0 where
  pub size : answer ≡ length (result_text r)
  pub buffer : after ≡ buffer_after (done (result_text r)) before
