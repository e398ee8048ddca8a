-- What a reader of lines answers, by the definitions of the rules. Numbers are read up to the cap.
use Rattle.std.specs.Prelude.{Result, Ok, Err}
use Rattle.rules.specs.declared.refusal.Refused.{Refused}
use Rattle.rules.specs.Answers.{refusal_of}
use Rattle.rules.specs.Lines.{NumbersRead}
use Rattle.rules.specs.Questions.{Outcome, done, and_then}
use Rattle.lines.specs.ReadLines.{capped}

-- what a call came to that answers a value, by what the value says of the text
abbrev pub answer_as : {A B : Type 0} → (A → B) → Result A Refused → Outcome B
answer_as f (Ok a) = done (f a)
answer_as f (Err r) = refusal_of r

-- the line's numbers, up to the cap
abbrev pub capped_line : Outcome NumbersRead → Outcome NumbersRead
capped_line o = and_then o λ l. done (record { numbers = capped l.numbers; rest = l.rest })
