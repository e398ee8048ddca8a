-- An answer as one number, for callers in C. Assumes nothing: this is a definition.
use Rattle.std.specs.Prelude.{ℕ, ◌+◌, ◌*◌}
use Rattle.rules.specs.Loader.{place_number}
use Rattle.rules.specs.Questions.{Outcome, done, refused}

abbrev pub as_number : Outcome ℕ → ℕ
as_number (done n) = n
as_number (refused number place) = 10_000 * number + place_number place
