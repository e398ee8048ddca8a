-- The cost at which the search of a component ends, as a program has it. Assumes nothing: this is a definition.
use Rattle.std.proofs.Math.Option.{none, some}
use Rattle.std.proofs.Math.Option as rules
use Rattle.std.specs.Prelude.{ℕ, Option, Some, None}

-- the cost to end at, where there is one
abbrev pub end_of : rules.Option ℕ → Option ℕ
end_of none = None
end_of (some b) = Some b
