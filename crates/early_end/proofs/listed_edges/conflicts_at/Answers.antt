use mathlib.Core.List.{List}
use mathlib.Core.Path.{ap, ◌∙◌}
use Prim.Native.Nat.{ℕ}
use lib.Dec.{eqb}
use Rattle.rules.specs.Basics.{count_of}
use Rattle.early_end.proofs.listed_edges.conflicts_at.Goals as goal

pub returns : goal.returns
returns c = c.times_in.ensures ∙ ap (λ (xs : List ℕ). count_of (eqb c.args.u) xs) c.conflicts_of.ensures.value
