-- The assignments of three masks to five pieces by their numbers, 0 to 242, and what a pair of pieces adds to the conflicts.
use Rattle.std.specs.Prelude.{List, [], ◌∷◌, ℕ, ◌/◌, ◌%◌}
use Rattle.rules.specs.Basics.{given}
use Rattle.rules.specs.Score.{same_mask}
use Rattle.rules.specs.Library.{indexed}

-- the masks in the assignment with this number: its digits to base 3, the lowest first
abbrev pub masks_of : ℕ → List ℕ
masks_of a = a % 3 ∷ a / 3 % 3 ∷ a / 9 % 3 ∷ a / 27 % 3 ∷ a / 81 % 3 ∷ []

-- how many conflicts two pieces have in the graph with this index
abbrev pub conflicts_between : ℕ → List ℕ → ℕ → ℕ → ℕ
conflicts_between index masks u v = given (same_mask masks u v) ((indexed 5 index).conflicts u v)
