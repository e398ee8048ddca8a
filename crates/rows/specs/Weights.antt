-- A table of weights, eight rows of eight numbers: row h has the weight at h and nothing elsewhere, so that a row can be added to the costs of eight masks
-- at once. Assumes nothing: these are definitions.
use Rattle.std.specs.Prelude.{List, [], ◌≡◌, ℕ, ◌≤◌, ◌<◌, eqb, get_or}
use Rattle.rules.specs.Basics.{given}

-- the number at m in row h
abbrev pub weight_at : List (List ℕ) → ℕ → ℕ → ℕ
weight_at rows h m = get_or (get_or rows h []) m 0

-- the weight of a table
abbrev pub weight_of : List (List ℕ) → ℕ
weight_of rows = weight_at rows 0 0

pub record Weights (rows : List (List ℕ)) (weight : ℕ) : Type 0 where
  pub light : weight ≤ 1000
  pub entries : (h m : ℕ) → h < 8 → m < 8 → weight_at rows h m ≡ given (eqb h m) weight
