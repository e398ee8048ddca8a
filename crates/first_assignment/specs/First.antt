-- The fixed masks of places, and what the first assignment leaves, on a local problem. Assumes nothing: these are definitions.
use Rattle.std.specs.Prelude.{true, List, [], ◌≡◌, ℕ, ◌<◌, length}
use Rattle.rules.specs.Peeling.{is_fixed}
use Rattle.rules.specs.Search.{first_after, first_mask, total}
use Rattle.places.specs.Local.{Neighbours, local_added}

-- each fixed mask of the places below n is one of the K masks
abbrev pub FixedLow : (ℕ → ℕ) → ℕ → ℕ → Type 0
FixedLow fixed n K = (i : ℕ) → i < n → is_fixed fixed i ≡ true → fixed i < K

-- the n places have the masks of the rules' first assignment, which costs c
pub record FirstOf (K weight : ℕ) (places : List Neighbours) (fixed : ℕ → ℕ) (n : ℕ) (partial : List ℕ) (c : ℕ) : Type 0 where
  pub masks : partial ≡ first_after (first_mask (local_added weight places) K fixed) n []
  pub cost : c ≡ total (local_added weight places) partial
  pub size : length partial ≡ n
