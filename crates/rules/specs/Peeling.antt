-- Peeling (RULES 4). `there` is the rising list of the vertices still there. Degrees count neighbours. `fixed` gives the mask that a vertex must have, or `unset`
-- where it may have any (RULES 18).
use Rattle.std.specs.Prelude.{Bool, not, ◌&&◌, ◌||◌, cond, List, [], ◌∷◌, ℕ, zero, suc, eqb, ltb, length}
use Rattle.std.proofs.Math.Option.{none, some}
use Rattle.rules.specs.Basics.{count_of, find, found_or, without}
use Rattle.rules.specs.Settings.{unset}
use Rattle.rules.specs.Edges.{Graph, in_conflict, in_stitch}

abbrev pub conflict_degree : Graph → List ℕ → ℕ → ℕ
conflict_degree g there v = count_of (in_conflict g v) there

abbrev pub stitch_degree : Graph → List ℕ → ℕ → ℕ
stitch_degree g there v = count_of (in_stitch g v) there

-- (A) no stitch edge and fewer conflict edges than masks
abbrev pub low_degree : ℕ → Graph → List ℕ → ℕ → Bool
low_degree K g there v = eqb (stitch_degree g there v) 0 && ltb (conflict_degree g there v) K

-- (B) no conflict edge and one stitch edge
abbrev pub is_pendant : Graph → List ℕ → ℕ → Bool
is_pendant g there v = eqb (conflict_degree g there v) 0 && eqb (stitch_degree g there v) 1

-- whether a vertex must have a given mask
abbrev pub is_fixed : (ℕ → ℕ) → ℕ → Bool
is_fixed fixed v = not (eqb (fixed v) unset)

-- a vertex with a fixed mask never goes
unfoldable pub may_go : ℕ → Graph → (ℕ → ℕ) → List ℕ → ℕ → Bool
may_go K g fixed there v = not (is_fixed fixed v) && (low_degree K g there v || is_pendant g there v)

-- a removed vertex: by (A), or by (B) with its stitch neighbour
pub data Removal : Type 0 where
  low : ℕ → Removal
  pendant : ℕ → ℕ → Removal

abbrev pub removal_of : ℕ → Graph → List ℕ → ℕ → Removal
removal_of K g there v = cond (low_degree K g there v) (low v) (pendant v (found_or v (find (in_stitch g v) there)))

-- the removals in their order, and what is left
pub record Peeled : Type 0 where
  pub removed : List Removal
  pub core : List ℕ

-- In each round the lowest vertex that may go is removed, until none may go.
unfoldable pub peel_for : ℕ → ℕ → Graph → (ℕ → ℕ) → List ℕ → Peeled
peel_for zero K g fixed there = record { removed = []; core = there }
peel_for (suc rounds) K g fixed there = elim (find (may_go K g fixed there) there) [
  | none ↦ record { removed = []; core = there }
  | some v ↦
      let rest = peel_for rounds K g fixed (without v there) in
      record { removed = removal_of K g there v ∷ rest.removed; core = rest.core }
]

-- each round removes one, so as many rounds as vertices are enough
abbrev pub peel : ℕ → Graph → (ℕ → ℕ) → List ℕ → Peeled
peel K g fixed there = peel_for (length there) K g fixed there
