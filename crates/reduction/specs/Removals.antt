-- What peeling lists: the removed vertices in their order, each with its stitch neighbour where it went by (B).
-- Assumes nothing: these are definitions.
use Rattle.std.specs.Prelude.{true, List, map, ◌≡◌, ℕ, ◌≤◌, ◌<◌, length, Option, None, Some, MatchOption}
use Rattle.std.specs.List.{All}
use Rattle.std.proofs.Math.Option.{none, some}
use Rattle.bitset.specs.Bits.{member}
use Rattle.rules.specs.Basics.{find}
use Rattle.rules.specs.Edges.{Graph}
use Rattle.rules.specs.Peeling as rules
use Rattle.rules.specs.Peeling.{low, pendant, may_go, peel}
use Rattle.adjacency.specs.Members.{members_of}
use Rattle.reduction.specs.declared.peeling.Removal.{Removal}

-- o is the lowest vertex of the set that may go, or None where none may
abbrev pub LowestToGo : ℕ → Graph → (ℕ → ℕ) → List ℕ → Option ℕ → Type 0
LowestToGo K g fixed there o =
    let goes = find (may_go K g fixed (members_of there)) (members_of there) in
    MatchOption o (goes ≡ none) (λ v. goes ≡ some v)

-- the rules' removal of a vertex with this neighbour, or with none
abbrev pub went : ℕ → Option ℕ → rules.Removal
went v None = low v
went v (Some u) = pendant v u

abbrev pub removal_at : Removal → rules.Removal
removal_at r = went r.vertex r.neighbour

abbrev pub removals_of : List Removal → List rules.Removal
removals_of rs = map removal_at rs

-- a removal was in the set: its vertex, and its neighbour if there is one
pub record WasIn (before : List ℕ) (r : Removal) : Type 0 where
  pub small : r.vertex < 512
  pub vertex : member before r.vertex ≡ true
  pub neighbour : (u : ℕ) → r.neighbour ≡ Some u → (u < 512) × (member before u ≡ true)

-- The set `before` was peeled: these were removed, and `after` is left.
pub record PeeledTo (K : ℕ) (g : Graph) (fixed : ℕ → ℕ) (before after : List ℕ) (rs : List Removal) : Type 0 where
  pub removed : removals_of rs ≡ (peel K g fixed (members_of before)).removed
  pub core : members_of after ≡ (peel K g fixed (members_of before)).core
  pub few : length rs ≤ 512
  pub inside : (k : ℕ) → member after k ≡ true → member before k ≡ true
  pub listed : All (WasIn before) rs
