-- What putting back asks and gives: the masks in use next to a vertex, a bit to a mask, and the mask that a vertex returns with.
-- Assumes nothing: these are definitions.
use Rattle.std.specs.Prelude.{Bool, true, ◌&&◌, List, ◌≡◌, ℕ, ◌<◌, eqb, length, get_or, Option, None, Some}
use Rattle.std.specs.List.{All}
use Rattle.bitset.specs.Bits.{bit, member}
use Rattle.bitset.specs.Edges.{has_edge}
use Rattle.bitset.specs.declared.matrix.Matrix.{Matrix}
use Rattle.rules.specs.Basics.{any_of}
use Rattle.rules.specs.Edges.{Graph}
use Rattle.rules.specs.Score.{mask_of}
use Rattle.rules.specs.Decomposition.{free_mask, put_back_all}
use Rattle.adjacency.specs.Adjacency.{word_graph}
use Rattle.adjacency.specs.Members.{members_of}
use Rattle.reduction.specs.declared.peeling.Removal.{Removal}
use Rattle.reduction.specs.Removals.{removals_of}

-- whether u is joined to v and has mask m
abbrev pub takes : Matrix → List ℕ → ℕ → ℕ → ℕ → Bool
takes words masks v m u = has_edge words v u && eqb (mask_of masks u) m

-- bit m of x is set exactly where a member joined to v has mask m
pub record InUse (words : Matrix) (there masks : List ℕ) (v x : ℕ) : Type 0 where
  pub bits : (m : ℕ) → bit x m ≡ any_of (takes words masks v m) (members_of there)

-- the mask that a removal's vertex returns with: its neighbour's, or else the lowest free one
abbrev pub mask_back : ℕ → Graph → List ℕ → List ℕ → ℕ → Option ℕ → ℕ
mask_back K g there masks v None = free_mask K g (record { there = there; masks = masks }) v
mask_back K g there masks v (Some u) = mask_of masks u

-- A vertex returns with mask m. Stitch edges play no part in it.
pub record ReturnsWith (K : ℕ) (words : Matrix) (there masks : List ℕ) (r : Removal) (m : ℕ) : Type 0 where
  pub mask : (stitches : Matrix) → m ≡ mask_back K (word_graph words stitches) (members_of there) masks r.vertex r.neighbour
  pub small : m < 8

-- every member has a place among the masks, and every mask is below 8
pub record Masked (there masks : List ℕ) : Type 0 where
  pub placed : (u : ℕ) → u < 512 → member there u ≡ true → u < length masks
  pub low : (i : ℕ) → get_or masks i 0 < 8

-- a removal has places among the masks: its vertex, and its neighbour if there is one
pub record HasPlace (masks : List ℕ) (r : Removal) : Type 0 where
  pub small : r.vertex < 512
  pub vertex : r.vertex < length masks
  pub neighbour : (u : ℕ) → r.neighbour ≡ Some u → u < length masks

abbrev pub Placeable : List Removal → List ℕ → Type 0
Placeable rs masks = All (HasPlace masks) rs

-- The removals returned to the members of `there`, with `before` as the masks. Stitch edges play no part in it, and the masks stay fit for a later call.
pub record PutBack (K : ℕ) (words : Matrix) (rs : List Removal) (there before after : List ℕ) : Type 0 where
  pub masks : (stitches : Matrix)
      → after ≡ (put_back_all K (word_graph words stitches) (removals_of rs) (record { there = members_of there; masks = before })).masks
  pub size : length after ≡ length before
  pub low : (i : ℕ) → get_or after i 0 < 8
