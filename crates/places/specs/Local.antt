-- A local problem: the places of a component, each with its earlier neighbours. Assumes nothing: these are definitions.
use Rattle.std.specs.Prelude.{not, List, [], ℕ, ◌+◌, ◌*◌, ◌<◌, eqb, length, get_or}
use Rattle.rules.specs.Basics.{count_of}
use Rattle.rules.specs.Edges.{Graph}

-- the earlier neighbours of a place, one entry for each edge
pub record Neighbours : Type 0 where
  pub conflicts : List ℕ
  pub stitches : List ℕ

abbrev pub no_neighbours : Neighbours
no_neighbours = record { conflicts = []; stitches = [] }

-- the conflict neighbours of place k, and its stitch neighbours
abbrev pub conflicts_at : List Neighbours → ℕ → List ℕ
conflicts_at places k = (get_or places k no_neighbours).conflicts

abbrev pub stitches_at : List Neighbours → ℕ → List ℕ
stitches_at places k = (get_or places k no_neighbours).stitches

-- all of a list are earlier than place k
abbrev pub Earlier : ℕ → List ℕ → Type 0
Earlier k list = (i : ℕ) → i < length list → get_or list i 0 < k

-- how many of a list are places with mask m, and how many are not
abbrev pub on_mask : List ℕ → ℕ → List ℕ → ℕ
on_mask p m list = count_of (λ u. eqb (get_or p u 0) m) list

abbrev pub off_mask : List ℕ → ℕ → List ℕ → ℕ
off_mask p m list = count_of (λ u. not (eqb (get_or p u 0) m)) list

-- the graph of the places: two have as many edges as the later one's list has the earlier one
abbrev pub list_graph : List Neighbours → Graph
list_graph places = record {
  conflicts = λ u v. count_of (eqb u) (conflicts_at places v);
  stitches = λ u v. count_of (eqb u) (stitches_at places v);
}

-- what mask m adds at the next place after p
unfoldable pub local_added : ℕ → List Neighbours → List ℕ → ℕ → ℕ
local_added weight places p m = weight * on_mask p m (conflicts_at places (length p)) + off_mask p m (stitches_at places (length p))
