-- The neighbours of all places in one list of entries, which is in parts: for each place those in conflict, and then those by stitch.
-- Assumes nothing: these are definitions.
use Rattle.std.specs.Prelude.{List, map, ◌≡◌, ℕ, ◌+◌, ◌*◌, ◌/◌, ◌≤◌, ◌<◌, length, get_or, slice_range}
use Rattle.rules.specs.Basics.{up_to}
use Rattle.places.specs.Local.{Neighbours, Earlier}

-- part i, from its start up to that of the next
abbrev pub part_at : List ℕ → List ℕ → ℕ → List ℕ
part_at starts entries i = slice_range entries (get_or starts i 0) (get_or starts (i + 1) 0)

-- the neighbours of place k
abbrev pub place_at : List ℕ → List ℕ → ℕ → Neighbours
place_at starts entries k = record { conflicts = part_at starts entries (2 * k); stitches = part_at starts entries (2 * k + 1) }

-- there are two parts for each place, and a start past the last part
unfoldable pub places_of : List ℕ → List ℕ → List Neighbours
places_of starts entries = map (place_at starts entries) (up_to (length starts / 2))

-- the parts lie one after the other in the entries, and hold earlier places only
pub record Parts (starts entries : List ℕ) : Type 0 where
  pub pairs : length starts ≡ 2 * (length starts / 2) + 1
  pub rising : (i : ℕ) → i + 1 < length starts → get_or starts i 0 ≤ get_or starts (i + 1) 0
  pub within : (i : ℕ) → i < length starts → get_or starts i 0 ≤ length entries
  pub earlier : (i : ℕ) → i + 1 < length starts → Earlier (i / 2) (part_at starts entries i)
