-- The places of pieces, and what is entered for a place: the places of its pieces' neighbours, once for each edge.
-- Assumes nothing: these are definitions.
use Rattle.std.specs.Prelude.{◌||◌, cond, List, [], ◌∷◌, ◌++◌, map, ◌≡◌, ℕ, get_or}
use Rattle.bitset.specs.Bits.{member}
use Rattle.bitset.specs.Edges.{both}
use Rattle.bitset.specs.declared.matrix.Matrix.{Matrix}
use Rattle.rules.specs.Basics.{up_to, keep, occurs}
use Rattle.places.specs.declared.seats.Seats.{Seats}

-- the pieces came in and have place k; all else stays
pub record Seated (pieces : List ℕ) (k : ℕ) (old new : Seats) : Type 0 where
  pub put : (q : ℕ) → member new.there q ≡ (member old.there q || occurs q pieces)
  pub places : (q : ℕ) → get_or new.places q 0 ≡ cond (occurs q pieces) k (get_or old.places q 0)

-- the places of the pieces there that the words join to piece p
unfoldable pub piece_entries : Matrix → Seats → ℕ → List ℕ
piece_entries words seats p = map (λ q. get_or seats.places q 0) (keep (both words p seats.there) (up_to 512))

-- the same for each of several pieces
unfoldable pub place_entries : Matrix → Seats → List ℕ → List ℕ
place_entries words seats [] = []
place_entries words seats (p ∷ ps) = piece_entries words seats p ++ place_entries words seats ps
