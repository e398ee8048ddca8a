-- The members of a bit set, as the rising list in which the rules have vertices. Assumes nothing: these are definitions.
use Rattle.std.specs.Prelude.{List, ℕ}
use Rattle.bitset.specs.Bits.{member}
use Rattle.rules.specs.Basics.{up_to, keep}

unfoldable pub members_of : List ℕ → List ℕ
members_of s = keep (member s) (up_to 512)
