-- Peeling and putting back together: what peeling lists can be put back where its vertices have places among the masks, and then the masks are those
-- of the rules with all removed vertices back. Assumes nothing.
use mathlib.Core.Bool.{true}
use mathlib.Core.List.{List}
use mathlib.Core.Path.{◌≡◌}
use Prim.Native.Nat.{ℕ, ◌<◌}
use lib.ListN.{length, get_or}
use Rattle.bitset.specs.Bits.{member}
use Rattle.bitset.specs.declared.matrix.Matrix.{Matrix}
use Rattle.rules.specs.Edges.{Graph}
use Rattle.rules.specs.Peeling.{peel}
use Rattle.rules.specs.Decomposition.{with_returned}
use Rattle.adjacency.specs.Adjacency.{word_graph}
use Rattle.adjacency.specs.Members.{members_of}
use Rattle.std.proofs.lemmas.List.Elements.{All-weaker}
use Rattle.reduction.specs.declared.peeling.Removal.{Removal}
use Rattle.reduction.specs.Removals.{WasIn, PeeledTo}
use Rattle.reduction.specs.Returning.{Masked, HasPlace, Placeable, PutBack}

module _ {K : ℕ} {g : Graph} {fixed : ℕ → ℕ} {before after : List ℕ} {rs : List Removal} (peeled : PeeledTo K g fixed before after rs)
    {masks : List ℕ} (placed : (u : ℕ) → u < 512 → member before u ≡ true → u < length masks) where
  placed_one : (r : Removal) → WasIn before r → HasPlace masks r
  placed_one r was = record {
    small = was.small;
    vertex = placed r.vertex was.small was.vertex;
    neighbour = λ u e. let n = was.neighbour u e in placed u n.0 n.1;
  }

  pub peeled_placeable : Placeable rs masks
  peeled_placeable = All-weaker (WasIn before) (HasPlace masks) placed_one rs peeled.listed

  pub peeled_masked : ((i : ℕ) → get_or masks i 0 < 8) → Masked after masks
  peeled_masked low = record { placed = λ u l e. placed u l (peeled.inside u e); low = low }

pub put_back_all : (stitches : Matrix) {K : ℕ} {fixed : ℕ → ℕ} {words : Matrix} {before after masks result : List ℕ} {rs : List Removal}
    → PeeledTo K (word_graph words stitches) fixed before after rs → PutBack K words rs after masks result
    → result ≡ with_returned K (word_graph words stitches) (peel K (word_graph words stitches) fixed (members_of before)) masks
put_back_all stitches peeled back = rw (← peeled.removed, ← peeled.core) (back.masks stitches)
