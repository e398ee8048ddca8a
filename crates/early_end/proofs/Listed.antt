-- Whether the library lists the edges of a place: it does not where the place has a stitch neighbour (`stitched`), and else it is a matter of conflict
-- edges alone (`unstitched`). Assumes nothing.
use mathlib.Core.Bool.{true}
use mathlib.Core.List.{List}
use mathlib.Core.Path.{◌≡◌, refl}
use Prim.Native.Nat.{ℕ, ◌<◌}
use native.Mathlib.Omega.{arith}
use lib.Dec.{eqb, ltb}
use lib.ListN.{length, get_or}
use borrow.Author.Tests.{eq-eqb, lt-ltb}
use Rattle.rules.specs.Basics.{count_of}
use Rattle.rules.specs.Library.{unlisted, unlisted_at}
use Rattle.rules.proofs.Lists.{any_found, place_in, count_some, length_keep, keep_no_longer}
use Rattle.places.specs.Local.{Neighbours, conflicts_at, stitches_at, Earlier, list_graph}

module _ (places : List Neighbours) (v : ℕ) where
  -- a stitch list that is not empty has an earlier place
  pub stitched : Earlier v (stitches_at places v) → 0 < length (stitches_at places v) → unlisted_at (list_graph places) v ≡ true
  stitched earlier some =
      let list = stitches_at places v in
      let u = get_or list 0 0 in
      any_found (λ u. unlisted (list_graph places) u v) v (earlier 0 some)
      (rw (lt-ltb 0 (count_of (eqb u) list) (count_some (eqb u) (place_in list 0 some) (eq-eqb u u refl))))

  -- an empty one has none
  pub unstitched : length (stitches_at places v) ≡ 0 → (u : ℕ) → unlisted (list_graph places) u v ≡ ltb 1 (count_of (eqb u) (conflicts_at places v))
  unstitched none u =
      let list = stitches_at places v in
      let zero : count_of (eqb u) list ≡ 0 = omega (arith, length_keep (eqb u) list, keep_no_longer (eqb u) list) in
      rw zero
