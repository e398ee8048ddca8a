-- Whether masks split a unit: 12 of given masks, and 14 of fixed ones. The question of each piece is answered by the first piece that does not fit, and an array
-- that has the units of a layer asks as the layer's units do. Assumes nothing.
use mathlib.Core.Bool.{Bool, ◌&&◌}
use mathlib.Core.List.{List}
use mathlib.Core.Path.{◌≡◌, ap}
use Prim.Native.Nat.{ℕ, ◌<◌}
use native.Mathlib.Omega.{arith}
use lib.Dec.{eqb}
use lib.ListN.{length}
use Rattle.std.specs.Prelude.{None, Some}
use Rattle.rules.specs.declared.layer.Settings.{Settings}
use Rattle.rules.specs.declared.layer.Piece.{Piece}
use Rattle.rules.specs.declared.refusal.Place.{Place}
use Rattle.rules.specs.Basics.{up_to, find}
use Rattle.rules.specs.Score.{is_set}
use Rattle.rules.specs.Units.{unit_of, fits_unit}
use Rattle.rules.specs.Questions.{done, refused, ask, ask_each}
use Rattle.rules.proofs.Finding.{find_same}
use Rattle.rules.proofs.Lists.{in_up_to}
use Rattle.rules.proofs.Outcomes.{each_passes, each_refused, each_ext}
use Rattle.adjacency.specs.UnitGraph.{unit_at}
use Rattle.theory.proofs.Units.{grouping}
use Rattle.units.specs.Noted.{NotedMasks, split_question}
use Rattle.units.specs.Numbered.{UnitsOf}

module _ {unit : ℕ → ℕ} {masks noted : List ℕ} (number : ℕ) where
  pub all_fit : NotedMasks unit masks noted None → ask_each (split_question number unit (length masks) masks) (length masks) ≡ done tt
  all_fit first = each_passes _ (length masks) (λ i h. rw (first.misfit i h))

  pub one_splits : {r : ℕ} → NotedMasks unit masks noted (Some r) → ask_each (split_question number unit (length masks) masks) (length masks) ≡ refused number (Place.Piece r)
  one_splits {r} first =
      let (l, stops, before) = first.misfit in
      each_refused _ (length masks) {i = r} l (each_passes _ r (λ i h. rw (before i h))) (rw stops)

module _ (s : Settings) (ps : List Piece) {units numbers : List ℕ} (numbered : UnitsOf s ps units numbers) where
  -- each piece's unit is one of the pieces
  pub unit_inside : (i : ℕ) → i < length ps → unit_at units i < length ps
  unit_inside i l = omega (arith, numbered.unit i l, (grouping s ps).lower i l)

  fits_is : (masks : List ℕ) (i : ℕ) → i < length ps → fits_unit (unit_at units) (length ps) masks i ≡ fits_unit (unit_of s ps) (length ps) masks i
  fits_is masks i l =
      let test : ℕ → ℕ → Bool = λ u j. is_set masks j && eqb (unit_of s ps j) u in
      let same : (u : ℕ) → find (λ j. is_set masks j && eqb (unit_at units j) u) (up_to (length ps)) ≡ find (test u) (up_to (length ps))
      = λ u. find_same _ (test u) (up_to (length ps)) (λ j m. rw (numbered.unit j ((in_up_to (length ps) j).0 m))) in
      rw (numbered.unit i l, same (unit_of s ps i))

  pub splits_same : (masks : List ℕ) (number : ℕ)
      → ask_each (split_question number (unit_at units) (length ps) masks) (length ps) ≡ ask_each (split_question number (unit_of s ps) (length ps) masks) (length ps)
  splits_same masks number = each_ext (length ps) (λ i l. ap (λ (b : Bool). ask b number (Place.Piece i)) (fits_is masks i l))
