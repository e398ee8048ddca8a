-- The mask that is noted of each unit while its pieces are gone through: that of its lowest set piece. Assumes nothing: these are definitions.
use Rattle.std.specs.Prelude.{Bool, true, false, cond, ◌||◌, List, ◌≡◌, ℕ, ◌<◌, eqb, length, set, Option, Some, None}
use Rattle.rules.specs.declared.refusal.Place.{Place}
use Rattle.rules.specs.Settings.{unset}
use Rattle.rules.specs.Score.{mask_of}
use Rattle.rules.specs.Units.{unit_fixed, fits_unit}
use Rattle.rules.specs.Questions.{Outcome, ask}
use Rattle.adjacency.specs.UnitGraph.{fixed_at}

-- whether a piece's mask goes with what is noted of its unit
abbrev pub fits_noted : List ℕ → ℕ → ℕ → Bool
fits_noted noted unit mask = eqb (mask_of noted unit) unset || (eqb mask unset || eqb mask (mask_of noted unit))

-- what is noted after it
abbrev pub noted_after : List ℕ → ℕ → ℕ → List ℕ
noted_after noted unit mask = cond (eqb (mask_of noted unit) unset) (set noted unit mask) noted

-- r is the first piece that does not fit its unit, or all fit
abbrev pub FirstMisfit : (ℕ → ℕ) → List ℕ → Option ℕ → Type 0
FirstMisfit unit masks None = (i : ℕ) → i < length masks → fits_unit unit (length masks) masks i ≡ true
FirstMisfit unit masks (Some r) = (r < length masks) × (fits_unit unit (length masks) masks r ≡ false) × ((i : ℕ) → i < r → fits_unit unit (length masks) masks i ≡ true)

-- how many pieces come before it
abbrev pub fitting : List ℕ → Option ℕ → ℕ
fitting masks None = length masks
fitting masks (Some r) = r

-- The first misfit was found. Noted of each unit is the mask of its lowest set piece before that one, or that there is none.
pub record NotedMasks (unit : ℕ → ℕ) (masks noted : List ℕ) (r : Option ℕ) : Type 0 where
  pub misfit : FirstMisfit unit masks r
  pub masks_noted : (u : ℕ) → fixed_at noted u ≡ unit_fixed unit (fitting masks r) masks u
  pub whole : length noted ≡ 512

-- whether piece i of n fits its unit, asked with a question's number
abbrev pub split_question : ℕ → (ℕ → ℕ) → ℕ → List ℕ → ℕ → Outcome (Unit {0})
split_question number unit n masks i = ask (fits_unit unit n masks i) number (Place.Piece i)
