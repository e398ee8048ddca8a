-- More than 512 pieces are refused for their number alone, whatever they are. Assumes nothing.
use mathlib.Core.Bool.{Bool, true, false}
use mathlib.Core.List.{List}
use mathlib.Core.Path.{◌≡◌, refl}
use Prim.Native.Nat.{◌<◌}
use lib.Dec.{leb-zero}
use lib.ListN.{length}
use borrow.Author.Tests.{lt-leb}
use Rattle.rules.specs.declared.layer.Settings.{Settings}
use Rattle.rules.specs.declared.layer.Piece.{Piece}
use Rattle.rules.specs.declared.refusal.Place.{Place}
use Rattle.rules.specs.Settings.{settings_in_range}
use Rattle.rules.specs.Questions.{Outcome, refused, ask, and_then, judge_fixed, judge_records, judge_layer}

-- settings out of range are refused with the same number and place
pub too_many : (s : Settings) (ps : List Piece) → 512 < length ps → judge_layer s ps ≡ refused 4 Place.Nothing
unfolding judge_layer judge_records
too_many s ps more = rw (lt-leb (length ps) 512 more, leb-zero (length ps)) (go (settings_in_range s))
  where
    go : (b : Bool) → ◌≡◌ {A = Outcome (Unit {0})} (and_then {B = Unit {0}} (and_then {B = Unit {0}} (ask b 4 Place.Nothing) (λ _. refused 4 Place.Nothing)) (λ _. judge_fixed s ps)) (refused 4 Place.Nothing)
    go true = refl
    go false = refl
