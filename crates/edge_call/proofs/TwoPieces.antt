-- Question 14 of two pieces. They are one unit where they are tied. Assumes nothing.
use mathlib.Core.Bool.{Bool, true, false, not, cond, ◌&&◌, or-false, and_comm}
use mathlib.Core.List.{List, [], ◌∷◌}
use mathlib.Core.Path.{◌≡◌, refl, ap, ◌∙◌}
use Prim.Native.Nat.{ℕ}
use lib.Dec.{eqb}
use Rattle.rules.specs.declared.layer.Settings.{Settings}
use Rattle.rules.specs.declared.layer.Piece.{Piece}
use Rattle.rules.specs.declared.refusal.Place.{Place}
use Rattle.rules.specs.Basics.{any_of, up_from, find, keep, occurs}
use Rattle.rules.specs.Settings.{fixed_masks}
use Rattle.rules.specs.Edges.{tied}
use Rattle.rules.specs.Score.{apart}
use Rattle.rules.specs.Components.{reach_for, components_for}
use Rattle.rules.specs.Units.{tie_graph, part_of, unit_of}
use Rattle.rules.specs.Questions.{Outcome, done, ask, and_then, ask_each, fixed_apart, judge_fixed, judge_records, judge_layer, Valid}
use Rattle.rules.proofs.Edges.{tie_sym}
use Rattle.rules.proofs.Tests.{by_test}

module _ (s : Settings) (a b : Piece) where
  two_units : eqb (unit_of s (a ∷ b ∷ []) 0) (unit_of s (a ∷ b ∷ []) 1) ≡ tied s a b
  unfolding part_of components_for reach_for find any_of keep up_from
  two_units = ap shared reached ∙ told (tied s b a) ∙ tie_sym s b a
    where
      -- whether both are in one part, where `inside` is what the first reaches
      shared : List ℕ → Bool
      shared inside =
          let c = keep (λ u. occurs u inside) (0 ∷ 1 ∷ []) in
          let cs = c ∷ components_for 1 (tie_graph s (a ∷ b ∷ [])) (keep (λ u. not (occurs u c)) (1 ∷ [])) in
          eqb (part_of cs 0) (part_of cs 1)

      told : (t : Bool) → shared (cond t (1 ∷ 0 ∷ []) (0 ∷ [])) ≡ t
      told true = refl
      told false = refl

      reached : reach_for 1 (tie_graph s (a ∷ b ∷ [])) (0 ∷ []) (1 ∷ []) ≡ cond (tied s b a) (1 ∷ 0 ∷ []) (0 ∷ [])
      reached = by_test (tied s b a) (λ e. rw (e, find, reach_for)) (λ e. rw (e, find, reach_for))

  pub two_fixed : judge_fixed s (a ∷ b ∷ []) ≡ ask (not (apart (fixed_masks (a ∷ b ∷ [])) 0 1 && tied s a b)) 14 (Place.Piece 1)
  unfolding judge_fixed ask_each any_of up_from
  two_fixed = ap (λ (t : Bool). ask (not t) 14 (Place.Piece 1)) (or-false (fixed_apart s (a ∷ b ∷ []) 0 1) ∙ split)
    where
      split : fixed_apart s (a ∷ b ∷ []) 0 1 ≡ (apart (fixed_masks (a ∷ b ∷ [])) 0 1 && tied s a b)
      split = rw two_units (and_comm (tied s a b) (apart (fixed_masks (a ∷ b ∷ [])) 0 1))

  pub two_valid : judge_records s (a ∷ b ∷ []) ≡ done tt → (apart (fixed_masks (a ∷ b ∷ [])) 0 1 && tied s a b) ≡ false → Valid s (a ∷ b ∷ [])
  unfolding judge_layer
  two_valid e t =
      ap (λ (o : Outcome (Unit {0})). and_then o λ _. judge_fixed s (a ∷ b ∷ [])) e
      ∙ two_fixed
      ∙ ap (λ (split : Bool). ask (not split) 14 (Place.Piece 1)) t
