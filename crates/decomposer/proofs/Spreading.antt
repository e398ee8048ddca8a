-- Each piece's mask is taken from its unit's number, piece after piece in place. A unit's number is no higher than its pieces and is its own unit, so what is
-- read there is the unit's mask, whether that place was passed already or not. Assumes nothing.
use mathlib.Core.List.{List}
use mathlib.Core.Logic.{⊎_elim}
use mathlib.Core.Path.{◌≡◌, refl, ap, ◌∙◌}
use Prim.Native.Nat.{ℕ, ◌+◌, ◌≤◌, ◌<◌}
use native.Mathlib.Omega.{arith}
use lib.ListN.{length, get_or, set, length-set}
use lib.Seq.{get_or-set_same, get_or-set_other}
use Rattle.rules.specs.Units.{spread}
use Rattle.rules.proofs.Tests.{lt_or_ge}
use Rattle.adjacency.specs.UnitGraph.{unit_at}
use Rattle.theory.proofs.Merging.{Grouping, spread_only}

-- the pieces below i have their units' masks
pub record SpreadTo (units before after : List ℕ) (i : ℕ) : Type 0 where
  pub within : i ≤ length before
  pub size : length after ≡ length before
  pub passed : (k : ℕ) → k < i → get_or after k 0 ≡ get_or before (unit_at units k) 0
  pub others : (k : ℕ) → i ≤ k → get_or after k 0 ≡ get_or before k 0

pub spread_none : (units before : List ℕ) → SpreadTo units before before 0
spread_none units before = record { within = omega arith; size = refl; passed = λ k h. absurd (omega arith); others = λ k h. refl }

module _ {units before after : List ℕ} {i : ℕ} (grouping : Grouping (unit_at units) (length before)) (s : SpreadTo units before after i) where
  pub unit_there : i < length before → unit_at units i < length after
  unit_there l = omega (arith, grouping.lower i l, s.size)

  pub spread_next : i < length before → SpreadTo units before (set after i (get_or after (unit_at units i) 0)) (i + 1)
  spread_next l =
      let u = unit_at units i in
      let low = grouping.lower i l in
      let mask : get_or after u 0 ≡ get_or before u 0
      = ⊎_elim (λ h. s.passed u h ∙ ap (λ (v : ℕ). get_or before v 0) (grouping.again i l)) (λ h. s.others u h) (lt_or_ge u i) in
      record {
        within = omega arith;
        size = length-set after i (get_or after u 0) ∙ s.size;
        passed = λ k h. ⊎_elim
            (λ m. get_or-set_other after i k (get_or after u 0) 0 (λ q. omega arith) ∙ s.passed k m)
            (λ m. let e : k ≡ i = omega arith in rw e (get_or-set_same after i (get_or after u 0) 0 (omega (arith, s.size)) ∙ mask))
            (lt_or_ge k i);
        others = λ k h. get_or-set_other after i k (get_or after u 0) 0 (λ q. omega arith) ∙ s.others k (omega arith);
      }

  pub spread_all : i ≡ length before → after ≡ spread (unit_at units) (length before) before
  spread_all e = spread_only (unit_at units) (length before) before after s.size (λ k h. s.passed k (omega arith))
