-- Arrays of masks: the fixed mask that is read at a place, and the masks up to one that is stored. Assumes nothing.
use mathlib.Core.List.{List, [], ◌∷◌, ◌++◌}
use mathlib.Core.Logic.{by_cases}
use mathlib.Core.Path.{◌≡◌, sym, subst}
use Prim.Native.Nat.{ℕ, ◌+◌, ◌<◌}
use native.Mathlib.Decide.{ℕ_discrete}
use native.Mathlib.Numerals.{add-one}
use native.Mathlib.Omega.{arith}
use lib.ListN.{length, get_or, take, set}
use lib.Seq.{take-suc-set, get_or-set_same, get_or-set_other}

-- the masks before p and the one stored there
pub take_stored : (l : List ℕ) (p m : ℕ) → p < length l → take (p + 1) (set l p m) ≡ take p l ++ (m ∷ [])
take_stored l p m h = rw (add-one, take-suc-set l p m h)

pub stored_low : (l : List ℕ) (p m : ℕ) → p < length l → m < 8 → ((i : ℕ) → i < p → get_or l i 0 < 8) → (i : ℕ) → i < p + 1 → get_or (set l p m) i 0 < 8
stored_low l p m h k low i b = by_cases (ℕ_discrete p i)
    (λ q. subst (λ (x : ℕ). get_or (set l p m) x 0 < 8) q (omega (arith, get_or-set_same l p m 0 h)))
    (λ n. omega (arith, get_or-set_other l p i m 0 (λ q. n (sym q)), low i (omega arith)))
