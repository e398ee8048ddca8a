-- The masks that are noted of units (12 and 14). After the pieces before i, what is noted of a unit is the mask of its lowest set piece among them, or that none is set.
-- So a piece goes with what is noted exactly if it is not set or has the mask of its unit's lowest set piece: that one was met before, or is the piece itself.
-- Assumes nothing.
use mathlib.Core.Bool.{Bool, true, false, ◌&&◌, ◌||◌, and-false}
use mathlib.Core.List.{List}
use mathlib.Core.Logic.{⊎_elim}
use mathlib.Core.Path.{◌≡◌, refl, sym, ap, ◌∙◌}
use Prim.Native.Nat.{ℕ, ◌+◌, ◌≤◌, ◌<◌}
use native.Mathlib.Omega.{arith}
use lib.Dec.{eqb}
use lib.ListN.{length, get_or-eq_default}
use lib.Seq.{get_or-set_same, get_or-set_other}
use borrow.Author.Tests.{eqb-true, eqb-false, eq-eqb, ne_eqb}
use Rattle.std.proofs.lemmas.List.{get_or_default}
use Rattle.rules.specs.Settings.{unset}
use Rattle.rules.specs.Score.{mask_of, is_set}
use Rattle.rules.specs.Units.{unit_fixed, fits_unit}
use Rattle.rules.proofs.Finding.{find_up_to, find_none_up_to}
use Rattle.rules.proofs.Tests.{by_test, clash, lt_or_ge}
use Rattle.adjacency.specs.UnitGraph.{fixed_at}
use Rattle.units.specs.Noted.{fits_noted, noted_after}

-- a mask that does not fit is not noted
pub after_misfit : (noted : List ℕ) (unit mask : ℕ) → fits_noted noted unit mask ≡ false → noted_after noted unit mask ≡ noted
after_misfit noted unit mask e = by_test (eqb (mask_of noted unit) unset) (λ q. clash (rw q) e) (λ q. rw q)

-- ---- what is noted after the pieces before i

module _ (unit : ℕ → ℕ) (masks : List ℕ) where
  -- whether piece j is set and of unit u
  abbrev in_unit : ℕ → ℕ → Bool
  in_unit u j = is_set masks j && eqb (unit j) u

  -- of the pieces before i none is set in unit u, or j is the lowest that is
  pub data Noted (i u mask : ℕ) : Type 0 where
    none : mask ≡ unset → ((j : ℕ) → j < i → in_unit u j ≡ false) → Noted i u mask
    lowest : (j : ℕ) → j < i → ((k : ℕ) → k < j → in_unit u k ≡ false) → in_unit u j ≡ true → mask ≡ mask_of masks j → Noted i u mask

  -- one piece more that is not set in the unit
  noted_other : {i u mask : ℕ} → in_unit u i ≡ false → Noted i u mask → Noted (i + 1) u mask
  noted_other {i} {u} out (none e before) = none e (λ j l. by_test (eqb j i) (λ q. ap (in_unit u) (eqb-true j i q) ∙ out) (λ q. before j (omega (arith, eqb-false j i q))))
  noted_other out (lowest j l before here e) = lowest j (omega arith) before here e

  -- a piece of another unit
  other_unit : {i u : ℕ} → (u ≡ unit i → ⊥) → in_unit u i ≡ false
  other_unit {i} {u} h = rw (ne_eqb (unit i) u (λ e. h (sym e)), and-false)

  module _ {n : ℕ} (i : ℕ) (inside : i < n) where
    abbrev mask : ℕ
    mask = mask_of masks i

    -- its own unit
    own_unit : is_set masks i ≡ true → in_unit (unit i) i ≡ true
    own_unit e = rw (e, eq-eqb (unit i) (unit i) refl)

    -- where nothing is noted of the unit, the piece is its lowest that is set, or is not set
    first_fits : ((j : ℕ) → j < i → in_unit (unit i) j ≡ false) → fits_unit unit n masks i ≡ true
    first_fits before =
        by_test (is_set masks i)
        (λ e. rw (e, find_up_to (in_unit (unit i)) n i inside before (own_unit e), eq-eqb mask mask refl))
        (λ e. rw e)

    later_fits : (j : ℕ) → j < i → ((k : ℕ) → k < j → in_unit (unit i) k ≡ false) → in_unit (unit i) j ≡ true
        → fits_unit unit n masks i ≡ (eqb mask unset || eqb mask (mask_of masks j))
    later_fits j l before here =
        rw (find_up_to (in_unit (unit i)) n j (omega arith) before here) (by_test (eqb mask unset) (λ e. rw e) (λ e. rw e))

    -- what is noted of a set piece is a mask
    noted_set : (j : ℕ) → in_unit (unit i) j ≡ true → eqb (mask_of masks j) unset ≡ false
    noted_set j here = by_test (eqb (mask_of masks j) unset) (λ e. clash here (rw e)) (λ e. e)

    module _ (noted : List ℕ) where
      -- a piece fits what is noted exactly if it passes 12
      pub fits_question : Noted i (unit i) (mask_of noted (unit i)) → fits_noted noted (unit i) mask ≡ fits_unit unit n masks i
      fits_question (none e before) = rw (eq-eqb (mask_of noted (unit i)) unset e) (sym (first_fits before))
      fits_question (lowest j l before here e) = rw (e, noted_set j here) (sym (later_fits j l before here))

      -- and what is noted after it is right
      module _ (room : unit i < length noted) (all : (u : ℕ) → u < 512 → Noted i u (mask_of noted u)) where
        after_own : Noted i (unit i) (mask_of noted (unit i)) → Noted (i + 1) (unit i) (mask_of (noted_after noted (unit i) mask) (unit i))
        after_own (none e before) =
            rw (eq-eqb (mask_of noted (unit i)) unset e, get_or-set_same noted (unit i) mask 0 room)
            (by_test (is_set masks i)
            (λ s. lowest i (omega arith) before (own_unit s) refl)
            (λ s. noted_other (rw s) (none (by_test (eqb mask unset) (λ q. eqb-true mask unset q) (λ q. clash (rw q) s)) before)))
        after_own (lowest j l before here e) = rw (e, noted_set j here) (lowest j (omega arith) before here e)

        after_other : (u : ℕ) → u < 512 → (u ≡ unit i → ⊥) → Noted (i + 1) u (mask_of (noted_after noted (unit i) mask) u)
        after_other u l h =
            by_test (eqb (mask_of noted (unit i)) unset)
            (λ e. rw (e, get_or-set_other noted (unit i) u mask 0 h) (noted_other (other_unit h) (all u l)))
            (λ e. rw e (noted_other (other_unit h) (all u l)))

        pub noted_next : unit i < 512 → (u : ℕ) → u < 512 → Noted (i + 1) u (mask_of (noted_after noted (unit i) mask) u)
        noted_next small u l =
            by_test (eqb u (unit i))
            (λ e. rw (eqb-true u (unit i) e) (after_own (all (unit i) small)))
            (λ e. after_other u l (eqb-false u (unit i) e))

  -- ---- what is noted in the end

  -- what is noted of a unit is its mask among the pieces before i
  noted_is : {i u mask : ℕ} → Noted i u mask → mask ≡ unit_fixed unit i masks u
  noted_is {i} {u} (none e before) = e ∙ rw (find_none_up_to (in_unit u) i before)
  noted_is {i} {u} (lowest j l before here e) = e ∙ rw (find_up_to (in_unit u) i j l before here)

  -- the same of every number: no piece's unit is past the array
  pub noted_all : (noted : List ℕ) (i : ℕ) → length noted ≡ 512 → ((u : ℕ) → u < 512 → Noted i u (mask_of noted u)) → ((j : ℕ) → j < i → unit j < 512)
      → (u : ℕ) → fixed_at noted u ≡ unit_fixed unit i masks u
  noted_all noted i size all small u =
      ⊎_elim
      (λ (l : u < 512). get_or_default noted u unset 0 (omega arith) ∙ noted_is (all u l))
      (λ (l : 512 ≤ u).
      get_or-eq_default noted unset (omega arith)
      ∙ noted_is {i = i} {u = u} {mask = unset} (none refl (λ j h. other_unit (λ e. omega (arith, small j h)))))
      (lt_or_ge u 512)
