-- Masks that some members of a unit have set, by hand or as fixed masks. A unit's fixed mask is that of its lowest set member. Where the set members of a unit
-- agree, what the unit may have all its members may have (`member_may`), and what all members may have the unit may have (`unit_may`). The first piece that
-- differs from an earlier one of its unit is the first that differs from the unit's lowest set one, since of two that differ one differs from the lowest. So 14
-- asks of fixed masks what 12 asks of masks that are scored (`apart_lowest`).
use mathlib.Core.Bool.{Bool, true, false, not, ◌&&◌, and-false}
use mathlib.Core.List.{List}
use mathlib.Core.Logic.{◌↔◌, ⊎_elim, by_cases}
use mathlib.Core.Option.{some}
use mathlib.Core.Path.{◌≡◌, refl, sym, ap, ◌∙◌}
use Prim.Native.Nat.{ℕ, zero, suc, ◌≤◌, ◌<◌}
use native.Mathlib.Decide.{ℕ_discrete}
use native.Mathlib.Omega.{arith}
use lib.Dec.{eqb}
use lib.ListN.{length}
use borrow.Author.Tests.{eqb-true, eqb-false, eq-eqb, ne_eqb, ltb-true, not-true}
use Rattle.rules.specs.declared.layer.Settings.{Settings}
use Rattle.rules.specs.declared.layer.Piece.{Piece}
use Rattle.rules.specs.declared.refusal.Place.{Place}
use Rattle.rules.specs.Basics.{up_to, any_of, find}
use Rattle.rules.specs.Settings.{unset, piece_at, fixed_masks}
use Rattle.rules.specs.Score.{mask_of, same_mask, is_set, apart}
use Rattle.rules.specs.Peeling.{is_fixed}
use Rattle.rules.specs.Units.{unit_of, unit_numbers, lowest_set, unit_fixed, fits_unit}
use Rattle.rules.specs.Questions.{Outcome, done, refused, ask, and_then, ask_each, judge_fixed, Valid}
use Rattle.rules.specs.Refusals.{Ends, accepts, refuses}
use Rattle.rules.proofs.Finding.{find_up_to, find_none_up_to, least_up_to}
use Rattle.rules.proofs.Lists.{◌∈◌, any_out, out_any, any_found, in_up_to, first_in, find_first}
use Rattle.rules.proofs.Outcomes.{ends_each, accepted, then_same, ask_yes}
use Rattle.rules.proofs.Tests.{by_test, clash, both, lt_or_ge, or_either}
use Rattle.rules.proofs.Unfixed.{fixed_at, NoneFixed, none_set}
use Rattle.rules.proofs.Validity.{valid_sound}
use Rattle.theory.proofs.Fixed.{May, FixedBelow}
use Rattle.theory.proofs.Merging.{OneMask, number_in}
use Rattle.theory.proofs.Reach.{by_found}

-- ---- Questions

-- that agree wherever those before them pass
each_agree : {f g : ℕ → Outcome (Unit {0})} (n : ℕ) → ((i : ℕ) → i < n → ((j : ℕ) → j < i → f j ≡ done tt) → f i ≡ g i) → ask_each f n ≡ ask_each g n
unfolding ask_each
each_agree zero h = refl
each_agree {f} {g} (suc n) h =
    then_same (ask_each f n) (λ _ e. h n (omega arith) (accepted (ends_each {R = λ _ _. Unit {0}} f n (λ i _. ends-own (f i))) e))
    ∙ ap (λ (o : Outcome (Unit {0})). and_then o (λ _. g n)) (each_agree n (λ i l. h i (omega arith)))
  where
    ends-own : (o : Outcome (Unit {0})) → Ends (λ _. o ≡ done tt) (λ _ _. Unit {0}) o
    ends-own (done _) = accepts refl
    ends-own (refused number place) = refuses tt

-- ---- The lowest set member of a unit

module _ (unit : ℕ → ℕ) (n : ℕ) (masks : List ℕ) where
  -- i is set, and in unit u
  abbrev set_in : ℕ → ℕ → Bool
  set_in u i = is_set masks i && eqb (unit i) u

  abbrev pub lowest : ℕ → ℕ
  lowest u = lowest_set unit n masks u

  -- what is known of it, for the unit of a set vertex i
  pub record Lowest (i : ℕ) : Type 0 where
    pub inside : lowest (unit i) < n
    pub is_one : is_set masks (lowest (unit i)) ≡ true
    pub own : unit (lowest (unit i)) ≡ unit i
    pub least : (j : ℕ) → j < n → is_set masks j ≡ true → unit j ≡ unit i → lowest (unit i) ≤ j
    pub mask : unit_fixed unit n masks (unit i) ≡ mask_of masks (lowest (unit i))

  pub lowest_of : (i : ℕ) → i < n → is_set masks i ≡ true → Lowest i
  lowest_of i l e =
      let u = unit i in
      let (r, below, pass, before) = least_up_to (set_in u) n (any_found (set_in u) n l (rw (e, eq-eqb u u refl))) in
      let at : find (set_in u) (up_to n) ≡ some r = find_up_to (set_in u) n r below before pass in
      let passes = both (is_set masks r) (eqb (unit r) u) pass in
      let low : lowest u ≡ r = rw at in
      record {
        inside = rw low below;
        is_one = rw low passes.0;
        own = rw low (eqb-true (unit r) u passes.1);
        least = λ j k s q. rw low (⊎_elim (λ (h : j < r). clash (rw (s, eq-eqb (unit j) u q)) (before j h)) (λ h. h) (lt_or_ge j r));
        mask = rw at;
      }

  -- a unit with a fixed mask has that of a member
  pub unit_fixed_lem : (u : ℕ) → is_fixed (unit_fixed unit n masks) u ≡ true → (i : ℕ) × (i < n) × (unit i ≡ u) × (is_set masks i ≡ true) × (unit_fixed unit n masks u ≡ mask_of masks i)
  unit_fixed_lem u e =
      by_found (find (set_in u) (up_to n))
      (λ q. let out : is_fixed (unit_fixed unit n masks) u ≡ false = rw q in clash e out)
      (λ i q.
      let first = find_first (set_in u) (up_to n) q in
      let passes = both (is_set masks i) (eqb (unit i) u) first.pass in
      (i, (in_up_to n i).0 (first_in first), eqb-true (unit i) u passes.1, passes.0, rw q))

  -- one without has no member with one
  pub unit_unfixed : (u : ℕ) → ((i : ℕ) → i < n → unit i ≡ u → is_set masks i ≡ false) → unit_fixed unit n masks u ≡ unset
  unit_unfixed u out =
      let none = find_none_up_to (set_in u) n (λ i l. by_test (eqb (unit i) u) (λ e. rw (out i l (eqb-true (unit i) u e))) (λ e. rw (e, and-false))) in
      rw none

  -- ---- Members that agree

  -- i and j are in one unit, and are set on two masks
  abbrev pub apart_in : ℕ → ℕ → Bool
  apart_in i j = eqb (unit i) (unit j) && apart masks i j

  -- if both are set in one unit, then on one mask
  abbrev pub Agree : ℕ → ℕ → Type 0
  Agree i j = unit i ≡ unit j → is_set masks i ≡ true → is_set masks j ≡ true → mask_of masks i ≡ mask_of masks j

  pub agree_exactly : (i j : ℕ) → (apart_in i j ≡ false) ↔ Agree i j
  agree_exactly i j = (
    λ e u a b.
        by_test (same_mask masks i j)
        (λ t. eqb-true (mask_of masks i) (mask_of masks j) t)
        (λ t. let on : apart_in i j ≡ true = rw (eq-eqb (unit i) (unit j) u, a, b, t) in clash on e),
    λ h.
        by_test (apart_in i j)
        (λ t.
        let r = both (eqb (unit i) (unit j)) (apart masks i j) t in
        let q = both (is_set masks i && is_set masks j) (not (same_mask masks i j)) r.1 in
        let b = both (is_set masks i) (is_set masks j) q.0 in
        let same = eq-eqb (mask_of masks i) (mask_of masks j) (h (eqb-true (unit i) (unit j) r.0) b.0 b.1) in
        clash same (not-true (same_mask masks i j) q.1))
        (λ t. t),
  )

  -- ---- Against an earlier member, or against the lowest

  -- whether an earlier member differs from j
  abbrev pub any_apart : ℕ → Bool
  any_apart j = any_of (λ i. apart_in i j) (up_to j)

  none_apart : (j : ℕ) → ((i : ℕ) → i < j → Agree i j) → not (any_apart j) ≡ true
  none_apart j h = ap not (out_any (λ i. apart_in i j) (up_to j) (λ i m. (agree_exactly i j).1 (h i ((in_up_to j i).0 m))))

  -- where none differs from an earlier one before j, j differs from an earlier one exactly if it differs from the lowest
  earlier_lowest : (j : ℕ) → j < n → ((i : ℕ) → i < j → any_apart i ≡ false) → not (any_apart j) ≡ fits_unit unit n masks j
  earlier_lowest j l before =
      by_test (is_set masks j)
      (λ e.
      let low = lowest_of j l e in
      let r = lowest (unit j) in
      let later = low.least j l e refl in
      by_test (same_mask masks j r)
      (λ t.
      let mask = eqb-true (mask_of masks j) (mask_of masks r) t in
      none_apart j (λ i k u a _. sym (as_lowest low k u a) ∙ sym mask) ∙ rw (e, t))
      (λ t.
      let other = eqb-false (mask_of masks j) (mask_of masks r) t in
      let first : r < j = by_cases (ℕ_discrete r j) (λ (q : r ≡ j). absurd (other (ap (mask_of masks) (sym q)))) (λ d. omega arith) in
      ap not (any_found (λ i. apart_in i j) j first (differs low.own low.is_one e other)) ∙ rw (e, t)))
      (λ e. none_apart j (λ i k u _ b. clash b e) ∙ rw e)
    where
      differs : {i : ℕ} → unit i ≡ unit j → is_set masks i ≡ true → is_set masks j ≡ true → (mask_of masks j ≡ mask_of masks i → ⊥) → apart_in i j ≡ true
      differs {i} u a b d = rw (eq-eqb (unit i) (unit j) u, a, b, ne_eqb (mask_of masks i) (mask_of masks j) (λ q. d (sym q)))

      -- an earlier member of the unit has the mask of the lowest, which is no later than it
      as_lowest : Lowest j → {i : ℕ} → i < j → unit i ≡ unit j → is_set masks i ≡ true → mask_of masks (lowest (unit j)) ≡ mask_of masks i
      as_lowest low {i} k u a =
          let r = lowest (unit j) in
          by_cases (ℕ_discrete r i)
          (λ q. ap (mask_of masks) q)
          (λ d. (agree_exactly r i).0 (any_out (λ h. apart_in h i) (up_to i) (before i k) r ((in_up_to i r).1 (omega (arith, low.least i (omega arith) a u)))) (low.own ∙ sym u) low.is_one a)

  -- so both questions, put to one vertex after the other, have one answer
  pub apart_lowest : (number : ℕ)
      → ask_each (λ j. ask (not (any_apart j)) number (Place.Piece j)) n ≡ ask_each (λ i. ask (fits_unit unit n masks i) number (Place.Piece i)) n
  apart_lowest number = each_agree n λ j l passed. ap (λ (b : Bool). ask b number (Place.Piece j)) (earlier_lowest j l (λ i k. not-true (any_apart i) (ask_yes _ number (Place.Piece i) (passed i k))))

-- ---- What a unit may have

-- what is asked of fixed masks: each is below K, and no unit has two
pub record Fixable (K : ℕ) (unit : ℕ → ℕ) (n : ℕ) (fixed : List ℕ) : Type 0 where
  pub below : (i : ℕ) → i < n → is_set fixed i ≡ true → mask_of fixed i < K
  pub agree : (i j : ℕ) → i < n → j < n → Agree unit n fixed i j

module _ {K : ℕ} {unit : ℕ → ℕ} {n : ℕ} {fixed : List ℕ} (fixable : Fixable K unit n fixed) where
  -- the fixed masks of units are masks
  pub units_below : (us : List ℕ) → FixedBelow K (unit_fixed unit n fixed) us
  units_below us u m e =
      let (i, l, _, set, mask) = unit_fixed_lem unit n fixed u e in
      rw mask (fixable.below i l set)

  -- what a unit may have, its members may have
  pub member_may : {i m : ℕ} → i < n → May K (unit_fixed unit n fixed) (unit i) m → May K (mask_of fixed) i m
  member_may {i} {m} l h = record {
    below = h.below;
    kept = λ e.
        let low = lowest_of unit n fixed i l e in
        let set : is_fixed (unit_fixed unit n fixed) (unit i) ≡ true = rw low.mask low.is_one in
        h.kept set ∙ low.mask ∙ fixable.agree _ i low.inside l low.own low.is_one e;
  }

-- what all members may have, a unit may have
pub unit_may : {K : ℕ} {unit : ℕ → ℕ} {n : ℕ} (fixed : List ℕ) (a : ℕ → ℕ) → OneMask unit n a → ((i : ℕ) → i < n → May K (mask_of fixed) i (a i))
    → (u : ℕ) → u ∈ unit_numbers unit n → May K (unit_fixed unit n fixed) u (a u)
unit_may {unit} {n} fixed a one may u m = record {
  below = (may u (number_in unit n m).0).below;
  kept = λ e.
      let (i, l, own, set, mask) = unit_fixed_lem unit n fixed u e in
      sym (one i l ∙ ap a own) ∙ (may i l).kept set ∙ sym mask;
}

-- ---- Layers

-- 14 refuses a layer exactly where 12 would refuse its fixed masks
pub judged_lowest : (s : Settings) (ps : List Piece)
    → judge_fixed s ps ≡ ask_each (λ i. ask (fits_unit (unit_of s ps) (length ps) (fixed_masks ps) i) 14 (Place.Piece i)) (length ps)
unfolding judge_fixed
judged_lowest s ps = apart_lowest (unit_of s ps) (length ps) (fixed_masks ps) 14

-- 13 and 14 ask of a layer's fixed masks what is asked of them here
pub fixable : (s : Settings) (ps : List Piece) → Valid s ps → Fixable s.masks (unit_of s ps) (length ps) (fixed_masks ps)
fixable s ps valid =
    let sound = valid_sound s ps valid in
    let earlier : (i j : ℕ) → i < j → j < length ps → Agree (unit_of s ps) (length ps) (fixed_masks ps) i j
    = λ i j l k. (agree_exactly (unit_of s ps) (length ps) (fixed_masks ps) i j).0 (sound.agree i j l k) in
    record {
      below = λ i l e.
          rw (fixed_at ps i)
          (⊎_elim
          (λ t. clash t (not-true (eqb (piece_at ps i).fixed unset) (rw (fixed_at ps i) at e)))
          (λ t. ltb-true (piece_at ps i).fixed s.masks t)
          (or_either (eqb (piece_at ps i).fixed unset) _ (sound.fixed i l)));
      agree = λ i j l k u a b.
          ⊎_elim
          (λ h. earlier i j h k u a b)
          (λ h. by_cases (ℕ_discrete i j) (λ q. ap (mask_of (fixed_masks ps)) q) (λ d. sym (earlier j i (omega arith) l (sym u) b a)))
          (lt_or_ge i j);
    }

-- where no piece has a fixed mask, no unit has one
pub none_units : (s : Settings) (ps : List Piece) → NoneFixed ps → (u : ℕ) → is_fixed (unit_fixed (unit_of s ps) (length ps) (fixed_masks ps)) u ≡ false
none_units s ps none u = rw (unit_unfixed (unit_of s ps) (length ps) (fixed_masks ps) u (λ i l _. none_set ps none i l))
