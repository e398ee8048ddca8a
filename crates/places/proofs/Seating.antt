-- The pieces at the places that are laid out: they are the set of earlier pieces, and each has its place. Assumes nothing.
use mathlib.Core.Bool.{true, false, ◌&&◌, ◌||◌, or-false, or-true, or_assoc}
use mathlib.Core.List.{List, [], ◌∷◌, ◌++◌, append-nil, append_assoc}
use mathlib.Core.Logic.{⊎_elim}
use mathlib.Core.Path.{◌≡◌, refl, sym, ap, subst, ◌∙◌}
use Prim.Native.Nat.{ℕ, ◌+◌, ◌≤◌, ◌<◌}
use native.Mathlib.Omega.{arith}
use lib.Dec.{eqb}
use lib.ListN.{get_or, set}
use lib.Seq.{get_or-set_same, get_or-set_other}
use borrow.Author.Tests.{eqb-true, eqb-false, eq-eqb, ne_eqb}
use Rattle.bitset.specs.Bits.{member, Taken}
use Rattle.rules.specs.Basics.{any_of, occurs}
use Rattle.rules.specs.Units.{merged_into}
use Rattle.rules.proofs.Lists.{any_snoc, occurs_in, occurs_out}
use Rattle.rules.proofs.Tests.{by_test, both, same, lt_or_ge}
use Rattle.adjacency.specs.Members.{members_of}
use Rattle.adjacency.specs.UnitGraph.{unit_at}
use Rattle.theory.proofs.Merging.{member_in, in_member}
use Rattle.places.specs.declared.seats.Seats.{Seats}
use Rattle.places.specs.Seats.{Seated}
use Rattle.places.proofs.Members.{taken_members, none_left}

-- ---- The pieces of one place, one after the other

-- those passed are seated
pub record Seating (pieces : List ℕ) (k : ℕ) (rest : List ℕ) (old new : Seats) : Type 0 where
  pub passed : List ℕ
  pub all : passed ++ members_of rest ≡ members_of pieces
  pub seated : Seated passed k old new

pub seating_none : (pieces : List ℕ) (k : ℕ) (seats : Seats) → Seating pieces k pieces seats seats
unfolding any_of
seating_none pieces k seats = record {
  passed = [];
  all = refl;
  seated = record { put = λ q. sym (or-false (member seats.there q)); places = λ q. refl };
}

module _ {pieces : List ℕ} {k : ℕ} {rest : List ℕ} {old new : Seats} (h : Seating pieces k rest old new) where
  pub seating_next : {p : ℕ} {rest' : List ℕ} (next : Seats) → Taken rest p rest' → ((q : ℕ) → member next.there q ≡ (member new.there q || eqb q p))
      → next.places ≡ set new.places p k → Seating pieces k rest' old next
  seating_next {p} {rest'} next taken put set_there = record {
    passed = h.passed ++ (p ∷ []);
    all = append_assoc h.passed (p ∷ []) (members_of rest') ∙ ap (λ (xs : List ℕ). h.passed ++ xs) (sym (taken_members taken)) ∙ h.all;
    seated = record {
      put = λ q. put q ∙ rw (h.seated.put q, any_snoc (eqb q) h.passed p) (or_assoc (member old.there q) (occurs q h.passed) (eqb q p));
      places = λ q. rw (set_there, any_snoc (eqb q) h.passed p)
          (by_test (eqb q p)
          (λ e. rw (e, or-true (occurs q h.passed), eqb-true q p e) (get_or-set_same new.places p k 0 (omega (arith, new.room, taken.small))))
          (λ e. rw (e, or-false (occurs q h.passed)) (get_or-set_other new.places p q k 0 (eqb-false q p e) ∙ h.seated.places q)));
    };
  }

  pub seating_all : ((q : ℕ) → q < 512 → member rest q ≡ false) → Seated (members_of pieces) k old new
  seating_all none =
      let whole : h.passed ≡ members_of pieces = sym (append-nil h.passed) ∙ ap (λ (xs : List ℕ). h.passed ++ xs) (sym (none_left rest none)) ∙ h.all in
      subst (λ (xs : List ℕ). Seated xs k old new) whole h.seated

-- ---- The pieces of all places below k

pub record Placed (units : List ℕ) (n : ℕ) (order : List ℕ) (k : ℕ) (seats : Seats) : Type 0 where
  pub inside : (q : ℕ) → member seats.there q ≡ true → (q < n) × (get_or seats.places q 0 < k) × (unit_at units q ≡ get_or order (get_or seats.places q 0) 0)
  pub there : (q i : ℕ) → q < n → i < k → unit_at units q ≡ get_or order i 0 → (member seats.there q ≡ true) × (get_or seats.places q 0 ≡ i)

-- whether a piece is one of the unit's
pub piece_of_lem : (units : List ℕ) (n u q : ℕ) → q < n → occurs q (merged_into (unit_at units) n u) ≡ eqb (unit_at units q) u
piece_of_lem units n u q l = same _ _
    (λ e. eq-eqb _ u (member_in (unit_at units) n ((occurs_in q _).0 e)).1)
    (λ e. (occurs_in q _).1 (in_member (unit_at units) n l (eqb-true _ u e)))

pub piece_past : (units : List ℕ) (n u q : ℕ) → n ≤ q → occurs q (merged_into (unit_at units) n u) ≡ false
piece_past units n u q l = (occurs_out q _).1 (λ m. omega (arith, (member_in (unit_at units) n m).0))

module _ {units : List ℕ} {n : ℕ} {order : List ℕ} {k : ℕ} {seats : Seats} (h : Placed units n order k seats) where
  pub placed_past : (q : ℕ) → n ≤ q → member seats.there q ≡ false
  placed_past q l = by_test (member seats.there q) (λ e. absurd (omega (arith, (h.inside q e).0))) (λ e. e)

  -- the pieces of place i
  pub placed_at : (q i : ℕ) → q < n → i < k → (member seats.there q && eqb i (get_or seats.places q 0)) ≡ eqb (unit_at units q) (get_or order i 0)
  placed_at q i l b = same _ _
      (λ e.
      let r = both (member seats.there q) (eqb i (get_or seats.places q 0)) e in
      eq-eqb _ _ ((h.inside q r.0).2 ∙ ap (λ (x : ℕ). get_or order x 0) (sym (eqb-true i (get_or seats.places q 0) r.1))))
      (λ e. let r = h.there q i l b (eqb-true _ _ e) in rw r.0 (eq-eqb i (get_or seats.places q 0) (sym r.1)))

  module _ (rising : (i : ℕ) → i < k → get_or order i 0 < get_or order k 0) where
    -- no piece of place k is in the set
    pub placed_apart : (q : ℕ) → member seats.there q ≡ true → eqb (unit_at units q) (get_or order k 0) ≡ false
    placed_apart q e = let r = h.inside q e in ne_eqb (unit_at units q) (get_or order k 0) (λ d. omega (arith, rising (get_or seats.places q 0) r.1, r.2))

    -- the pieces of place k come in
    pub placed_next : {seats' : Seats} → Seated (merged_into (unit_at units) n (get_or order k 0)) k seats seats' → Placed units n order (k + 1) seats'
    placed_next {seats'} new =
        let pieces = merged_into (unit_at units) n (get_or order k 0) in
        record {
          inside = λ q e. by_test (occurs q pieces)
              (λ o.
              let r = member_in (unit_at units) n ((occurs_in q pieces).0 o) in
              let at : get_or seats'.places q 0 ≡ k = new.places q ∙ rw o in
              (r.0, omega arith, r.1 ∙ ap (λ (x : ℕ). get_or order x 0) (sym at)))
              (λ o.
              let m : member seats.there q ≡ true = sym (or-false (member seats.there q)) ∙ ap (λ (b : _). member seats.there q || b) (sym o) ∙ sym (new.put q) ∙ e in
              let at : get_or seats'.places q 0 ≡ get_or seats.places q 0 = new.places q ∙ rw o in
              let r = h.inside q m in
              (r.0, omega (arith, r.1), r.2 ∙ ap (λ (x : ℕ). get_or order x 0) (sym at)));
          there = λ q i l b e. ⊎_elim
              (λ c.
              let r = h.there q i l c e in
              let o : occurs q pieces ≡ false = piece_of_lem units n (get_or order k 0) q l ∙ placed_apart q r.0 in
              (new.put q ∙ rw r.0, new.places q ∙ rw o r.1))
              (λ c.
              let at : i ≡ k = omega arith in
              let o : occurs q pieces ≡ true = piece_of_lem units n (get_or order k 0) q l ∙ eq-eqb _ _ (e ∙ ap (λ (x : ℕ). get_or order x 0) at) in
              (new.put q ∙ rw (o, or-true (member seats.there q)), new.places q ∙ rw o (sym at)))
              (lt_or_ge i k);
        }
