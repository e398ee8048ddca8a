-- Numbering one unit after the other. The unit of the lowest piece that is left has that piece's number; it is taken out, and the units of what is left are those
-- that follow. Assumes nothing.
use mathlib.Core.Bool.{true, false, not, ◌&&◌, ◌||◌, cond, and-true, and-false, or-false}
use mathlib.Core.List.{List}
use mathlib.Core.Path.{◌≡◌, sym, ap, ◌∙◌}
use Prim.Native.Nat.{ℕ, ◌≤◌, ◌<◌}
use native.Mathlib.Omega.{arith}
use lib.Dec.{eqb, ltb}
use lib.ListN.{length}
use borrow.Author.Tests.{ne_eqb, lt-ltb}
use Rattle.bitset.specs.Bits.{member, First}
use Rattle.bitset.specs.declared.matrix.Matrix.{Matrix}
use Rattle.rules.specs.Basics.{up_to, keep}
use Rattle.rules.specs.Edges.{Graph}
use Rattle.rules.specs.Components.{components}
use Rattle.rules.specs.Units.{lowest, part_of}
use Rattle.rules.proofs.Lists.{keep_same, keep_keep, in_up_to}
use Rattle.rules.proofs.Tests.{by_test, clash, both, eqb_sym, not_before}
use Rattle.adjacency.specs.Adjacency.{word_graph}
use Rattle.adjacency.specs.Members.{members_of}
use Rattle.adjacency.specs.UnitGraph.{unit_at}
use Rattle.adjacency.proofs.MemberLaws.{members_below, members_first, members_occurs}
use Rattle.components.specs.Component.{IsComponent}
use Rattle.components.proofs.Taking.{components_left}
use Rattle.units.specs.Numbered.{Numbered}
use Rattle.units.specs.Steps.{GivenNumber}

-- Of the pieces in `all` those in `rest` have yet to be numbered. The others have their numbers, and `numbers` has those that are units' numbers.
pub record Numbering (tieWords : Matrix) (all : List ℕ) (n : ℕ) (units numbers rest : List ℕ) : Type 0 where
  pub whole : length units ≡ n
  pub within : (k : ℕ) → k < 512 → member rest k ≡ true → member all k ≡ true
  pub unit : (i : ℕ) → i < 512 → member all i ≡ true
      → cond (member rest i) (part_of (components (word_graph tieWords tieWords) (members_of rest)) i) (unit_at units i)
      ≡ part_of (components (word_graph tieWords tieWords) (members_of all)) i
  pub numbers_so_far : (k : ℕ) → k < 512 → member numbers k ≡ (member all k && not (member rest k) && eqb (unit_at units k) k)

module _ {tieWords : Matrix} {all units numbers rest : List ℕ} {n : ℕ} (numbering : Numbering tieWords all n units numbers rest) where
  abbrev g : Graph
  g = word_graph tieWords tieWords

  -- all are numbered
  pub numbering_all : n ≤ 512 → ((k : ℕ) → member all k ≡ ltb k n) → ((k : ℕ) → k < 512 → member rest k ≡ false) → Numbered tieWords n units numbers
  unfolding members_of
  numbering_all few below none =
      let pieces : members_of all ≡ up_to n = members_below all n few below in
      record {
        whole = numbering.whole;
        unit = λ i h.
            let done : unit_at units i ≡ part_of (components g (members_of all)) i
            = rw (none i (omega arith)) at (numbering.unit i (omega arith) (below i ∙ lt-ltb i n h)) in
            done ∙ ap (λ (xs : List ℕ). part_of (components g xs) i) pieces;
        numbers =
            keep_same (member numbers) (λ k. member all k && eqb (unit_at units k) k) (up_to 512)
            (λ k m.
            let small = (in_up_to 512 k).0 m in
            numbering.numbers_so_far k small ∙ rw (none k small, and-true (member all k)))
            ∙ sym (keep_keep (λ k. eqb (unit_at units k) k) (member all) (up_to 512))
            ∙ ap (keep (λ k. eqb (unit_at units k) k)) pieces;
      }

  -- the unit of v, the lowest that is left, is numbered and taken out
  module _ {v : ℕ} {unit units' : List ℕ} (numbers' rest' : List ℕ) (small : v < 512) (first : First (member rest) v) (is : IsComponent tieWords tieWords rest v unit)
      (given : GivenNumber unit v units units') (put : (k : ℕ) → member numbers' k ≡ (member numbers k || eqb k v))
      (gone : (k : ℕ) → k < 512 → member rest' k ≡ (member rest k && not (member unit k))) where
    -- its lowest piece is v
    unit_lowest : lowest (members_of unit) ≡ v
    unit_lowest = ap lowest (members_first unit v small (record {
      within = omega arith;
      before = λ k h. not_before (is.within k (omega arith)) (first.before k h);
      found = λ _. is.first;
    }))

    -- the number by the units that are left, with this one first among them
    by_units : (i : ℕ) → i < 512 → part_of (components g (members_of rest)) i ≡ cond (member unit i) v (part_of (components g (members_of rest')) i)
    unfolding part_of
    by_units i h =
        ap (λ (cs : List (List ℕ)). part_of cs i) (components_left rest rest' small first is gone)
        ∙ rw (members_occurs unit i h, unit_lowest)

    -- a piece of the unit, and any other
    module _ (k : ℕ) (h : k < 512) where
      one : member unit k ≡ true → (member rest k ≡ true) × (member rest' k ≡ false) × (unit_at units' k ≡ v)
      one m = (is.within k h m, gone k h ∙ rw (m, and-false (member rest k)), given.inside k h m)

      other : member unit k ≡ false → (member rest' k ≡ member rest k) × (unit_at units' k ≡ unit_at units k)
      other m = (gone k h ∙ rw m (and-true (member rest k)), given.others k (λ _. m))

    pub numbering_next : Numbering tieWords all n units' numbers' rest'
    numbering_next = record {
      whole = given.whole ∙ numbering.whole;
      within = λ k h e. numbering.within k h (both (member rest k) (not (member unit k)) (sym (gone k h) ∙ e)).0;
      unit = λ i h m. by_test (member unit i)
          (λ e.
          let (r, s, n) = one i h e in
          rw (s, n) (sym (rw e at (by_units i h)) ∙ rw r at (numbering.unit i h m)))
          (λ e.
          let (s, n) = other i h e in
          rw (s, n, sym (rw e at (by_units i h))) (numbering.unit i h m));
      numbers_so_far = λ k h. put k ∙ by_test (member unit k)
          (λ e.
          let (r, s, n) = one k h e in
          rw (numbering.numbers_so_far k h, numbering.within k h r, r, s, n) (eqb_sym k v))
          (λ e.
          let (s, n) = other k h e in
          rw (numbering.numbers_so_far k h, s, n, ne_eqb k v (λ q. clash is.first (rw q at e))) (or-false _));
    }
