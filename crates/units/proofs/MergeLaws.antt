-- Merging adjacency words, one edge after the other (`MergingRow`) and one row after the other (`MergedRows`). Each edge is met once, from its greater piece, and
-- joins its units both ways. So all rows together join the units that have an edge between them. Assumes nothing.
use mathlib.Core.Bool.{Bool, true, false, not, ◌&&◌, ◌||◌, or-false, or_assoc}
use mathlib.Core.List.{List}
use mathlib.Core.Logic.{⊎_elim}
use mathlib.Core.Path.{◌≡◌, refl, sym, ap, ◌∙◌}
use Prim.Native.Nat.{ℕ, ◌+◌, ◌<◌}
use native.Mathlib.Omega.{arith}
use lib.Dec.{eqb, ltb}
use borrow.Author.Tests.{eqb-true, eqb-false, eq-eqb, ne_eqb, ltb-true, lt-ltb, not-true}
use Rattle.bitset.specs.Bits.{member, Taken}
use Rattle.bitset.specs.Edges.{has_edge, NoEdge, both as inRowAndSet}
use Rattle.bitset.specs.declared.matrix.Matrix.{Matrix}
use Rattle.rules.specs.Basics.{up_from, up_to, any_of}
use Rattle.rules.proofs.Lists.{any_in, in_any, any_next, out_any, in_up_to}
use Rattle.rules.proofs.Finding.{any_without}
use Rattle.rules.proofs.Tests.{both, clash, or_either, same, lt_or_ge}
use Rattle.adjacency.specs.Members.{members_of}
use Rattle.adjacency.specs.UnitGraph.{unit_at}
use Rattle.adjacency.proofs.MemberLaws.{in_members, members_out}
use Rattle.units.specs.Merged.{Merged}
use Rattle.units.specs.Steps.{two_units, joins_units, MergedRow}
use Rattle.units.proofs.UnitNeighbours.{UnitEdge, unit_edge, other_way, unit_edge_back}

-- ---- one row

-- the edges to the neighbours in `rest` have yet to be met
pub record MergingRow (words : Matrix) (units : List ℕ) (j : ℕ) (before after : Matrix) (rest : List ℕ) : Type 0 where
  pub bits : (a b : ℕ)
      → (has_edge after a b || any_of (λ i. two_units (unit_at units i) (unit_at units j) a b) (members_of rest))
      ≡ (has_edge before a b || any_of (joins_units words units a b j) (up_to j))
  pub within : (k : ℕ) → member rest k ≡ true → k < j

module _ (words : Matrix) (units : List ℕ) (j : ℕ) (small : j < 512) (below rest : List ℕ) (numbers : (k : ℕ) → member below k ≡ ltb k j)
    (near : (k : ℕ) → member rest k ≡ inRowAndSet words j below k) where
  -- the neighbours before piece j
  row_neighbour : (k : ℕ) → member rest k ≡ true → (has_edge words j k ≡ true) × (k < j)
  row_neighbour k e = let (edge, m) = both (has_edge words j k) (member below k) (sym (near k) ∙ e) in (edge, ltb-true k j (sym (numbers k) ∙ m))

  row_joins : (a b : ℕ) → any_of (λ i. two_units (unit_at units i) (unit_at units j) a b) (members_of rest) ≡ any_of (joins_units words units a b j) (up_to j)
  row_joins a b = same _ _
      (λ e.
      let (i, m, t) = any_in _ (members_of rest) e in
      let (edge, l) = row_neighbour i ((in_members rest i).0 m).1 in
      in_any _ ((in_up_to j i).1 l) (rw (edge, t)))
      (λ e.
      let (i, m, t) = any_in _ (up_to j) e in
      let l = (in_up_to j i).0 m in
      let (edge, two) = both (has_edge words j i) _ t in
      in_any _ ((in_members rest i).1 (omega arith, near i ∙ rw (edge, numbers i, lt-ltb i j l))) two)

  pub row_none : (before : Matrix) → MergingRow words units j before before rest
  row_none before = record { bits = λ a b. rw (row_joins a b); within = λ k e. (row_neighbour k e).1 }

module _ {words : Matrix} {units : List ℕ} {j : ℕ} {before after : Matrix} {rest : List ℕ} (row : MergingRow words units j before after rest) where
  -- none is left
  pub row_all : ((k : ℕ) → k < 512 → member rest k ≡ false) → MergedRow words units j before after
  row_all none = record { bits = λ a b. sym (or-false (has_edge after a b)) ∙ ap (λ (t : Bool). has_edge after a b || t) (sym (out a b)) ∙ row.bits a b }
    where
      out : (a b : ℕ) → any_of (λ i. two_units (unit_at units i) (unit_at units j) a b) (members_of rest) ≡ false
      out a b = out_any _ (members_of rest) (λ i m. let (l, e) = (in_members rest i).0 m in clash e (none i l))

  module _ {i : ℕ} {rest' : List ℕ} (taken : Taken rest i rest') where
    -- its edge is merged
    pub row_next : {after' : Matrix} → ((a b : ℕ) → has_edge after' a b ≡ (has_edge after a b || two_units (unit_at units i) (unit_at units j) a b))
        → MergingRow words units j before after' rest'
    row_next {after'} more = record {
      bits = λ a b.
          let f : ℕ → Bool = λ i. two_units (unit_at units i) (unit_at units j) a b in
          let split : any_of f (members_of rest) ≡ (f i || any_of f (members_of rest'))
          = any_without f ((in_members rest i).1 (taken.small, taken.first.found taken.small)) ∙ rw (members_out rest rest' i taken.out) in
          rw (more a b)
          (or_assoc (has_edge after a b) (f i) (any_of f (members_of rest'))
          ∙ ap (λ (t : Bool). has_edge after a b || t) (sym split)
          ∙ row.bits a b);
      within = λ k e. row.within k (both (member rest k) (not (eqb k i)) (sym (taken.out k) ∙ e)).0;
    }

-- ---- all rows

-- the words after the rows below m
pub record MergedRows (words : Matrix) (units : List ℕ) (m : ℕ) (merged : Matrix) : Type 0 where
  pub bits : (a b : ℕ) → has_edge merged a b ≡ any_of (λ j. any_of (joins_units words units a b j) (up_to j)) (up_to m)

pub rows_none : (words : Matrix) (units : List ℕ) {merged : Matrix} → NoEdge merged → MergedRows words units 0 merged
unfolding up_from any_of
rows_none words units e = record { bits = λ a b. e.none a b }

pub rows_next : {words : Matrix} {units : List ℕ} {m : ℕ} {merged merged' : Matrix} → MergedRows words units m merged → MergedRow words units m merged merged'
    → MergedRows words units (m + 1) merged'
rows_next {words} {units} {m} rows row = record {
  bits = λ a b. row.bits a b ∙ rw (rows.bits a b) (sym (any_next (λ j. any_of (joins_units words units a b j) (up_to j)) m));
}

-- two units, named in the one order or the other
two_along : (a b : ℕ) → (a ≡ b → ⊥) → two_units a b a b ≡ true
two_along a b h = rw (ne_eqb a b h, eq-eqb a a refl, eq-eqb b b refl)

two_across : (a b : ℕ) → (a ≡ b → ⊥) → two_units b a a b ≡ true
two_across a b h = rw (ne_eqb b a (λ e. h (sym e)), ne_eqb a b h, eq-eqb a a refl, eq-eqb b b refl)

module _ {words : Matrix} {units : List ℕ} {n : ℕ} where
  -- an edge that was met joins two units
  joined_units : {a b i j : ℕ} → i < j → j < n → joins_units words units a b j i ≡ true → UnitEdge words units n a b
  joined_units {a} {b} {i} {j} l h e =
      let x = unit_at units i in
      let y = unit_at units j in
      let (edge, t) = both (has_edge words j i) (two_units x y a b) e in
      let (d, pair) = both (not (eqb x y)) _ t in
      let apart = eqb-false x y (not-true (eqb x y) d) in
      let one : UnitEdge words units n y x
      = record { two = λ q. apart (sym q); from = j; to = i; from_piece = h; to_piece = omega arith; from_unit = refl; to_unit = refl; edge = edge } in
      ⊎_elim
      (λ p. let (q, r) = both (eqb a x) (eqb b y) p in rw (eqb-true a x q, eqb-true b y r) (unit_edge_back units one))
      (λ p. let (q, r) = both (eqb a y) (eqb b x) p in rw (eqb-true a y q, eqb-true b x r) one)
      (or_either (eqb a x && eqb b y) (eqb a y && eqb b x) pair)

  -- each edge between two units was met
  units_joined : {a b : ℕ} → UnitEdge words units n a b → any_of (λ j. any_of (joins_units words units a b j) (up_to j)) (up_to n) ≡ true
  units_joined {a} {b} u =
      ⊎_elim
      (λ l. in_any _ ((in_up_to n u.to).1 u.to_piece)
      (in_any (joins_units words units a b u.to) ((in_up_to u.to u.from).1 l)
      (rw (other_way units u, u.from_unit, u.to_unit) (two_along a b u.two))))
      (λ l. in_any _ ((in_up_to n u.from).1 u.from_piece)
      (in_any (joins_units words units a b u.from) ((in_up_to u.from u.to).1 (omega (arith, apart)))
      (rw (u.edge, u.from_unit, u.to_unit) (two_across a b u.two))))
      (lt_or_ge u.from u.to)
    where
      apart : u.from ≡ u.to → ⊥
      apart e = u.two (sym u.from_unit ∙ ap (unit_at units) e ∙ u.to_unit)

  pub rows_all : {merged : Matrix} → MergedRows words units n merged → Merged words units n merged
  rows_all rows = record {
    bits = λ a b _ _.
        rows.bits a b
        ∙ same _ _
        (λ e.
        let (j, m, row) = any_in _ (up_to n) e in
        let (i, k, t) = any_in _ (up_to j) row in
        (unit_edge words units n a b).1 (joined_units ((in_up_to j i).0 k) ((in_up_to n j).0 m) t))
        (λ e. units_joined ((unit_edge words units n a b).0 e));
  }
