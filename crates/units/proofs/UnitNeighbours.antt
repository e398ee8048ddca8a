-- Neighbours among units. Two units are neighbours where an edge joins a piece of the one to a piece of the other (`UnitEdge`). Words that were merged have
-- the neighbours of the graph of units, and join both ways where the words of pieces do. Assumes nothing.
use mathlib.Core.Bool.{true, not}
use mathlib.Core.List.{List}
use mathlib.Core.Logic.{◌↔◌}
use mathlib.Core.Path.{◌≡◌, sym, ◌∙◌}
use Prim.Native.Nat.{ℕ, ◌<◌}
use lib.Dec.{eqb, ltb}
use borrow.Author.Tests.{eqb-false, ne_eqb, not-true}
use Rattle.bitset.specs.Edges.{has_edge}
use Rattle.bitset.specs.declared.matrix.Matrix.{Matrix}
use Rattle.rules.specs.Basics.{given}
use Rattle.rules.specs.Units.{merged_into, edges_between}
use Rattle.rules.proofs.Lists.{◌∈◌, any_in, in_any}
use Rattle.rules.proofs.Tests.{both}
use Rattle.adjacency.specs.Adjacency.{word_graph}
use Rattle.adjacency.specs.UnitGraph.{unit_at, unit_graph}
use Rattle.adjacency.proofs.AdjacencyLaws.{given_test}
use Rattle.theory.proofs.Merging.{member_in, in_member, merged_neighbours}
use Rattle.theory.proofs.Neighbours.{SameNeighbours}
use Rattle.units.specs.Merged.{Merged}

-- an edge from a piece of unit a to a piece of another unit b
pub record UnitEdge (words : Matrix) (units : List ℕ) (n a b : ℕ) : Type 0 where
  pub two : a ≡ b → ⊥
  pub from : ℕ
  pub to : ℕ
  pub from_piece : from < n
  pub to_piece : to < n
  pub from_unit : unit_at units from ≡ a
  pub to_unit : unit_at units to ≡ b
  pub edge : has_edge words from to ≡ true

-- units are neighbours exactly where there is one
pub unit_edge : (words : Matrix) (units : List ℕ) (n a b : ℕ)
    → (ltb 0 (edges_between (λ i j. given (has_edge words i j) 1) (unit_at units) n a b) ≡ true) ↔ UnitEdge words units n a b
unit_edge words units n a b =
    let unit = unit_at units in
    let law = merged_neighbours unit n (λ i j. given (has_edge words i j) 1) a b in (
      λ e.
          let (t, some) = both (not (eqb a b)) _ (sym law ∙ e) in
          let (i, m, row) = any_in _ (merged_into unit n a) some in
          let (j, k, edge) = any_in _ (merged_into unit n b) row in
          let p = member_in unit n m in
          let q = member_in unit n k in
          record {
            two = eqb-false a b (not-true (eqb a b) t);
            from = i;
            to = j;
            from_piece = p.0;
            to_piece = q.0;
            from_unit = p.1;
            to_unit = q.1;
            edge = sym (given_test (has_edge words i j)) ∙ edge;
          },
      λ u.
          law
          ∙ rw (ne_eqb a b u.two)
          (in_any _ (in_member unit n u.from_piece u.from_unit)
          (in_any _ (in_member unit n u.to_piece u.to_unit) (given_test (has_edge words u.from u.to) ∙ u.edge))),
    )

module _ {words : Matrix} (units : List ℕ) {n : ℕ} where
  -- the edge from its other piece
  pub other_way : {a b : ℕ} (u : UnitEdge words units n a b) → has_edge words u.to u.from ≡ true
  other_way u = words.both_ways u.to u.from ∙ u.edge

  pub unit_edge_back : {a b : ℕ} → UnitEdge words units n a b → UnitEdge words units n b a
  unit_edge_back u = record {
    two = λ e. u.two (sym e);
    from = u.to;
    to = u.from;
    from_piece = u.to_piece;
    to_piece = u.from_piece;
    from_unit = u.to_unit;
    to_unit = u.from_unit;
    edge = other_way u;
  }

-- merged words have the neighbours of the graph of units
pub unit_neighbours : {conflicts stitches mergedConflicts mergedStitches : Matrix} {units vs : List ℕ} {n : ℕ}
    → Merged conflicts units n mergedConflicts → Merged stitches units n mergedStitches → ((u : ℕ) → u ∈ vs → u < 512)
    → SameNeighbours (unit_graph conflicts stitches units n) (word_graph mergedConflicts mergedStitches) vs
unit_neighbours {mergedConflicts} {mergedStitches} c s small = record {
  conflict = λ u v m k. sym (given_test (has_edge mergedConflicts u v) ∙ c.bits u v (small u m) (small v k));
  stitch = λ u v m k. sym (given_test (has_edge mergedStitches u v) ∙ s.bits u v (small u m) (small v k));
}
