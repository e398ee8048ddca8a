-- A row of edges is counted by its members, lowest first. What was counted and what the members still to come count for is always the whole row: a number without
-- an edge counts for nothing. Assumes nothing.
use mathlib.Core.Bool.{Bool, true, false, not, and-true}
use mathlib.Core.List.{List}
use mathlib.Core.Path.{◌≡◌, refl, sym, ◌∙◌}
use Prim.Native.Nat.{ℕ, ◌+◌, ◌≤◌, ◌<◌}
use native.Mathlib.Omega.{arith}
use lib.Dec.{eqb, ltb}
use borrow.Author.Tests.{eq-eqb, ne_eqb, ltb-true, lt-ltb}
use Rattle.bitset.specs.Bits.{member, Taken}
use Rattle.bitset.specs.Edges.{has_edge, both}
use Rattle.bitset.specs.declared.matrix.Matrix.{Matrix}
use Rattle.rules.specs.declared.layer.Edge.{Edge}
use Rattle.rules.specs.Basics.{given, sum_to}
use Rattle.rules.specs.Score.{mask_of}
use Rattle.rules.proofs.ScoreBounds.{given_le}
use Rattle.rules.proofs.Sums.{sum_ext, sum_le, sum_less, sum_none}
use Rattle.rules.proofs.Tests.{and_left, and_right}
use Rattle.counting.specs.Counted.{edge_counts, edge_in}

-- two numbers count for one edge at most
pub edge_le : (edge : Edge) (words : Matrix) (masks : List ℕ) (u v : ℕ) → edge_in edge words masks u v ≤ 1
edge_le edge words masks u v = given_le (edge_counts edge (mask_of masks u) (mask_of masks v)) (given_le (has_edge words u v) (omega arith))

given_swap : (a b : Bool) → given a (given b 1) ≡ given b (given a 1)
given_swap true b = refl
given_swap false true = refl
given_swap false false = refl

module _ (edge : Edge) (words : Matrix) (masks : List ℕ) (j : ℕ) where
  abbrev row : ℕ → ℕ
  row u = edge_in edge words masks u j

  -- what an edge to u counts for
  abbrev counted : ℕ → ℕ
  counted u = given (edge_counts edge (mask_of masks u) (mask_of masks j)) 1

  -- what the numbers in a set count for
  abbrev left : List ℕ → ℕ → ℕ
  left rest u = given (member rest u) (counted u)

  pub record Counting (rest : List ℕ) (count : ℕ) : Type 0 where
    pub lesser : (u : ℕ) → u < 512 → member rest u ≡ true → u < j
    pub sum : count + sum_to (left rest) j ≡ sum_to row j

  pub counting_start : (below : List ℕ) {rest : List ℕ} → ((k : ℕ) → member below k ≡ ltb k j)
      → ((k : ℕ) → member rest k ≡ both words j below k) → Counting rest 0
  counting_start below {rest} b e = record {
    lesser = λ u h m. ltb-true u j (sym (b u) ∙ and_right (has_edge words j u) (member below u) (sym (e u) ∙ m));
    sum = omega (arith, sum_ext {f = left rest} {g = row} j (λ u l. same u l));
  }
    where
      same : (u : ℕ) → u < j → left rest u ≡ row u
      same u l =
          rw (e u, b u, lt-ltb u j l, and-true, words.both_ways j u)
          (given_swap (has_edge words u j) (edge_counts edge (mask_of masks u) (mask_of masks j)))

  -- the count stays small
  pub counting_small : {rest : List ℕ} {count : ℕ} → Counting rest count → count ≤ j
  counting_small c = omega (arith, c.sum, sum_le row j (λ u. edge_le edge words masks u j))

  module _ {rest : List ℕ} {count : ℕ} (c : Counting rest count) where
    -- a number that was found
    module _ {i : ℕ} {after : List ℕ} (taken : Taken rest i after) where
      met : member rest i ≡ true
      met = taken.first.found taken.small

      pub found_lesser : i < j
      found_lesser = c.lesser i taken.small met

      pub counting_next : (term : ℕ) → term ≡ counted i → Counting after (count + term)
      counting_next term t =
          let gone : left after i ≡ 0 = rw (taken.out i, met, eq-eqb i i refl) in
          let others : (k : ℕ) → (k ≡ i → ⊥) → left after k ≡ left rest k = λ k h. rw (taken.out k, ne_eqb k i h, and-true) in
          let here : left rest i ≡ counted i = rw met in
          record {
            lesser = λ u h m. c.lesser u h (kept u m);
            sum = omega (arith, c.sum, sum_less {f = left rest} {g = left after} j i found_lesser gone others, here, t);
          }
        where
          kept : (u : ℕ) → member after u ≡ true → member rest u ≡ true
          kept u m = and_left (member rest u) (not (eqb u i)) (sym (taken.out u) ∙ m)

    -- none is left
    pub counting_end : ((k : ℕ) → k < 512 → member rest k ≡ false) → j < 512 → count ≡ sum_to row j
    counting_end none small = omega (arith, c.sum, sum_none {f = left rest} j (λ u l. rw (none u (omega arith))))
