-- Adjacency words: how they grow, one pair and one row at a time, and that those of a graph without loops have the graph's edges. Each law is
-- over the test that says whether two numbers are joined.
-- Assumes nothing.
use mathlib.Core.Bool.{Bool, true, false, ◌&&◌, ◌||◌, and-true, and-false, and-or_distrib_left, and-or_distrib_right, or_assoc, or-false}
use mathlib.Core.List.{List}
use mathlib.Core.Logic.{⊎_elim}
use mathlib.Core.Path.{◌≡◌, refl, sym, ap, ◌∙◌}
use Prim.Native.Nat.{ℕ, ◌+◌, ◌≤◌, ◌<◌, min, max}
use native.Mathlib.Decide.{dec_lt, dec_le, ℕ_discrete}
use native.Mathlib.Omega.{arith}
use lib.Dec.{eqb, ltb}
use lib.ListN.{length}
use borrow.Author.Tests.{eq-eqb, ne_eqb, eqb-true, lt-ltb, le-ltb}
use Rattle.bitset.specs.Edges.{has_edge, NoEdge}
use Rattle.bitset.specs.declared.matrix.Matrix.{Matrix}
use Rattle.rules.specs.declared.layer.Settings.{Settings}
use Rattle.rules.specs.declared.layer.Piece.{Piece}
use Rattle.rules.specs.Basics.{given}
use Rattle.rules.specs.Settings.{piece_at}
use Rattle.adjacency.specs.Drawn.{Drawn}
use Rattle.adjacency.specs.Adjacency.{conflict_of, stitch_of, tie_of, is_pair, in_row, RowTo, Holds, Adjacency, Ties}
use Rattle.rules.proofs.Edges.{no_self_conflict, no_self_stitch, no_self_tie}
use Rattle.rules.proofs.Tests.{and_left, and_right, or_either, same, same_where, ltb_next}

-- ---- a pair, by its lesser and its greater number

pair_sorted : (i j a b : ℕ) → i ≤ j → is_pair i j a b ≡ (eqb (min a b) i && eqb (max a b) j)
pair_sorted i j a b l = same _ _ forth back
  where
    sorted : min a b ≡ i → max a b ≡ j → (eqb (min a b) i && eqb (max a b) j) ≡ true
    sorted p q = rw (eq-eqb _ i p, eq-eqb _ j q)

    forth : is_pair i j a b ≡ true → (eqb (min a b) i && eqb (max a b) j) ≡ true
    forth e =
        ⊎_elim
        (λ h. let p = eqb-true a i (and_left (eqb a i) (eqb b j) h) in let q = eqb-true b j (and_right (eqb a i) (eqb b j) h) in sorted (omega arith) (omega arith))
        (λ h. let p = eqb-true a j (and_left (eqb a j) (eqb b i) h) in let q = eqb-true b i (and_right (eqb a j) (eqb b i) h) in sorted (omega arith) (omega arith))
        (or_either (eqb a i && eqb b j) (eqb a j && eqb b i) e)

    back : (eqb (min a b) i && eqb (max a b) j) ≡ true → is_pair i j a b ≡ true
    back e =
        let p = eqb-true (min a b) i (and_left (eqb (min a b) i) (eqb (max a b) j) e) in
        let q = eqb-true (max a b) j (and_right (eqb (min a b) i) (eqb (max a b) j) e) in
        go p q (dec_le a b)
      where
        go : min a b ≡ i → max a b ≡ j → Dec (a ≤ b) → is_pair i j a b ≡ true
        go p q (yes h) = rw (eq-eqb a i (omega arith), eq-eqb b j (omega arith))
        go p q (no h) = rw (ne_eqb a i (λ z. omega arith), eq-eqb a j (omega arith), eq-eqb b i (omega arith))

-- one pair more of a row
row_next : (i j a b : ℕ) → i ≤ j → in_row (i + 1) j a b ≡ (in_row i j a b || is_pair i j a b)
row_next i j a b l = rw (pair_sorted i j a b l, ltb_next (min a b) i) (and-or_distrib_right (ltb (min a b) i) (eqb (min a b) i) (eqb (max a b) j))

module _ (edge : ℕ → ℕ → Bool) (symmetric : (a b : ℕ) → edge a b ≡ edge b a) where
  -- a pair is joined as its two numbers are
  pair_edge : (i j a b : ℕ) → (edge i j && is_pair i j a b) ≡ (edge a b && is_pair i j a b)
  pair_edge i j a b = same_where (edge i j) (edge a b) (is_pair i j a b) λ e.
      ⊎_elim
      (λ h. rw (eqb-true a i (and_left (eqb a i) (eqb b j) h), eqb-true b j (and_right (eqb a i) (eqb b j) h)))
      (λ h. rw (eqb-true a j (and_left (eqb a j) (eqb b i) h), eqb-true b i (and_right (eqb a j) (eqb b i) h)) (symmetric i j))
      (or_either (eqb a i && eqb b j) (eqb a j && eqb b i) e)

  pub row_none : (j : ℕ) (words : Matrix) → RowTo edge 0 j words words
  row_none j words = record { bits = λ a b. rw (le-ltb (min a b) 0 (omega arith), and-false (edge a b)) (sym (or-false (has_edge words a b))) }

  -- i and j are joined where they were found to have an edge
  pub row_more : (i j : ℕ) (found : Bool) {before words after : Matrix} → i ≤ j → found ≡ edge i j → RowTo edge i j before words
      → ((a b : ℕ) → has_edge after a b ≡ (has_edge words a b || (found && is_pair i j a b)))
      → RowTo edge (i + 1) j before after
  row_more i j found {before} {words} {after} l e row more = record {
    bits = λ a b.
        more a b
        ∙ rw (e, row.bits a b, pair_edge i j a b, row_next i j a b l)
        (or_assoc (has_edge before a b) (edge a b && in_row i j a b) (edge a b && is_pair i j a b)
        ∙ ap (λ (x : Bool). has_edge before a b || x) (sym (and-or_distrib_left (edge a b) (in_row i j a b) (is_pair i j a b))));
  }

  -- which the two are, or are not
  pub row_joined : {i j : ℕ} {before words after : Matrix} → i ≤ j → edge i j ≡ true → RowTo edge i j before words
      → ((a b : ℕ) → has_edge after a b ≡ (has_edge words a b || (eqb a i && eqb b j) || (eqb a j && eqb b i)))
      → RowTo edge (i + 1) j before after
  row_joined {i} {j} {words = words} l e row join =
      row_more i j true l (sym e) row (λ a b. join a b ∙ or_assoc (has_edge words a b) (eqb a i && eqb b j) (eqb a j && eqb b i))

  pub row_kept : {i j : ℕ} {before words : Matrix} → i ≤ j → edge i j ≡ false → RowTo edge i j before words → RowTo edge (i + 1) j before words
  row_kept {i} {j} {words = words} l e row = row_more i j false l (sym e) row (λ a b. sym (or-false (has_edge words a b)))

-- ---- rows

-- the words after the rows below n
pub record Rows (edge : ℕ → ℕ → Bool) (n : ℕ) (words : Matrix) : Type 0 where
  pub bits : (a b : ℕ) → has_edge words a b ≡ (edge a b && (ltb (min a b) (max a b) && ltb (max a b) n))

pub rows_none : (edge : ℕ → ℕ → Bool) {words : Matrix} → NoEdge words → Rows edge 0 words
rows_none edge e = record { bits = λ a b. rw (le-ltb (max a b) 0 (omega arith), and-false (ltb (min a b) (max a b)), and-false (edge a b)) (e.none a b) }

-- the pairs with greater number n, and those below
last_row : (m x n : ℕ) → ((ltb m x && ltb x n) || (ltb m n && eqb x n)) ≡ (ltb m x && ltb x (n + 1))
last_row m x n =
    rw (same_where (ltb m n) (ltb m x) (eqb x n) (λ e. ap (ltb m) (sym (eqb-true x n e))), ltb_next x n)
    (sym (and-or_distrib_left (ltb m x) (ltb x n) (eqb x n)))

pub rows_more : (edge : ℕ → ℕ → Bool) (n : ℕ) {words after : Matrix} → Rows edge n words → RowTo edge n n words after → Rows edge (n + 1) after
rows_more edge n {words} {after} rows row = record {
  bits = λ a b.
      row.bits a b
      ∙ rw (rows.bits a b)
      (sym (and-or_distrib_left (edge a b) (ltb (min a b) (max a b) && ltb (max a b) n) (in_row n n a b)) ∙ ap (λ (x : Bool). edge a b && x) (last_row (min a b) (max a b) n));
}

-- ---- all rows

pub given_test : (b : Bool) → ltb 0 (given b 1) ≡ b
given_test true = refl
given_test false = refl

-- rows of a test without loops
pub rows_hold : (joins : ℕ → ℕ → Bool) (n : ℕ) {words : Matrix} → ((a : ℕ) → a < n → joins a a ≡ false)
    → Rows joins n words → Holds (λ a b. given (joins a b) 1) n words
rows_hold joins n {words} loops rows = record { bits = λ a b. rows.bits a b ∙ go a b (dec_lt a n) (dec_lt b n) (ℕ_discrete a b) }
  where
    go : (a b : ℕ) → Dec (a < n) → Dec (b < n) → Dec (a ≡ b)
        → (joins a b && (ltb (min a b) (max a b) && ltb (max a b) n)) ≡ (ltb a n && ltb b n && ltb 0 (given (joins a b) 1))
    go a b (yes l) (yes m) (yes e) = rw (lt-ltb a n l, lt-ltb b n m, given_test (joins a b), e, loops b m)
    go a b (yes l) (yes m) (no e) =
        rw (lt-ltb a n l, lt-ltb b n m, given_test (joins a b), lt-ltb (min a b) (max a b) (omega arith), lt-ltb (max a b) n (omega arith)) (and-true (joins a b))
    go a b (yes l) (no m) d =
        rw (lt-ltb a n l, le-ltb b n (omega arith), le-ltb (max a b) n (omega arith), and-false (ltb (min a b) (max a b))) (and-false (joins a b))
    go a b (no l) k d =
        rw (le-ltb a n (omega arith), le-ltb (max a b) n (omega arith), and-false (ltb (min a b) (max a b))) (and-false (joins a b))

-- the rows of a drawn layer's pieces: no piece is joined to itself
module _ (s : Settings) (ps : List Piece) (drawn : Drawn s ps) where
  pub rows_adjacency : {conflictWords stitchWords : Matrix} → Rows (conflict_of s ps) (length ps) conflictWords → Rows (stitch_of s ps) (length ps) stitchWords
      → Adjacency s ps (length ps) conflictWords stitchWords
  rows_adjacency conflicts stitches = record {
    conflicts = rows_hold _ (length ps) (λ a h. no_self_conflict s (piece_at ps a)) conflicts;
    stitches = rows_hold _ (length ps) (λ a h. no_self_stitch s (piece_at ps a) drawn.settings (drawn.areas a h)) stitches;
  }

  pub rows_ties : {words : Matrix} → Rows (tie_of s ps) (length ps) words → Ties s ps (length ps) words
  rows_ties rows = rows_hold _ (length ps) (λ a h. no_self_tie s (piece_at ps a) (drawn.areas a h)) rows

-- ---- what the words say

-- the words and the graph have the same edges between numbers below n
pub words_edges : (joins : ℕ → ℕ → Bool) {n : ℕ} {words : Matrix} → Holds (λ a b. given (joins a b) 1) n words
    → (a b : ℕ) → a < n → b < n → given (has_edge words a b) 1 ≡ given (joins a b) 1
words_edges joins {n} {words} holds a b h k =
    let e : has_edge words a b ≡ joins a b = holds.bits a b ∙ rw (lt-ltb a n h, lt-ltb b n k) (given_test (joins a b)) in
    rw e

-- where no two numbers have edges of both kinds, no bit is set in the words of both
pub words_exclusive : {edges others : ℕ → ℕ → ℕ} {n : ℕ} {words otherWords : Matrix} → Holds edges n words → Holds others n otherWords
    → ((a b : ℕ) → ltb 0 (edges a b) ≡ true → ltb 0 (others a b) ≡ false) → (a b : ℕ) → has_edge words a b ≡ true → has_edge otherWords a b ≡ false
words_exclusive {edges} {others} {n} {words} holds other exclusive a b e =
    let set : (ltb a n && ltb b n && ltb 0 (edges a b)) ≡ true = sym (holds.bits a b) ∙ e in
    other.bits a b ∙ rw (exclusive a b (and_right (ltb a n && ltb b n) (ltb 0 (edges a b)) set)) (and-false (ltb a n && ltb b n))
