-- Laws of `member`: a word of a set, a set after one of its words is stored, sets of none and of the numbers below a bound, how
-- many members there are, and the rows of a matrix with no edge and of one in which two numbers were joined. A member is a word and a place there, so each law of
-- sets is one on a word's bits, and the place is found by arithmetic.
-- Assumes nothing.
use mathlib.Core.Path.{◌≡◌, refl, sym, ap, ap₂, ◌∙◌}
use mathlib.Core.Bool.{Bool, false, not, ◌&&◌, ◌||◌, or-false, and-true, and_comm, or_assoc, or_comm}
use mathlib.Core.List.{List, [], ◌∷◌, ◌++◌}
use Prim.Native.Nat.{ℕ, suc, ◌+◌, ◌-◌, ◌*◌, ◌/◌, ◌%◌, ◌^◌, ◌≤◌, ◌<◌}
use native.Mathlib.Decide.{ℕ_discrete, dec_lt}
use native.Mathlib.Omega.{arith}
use lib.Dec.{eqb, ltb}
use lib.ListN.{length, get_or, set, drop, replicate, length-replicate, get_or-replicate, get_or-eq_default}
use lib.Seq.{get_or-set_same, get_or-set_other}
use lib.Bits.{bit_and, bit_or}
use borrow.Author.Tests.{eq-eqb, ne_eqb, lt-ltb, le-ltb}
use Rattle.std.specs.List.{sum_by}
use Rattle.std.proofs.lemmas.List.Sums.{sum_by-cons}
use Rattle.std.proofs.lemmas.List.{length-set, get_or_default, get_or_append_left, get_or-append_right, get_or-drop}
use Rattle.bitset.specs.Bits.{bit, member, count_below, BothWays, LowestSet, Dropped}
use Rattle.bitset.proofs.Counts.{count_add, count_ext}
use Rattle.bitset.proofs.Words.{bit-and, bit-or, bit_not, bit_shl, bit_ones, bit_of_zero}

-- ---- two tests of numbers are the same where each number fact gives the other

pub same_eqb : (a b c d : ℕ) → (a ≡ b → c ≡ d) → (c ≡ d → a ≡ b) → eqb a b ≡ eqb c d
same_eqb a b c d h i = go (ℕ_discrete a b)
  where
    go : Dec (a ≡ b) → eqb a b ≡ eqb c d
    go (yes p) = eq-eqb a b p ∙ sym (eq-eqb c d (h p))
    go (no n) = ne_eqb a b n ∙ sym (ne_eqb c d (λ e. n (i e)))

pub same_ltb : (a b c d : ℕ) → (a < b → c < d) → (c < d → a < b) → ltb a b ≡ ltb c d
same_ltb a b c d h i = go (dec_lt a b) (dec_lt c d)
  where
    go : Dec (a < b) → Dec (c < d) → ltb a b ≡ ltb c d
    go (yes l) m = lt-ltb a b l ∙ sym (lt-ltb c d (h l))
    go (no n) (yes l) = absurd (n (i l))
    go (no n) (no m) = le-ltb a b (omega arith) ∙ sym (le-ltb c d (omega arith))

-- ---- a word of a set

pub member_at : (s : List ℕ) (w k : ℕ) → k < 64 → member s (64 * w + k) ≡ bit (get_or s w 0) k
unfolding member
member_at s w k h =
    let q : (64 * w + k) / 64 ≡ w = omega arith in
    let r : (64 * w + k) % 64 ≡ k = omega arith in
    rw (q, r)

-- those in both sets, of the two words' `&`
pub intersection_word : (s t : List ℕ) (w k : ℕ) → k < 64 → (member s (64 * w + k) && member t (64 * w + k)) ≡ bit (bit_and (get_or s w 0) (get_or t w 0)) k
intersection_word s t w k l = rw (member_at s w k l, member_at t w k l) (sym (bit-and (get_or s w 0) (get_or t w 0) k))

-- past the first word of a set, the members are those of the words after it
member_later : (x : ℕ) (s : List ℕ) (k : ℕ) → member (x ∷ s) (64 + k) ≡ member s k
unfolding member
member_later x s k =
    let q : (64 + k) / 64 ≡ suc (k / 64) = omega arith in
    let r : (64 + k) % 64 ≡ k % 64 = omega arith in
    rw (q, r)

-- the members are as many as the bits of all words
pub count_words : (s : List ℕ) → sum_by (λ x. count_below 64 (bit x)) s ≡ count_below (64 * length s) (member s)
unfolding count_below
count_words [] = refl
count_words (x ∷ s) =
    let next : 64 * suc (length s) ≡ 64 + 64 * length s = omega arith in
    sum_by-cons (λ y. count_below 64 (bit y)) x s
    ∙ rw (next, count_add 64 (64 * length s) (member (x ∷ s)), count_words s)
    (sym (ap₂ ◌+◌ (count_ext 64 (member_at (x ∷ s) 0)) (count_ext (64 * length s) (λ k l. member_later x s k))))

-- ---- a set with no member: past its last word, and where each word is 0

pub member_past : (s : List ℕ) (k : ℕ) → 64 * length s ≤ k → member s k ≡ false
unfolding member
member_past s k h = rw (get_or-eq_default {A = ℕ} s 0 {n = k / 64} (omega arith)) (bit_of_zero (k % 64))

pub member_none : (n k : ℕ) → member (replicate n 0) k ≡ false
unfolding member
member_none n k = go (dec_lt (k / 64) n)
  where
    go : Dec (k / 64 < n) → bit (get_or (replicate n 0) (k / 64) 0) (k % 64) ≡ false
    go (yes l) = rw (get_or-replicate {A = ℕ} n (k / 64) 0 0 l) (bit_of_zero (k % 64))
    go (no m) = member_past (replicate n 0) k (rw (length-replicate {A = ℕ} n 0) (omega arith))

-- ---- the eight words of r are those of the test f

pub member_words : (f : ℕ → Bool) (r : List ℕ) → ((w k : ℕ) → w < 8 → k < 64 → bit (get_or r w 0) k ≡ f (64 * w + k)) → (k : ℕ) → k < 512 → member r k ≡ f k
member_words f r word k h =
    let e : 64 * (k / 64) + k % 64 ≡ k = omega arith in
    let m : member r (64 * (k / 64) + k % 64) ≡ f (64 * (k / 64) + k % 64) =
    member_at r (k / 64) (k % 64) (omega arith) ∙ word (k / 64) (k % 64) (omega arith) (omega arith)
    in rw e at m

-- past those words there are no members
pub member_all : (f : ℕ → Bool) (r : List ℕ) → length r ≡ 8 → ((k : ℕ) → 512 ≤ k → f k ≡ false) → ((k : ℕ) → k < 512 → member r k ≡ f k) → (k : ℕ) → member r k ≡ f k
member_all f r long none below k = go (dec_lt k 512)
  where
    go : Dec (k < 512) → member r k ≡ f k
    go (yes l) = below k l
    go (no n) = member_past r k (omega arith) ∙ sym (none k (omega arith))

-- ---- a set after v is stored as its word w

pub member_new : (s : List ℕ) (w v k : ℕ) → w < length s → k / 64 ≡ w → member (set s w v) k ≡ bit v (k % 64)
unfolding member
member_new s w v k l e = rw (e, get_or-set_same s w v 0 l)

pub member_kept : (s : List ℕ) (w v k : ℕ) → (k / 64 ≡ w → ⊥) → member (set s w v) k ≡ member s k
unfolding member
member_kept s w v k n = rw (get_or-set_other s w (k / 64) v 0 n)

-- after words of ones, a word of m ones: the numbers below n are members
pub member_fill : (s : List ℕ) (w m n : ℕ) → w < length s → m ≤ 64 → 64 * w + m ≡ n → ((k : ℕ) → member s k ≡ ltb k (64 * w))
    → (k : ℕ) → member (set s w (2 ^ m - 1)) k ≡ ltb k n
member_fill s w m n l h e p k = go (ℕ_discrete (k / 64) w)
  where
    go : Dec (k / 64 ≡ w) → member (set s w (2 ^ m - 1)) k ≡ ltb k n
    go (yes q) = rw (member_new s w (2 ^ m - 1) k l q, bit_ones m (k % 64)) (same_ltb (k % 64) m k n (λ i. omega arith) (λ i. omega arith))
    go (no d) = rw (member_kept s w (2 ^ m - 1) k d, p k) (same_ltb k (64 * w) k n (λ i. omega arith) (λ i. omega arith))

-- words of ones are stored over the first n of m words of 0: the numbers below those words are members
pub member_ones : (n m k : ℕ) → member (replicate n (2 ^ 64 - 1) ++ drop n (replicate {A = ℕ} m 0)) k ≡ ltb k (64 * n)
unfolding member
member_ones n m k = go (dec_lt (k / 64) n)
  where
    words : List ℕ
    words = replicate n (2 ^ 64 - 1) ++ drop n (replicate {A = ℕ} m 0)

    zeros : (j : ℕ) → get_or (replicate {A = ℕ} m 0) j 0 ≡ 0
    zeros j = here (dec_lt j m)
      where
        here : Dec (j < m) → get_or (replicate {A = ℕ} m 0) j 0 ≡ 0
        here (yes l) = get_or-replicate {A = ℕ} m j 0 0 l
        here (no g) = get_or-eq_default {A = ℕ} (replicate {A = ℕ} m 0) 0 (omega (arith, length-replicate {A = ℕ} m 0))

    go : Dec (k / 64 < n) → bit (get_or words (k / 64) 0) (k % 64) ≡ ltb k (64 * n)
    go (yes l) =
        let e : get_or words (k / 64) 0 ≡ 2 ^ 64 - 1 =
        get_or_append_left (replicate n (2 ^ 64 - 1)) (drop n (replicate {A = ℕ} m 0)) 0 (k / 64) (omega (arith, length-replicate {A = ℕ} n (2 ^ 64 - 1)))
        ∙ get_or-replicate {A = ℕ} n (k / 64) (2 ^ 64 - 1) 0 l
        in
        rw (e, bit_ones 64 (k % 64)) (same_ltb (k % 64) 64 k (64 * n) (λ i. omega arith) (λ i. omega arith))
    go (no g) =
        let e : get_or words (k / 64) 0 ≡ 0 =
        get_or-append_right (replicate n (2 ^ 64 - 1)) (drop n (replicate {A = ℕ} m 0)) n (k / 64) 0 (length-replicate {A = ℕ} n (2 ^ 64 - 1)) (omega arith)
        ∙ get_or-drop n (replicate {A = ℕ} m 0) (k / 64 - n) 0
        ∙ zeros (n + (k / 64 - n))
        in
        rw (e, bit_of_zero (k % 64)) (sym (le-ltb k (64 * n) (omega arith)))

-- one bit of a word is stored: j is the number at place p of the word w
module _ (s : List ℕ) (w p j : ℕ) (l : w < length s) (h : p < 64) (e : 64 * w + p ≡ j) where
  -- v has the word's bits but at p: f says what is there, of what was there and of whether it is p
  member_store : (f : Bool → Bool → Bool) → ((b : Bool) → f b false ≡ b)
      → (v : ℕ) → ((i : ℕ) → i < 64 → bit v i ≡ f (bit (get_or s w 0) i) (eqb i p))
      → (k : ℕ) → member (set s w v) k ≡ f (member s k) (eqb k j)
  unfolding member
  member_store f hf v hv k = go (ℕ_discrete (k / 64) w)
    where
      go : Dec (k / 64 ≡ w) → member (set s w v) k ≡ f (member s k) (eqb k j)
      go (yes q) =
          rw (member_new s w v k l q, hv (k % 64) (omega arith), q, same_eqb (k % 64) p k j (λ i. omega arith) (λ i. omega arith))
      go (no n) = rw (member_kept s w v k n, ne_eqb k j (λ i. n (omega arith))) (sym (hf _))

  pub member_put : (k : ℕ) → member (set s w (bit_or (get_or s w 0) ((1 * 2 ^ p) % 2 ^ 64))) k ≡ (member s k || eqb k j)
  member_put = member_store ◌||◌ or-false _ (λ i _. bit-or (get_or s w 0) ((1 * 2 ^ p) % 2 ^ 64) i ∙ rw (bit_shl 64 p i h))

  pub member_out : (k : ℕ) → member (set s w (bit_and (get_or s w 0) ((2 ^ 64 - 1) - (1 * 2 ^ p) % 2 ^ 64))) k ≡ (member s k && not (eqb k j))
  member_out =
      member_store (λ a b. a && not b) and-true _
      (λ i m. bit-and (get_or s w 0) _ i ∙ rw (bit_not 64 ((1 * 2 ^ p) % 2 ^ 64) i (omega arith) m, bit_shl 64 p i h))

  pub member_drop : (v : ℕ) → Dropped (get_or s w 0) v → LowestSet (get_or s w 0) p → (k : ℕ) → member (set s w v) k ≡ (member s k && not (eqb k j))
  member_drop v dropped low = member_store (λ a b. a && not b) and-true v (λ i m. dropped.bits p low i)

-- ---- rows with no member

pub row_none : {row : List ℕ} → row ≡ replicate 8 0 → (a b : ℕ) → member (get_or (replicate 512 row) a []) b ≡ false
row_none {row} e a b = go (dec_lt a 512)
  where
    go : Dec (a < 512) → member (get_or (replicate 512 row) a []) b ≡ false
    go (yes l) = rw (get_or-replicate {A = List ℕ} 512 a row [] l, e) (member_none 8 b)
    go (no m) = rw (get_or-eq_default {A = List ℕ} (replicate 512 row) [] {n = a} (omega (arith, length-replicate {A = List ℕ} 512 row))) (member_none 0 b)

-- ---- rows after j was put into row i, and then i into row j

row_put : (rows : List (List ℕ)) (i j : ℕ) (row d : List ℕ) → i < length rows → ((k : ℕ) → member row k ≡ (member (get_or rows i d) k || eqb k j))
    → (a b : ℕ) → member (get_or (set rows i row) a []) b ≡ (member (get_or rows a []) b || (eqb a i && eqb b j))
row_put rows i j row d l put a b = go (ℕ_discrete a i)
  where
    go : Dec (a ≡ i) → member (get_or (set rows i row) a []) b ≡ (member (get_or rows a []) b || (eqb a i && eqb b j))
    go (yes p) = rw (p, get_or-set_same rows i row [] l, eq-eqb i i refl, get_or_default rows i [] d l) (put b)
    go (no n) = rw (get_or-set_other rows i a row [] n, ne_eqb a i n) (sym (or-false (member (get_or rows a []) b)))

pub join_ways : (rows : List (List ℕ)) (i j : ℕ) (row row' d d' : List ℕ) → i < length rows → j < length rows → BothWays rows
    → ((k : ℕ) → member row k ≡ (member (get_or rows i d) k || eqb k j))
    → ((k : ℕ) → member row' k ≡ (member (get_or (set rows i row) j d') k || eqb k i))
    → BothWays (set (set rows i row) j row')
join_ways rows i j row row' d d' l m ways put put' a b =
    here a b
    ∙ rw (ways a b, and_comm (eqb a i) (eqb b j), and_comm (eqb a j) (eqb b i))
    (or_assoc (member (get_or rows b []) a) (eqb b j && eqb a i) (eqb b i && eqb a j)
    ∙ ap (λ (x : Bool). member (get_or rows b []) a || x) (or_comm (eqb b j && eqb a i) (eqb b i && eqb a j))
    ∙ sym (or_assoc (member (get_or rows b []) a) (eqb b i && eqb a j) (eqb b j && eqb a i)))
    ∙ sym (here b a)
  where
    here : (a b : ℕ) → member (get_or (set (set rows i row) j row') a []) b ≡ ((member (get_or rows a []) b || (eqb a i && eqb b j)) || (eqb a j && eqb b i))
    here a b = rw (row_put (set rows i row) j i row' d' (omega (arith, length-set rows i row)) put' a b, row_put rows i j row d l put a b)
