-- The library serves a small component: at the bound that it gives, no assignment of the component is cheaper (`library_spares`). The index of the
-- component's graph has its edges as bits (`index_edge`), so the graph on five pieces with this index has as many conflicts, whatever masks the pieces
-- added have (`padded_conflicts`). Assumes nothing.
use mathlib.Core.Bool.{Bool, true, false, not, ◌&&◌}
use mathlib.Core.List.{List, [], ◌∷◌, ◌++◌}
use mathlib.Core.Option.{Option, none, some}
use mathlib.Core.Path.{◌≡◌, refl, sym, ap, ap₂, subst, ◌∙◌}
use Prim.Native.Nat.{ℕ, zero, suc, ◌+◌, ◌*◌, ◌-◌, ◌/◌, ◌^◌, ◌≤◌, ◌<◌}
use native.Mathlib.Nat.{le_refl, le_trans, le_of_eq, le_antisymm, mul-le-mul_left, zero-div, div-one, pow-succ', div-div-eq-div-mul, zero-add, suc-add, add_comm, mul_comm}
use native.Mathlib.Omega.{arith}
use lib.Arith.{digits_div, digits_mod}
use lib.Dec.{eqb, ltb, leb}
use lib.ListN.{length, get_or, take, drop, replicate, length-append, length-drop, length-replicate, take-append-drop, get_or-append}
use lib.Seq.{length-take-le}
use borrow.Author.Tests.{eqb-true, ltb-true, ltb-false, leb-true, lt-ltb, le-ltb, not-true}
use Rattle.rules.specs.Basics.{given, sum_to, sum_pairs, up_to, any_of}
use Rattle.rules.specs.Edges.{Graph, in_stitch}
use Rattle.rules.specs.Score.{together, conflicts_of}
use Rattle.rules.specs.Peeling.{is_fixed}
use Rattle.rules.specs.Library.{least_conflicts, pair_number, bit_at, indexed, entry_of, value_of, edges_below, pair_edges, index_of, unlisted, unlisted_at, served, library_bound}
use Rattle.rules.specs.Search.{added, total, at_bound}
use Rattle.rules.proofs.Lists.{in_up_to, any_out, any_ext}
use Rattle.rules.proofs.Sums.{sum_none, pairs_ext}
use Rattle.rules.proofs.Tests.{by_test, clash, both, or_false}
use Rattle.theory.proofs.Each.{Each, each_append, each_replicate, each_take, each_at}
use Rattle.theory.proofs.HalfDone.{AllSet, below_set}
use Rattle.theory.proofs.Search.{Sparing}
use Rattle.theory.proofs.Least.{over_low, over_met, Unstitched, total_conflicts}

-- ---- Binary digits

pub digit : (bits : List ℕ) → Each (λ b. b ≤ 1) bits → (j : ℕ) → bit_at (value_of bits) j ≡ get_or bits j 0
unfolding value_of bit_at
digit [] e j = rw (zero-div (2 ^ j))
digit (b ∷ bits) e zero =
    let v = value_of bits in
    rw (div-one (b + 2 * v), add_comm b (2 * v), mul_comm 2 v) (digits_mod v (omega (arith, e.0)))
digit (b ∷ bits) e (suc j) =
    let v = value_of bits in
    let half : (b + 2 * v) / 2 ≡ v = rw (add_comm b (2 * v), mul_comm 2 v) (digits_div v (omega (arith, e.0))) in
    rw (pow-succ' 2 j, ← div-div-eq-div-mul (b + 2 * v) 2 (2 ^ j), half) (digit bits e.1 j)

-- ---- The ten pairs of five pieces

record Ten (P : ℕ → ℕ → Type 0) : Type 0 where
  p01 : P 0 1
  p02 : P 0 2
  p03 : P 0 3
  p04 : P 0 4
  p12 : P 1 2
  p13 : P 1 3
  p14 : P 1 4
  p23 : P 2 3
  p24 : P 2 4
  p34 : P 3 4

ten_at : {P : ℕ → ℕ → Type 0} → Ten P → (u v : ℕ) → u < v → v < 5 → P u v
ten_at t zero zero l h = absurd (omega arith)
ten_at t zero (suc zero) l h = t.p01
ten_at t zero (suc (suc zero)) l h = t.p02
ten_at t zero (suc (suc (suc zero))) l h = t.p03
ten_at t zero (suc (suc (suc (suc zero)))) l h = t.p04
ten_at t zero (suc (suc (suc (suc (suc v))))) l h = absurd (omega arith)
ten_at t (suc zero) zero l h = absurd (omega arith)
ten_at t (suc zero) (suc zero) l h = absurd (omega arith)
ten_at t (suc zero) (suc (suc zero)) l h = t.p12
ten_at t (suc zero) (suc (suc (suc zero))) l h = t.p13
ten_at t (suc zero) (suc (suc (suc (suc zero)))) l h = t.p14
ten_at t (suc zero) (suc (suc (suc (suc (suc v))))) l h = absurd (omega arith)
ten_at t (suc (suc zero)) zero l h = absurd (omega arith)
ten_at t (suc (suc zero)) (suc zero) l h = absurd (omega arith)
ten_at t (suc (suc zero)) (suc (suc zero)) l h = absurd (omega arith)
ten_at t (suc (suc zero)) (suc (suc (suc zero))) l h = t.p23
ten_at t (suc (suc zero)) (suc (suc (suc (suc zero)))) l h = t.p24
ten_at t (suc (suc zero)) (suc (suc (suc (suc (suc v))))) l h = absurd (omega arith)
ten_at t (suc (suc (suc zero))) zero l h = absurd (omega arith)
ten_at t (suc (suc (suc zero))) (suc zero) l h = absurd (omega arith)
ten_at t (suc (suc (suc zero))) (suc (suc zero)) l h = absurd (omega arith)
ten_at t (suc (suc (suc zero))) (suc (suc (suc zero))) l h = absurd (omega arith)
ten_at t (suc (suc (suc zero))) (suc (suc (suc (suc zero)))) l h = t.p34
ten_at t (suc (suc (suc zero))) (suc (suc (suc (suc (suc v))))) l h = absurd (omega arith)
ten_at t (suc (suc (suc (suc zero)))) zero l h = absurd (omega arith)
ten_at t (suc (suc (suc (suc zero)))) (suc zero) l h = absurd (omega arith)
ten_at t (suc (suc (suc (suc zero)))) (suc (suc zero)) l h = absurd (omega arith)
ten_at t (suc (suc (suc (suc zero)))) (suc (suc (suc zero))) l h = absurd (omega arith)
ten_at t (suc (suc (suc (suc zero)))) (suc (suc (suc (suc zero)))) l h = absurd (omega arith)
ten_at t (suc (suc (suc (suc zero)))) (suc (suc (suc (suc (suc v))))) l h = absurd (omega arith)
ten_at t (suc (suc (suc (suc (suc u))))) v l h = absurd (omega arith)

-- a number of so many digits
value_small : (bits : List ℕ) → Each (λ b. b ≤ 1) bits → value_of bits < 2 ^ length bits
unfolding value_of
value_small [] e = le_refl 1
value_small (b ∷ bits) e = omega (arith, e.0, value_small bits e.1, pow-succ' 2 (length bits))

-- no two of the vertices 0, 1, .., k - 1 have a doubled edge
abbrev pub Simple : Graph → ℕ → Type 0
Simple g k = (u v : ℕ) → u < v → v < k → g.conflicts u v ≤ 1

module _ (g : Graph) (k : ℕ) (simple : Simple g k) where
  -- an edge between two of the k, at most once
  one_at : (u v : ℕ) → u < v → edges_below g k u v ≤ 1
  one_at u v l = by_test (ltb v k) (λ e. rw e (simple u v l (ltb-true v k e))) (λ e. rw e (omega arith))

  bits_small : Each (λ b. b ≤ 1) (pair_edges g k)
  bits_small = (
    one_at 0 1 (omega arith),
    (
      one_at 0 2 (omega arith),
      (
        one_at 0 3 (omega arith),
        (
          one_at 0 4 (omega arith),
          (
            one_at 1 2 (omega arith),
            (
              one_at 1 3 (omega arith),
              (
                one_at 1 4 (omega arith),
                (one_at 2 3 (omega arith), (one_at 2 4 (omega arith), (one_at 3 4 (omega arith), tt))),
              ),
            ),
          ),
        ),
      ),
    ),
  )

  -- the index is one of the table's
  pub index_small : index_of g k < 1024
  unfolding index_of
  index_small = value_small (pair_edges g k) bits_small

  -- it has the edges as bits
  pub index_edge : (u v : ℕ) → u < v → v < 5 → (indexed 5 (index_of g k)).conflicts u v ≡ edges_below g k u v
  unfolding index_of pair_number sum_to
  index_edge =
      ten_at {P = λ u v. (indexed 5 (index_of g k)).conflicts u v ≡ edges_below g k u v} (record {
        p01 = digit (pair_edges g k) bits_small 0;
        p02 = digit (pair_edges g k) bits_small 1;
        p03 = digit (pair_edges g k) bits_small 2;
        p04 = digit (pair_edges g k) bits_small 3;
        p12 = digit (pair_edges g k) bits_small 4;
        p13 = digit (pair_edges g k) bits_small 5;
        p14 = digit (pair_edges g k) bits_small 6;
        p23 = digit (pair_edges g k) bits_small 7;
        p24 = digit (pair_edges g k) bits_small 8;
        p34 = digit (pair_edges g k) bits_small 9;
      })

-- ---- A component as a graph on five pieces

-- vertices without edges add nothing
pairs_more : (f : ℕ → ℕ → ℕ) (k d : ℕ) → ((u v : ℕ) → k ≤ v → f u v ≡ 0) → sum_pairs f (d + k) ≡ sum_pairs f k
unfolding sum_pairs sum_to
pairs_more f k zero e = rw (zero-add k)
pairs_more f k (suc d) e = rw (suc-add d k) (omega (arith, pairs_more f k d e, sum_none {f = λ u. f u (d + k)} (d + k) (λ u l. e u (d + k) (omega arith))))

-- masks q of a component, and r for the pieces added, have as many conflicts as q
padded_conflicts : (g : Graph) (q r : List ℕ) → length q + length r ≡ 5 → Simple g (length q)
    → conflicts_of (indexed 5 (index_of g (length q))) (q ++ r) 5 ≡ conflicts_of g q (length q)
unfolding conflicts_of
padded_conflicts g q r five simple =
    let k = length q in
    let at : ℕ → ℕ → ℕ = λ u v. given (together (q ++ r) u v) (edges_below g k u v) in
    pairs_ext 5 (λ u v l h. ap (given (together (q ++ r) u v)) (index_edge g k simple u v l h))
    ∙ ap (sum_pairs at) (omega arith)
    ∙ pairs_more at k (length r) (λ u v h. rw (le-ltb v k h) (by_test (together (q ++ r) u v) (λ e. rw e) (λ e. rw e)))
    ∙ pairs_ext k (λ u v l h. rw (lt-ltb v k h, get_or-append q r 0 u (omega arith), get_or-append q r 0 v h))

-- the library's entry is no more than the conflicts of any masks
entry_low : (g : Graph) (q : List ℕ) → length q ≤ 5 → Simple g (length q) → Each (λ m. m < 3) q → entry_of (index_of g (length q)) ≤ conflicts_of g q (length q)
unfolding least_conflicts
entry_low g q fits simple b =
    let r : List ℕ = replicate (5 - length q) 0 in
    let size : length r ≡ 5 - length q = length-replicate {A = ℕ} (5 - length q) 0 in
    le_trans
    (over_low 3 5 (λ masks. conflicts_of (indexed 5 (index_of g (length q))) masks 5) (q ++ r) (omega (arith, length-append q r))
    (each_append (λ m. m < 3) q r b (each_replicate (λ m. m < 3) 0 (omega arith) (5 - length q))))
    (le_of_eq (padded_conflicts g q r (omega arith) simple))

-- it is the least number of conflicts of the component itself
pub entry_least : (g : Graph) (k : ℕ) → k ≤ 5 → Simple g k → entry_of (index_of g k) ≡ least_conflicts 3 g k
unfolding least_conflicts
entry_least g k fits simple =
    let f : List ℕ → ℕ = λ masks. conflicts_of g masks k in
    let own = over_met 3 (omega arith) k f in
    let five = over_met 3 (omega arith) 5 (λ masks. conflicts_of (indexed 5 (index_of g k)) masks 5) in
    let q = take k five.masks in
    let r = drop k five.masks in
    let size : length q ≡ k = length-take-le k five.masks (omega (arith, five.size)) in
    let rest : length r ≡ length five.masks - k = length-drop k five.masks in
    le_antisymm
    (le_trans (subst (λ (n : ℕ). n ≤ 5 → Simple g n → entry_of (index_of g n) ≤ conflicts_of g own.masks n) own.size (λ fits simple. entry_low g own.masks fits simple own.below) fits simple)
    (le_of_eq own.value))
    (le_trans (over_low 3 k f q size (each_take (λ m. m < 3) k five.masks five.below))
    (le_of_eq
    (sym (subst (λ (n : ℕ). Simple g n → conflicts_of (indexed 5 (index_of g n)) (q ++ r) 5 ≡ conflicts_of g q n) size (padded_conflicts g q r (omega (arith, five.size))) simple)
    ∙ ap (λ (masks : List ℕ). conflicts_of (indexed 5 (index_of g k)) masks 5) (take-append-drop k five.masks)
    ∙ five.value)))

-- ---- The bound

-- what the test of a component says
pub record Served (K : ℕ) (g : Graph) (fixed : ℕ → ℕ) (k : ℕ) : Type 0 where
  pub three : K ≡ 3
  pub fits : k ≤ 5
  pub free : any_of (is_fixed fixed) (up_to k) ≡ false
  pub plain : Unstitched g k
  pub simple : Simple g k

pub served_by : (K : ℕ) (g : Graph) (fixed : ℕ → ℕ) (k : ℕ) → served K g fixed k ≡ true → Served K g fixed k
unfolding served
served_by K g fixed k e =
    let t = both (eqb K 3 && leb k 5 && not (any_of (is_fixed fixed) (up_to k))) (not (any_of (unlisted_at g) (up_to k))) e in
    let r = both (eqb K 3 && leb k 5) (not (any_of (is_fixed fixed) (up_to k))) t.0 in
    let s = both (eqb K 3) (leb k 5) r.0 in
    let listed : (u v : ℕ) → u < v → v < k → (in_stitch g u v ≡ false) × (ltb 1 (g.conflicts u v) ≡ false)
    = λ u v l h.
    or_false (in_stitch g u v) (ltb 1 (g.conflicts u v))
    (any_out (λ u. unlisted g u v) (up_to v) (any_out (unlisted_at g) (up_to k) (not-true (any_of (unlisted_at g) (up_to k)) t.1) v ((in_up_to k v).1 h)) u ((in_up_to v u).1 l)) in
    record {
      three = eqb-true K 3 s.0;
      fits = leb-true k 5 s.1;
      free = not-true (any_of (is_fixed fixed) (up_to k)) r.1;
      plain = λ u v l h. omega (arith, ltb-false 0 (g.stitches u v) (listed u v l h).0);
      simple = λ u v l h. ltb-false 1 (g.conflicts u v) (listed u v l h).1;
    }

-- a bound given where a test passes
abbrev bound_if : Bool → ℕ → Option ℕ
bound_if t b = elim t [ true ↦ some b | false ↦ none ]

spares_if : (t : Bool) (b c : ℕ) → (t ≡ true → b ≤ c) → Sparing (at_bound (bound_if t b)) c
spares_if true b c h x e = le_trans (le_of_eq (eqb-true x b e)) (h refl)
spares_if false b c h x e = clash e refl

-- masks below three are set
all_set : (q : List ℕ) → Each (λ m. m < 3) q → AllSet (length q) q
all_set q b i l = below_set q i (let low : get_or q i 0 < 3 = each_at (λ m. m < 3) q b i l in omega (arith, low))

-- no assignment of a component costs less than the bound that the library gives
pub library_spares : (K W : ℕ) (g : Graph) (fixed : ℕ → ℕ) (q : List ℕ) → Each (λ m. m < K) q → Sparing (at_bound (library_bound K W g fixed (length q))) (total (added W g) q)
library_spares K W g fixed q b =
    spares_if (served K g fixed (length q)) (W * entry_of (index_of g (length q))) (total (added W g) q)
    (λ e.
    let s = served_by K g fixed (length q) e in
    let low = rw s.three at b in
    rw (total_conflicts W g q s.plain (all_set q low)) (mul-le-mul_left W (entry_low g q s.fits s.simple low)))

-- ---- Two graphs with the same edges among the places

module _ (g h : Graph) (k : ℕ) (conflicts : (u v : ℕ) → u < v → v < k → g.conflicts u v ≡ h.conflicts u v) (stitches : (u v : ℕ) → u < v → v < k → g.stitches u v ≡ h.stitches u v) where
  bit_same : (u v : ℕ) → u < v → edges_below g k u v ≡ edges_below h k u v
  bit_same u v l = by_test (ltb v k) (λ e. ap (given (ltb v k)) (conflicts u v l (ltb-true v k e))) (λ e. rw e)

  index_same : index_of g k ≡ index_of h k
  unfolding index_of
  index_same = cc (
    bit_same 0 1 (omega arith),
    bit_same 0 2 (omega arith),
    bit_same 0 3 (omega arith),
    bit_same 0 4 (omega arith),
    bit_same 1 2 (omega arith),
    bit_same 1 3 (omega arith),
    bit_same 1 4 (omega arith),
    bit_same 2 3 (omega arith),
    bit_same 2 4 (omega arith),
    bit_same 3 4 (omega arith),
  )

  served_same : (K : ℕ) (fixed : ℕ → ℕ) → served K g fixed k ≡ served K h fixed k
  unfolding served
  served_same K fixed =
      ap (λ (b : Bool). eqb K 3 && leb k 5 && not (any_of (is_fixed fixed) (up_to k)) && not b)
      (any_ext k (λ v l. any_ext v (λ u m. cc (conflicts u v m l, stitches u v m l))))

  -- have the same bound
  pub bound_same : (K W : ℕ) (fixed : ℕ → ℕ) → library_bound K W g fixed k ≡ library_bound K W h fixed k
  bound_same K W fixed = ap₂ (λ (t : Bool) (i : ℕ). bound_if t (W * entry_of i)) (served_same K fixed) index_same
