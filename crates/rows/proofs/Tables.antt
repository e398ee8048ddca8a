-- The table of a weight, made row by row. Assumes nothing.
use mathlib.Core.Bool.{Bool, ◌&&◌, and-false}
use mathlib.Core.List.{List, []}
use mathlib.Core.Logic.{by_cases}
use mathlib.Core.Path.{◌≡◌, refl, sym, ap, ◌∙◌}
use Prim.Native.Nat.{ℕ, ◌+◌, ◌<◌}
use native.Mathlib.Decide.{ℕ_discrete}
use native.Mathlib.Omega.{arith}
use lib.Dec.{eqb, ltb}
use lib.ListN.{length, get_or, set, replicate, length-set, get_or-replicate}
use lib.Seq.{get_or-set_same, get_or-set_other}
use borrow.Author.Tests.{eq-eqb, ne_eqb, lt-ltb, le-ltb}
use Rattle.rules.specs.Basics.{given}
use Rattle.rules.proofs.Tests.{by_test, ltb_next}
use Rattle.rows.specs.Weights.{weight_at}

-- where x is not h, it is below the next number exactly where it is below h
other_next : (x h : ℕ) → (x ≡ h → ⊥) → ltb x (h + 1) ≡ ltb x h
other_next x h n = ltb_next x h ∙ rw (ne_eqb x h n) (by_test (ltb x h) (λ e. rw e) (λ e. rw e))

-- the rows below k are made
pub record TableTo (weight : ℕ) (rows : List (List ℕ)) (k : ℕ) : Type 0 where
  pub long : length rows ≡ 8
  pub wide : (h : ℕ) → h < 8 → length (get_or rows h []) ≡ 8
  pub entries : (h m : ℕ) → h < 8 → m < 8 → weight_at rows h m ≡ given (eqb h m && ltb h k) weight

pub table_none : (weight : ℕ) → TableTo weight (replicate 8 (replicate 8 0)) 0
table_none weight =
    let here : (h : ℕ) → h < 8 → get_or (replicate 8 (replicate {A = ℕ} 8 0)) h [] ≡ replicate 8 0 = λ h l. get_or-replicate 8 h (replicate 8 0) [] l in
    record {
      long = refl;
      wide = λ h a. ap length (here h a);
      entries = λ h m a b.
          ap (λ (row : List ℕ). get_or row m 0) (here h a) ∙ get_or-replicate 8 m 0 0 b ∙ rw (le-ltb h 0 (omega arith), and-false (eqb h m));
    }

-- row k gets the weight
pub table_next : {weight : ℕ} {rows : List (List ℕ)} {k : ℕ} → k < 8 → TableTo weight rows k → TableTo weight (set rows k (set (get_or rows k []) k weight)) (k + 1)
table_next {weight} {rows} {k} l t =
    let old = get_or rows k [] in
    let row = set old k weight in
    let there : k < length rows = omega (arith, t.long) in
    let inside : k < length old = omega (arith, t.wide k l) in
    let here : get_or (set rows k row) k [] ≡ row = get_or-set_same rows k row [] there in
    let other : (h : ℕ) → (h ≡ k → ⊥) → get_or (set rows k row) h [] ≡ get_or rows h [] = λ h n. get_or-set_other rows k h row [] n in
    record {
      long = length-set rows k row ∙ t.long;
      wide = λ h a. by_cases (ℕ_discrete h k)
          (λ e. ap (λ (x : ℕ). length (get_or (set rows k row) x [])) e ∙ ap length here ∙ length-set old k weight ∙ t.wide k l)
          (λ n. ap length (other h n) ∙ t.wide h a);
      entries = λ h m a b. by_cases (ℕ_discrete h k)
          (λ e.
          ap (λ (x : ℕ). weight_at (set rows k row) x m) e ∙ ap (λ (r : List ℕ). get_or r m 0) here
          ∙ rw (e, lt-ltb k (k + 1) (omega arith))
          (by_cases (ℕ_discrete m k)
          (λ d. rw (d, eq-eqb k k refl) (get_or-set_same old k weight 0 inside))
          (λ n. get_or-set_other old k m weight 0 n ∙ t.entries k m l b ∙ rw (ne_eqb k m (λ d. n (sym d))))))
          (λ n. ap (λ (r : List ℕ). get_or r m 0) (other h n) ∙ t.entries h m a b ∙ ap (λ (x : Bool). given (eqb h m && x) weight) (sym (other_next h k n)));
    }
