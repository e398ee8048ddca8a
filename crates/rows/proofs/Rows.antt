-- A row of added costs, filled entry by entry. Assumes nothing.
use mathlib.Core.Bool.{Bool, true, false}
use mathlib.Core.List.{List, [], ◌∷◌}
use mathlib.Core.Logic.{by_cases}
use mathlib.Core.Path.{◌≡◌, refl, sym, ap, ◌∙◌}
use Prim.Native.Nat.{ℕ, zero, suc, ◌+◌, ◌-◌, ◌*◌, ◌≤◌, ◌<◌}
use native.Mathlib.Decide.{ℕ_discrete}
use native.Mathlib.Nat.{mul-add, le_refl}
use native.Mathlib.Numerals.{add-one}
use native.Mathlib.Omega.{arith}
use lib.Dec.{eqb}
use lib.ListN.{length, get_or, take, set, replicate, get_or-replicate}
use lib.Seq.{get_or-set_same, get_or-set_other, take-suc, length-take-le}
use borrow.Author.Tests.{eq-eqb, ne_eqb}
use Rattle.rules.specs.Basics.{given, count_of}
use Rattle.rules.proofs.Lists.{length_keep, keep_no_longer}
use Rattle.rules.proofs.Tests.{by_test}
use Rattle.places.specs.Local.{on_mask, off_mask}
use Rattle.places.proofs.Counting.{count_append}

pub given_most : (b : Bool) (x : ℕ) → given b x ≤ x
given_most true x = omega arith
given_most false x = omega arith

-- ---- Entries

-- one entry more
pub on_next : (list p : List ℕ) (m i : ℕ) → i < length list → on_mask p m (take (i + 1) list) ≡ on_mask p m (take i list) + given (eqb (get_or p (get_or list i 0) 0) m) 1
unfolding count_of
on_next list p m i h = rw (add-one, take-suc list i 0 h) (count_append (λ u. eqb (get_or p u 0) m) (take i list) (get_or list i 0 ∷ []) ∙ omega arith)

pub on_none : (list p : List ℕ) (m : ℕ) → on_mask p m (take 0 list) ≡ 0
unfolding count_of
on_none list p m = refl

pub on_small : (list p : List ℕ) (m : ℕ) → on_mask p m list ≤ length list
on_small list p m = let f : ℕ → Bool = λ u. eqb (get_or p u 0) m in omega (arith, length_keep f list, keep_no_longer f list)

pub on_first : (list p : List ℕ) (m i : ℕ) → i ≤ length list → on_mask p m (take i list) ≤ i
on_first list p m i h = omega (arith, on_small (take i list) p m, length-take-le i list h)

-- each entry has the mask or not
pub on_off : (list p : List ℕ) (m : ℕ) → on_mask p m list + off_mask p m list ≡ length list
unfolding count_of
on_off [] p m = refl
on_off (x ∷ xs) p m =
    by_test (eqb (get_or p x 0) m)
    (λ e. rw e (omega (arith, on_off xs p m)))
    (λ e. rw e (omega (arith, on_off xs p m)))

module _ (list p sums row : List ℕ) (i : ℕ) (h : i < length list) (size : length sums ≡ 8) (small : get_or p (get_or list i 0) 0 < 8) where
  abbrev mask : ℕ
  mask = get_or p (get_or list i 0) 0

  -- one is taken off the entry's mask
  pub row_less : ((m : ℕ) → m < 8 → get_or sums m 0 + on_mask p m (take i list) ≡ get_or row m 0) → 1 ≤ get_or sums mask 0
      → (m : ℕ) → m < 8 → get_or (set sums mask (get_or sums mask 0 - 1)) m 0 + on_mask p m (take (i + 1) list) ≡ get_or row m 0
  row_less e some m l = by_cases (ℕ_discrete mask m)
      (λ q.
      let one : on_mask p m (take (i + 1) list) ≡ on_mask p m (take i list) + 1 = on_next list p m i h ∙ rw (eq-eqb mask m q) in
      let stored : get_or (set sums mask (get_or sums mask 0 - 1)) m 0 ≡ get_or sums mask 0 - 1
      = ap (λ (k : ℕ). get_or (set sums mask (get_or sums mask 0 - 1)) k 0) (sym q) ∙ get_or-set_same sums mask (get_or sums mask 0 - 1) 0 (omega arith) in
      omega (arith, e m l, ap (λ (k : ℕ). get_or sums k 0) q))
      (λ n.
      let one : on_mask p m (take (i + 1) list) ≡ on_mask p m (take i list) = on_next list p m i h ∙ rw (ne_eqb mask m n) (omega arith) in
      let stored = get_or-set_other sums mask m (get_or sums mask 0 - 1) 0 (λ q. n (sym q)) in
      omega (arith, e m l))

-- one entry more: its mask has the weight added
pub row_more : (list p sums sums' row : List ℕ) (weight i m : ℕ) → i < length list → get_or sums m 0 ≡ get_or row m 0 + weight * on_mask p m (take i list)
    → get_or sums' m 0 ≡ get_or sums m 0 + given (eqb (get_or p (get_or list i 0) 0) m) weight
    → get_or sums' m 0 ≡ get_or row m 0 + weight * on_mask p m (take (i + 1) list)
row_more list p sums sums' row weight i m h e n =
    let mask = get_or p (get_or list i 0) 0 in
    by_test (eqb mask m)
    (λ t.
    let one : on_mask p m (take (i + 1) list) ≡ on_mask p m (take i list) + 1 = on_next list p m i h ∙ rw t in
    omega (arith, n ∙ ap (λ (x : Bool). get_or sums m 0 + given x weight) t, e, ap (λ (k : ℕ). weight * k) one, mul-add weight (on_mask p m (take i list)) 1))
    (λ t.
    let one : on_mask p m (take (i + 1) list) ≡ on_mask p m (take i list) = on_next list p m i h ∙ rw t (omega arith) in
    omega (arith, n ∙ ap (λ (x : Bool). get_or sums m 0 + given x weight) t, e, ap (λ (k : ℕ). weight * k) one))

pub eight : (x m : ℕ) → m < 8 → get_or (replicate 8 x) m 0 ≡ x
eight x m l = get_or-replicate 8 m x 0 l

pub all_small : (n x m : ℕ) → get_or (replicate n x) m 0 ≤ x
all_small zero x m = omega arith
all_small (suc n) x zero = le_refl x
all_small (suc n) x (suc m) = all_small n x m
