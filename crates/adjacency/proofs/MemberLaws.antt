-- A bit set's members as a list: who is a member, that the list rises, which is the first, when it is the numbers below a bound, and what becomes of it
-- as members are taken out or come in. Assumes nothing.
use mathlib.Core.Bool.{true, not, ◌&&◌, ◌||◌, or-true}
use mathlib.Core.List.{List, [], ◌∷◌}
use mathlib.Core.Logic.{◌↔◌, ◌⊎◌, inl, inr, ⊎_elim}
use mathlib.Core.Path.{◌≡◌, refl, sym, ap, ◌∙◌}
use Prim.Native.Nat.{ℕ, zero, suc, ◌+◌, ◌-◌, ◌≤◌, ◌<◌}
use native.Mathlib.Omega.{arith}
use lib.Dec.{eqb, ltb}
use lib.ListN.{length}
use borrow.Author.Tests.{le-ltb, ltb-true, ltb-false}
use Rattle.bitset.specs.Bits.{member, First}
use Rattle.bitset.proofs.Rising.{least_le}
use Rattle.rules.specs.Basics.{up_from, up_to, keep, occurs, without}
use Rattle.rules.proofs.Lists.{◌∈◌, here, here-or-later, none_in, occurs_in, in_keep, keep_in, keep_same, keep_keep, keep_none, keep_no_longer, in_up_to, up_to_distinct, up_to_rising, length_up_to, distinct_keep, rising_keep, rising_distinct, without_head, without_shorter, Distinct, Rising}
use Rattle.rules.proofs.Tests.{by_test, both, or_either, same, eqb_sym}
use Rattle.adjacency.specs.Members.{members_of}

-- ---- who is a member

pub in_members : (s : List ℕ) (u : ℕ) → (u ∈ members_of s) ↔ ((u < 512) × (member s u ≡ true))
unfolding members_of
in_members s u = (λ m. let r = keep_in (member s) (up_to 512) m in ((in_up_to 512 u).0 r.0, r.1), λ p. in_keep (member s) ((in_up_to 512 u).1 p.0) p.1)

pub members_none : (s : List ℕ) → First (member s) 512 → members_of s ≡ []
unfolding members_of
members_none s first = keep_none (member s) _ (λ u m. first.before u ((in_up_to 512 u).0 m))

pub members_distinct : (s : List ℕ) → Distinct (members_of s)
unfolding members_of
members_distinct s = distinct_keep (member s) (up_to 512) (up_to_distinct 512)

pub members_rising : (s : List ℕ) → Rising (members_of s)
unfolding members_of
members_rising s = rising_keep (member s) (up_to 512) (up_to_rising 512)

pub members_few : (s : List ℕ) → length (members_of s) ≤ 512
unfolding members_of
members_few s = omega (arith, keep_no_longer (member s) (up_to 512), length_up_to 512)

pub members_occurs : (s : List ℕ) (u : ℕ) → u < 512 → occurs u (members_of s) ≡ member s u
members_occurs s u l = same _ _
    (λ e. ((in_members s u).0 ((occurs_in u (members_of s)).0 e)).1)
    (λ e. (occurs_in u (members_of s)).1 ((in_members s u).1 (l, e)))

-- ---- the first

-- a rising list begins with its least member
pub rising_first : (v : ℕ) (xs : List ℕ) → Rising xs → v ∈ xs → ((u : ℕ) → u ∈ xs → v ≤ u) → xs ≡ v ∷ without v xs
rising_first v [] r m least = none_in m
rising_first v (x ∷ xs) r m least =
    ⊎_elim
    (λ e. rw (without_head e (rising_distinct (x ∷ xs) r)) (ap (λ (y : ℕ). y ∷ xs) (sym e)))
    (λ n. absurd (omega (arith, r.0 v n, least x (here refl))))
    (here-or-later m)

pub members_first : (s : List ℕ) (v : ℕ) → v < 512 → First (member s) v → members_of s ≡ v ∷ without v (members_of s)
members_first s v l first =
    rising_first v (members_of s) (members_rising s) ((in_members s v).1 (l, first.found l))
    (λ u m. least_le true first.before ((in_members s u).0 m).1)

-- ---- the numbers below n

keep_past : (n m k : ℕ) → n ≤ m → keep (λ u. ltb u n) (up_from m k) ≡ []
unfolding up_from keep
keep_past n m zero l = refl
keep_past n m (suc k) l = rw (le-ltb m n l, keep) (keep_past n (suc m) k (omega arith))

keep_below : (n m k : ℕ) → m ≤ n → n ≤ m + k → keep (λ u. ltb u n) (up_from m k) ≡ up_from m (n - m)
unfolding up_from keep
keep_below n m zero l h = let e : n - m ≡ 0 = omega arith in rw e
keep_below n m (suc k) l h =
    by_test (ltb m n)
    (λ t.
    let b : m < n = ltb-true m n t in
    let e : n - m ≡ suc (n - suc m) = omega arith in
    rw (t, e, keep) (ap (λ (xs : List ℕ). m ∷ xs) (keep_below n (suc m) k (omega arith) (omega arith))))
    (λ t.
    let b : n ≤ m = ltb-false m n t in
    let e : n - m ≡ 0 = omega arith in
    rw e (keep_past n m (suc k) b))

pub members_below : (s : List ℕ) (n : ℕ) → n ≤ 512 → ((k : ℕ) → member s k ≡ ltb k n) → members_of s ≡ up_to n
unfolding members_of
members_below s n h e =
    keep_same (member s) (λ u. ltb u n) (up_to 512) (λ u m. e u)
    ∙ keep_below n 0 512 (omega arith) (omega arith)
    ∙ ap (up_from 0) (let z : n - 0 ≡ n = omega arith in z)

-- ---- taken out, and come in

-- v is taken out
pub members_out : (s t : List ℕ) (v : ℕ) → ((k : ℕ) → member t k ≡ (member s k && not (eqb k v))) → members_of t ≡ without v (members_of s)
unfolding members_of
members_out s t v out =
    keep_same (member t) (λ u. member s u && not (eqb v u)) (up_to 512) (λ u m. rw (eqb_sym v u) (out u))
    ∙ sym (keep_keep (λ y. not (eqb v y)) (member s) (up_to 512))

-- and there is one less
pub members_fewer : (s t : List ℕ) (v : ℕ) → v < 512 → member s v ≡ true → ((k : ℕ) → member t k ≡ (member s k && not (eqb k v)))
    → length (members_of t) < length (members_of s)
members_fewer s t v l e out = rw (members_out s t v out) (without_shorter ((in_members s v).1 (l, e)))

-- the members of t are kept of those of s, which has them all
pub members_kept : (s t : List ℕ) → ((u : ℕ) → u ∈ members_of t → u ∈ members_of s) → keep (λ u. occurs u (members_of t)) (members_of s) ≡ members_of t
unfolding members_of
members_kept s t inside =
    keep_keep (λ u. occurs u (members_of t)) (member s) (up_to 512)
    ∙ keep_same (λ u. member s u && occurs u (members_of t)) (member t) (up_to 512) (λ u m.
    let l = (in_up_to 512 u).0 m in
    rw (members_occurs t u l)
    (same _ _
    (λ e. (both (member s u) (member t u) e).1)
    (λ e. rw (((in_members s u).0 (inside u ((in_members t u).1 (l, e)))).1, e))))

-- those of r are taken out
pub members_rest : (s r t : List ℕ) → ((k : ℕ) → k < 512 → member t k ≡ (member s k && not (member r k)))
    → members_of t ≡ keep (λ u. not (occurs u (members_of r))) (members_of s)
unfolding members_of
members_rest s r t out =
    keep_same (member t) (λ u. member s u && not (occurs u (members_of r))) (up_to 512) (λ u m.
    let l = (in_up_to 512 u).0 m in
    rw (members_occurs r u l) (out u l))
    ∙ sym (keep_keep (λ u. not (occurs u (members_of r))) (member s) (up_to 512))

-- those of t come in
pub members_either : (s t r : List ℕ) → ((k : ℕ) → k < 512 → member r k ≡ (member s k || member t k))
    → (u : ℕ) → (u ∈ members_of r) ↔ ((u ∈ members_of s) ⊎ (u ∈ members_of t))
members_either s t r either u = (
  λ m. let (l, e) = (in_members r u).0 m in ⊎_elim
      (λ h. inl ((in_members s u).1 (l, h)))
      (λ h. inr ((in_members t u).1 (l, h)))
      (or_either (member s u) (member t u) (sym (either u l) ∙ e)),
  ⊎_elim
      (λ m. let (l, e) = (in_members s u).0 m in (in_members r u).1 (l, either u l ∙ rw e))
      (λ m. let (l, e) = (in_members t u).0 m in (in_members r u).1 (l, either u l ∙ rw (e, or-true (member s u)))),
)
