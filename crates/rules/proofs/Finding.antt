-- What `find` finds: in a list with a head, among those kept, and among the numbers below n. Tests that agree on the members find the same, and
-- lists with the same members have one that passes or not alike. Assumes nothing.
use mathlib.Core.Bool.{Bool, true, false, ◌&&◌, ◌||◌, or-true}
use mathlib.Core.List.{List, [], ◌∷◌}
use mathlib.Core.Logic.{⊎_elim}
use mathlib.Core.Option.{none, some}
use mathlib.Core.Path.{◌≡◌, refl, sym, ap, ◌∙◌}
use Prim.Native.Nat.{ℕ, zero, suc, ◌+◌, ◌≤◌, ◌<◌}
use native.Mathlib.Omega.{arith}
use lib.Dec.{eqb}
use borrow.Author.Tests.{eqb-true, eqb-false}
use Rattle.rules.specs.Basics.{up_from, up_to, any_of, keep, find, without}
use Rattle.rules.proofs.Lists.{◌∈◌, here, later, Same, any_in, in_any, any_out, any_snoc, in_up_to, up_to_snoc, without_in, without_or}
use Rattle.rules.proofs.Tests.{by_test, clash, or_either, same}

pub find_pass : (f : ℕ → Bool) (x : ℕ) (xs : List ℕ) → f x ≡ true → find f (x ∷ xs) ≡ some x
unfolding find
find_pass f x xs e = rw (e, find)

pub find_fail : (f : ℕ → Bool) (x : ℕ) (xs : List ℕ) → f x ≡ false → find f (x ∷ xs) ≡ find f xs
unfolding find
find_fail f x xs e = rw (e, find)

pub find_nothing : (f : ℕ → Bool) (xs : List ℕ) → ((u : ℕ) → u ∈ xs → f u ≡ false) → find f xs ≡ none
unfolding find
find_nothing f [] h = refl
find_nothing f (x ∷ xs) h = find_fail f x xs (h x (here refl)) ∙ find_nothing f xs (λ u m. h u (later m))

-- tests that agree on the members
pub find_same : (f h : ℕ → Bool) (xs : List ℕ) → ((u : ℕ) → u ∈ xs → f u ≡ h u) → find f xs ≡ find h xs
unfolding find
find_same f h [] e = refl
find_same f h (x ∷ xs) e =
    let r : find f xs ≡ find h xs = find_same f h xs (λ u m. e u (later m)) in
    let q : f x ≡ h x = e x (here refl) in
    by_test (h x) (λ d. cc) (λ d. cc)

-- among those that pass another test
pub find_keep : (f h : ℕ → Bool) (xs : List ℕ) → find h (keep f xs) ≡ find (λ u. f u && h u) xs
unfolding find keep
find_keep f h [] = refl
find_keep f h (x ∷ xs) =
    let r : find h (keep f xs) ≡ find (λ u. f u && h u) xs = find_keep f h xs in
    by_test (f x) (λ e. by_test (h x) (λ d. cc) (λ d. cc)) (λ e. cc)

-- among consecutive numbers, the least that passes
find_from : (f : ℕ → Bool) (m k r : ℕ) → m ≤ r → r < m + k → ((i : ℕ) → m ≤ i → i < r → f i ≡ false) → f r ≡ true → find f (up_from m k) ≡ some r
unfolding up_from
find_from f m zero r l h before e = absurd (omega arith)
find_from f m (suc k) r l h before e =
    by_test (eqb r m)
    (λ t. let q : m ≡ r = omega (arith, eqb-true r m t) in rw q (find_pass f r (up_from (suc r) k) e))
    (λ t.
    find_fail f m (up_from (suc m) k) (before m (omega arith) (omega (arith, eqb-false r m t)))
    ∙ find_from f (suc m) k r (omega (arith, eqb-false r m t)) (omega arith) (λ i a b. before i (omega arith) b) e)

pub find_up_to : (f : ℕ → Bool) (n r : ℕ) → r < n → ((i : ℕ) → i < r → f i ≡ false) → f r ≡ true → find f (up_to n) ≡ some r
find_up_to f n r h before e = find_from f 0 n r (omega arith) (omega arith) (λ i a b. before i b) e

pub find_none_up_to : (f : ℕ → Bool) (n : ℕ) → ((i : ℕ) → i < n → f i ≡ false) → find f (up_to n) ≡ none
find_none_up_to f n h = find_nothing f (up_to n) (λ u m. h u ((in_up_to n u).0 m))

-- where one passes, the least that does
pub least_up_to : (f : ℕ → Bool) (n : ℕ) → any_of f (up_to n) ≡ true → (r : ℕ) × (r < n) × (f r ≡ true) × ((i : ℕ) → i < r → f i ≡ false)
unfolding any_of up_from
least_up_to f zero e = clash e refl
least_up_to f (suc n) e =
    let split : any_of f (up_to (suc n)) ≡ (any_of f (up_to n) || f n) = ap (any_of f) (up_to_snoc n) ∙ any_snoc f (up_to n) n in
    by_test (any_of f (up_to n))
    (λ t. let r = least_up_to f n t in (r.0, omega (arith, r.1), r.2, r.3))
    (λ t. (n, omega arith, rw t at (sym split ∙ e), λ i l. any_out f (up_to n) t i ((in_up_to n i).1 l)))

-- ---- whether one passes

-- lists with the same members
pub any_members : (f : ℕ → Bool) (xs ys : List ℕ) → Same xs ys → any_of f xs ≡ any_of f ys
any_members f xs ys s = same _ _
    (λ e. let r = any_in f xs e in in_any f ((s r.0).0 r.1) r.2)
    (λ e. let r = any_in f ys e in in_any f ((s r.0).1 r.1) r.2)

-- one member, or one of the others
pub any_without : (f : ℕ → Bool) {u : ℕ} {xs : List ℕ} → u ∈ xs → any_of f xs ≡ (f u || any_of f (without u xs))
any_without f {u} {xs} i = same _ _
    (λ e.
    let r = any_in f xs e in
    ⊎_elim (λ (q : r.0 ≡ u). rw (← q, r.2)) (λ (m : r.0 ∈ without u xs). rw (in_any f m r.2, or-true)) (without_or u r.1))
    (λ e. ⊎_elim (λ p. in_any f i p) (λ p. let r = any_in f (without u xs) p in in_any f (without_in u xs r.1).0 r.2) (or_either (f u) (any_of f (without u xs)) e))
