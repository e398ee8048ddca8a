-- The list words of the rules, in terms of membership. `u ∈ xs` is a place of u in xs. Each word of Basics.antt has a law from its result to the members
-- it speaks of (`keep_in`), and one back (`in_keep`), so that later proofs look at members and never at a list's recursion. Then lists without
-- repetition, rising lists, and counting: a list whose members take K different values under some function has at least K members.
use mathlib.Core.Bool.{Bool, true, false, not, ◌&&◌, ◌||◌, or-true, or_assoc, or-false as or-false-right}
use mathlib.Core.List.Memᴰ
use mathlib.Core.List.{List, [], ◌∷◌, ◌++◌, map, Memᴰ}
pub use mathlib.Core.List.Memᴰ.{cases_cons as here-or-later}
pub use mathlib.Core.List.Memᴰ.{cast as equal-in}
pub use mathlib.Core.List.Memᴰ.{head as here}
pub use mathlib.Core.List.Memᴰ.{tail as later}
use mathlib.Core.Logic.{◌↔◌, ◌⊎◌, inl, inr, ⊎_elim}
use mathlib.Core.Option.{Option, none, some}
use mathlib.Core.Path.{◌≡◌, refl, sym, ap, subst, ◌∙◌}
use Prim.Native.Nat.{ℕ, zero, suc, ◌+◌, ◌≤◌, ◌<◌}
use native.Mathlib.Numerals.{add-one}
use native.Mathlib.Omega.{arith}
use lib.Dec.{eqb}
use lib.ListN.{length, get_or, set}
use borrow.Author.Tests.{eqb-true, eqb-false, eq-eqb, ne_eqb, not-true}
use Rattle.rules.specs.Basics.{up_from, up_to, any_of, count_of, keep, find, occurs, without}
use Rattle.rules.proofs.Tests.{by_test, clash}

infix 4 ◌∈◌
abbrev pub ◌∈◌ : ℕ → List ℕ → Type 0
x ∈ xs = Memᴰ x xs

-- what holds of the head and of each later member holds of each member
pub each_cons : {Q : ℕ → Type 0} {x : ℕ} {xs : List ℕ} → Q x → ((u : ℕ) → u ∈ xs → Q u) → (u : ℕ) → u ∈ x ∷ xs → Q u
each_cons {Q} h hs u m = ⊎_elim (λ e. subst Q (sym e) h) (hs u) (here-or-later m)

pub none_in : {A : Type 0} {u : ℕ} → u ∈ [] → A
none_in m = absurd (Memᴰ.not-nil m)

-- ---- any_of, occurs

pub any_in : (f : ℕ → Bool) (xs : List ℕ) → any_of f xs ≡ true → (u : ℕ) × (u ∈ xs) × (f u ≡ true)
unfolding any_of
any_in f [] e = clash e refl
any_in f (x ∷ xs) e =
    by_test (f x)
    (λ p. (x, here refl, p))
    (λ p. let r = any_in f xs (rw p at e) in (r.0, later r.1, r.2))

pub in_any : (f : ℕ → Bool) {u : ℕ} {xs : List ℕ} → u ∈ xs → f u ≡ true → any_of f xs ≡ true
unfolding any_of
in_any f (here e) p = rw (← e, p)
in_any f (later m) p = rw (in_any f m p, or-true)

pub any_out : (f : ℕ → Bool) (xs : List ℕ) → any_of f xs ≡ false → (u : ℕ) → u ∈ xs → f u ≡ false
any_out f xs e u m = by_test (f u) (λ p. clash (in_any f m p) e) (λ p. p)

pub out_any : (f : ℕ → Bool) (xs : List ℕ) → ((u : ℕ) → u ∈ xs → f u ≡ false) → any_of f xs ≡ false
out_any f xs h = by_test (any_of f xs) (λ e. let r = any_in f xs e in clash r.2 (h r.0 r.1)) (λ e. e)

pub any_same : (f g : ℕ → Bool) (xs : List ℕ) → ((u : ℕ) → u ∈ xs → f u ≡ g u) → any_of f xs ≡ any_of g xs
unfolding any_of
any_same f g [] h = refl
any_same f g (x ∷ xs) h = rw (h x (here refl), any_same f g xs (λ u m. h u (later m)))

-- whether one of the list passes, with one more
pub any_snoc : (f : ℕ → Bool) (p : List ℕ) (m : ℕ) → any_of f (p ++ (m ∷ [])) ≡ (any_of f p || f m)
unfolding any_of
any_snoc f [] m = or-false-right (f m)
any_snoc f (x ∷ p) m = rw (any_snoc f p m) (sym (or_assoc (f x) (any_of f p) (f m)))

pub occurs_in : (x : ℕ) (xs : List ℕ) → (occurs x xs ≡ true) ↔ (x ∈ xs)
occurs_in x xs = (λ e. let r = any_in (eqb x) xs e in equal-in (eqb-true x r.0 r.2) r.1, λ m. in_any (eqb x) m (eq-eqb x x refl))

pub occurs_out : (x : ℕ) (xs : List ℕ) → (occurs x xs ≡ false) ↔ (x ∈ xs → ⊥)
occurs_out x xs = (λ e m. clash ((occurs_in x xs).1 m) e, λ h. by_test (occurs x xs) (λ e. absurd (h ((occurs_in x xs).0 e))) (λ e. e))

-- what stands at a place of a list is in it
pub place_in : (xs : List ℕ) (i : ℕ) → i < length xs → get_or xs i 0 ∈ xs
place_in [] i h = absurd (omega arith)
place_in (x ∷ xs) zero h = here refl
place_in (x ∷ xs) (suc i) h = later (place_in xs i (omega arith))

-- what stands inside a list does not depend on the default
pub default_same : (xs : List ℕ) (i d e : ℕ) → i < length xs → get_or xs i d ≡ get_or xs i e
default_same [] i d e l = absurd (omega arith)
default_same (x ∷ xs) zero d e l = refl
default_same (x ∷ xs) (suc i) d e l = default_same xs i d e (omega arith)

-- a property that all places have, where a number with it is put at one of them
pub set_each : (P : ℕ → Type 0) (xs : List ℕ) (v m : ℕ) → P m → ((i : ℕ) → P (get_or xs i 0)) → (i : ℕ) → P (get_or (set xs v m) i 0)
set_each P [] v m h f i = f i
set_each P (x ∷ xs) zero m h f zero = h
set_each P (x ∷ xs) zero m h f (suc i) = f (suc i)
set_each P (x ∷ xs) (suc v) m h f zero = f zero
set_each P (x ∷ xs) (suc v) m h f (suc i) = set_each P xs v m h (λ j. f (suc j)) i

pub in_or_out : (x : ℕ) (xs : List ℕ) → (x ∈ xs) ⊎ (x ∈ xs → ⊥)
in_or_out x xs = by_test (occurs x xs) (λ e. inl ((occurs_in x xs).0 e)) (λ e. inr ((occurs_out x xs).0 e))

-- ---- keep, without

module _ (f : ℕ → Bool) where
  keep_pass : (x : ℕ) (xs : List ℕ) → f x ≡ true → keep f (x ∷ xs) ≡ x ∷ keep f xs
  unfolding keep
  keep_pass x xs e = rw (e, keep)

  pub keep_fail : (x : ℕ) (xs : List ℕ) → f x ≡ false → keep f (x ∷ xs) ≡ keep f xs
  unfolding keep
  keep_fail x xs e = rw (e, keep)

  -- what holds of the list with its head and without it holds after the head's test
  pub keep_cases : (Q : List ℕ → Type 0) (x : ℕ) (xs : List ℕ) → (f x ≡ true → Q (x ∷ keep f xs)) → (f x ≡ false → Q (keep f xs)) → Q (keep f (x ∷ xs))
  keep_cases Q x xs pass fail = by_test (f x) (λ e. rw (keep_pass x xs e) (pass e)) (λ e. rw (keep_fail x xs e) (fail e))

  pub in_keep : {u : ℕ} {xs : List ℕ} → u ∈ xs → f u ≡ true → u ∈ keep f xs
  in_keep (here {x} {xs} e) p = rw (keep_pass x xs (rw (← e) p)) (here e)
  in_keep {u} (later {x} {xs} m) p = keep_cases (λ l. u ∈ l) x xs (λ _. later (in_keep m p)) (λ _. in_keep m p)

  pub keep_in : (xs : List ℕ) {u : ℕ} → u ∈ keep f xs → (u ∈ xs) × (f u ≡ true)
  unfolding keep
  keep_in [] m = none_in m
  keep_in (x ∷ xs) {u} m =
      keep_cases (λ l. u ∈ l → (u ∈ x ∷ xs) × (f u ≡ true)) x xs
      (λ e m. ⊎_elim (λ q. (here q, rw q e)) (λ n. let r = keep_in xs n in (later r.0, r.1)) (here-or-later m))
      (λ e m. let r = keep_in xs m in (later r.0, r.1))
      m

  pub keep_all : (xs : List ℕ) → ((u : ℕ) → u ∈ xs → f u ≡ true) → keep f xs ≡ xs
  unfolding keep
  keep_all [] h = refl
  keep_all (x ∷ xs) h = rw (keep_pass x xs (h x (here refl)), keep_all xs (λ u m. h u (later m)))

  pub keep_none : (xs : List ℕ) → ((u : ℕ) → u ∈ xs → f u ≡ false) → keep f xs ≡ []
  unfolding keep
  keep_none [] h = refl
  keep_none (x ∷ xs) h = keep_fail x xs (h x (here refl)) ∙ keep_none xs (λ u m. h u (later m))

-- the same for the two parts of a list: those that pass and those that fail
pub split_cases : (f : ℕ → Bool) (Q : List ℕ → List ℕ → Type 0) (x : ℕ) (xs : List ℕ)
    → (f x ≡ true → Q (x ∷ keep f xs) (keep (λ u. not (f u)) xs))
    → (f x ≡ false → Q (keep f xs) (x ∷ keep (λ u. not (f u)) xs))
    → Q (keep f (x ∷ xs)) (keep (λ u. not (f u)) (x ∷ xs))
split_cases f Q x xs pass fail =
    by_test (f x)
    (λ e. rw (keep_pass f x xs e, keep_fail (λ u. not (f u)) x xs (ap not e)) (pass e))
    (λ e. rw (keep_fail f x xs e, keep_pass (λ u. not (f u)) x xs (ap not e)) (fail e))

-- tests that agree on the members keep the same
pub keep_same : (f h : ℕ → Bool) (xs : List ℕ) → ((u : ℕ) → u ∈ xs → f u ≡ h u) → keep f xs ≡ keep h xs
unfolding keep
keep_same f h [] e = refl
keep_same f h (x ∷ xs) e =
    let r : keep f xs ≡ keep h xs = keep_same f h xs (λ u m. e u (later m)) in
    let q : f x ≡ h x = e x (here refl) in
    by_test (h x) (λ d. cc) (λ d. cc)

pub keep_keep : (f h : ℕ → Bool) (xs : List ℕ) → keep f (keep h xs) ≡ keep (λ u. h u && f u) xs
unfolding keep
keep_keep f h [] = refl
keep_keep f h (x ∷ xs) =
    let r : keep f (keep h xs) ≡ keep (λ u. h u && f u) xs = keep_keep f h xs in
    by_test (h x) (λ e. by_test (f x) (λ d. cc) (λ d. cc)) (λ e. cc)

pub without_in : (v : ℕ) (xs : List ℕ) {u : ℕ} → u ∈ without v xs → (u ∈ xs) × (v ≡ u → ⊥)
without_in v xs {u} m = let r = keep_in (λ y. not (eqb v y)) xs m in (r.0, eqb-false v u (not-true (eqb v u) r.1))

pub in_without : (v : ℕ) {u : ℕ} {xs : List ℕ} → u ∈ xs → (v ≡ u → ⊥) → u ∈ without v xs
in_without v {u} m h = in_keep (λ y. not (eqb v y)) m (ap not (ne_eqb v u h))

-- each member is v or one of the others
pub without_or : (v : ℕ) {u : ℕ} {xs : List ℕ} → u ∈ xs → (u ≡ v) ⊎ (u ∈ without v xs)
without_or v {u} m = by_test (eqb v u) (λ e. inl (sym (eqb-true v u e))) (λ e. inr (in_without v m (eqb-false v u e)))

-- ---- find

-- x is the first of xs that passes the test
pub record First (f : ℕ → Bool) (xs : List ℕ) (x : ℕ) : Type 0 where
  pub before : List ℕ
  pub after : List ℕ
  pub split : xs ≡ before ++ x ∷ after
  pub fail : (u : ℕ) → u ∈ before → f u ≡ false
  pub pass : f x ≡ true

pub first_in : {f : ℕ → Bool} {xs : List ℕ} {x : ℕ} → First f xs x → x ∈ xs
first_in h = rw h.split (Memᴰ.append_right h.before (here refl))

abbrev Found : (ℕ → Bool) → List ℕ → Option ℕ → Type 0
Found f xs none = (u : ℕ) → u ∈ xs → f u ≡ false
Found f xs (some x) = First f xs x

found : (f : ℕ → Bool) (xs : List ℕ) → Found f xs (find f xs)
unfolding find
found f [] = λ u m. none_in m
found f (x ∷ xs) =
    by_test (f x)
    (λ e. let q : find f (x ∷ xs) ≡ some x = cc in rw q (record { before = []; after = xs; split = refl; fail = λ u m. none_in m; pass = e }))
    (λ e. let q : find f (x ∷ xs) ≡ find f xs = cc in rw q (more e (find f xs) (found f xs)))
  where
    more : f x ≡ false → (o : Option ℕ) → Found f xs o → Found f (x ∷ xs) o
    more e none h = each_cons e h
    more e (some y) h = record {
      before = x ∷ h.before;
      after = h.after;
      split = ap (λ (l : List ℕ). x ∷ l) h.split;
      fail = each_cons e h.fail;
      pass = h.pass;
    }

pub find_first : (f : ℕ → Bool) (xs : List ℕ) {x : ℕ} → find f xs ≡ some x → First f xs x
find_first f xs e = subst (Found f xs) e (found f xs)

pub find_none : (f : ℕ → Bool) (xs : List ℕ) → find f xs ≡ none → (u : ℕ) → u ∈ xs → f u ≡ false
find_none f xs e = subst (Found f xs) e (found f xs)

-- ---- Distinct, Rising

-- no member stands twice
abbrev pub Distinct : List ℕ → Type 0
Distinct [] = Unit {0}
Distinct (x ∷ xs) = (x ∈ xs → ⊥) × Distinct xs

-- each member is less than all after it
abbrev pub Rising : List ℕ → Type 0
Rising [] = Unit {0}
Rising (x ∷ xs) = ((u : ℕ) → u ∈ xs → x < u) × Rising xs

pub rising_distinct : (xs : List ℕ) → Rising xs → Distinct xs
rising_distinct [] r = tt
rising_distinct (x ∷ xs) r = (λ m. omega (arith, r.0 x m), rising_distinct xs r.1)

module _ (f : ℕ → Bool) where
  pub distinct_keep : (xs : List ℕ) → Distinct xs → Distinct (keep f xs)
  unfolding keep
  distinct_keep [] d = tt
  distinct_keep (x ∷ xs) d = keep_cases f Distinct x xs (λ e. (λ m. d.0 (keep_in f xs m).0, distinct_keep xs d.1)) (λ e. distinct_keep xs d.1)

  pub rising_keep : (xs : List ℕ) → Rising xs → Rising (keep f xs)
  unfolding keep
  rising_keep [] r = tt
  rising_keep (x ∷ xs) r = keep_cases f Rising x xs (λ e. (λ u m. r.0 u (keep_in f xs m).0, rising_keep xs r.1)) (λ e. rising_keep xs r.1)

pub distinct_without : (v : ℕ) (xs : List ℕ) → Distinct xs → Distinct (without v xs)
distinct_without v = distinct_keep (λ y. not (eqb v y))

pub rising_without : (v : ℕ) (xs : List ℕ) → Rising xs → Rising (without v xs)
rising_without v = rising_keep (λ y. not (eqb v y))

-- One member taken out: it stands at the head, or the head stays.
pub without_head : {v x : ℕ} {xs : List ℕ} → v ≡ x → Distinct (x ∷ xs) → without v (x ∷ xs) ≡ xs
without_head {v} {x} {xs} e d =
    keep_fail (λ y. not (eqb v y)) x xs (ap not (eq-eqb v x e))
    ∙ keep_all (λ y. not (eqb v y)) xs (λ u m. ap not (ne_eqb v u (λ q. d.0 (equal-in (sym e ∙ q) m))))

pub without_tail : {v x : ℕ} {xs : List ℕ} → v ∈ xs → Distinct (x ∷ xs) → without v (x ∷ xs) ≡ x ∷ without v xs
without_tail {v} {x} {xs} m d = keep_pass (λ y. not (eqb v y)) x xs (ap not (ne_eqb v x (λ e. d.0 (equal-in (sym e) m))))

pub length_without : {v : ℕ} {xs : List ℕ} → v ∈ xs → Distinct xs → suc (length (without v xs)) ≡ length xs
length_without (here e) d = ap (λ (l : List ℕ). suc (length l)) (without_head e d)
length_without (later m) d = rw (without_tail m d, length_without m d.1)

-- ---- Lists with the same members

abbrev pub Same : List ℕ → List ℕ → Type 0
Same xs ys = (u : ℕ) → (u ∈ xs) ↔ (u ∈ ys)

pub same_nil : (ys : List ℕ) → Same [] ys → ys ≡ []
same_nil [] s = refl
same_nil (y ∷ ys) s = none_in ((s y).1 (here refl))

-- the head is taken out of both
pub same_without : {x : ℕ} {xs ys : List ℕ} → Distinct (x ∷ xs) → Same (x ∷ xs) ys → Same xs (without x ys)
same_without {x} {xs} {ys} d s u = (
  λ m. in_without x ((s u).0 (later m)) (λ e. d.0 (equal-in e m)),
  λ m. let r = without_in x ys m in ⊎_elim (λ e. absurd (r.1 (sym e))) (λ n. n) (here-or-later ((s u).1 r.0)),
)

-- ---- Counting

pub keep_no_longer : (f : ℕ → Bool) (xs : List ℕ) → length (keep f xs) ≤ length xs
unfolding keep
keep_no_longer f [] = omega arith
keep_no_longer f (x ∷ xs) =
    let r : length (keep f xs) ≤ length xs = keep_no_longer f xs in
    keep_cases f (λ l. length l ≤ suc (length xs)) x xs (λ _. omega arith) (λ _. omega arith)

-- a member that fails is missing in what is kept
pub keep_shorter : (f : ℕ → Bool) {u : ℕ} {xs : List ℕ} → u ∈ xs → f u ≡ false → length (keep f xs) < length xs
keep_shorter f (here {x} {xs} e) p = rw (keep_fail f x xs (rw (← e) p)) (omega (arith, keep_no_longer f xs))
keep_shorter f (later {x} {xs} m) p =
    let r : length (keep f xs) < length xs = keep_shorter f m p in
    keep_cases f (λ l. length l < suc (length xs)) x xs (λ _. omega arith) (λ _. omega arith)

pub without_shorter : {v : ℕ} {xs : List ℕ} → v ∈ xs → length (without v xs) < length xs
without_shorter {v} m = keep_shorter (λ y. not (eqb v y)) m (ap not (eq-eqb v v refl))

pub length_keep : (f : ℕ → Bool) (xs : List ℕ) → length (keep f xs) ≡ count_of f xs
unfolding keep count_of
length_keep f [] = refl
length_keep f (x ∷ xs) =
    let r : length (keep f xs) ≡ count_of f xs = length_keep f xs in
    by_test (f x) (λ e. rw (keep_pass f x xs e, e) (omega arith)) (λ e. rw (keep_fail f x xs e, e) (omega arith))

pub count_keep : (f h : ℕ → Bool) (xs : List ℕ) → count_of f (keep h xs) ≡ count_of (λ u. h u && f u) xs
count_keep f h xs = sym (length_keep f (keep h xs)) ∙ ap length (keep_keep f h xs) ∙ length_keep (λ u. h u && f u) xs

pub count_some : (f : ℕ → Bool) {u : ℕ} {xs : List ℕ} → u ∈ xs → f u ≡ true → 0 < count_of f xs
unfolding count_of
count_some f (here e) p = rw (← e, p) (omega arith)
count_some f (later m) p = omega (arith, count_some f m p)

-- none is counted exactly when each fails
pub count_none : (f : ℕ → Bool) (xs : List ℕ) → count_of f xs ≡ 0 → (u : ℕ) → u ∈ xs → f u ≡ false
count_none f xs e u m = by_test (f u) (λ p. absurd (omega (arith, count_some f m p))) (λ p. p)

pub none_count : (f : ℕ → Bool) (xs : List ℕ) → ((u : ℕ) → u ∈ xs → f u ≡ false) → count_of f xs ≡ 0
none_count f xs h = sym (length_keep f xs) ∙ ap length (keep_none f xs h)

-- two that pass are counted twice
pub count_two : (f : ℕ → Bool) {u v : ℕ} {xs : List ℕ} → u ∈ xs → v ∈ xs → f u ≡ true → f v ≡ true → (u ≡ v → ⊥) → 1 < count_of f xs
unfolding count_of
count_two f (here d) (here e) p q h = absurd (h (d ∙ sym e))
count_two f (here d) (later m) p q h = rw (← d, p) (omega (arith, count_some f m q))
count_two f (later m) (here e) p q h = rw (← e, q) (omega (arith, count_some f m p))
count_two f (later m) (later n) p q h = omega (arith, count_two f m n p q h)

-- where each number below K is some member's value, there are at least K members
pub pigeonhole : (h : ℕ → ℕ) (K : ℕ) (xs : List ℕ) → ((m : ℕ) → m < K → (u : ℕ) × (u ∈ xs) × (h u ≡ m)) → K ≤ length xs
pigeonhole h zero xs all = omega arith
pigeonhole h (suc k) xs all =
    let last = all k (omega arith) in
    let others : ℕ → Bool = λ u. not (eqb (h u) k) in
    omega (
      arith,
      keep_shorter others last.1 (ap not (eq-eqb (h last.0) k last.2)),
      pigeonhole h k (keep others xs) (λ m l. let r = all m (omega arith) in (r.0, in_keep others r.1 (ap not (ne_eqb (h r.0) k (λ e. omega (arith, r.2)))), r.2)),
    )

-- ---- up_to

up_from_in : (m k : ℕ) {u : ℕ} → u ∈ up_from m k → (m ≤ u) × (u < m + k)
unfolding up_from
up_from_in m zero i = none_in i
up_from_in m (suc k) {u} i = each_cons {Q = λ u. (m ≤ u) × (u < m + suc k)} (omega arith) (λ u n. let r = up_from_in (suc m) k n in omega arith) u i

pub in_up_from : (m k u : ℕ) → m ≤ u → u < m + k → u ∈ up_from m k
unfolding up_from
in_up_from m zero u l h = absurd (omega arith)
in_up_from m (suc k) u l h =
    by_test (eqb u m)
    (λ e. here (eqb-true u m e))
    (λ e. later (in_up_from (suc m) k u (omega (arith, eqb-false u m e)) (omega arith)))

pub in_up_to : (n u : ℕ) → (u ∈ up_to n) ↔ (u < n)
in_up_to n u = (λ i. omega (arith, up_from_in 0 n i), λ h. in_up_from 0 n u (omega arith) (omega arith))

up_from_snoc : (m k : ℕ) → up_from m (suc k) ≡ up_from m k ++ ((m + k) ∷ [])
unfolding up_from
up_from_snoc m zero = ap (λ (n : ℕ). n ∷ []) (omega arith)
up_from_snoc m (suc k) = ap (λ (l : List ℕ). m ∷ l) (up_from_snoc (suc m) k ∙ ap (λ (n : ℕ). up_from (suc m) k ++ (n ∷ [])) (omega arith))

pub up_to_snoc : (n : ℕ) → up_to (suc n) ≡ up_to n ++ (n ∷ [])
up_to_snoc n = up_from_snoc 0 n ∙ ap (λ (k : ℕ). up_to n ++ (k ∷ [])) (omega arith)

up_from_rising : (m k : ℕ) → Rising (up_from m k)
unfolding up_from
up_from_rising m zero = tt
up_from_rising m (suc k) = (λ u i. (up_from_in (suc m) k i).0, up_from_rising (suc m) k)

pub up_to_rising : (n : ℕ) → Rising (up_to n)
up_to_rising n = up_from_rising 0 n

pub up_to_distinct : (n : ℕ) → Distinct (up_to n)
up_to_distinct n = rising_distinct (up_to n) (up_to_rising n)

length_up_from : (m k : ℕ) → length (up_from m k) ≡ k
unfolding up_from
length_up_from m zero = refl
length_up_from m (suc k) = ap suc (length_up_from (suc m) k)

pub length_up_to : (n : ℕ) → length (up_to n) ≡ n
length_up_to n = length_up_from 0 n

get_d_up_from : (m k i : ℕ) → i < k → get_or (up_from m k) i 0 ≡ m + i
unfolding up_from
get_d_up_from m zero i h = absurd (omega arith)
get_d_up_from m (suc k) zero h = omega arith
get_d_up_from m (suc k) (suc i) h = get_d_up_from (suc m) k i (omega arith) ∙ omega arith

pub get_d_up_to : (n i : ℕ) → i < n → get_or (up_to n) i 0 ≡ i
get_d_up_to n i h = get_d_up_from 0 n i h ∙ omega arith

-- one number more
pub any_next : (f : ℕ → Bool) (n : ℕ) → any_of f (up_to (n + 1)) ≡ (any_of f (up_to n) || f n)
any_next f n = rw (add-one n, up_to_snoc n) (any_snoc f (up_to n) n)

pub any_found : (f : ℕ → Bool) (n : ℕ) {i : ℕ} → i < n → f i ≡ true → any_of f (up_to n) ≡ true
any_found f n {i} l e = in_any f ((in_up_to n i).1 l) e

pub any_ext : {f g : ℕ → Bool} (n : ℕ) → ((i : ℕ) → i < n → f i ≡ g i) → any_of f (up_to n) ≡ any_of g (up_to n)
any_ext {f} {g} n h = any_same f g (up_to n) (λ u m. h u ((in_up_to n u).0 m))

-- what stands at a place of the mapped numbers
mapped_from : {A : Type 0} (f : ℕ → A) (d : A) (m k i : ℕ) → i < k → get_or (map f (up_from m k)) i d ≡ f (m + i)
unfolding up_from
mapped_from f d m zero i h = absurd (omega arith)
mapped_from f d m (suc k) zero h = ap f (let e : m ≡ m + 0 = omega arith in e)
mapped_from f d m (suc k) (suc i) h = mapped_from f d (suc m) k i (omega arith) ∙ ap f (let e : suc m + i ≡ m + suc i = omega arith in e)

pub mapped_up_to : {A : Type 0} (f : ℕ → A) (d : A) (n i : ℕ) → i < n → get_or (map f (up_to n)) i d ≡ f i
mapped_up_to f d n i h = mapped_from f d 0 n i h ∙ ap f (let e : 0 + i ≡ i = omega arith in e)
