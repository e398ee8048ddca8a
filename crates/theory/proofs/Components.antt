-- Components. A component of a list of vertices is a part of it that no edge leaves and that is connected (`Component`); two components of a list that
-- share a member are equal. `component_of` takes the component of the first vertex, by Reach.antt, and `components` goes on with the rest. So it makes a
-- partition of the list, and there is no other (`Partition`, `components_partition`, `partition_only`). All else is by induction on the partition.
use mathlib.Core.Bool.{Bool, true, false, not, ◌&&◌, and_comm, and-false}
use mathlib.Core.List.Memᴰ
use mathlib.Core.List.Memᴰ.{head as here}
use mathlib.Core.List.Memᴰ.{tail as later}
use mathlib.Core.List.{List, [], ◌∷◌, ◌++◌, map, flatten, Memᴰ}
use mathlib.Core.Logic.{◌↔◌, ◌⊎◌, inl, inr, ⊎_elim}
use mathlib.Core.Path.{◌≡◌, refl, sym, ◌∙◌, ap, ap₂, subst}
use Prim.Native.Nat.{ℕ, zero, suc, ◌+◌, ◌≤◌}
use native.Mathlib.Nat.{le_refl}
use native.Mathlib.Omega.{arith}
use borrow.Author.Tests.{not-true}
use lib.ListN.{length}
use Rattle.rules.specs.Basics.{keep, occurs}
use Rattle.rules.specs.Edges.{Graph, joined}
use Rattle.rules.specs.Units.{lowest}
use Rattle.rules.specs.Components.{reach_for, component_of, components_for, components}
use Rattle.rules.proofs.Lists.{◌∈◌, Same, none_in, occurs_in, occurs_out, in_or_out, keep_cases, in_keep, keep_in, keep_same, keep_keep, keep_no_longer, keep_shorter, Distinct, Rising, distinct_keep, rising_keep}
use Rattle.rules.proofs.Tests.{by_test, clash}
use Rattle.theory.proofs.Reach.{Symmetric, Apart, apart_not, Linked, linked_trans, linked_sym, linked_wider, linked_stays, Closure, reach_closure}

-- ---- One component

-- c is a component of xs: in the order of xs, not empty, left by no edge within xs, and connected
pub record Component (g : Graph) (xs c : List ℕ) : Type 0 where
  pub kept : keep (λ u. occurs u c) xs ≡ c
  pub member : (v : ℕ) × (v ∈ c)
  pub closed : (u w : ℕ) → u ∈ c → w ∈ xs → (w ∈ c → ⊥) → joined g u w ≡ false
  pub connected : (u w : ℕ) → u ∈ c → w ∈ c → Linked g c u w

module _ {g : Graph} {xs c : List ℕ} (k : Component g xs c) where
  pub component_in : {u : ℕ} → u ∈ c → u ∈ xs
  component_in {u} m = (keep_in (λ v. occurs v c) xs (subst (λ l. u ∈ l) (sym k.kept) m)).0

  pub component_distinct : Distinct xs → Distinct c
  component_distinct d = subst Distinct k.kept (distinct_keep (λ u. occurs u c) xs d)

  pub component_rising : Rising xs → Rising c
  component_rising r = subst Rising k.kept (rising_keep (λ u. occurs u c) xs r)

  pub component_apart : Apart g (λ u. occurs u c) xs
  component_apart u w m p n q = k.closed u w ((occurs_in u c).0 p) n ((occurs_out w c).0 q)

  pub others_apart : Symmetric g → Apart g (λ u. not (occurs u c)) xs
  others_apart s = apart_not g (λ u. occurs u c) xs s component_apart

  -- it lies on one side of what no edge leaves
  pub component_stays : {f : ℕ → Bool} {u w : ℕ} → Apart g f xs → u ∈ c → w ∈ c → f u ≡ true → f w ≡ true
  component_stays {u} {w} a m n p = linked_stays a (linked_wider (λ v. component_in) (k.connected u w m n)) p

-- lists with the same members keep the same
keep_members : {c d : List ℕ} (xs : List ℕ) → Same c d → keep (λ u. occurs u c) xs ≡ keep (λ u. occurs u d) xs
keep_members {c} {d} xs same =
    keep_same (λ u. occurs u c) (λ u. occurs u d) xs (λ u _. by_test (occurs u d)
    (λ e. (occurs_in u c).1 ((same u).1 ((occurs_in u d).0 e)) ∙ sym e)
    (λ e. (occurs_out u c).1 (λ m. (occurs_out u d).0 e ((same u).0 m)) ∙ sym e))

-- two components that share a member are equal
pub component_same : {g : Graph} {xs c d : List ℕ} {v : ℕ} → Component g xs c → Component g xs d → v ∈ c → v ∈ d → c ≡ d
component_same {xs} {c} {d} {v} k l m n =
    sym k.kept
    ∙ keep_members xs (λ u. (
      λ i. (occurs_in u d).0 (component_stays k (component_apart l) m i ((occurs_in v d).1 n)),
      λ i. (occurs_in u c).0 (component_stays l (component_apart k) n i ((occurs_in v c).1 m)),
    ))
    ∙ l.kept

-- with the first vertex in it, it begins with that
pub component_head : {g : Graph} {v : ℕ} {after c : List ℕ} → Component g (v ∷ after) c → v ∈ c → c ≡ v ∷ keep (λ u. occurs u c) after
component_head {v} {after} {c} k m =
    sym k.kept
    ∙ keep_cases (λ u. occurs u c) (λ l. l ≡ v ∷ keep (λ u. occurs u c) after) v after (λ e. refl) (λ e. clash ((occurs_in v c).1 m) e)

-- ---- The component that is taken

pub component_of_in : (g : Graph) (v : ℕ) (after : List ℕ) → v ∈ component_of g v after
component_of_in g v after =
    let inside = reach_for (length after) g (v ∷ []) after in
    in_keep (λ u. occurs u inside) (here refl) ((occurs_in v inside).1 ((reach_closure (length after) g (v ∷ []) after (le_refl (length after))).grown v (here refl)))

pub component_of_lem : (g : Graph) → Symmetric g → (v : ℕ) (after : List ℕ) → Component g (v ∷ after) (component_of g v after)
component_of_lem g s v after = record {
  kept = keep_members (v ∷ after) (λ u. (out u, back u));
  member = (v, component_of_in g v after);
  closed = λ u w m n h. s u w ∙ k.closed w u
      (⊎_elim (λ e. absurd (h (Memᴰ.cast e (component_of_in g v after)))) (λ o. o) (Memᴰ.cases_cons n))
      (λ i. h (back w i))
      (out u m);
  connected = λ u w m n. linked_wider back (linked_trans (first u m) (linked_sym s (first w n)));
}
  where
    inside : List ℕ
    inside = reach_for (length after) g (v ∷ []) after

    k : Closure g (v ∷ []) after inside
    k = reach_closure (length after) g (v ∷ []) after (le_refl (length after))

    c : List ℕ
    c = component_of g v after

    out : (u : ℕ) → u ∈ c → u ∈ inside
    out u m = (occurs_in u inside).0 (keep_in (λ x. occurs x inside) (v ∷ after) m).1

    back : (u : ℕ) → u ∈ inside → u ∈ c
    back u m =
        in_keep (λ x. occurs x inside)
        (⊎_elim (λ i. here (Memᴰ.eq_of_singleton i)) (λ o. later o) (k.within u m))
        ((occurs_in u inside).1 m)

    first : (u : ℕ) → u ∈ c → Linked g inside u v
    first u m = let (w, i, l) = k.linked u (out u m) in subst (λ x. Linked g inside u x) (Memᴰ.eq_of_singleton i) l

-- ---- The components of a part that no edge leaves

-- a test that all of c pass takes nothing of it away
keep_passed : (f : ℕ → Bool) (xs c : List ℕ) → ((u : ℕ) → u ∈ c → f u ≡ true) → keep (λ u. occurs u c) (keep f xs) ≡ keep (λ u. occurs u c) xs
keep_passed f xs c h =
    keep_keep (λ u. occurs u c) f xs
    ∙ keep_same (λ u. f u && occurs u c) (λ u. occurs u c) xs (λ u _. by_test (occurs u c)
    (λ e. rw (h u ((occurs_in u c).0 e)))
    (λ e. rw (e, and-false (f u))))

module _ {g : Graph} {f : ℕ → Bool} {xs c : List ℕ} (a : Apart g f xs) where
  pub component_wider : Component g (keep f xs) c → Component g xs c
  component_wider k = record {
    kept = sym (keep_passed f xs c passes) ∙ k.kept;
    member = k.member;
    closed = λ u w m n h. by_test (f w)
        (λ e. k.closed u w m (in_keep f n e) h)
        (λ e. a u w (keep_in f xs (component_in k m)).0 (passes u m) n e);
    connected = k.connected;
  }
    where
      passes : (u : ℕ) → u ∈ c → f u ≡ true
      passes u m = (keep_in f xs (component_in k m)).1

  pub component_narrower : {v : ℕ} → Component g xs c → v ∈ c → f v ≡ true → Component g (keep f xs) c
  component_narrower k m p = record {
    kept = keep_passed f xs c (λ u n. component_stays k a m n p) ∙ k.kept;
    member = k.member;
    closed = λ u w m n h. k.closed u w m (keep_in f xs n).0 h;
    connected = k.connected;
  }

-- ---- All components

-- xs without the members of c
abbrev pub rest : List ℕ → List ℕ → List ℕ
rest c xs = keep (λ u. not (occurs u c)) xs

rest_in : (c xs : List ℕ) {u : ℕ} → u ∈ rest c xs → (u ∈ xs) × (u ∈ c → ⊥)
rest_in c xs {u} m = let r = keep_in (λ u. not (occurs u c)) xs m in (r.0, (occurs_out u c).0 (not-true (occurs u c) r.1))

in_rest : (c : List ℕ) {xs : List ℕ} {u : ℕ} → u ∈ xs → (u ∈ c → ⊥) → u ∈ rest c xs
in_rest c {u} m h = in_keep (λ u. not (occurs u c)) m (ap not ((occurs_out u c).1 h))

-- cs are the components of xs, each time that of the first vertex left
pub data Partition (g : Graph) : List ℕ → List (List ℕ) → Type 0 where
  end : Partition g [] []
  part : {v : ℕ} {after c : List ℕ} {cs : List (List ℕ)} → Component g (v ∷ after) c → v ∈ c → Partition g (rest c (v ∷ after)) cs → Partition g (v ∷ after) (c ∷ cs)

rest_after : (v : ℕ) (after c : List ℕ) → v ∈ c → rest c (v ∷ after) ≡ rest c after
rest_after v after c m =
    keep_cases (λ u. not (occurs u c)) (λ l. l ≡ rest c after) v after (λ e. clash ((occurs_in v c).1 m) (not-true (occurs v c) e)) (λ e. refl)

partition_for : (g : Graph) → Symmetric g → (rounds : ℕ) (xs : List ℕ) → length xs ≤ rounds → Partition g xs (components_for rounds g xs)
unfolding components_for
partition_for g s zero [] h = end
partition_for g s zero (v ∷ after) h = absurd (omega arith)
partition_for g s (suc rounds) [] h = end
partition_for g s (suc rounds) (v ∷ after) h =
    let c = component_of g v after in
    let m = component_of_in g v after in
    part (component_of_lem g s v after) m
    (subst (λ l. Partition g l (components_for rounds g (rest c after))) (sym (rest_after v after c m))
    (partition_for g s rounds (rest c after) (omega (arith, keep_no_longer (λ u. not (occurs u c)) after))))

pub components_partition : (g : Graph) → Symmetric g → (core : List ℕ) → Partition g core (components g core)
components_partition g s core = partition_for g s (length core) core (le_refl (length core))

only_for : {g : Graph} {xs : List ℕ} {cs : List (List ℕ)} → Symmetric g → Partition g xs cs → (rounds : ℕ) → length xs ≤ rounds → components_for rounds g xs ≡ cs
unfolding components_for
only_for s end zero h = refl
only_for s end (suc rounds) h = refl
only_for s (part k m r) zero h = absurd (omega arith)
only_for {g} s (part {v = v} {after = after} {c = c} k m r) (suc rounds) h =
    let shorter = keep_shorter (λ u. not (occurs u c)) {u = v} {xs = v ∷ after} (here refl) (ap not ((occurs_in v c).1 m)) in
    ap (λ d. d ∷ components_for rounds g (rest d after)) (component_same (component_of_lem g s v after) k (component_of_in g v after) m)
    ∙ ap (λ l. c ∷ l) (ap (components_for rounds g) (sym (rest_after v after c m)) ∙ only_for s r rounds (omega arith))

-- there is no other partition
pub partition_only : {g : Graph} {core : List ℕ} {cs : List (List ℕ)} → Symmetric g → Partition g core cs → components g core ≡ cs
partition_only {core} s r = only_for s r (length core) (le_refl (length core))

-- together they have the members of the whole
pub partition_members : {g : Graph} {xs : List ℕ} {cs : List (List ℕ)} → Partition g xs cs → Same (flatten cs) xs
unfolding flatten
partition_members end u = (λ m. m, λ m. m)
partition_members (part {v = v} {after = after} {c = c} k m r) u = (
  λ i. ⊎_elim (component_in k) (λ j. (rest_in c (v ∷ after) ((partition_members r u).0 j)).0) (Memᴰ.append_cases c i),
  λ i. ⊎_elim (Memᴰ.append_left _) (λ h. Memᴰ.append_right c ((partition_members r u).1 (in_rest c i h))) (in_or_out u c),
)

-- each member has its component
pub partition_covers : {g : Graph} {xs : List ℕ} {cs : List (List ℕ)} {u : ℕ} → Partition g xs cs → u ∈ xs → (c : List ℕ) × Memᴰ c cs × (u ∈ c)
partition_covers end i = none_in i
partition_covers {u} (part {c = c} k m r) i =
    ⊎_elim (λ j. (c, here refl, j)) (λ h. let (d, n, j) = partition_covers r (in_rest c i h) in (d, later n, j)) (in_or_out u c)

distinct_append : (xs ys : List ℕ) → Distinct xs → Distinct ys → ((u : ℕ) → u ∈ xs → u ∈ ys → ⊥) → Distinct (xs ++ ys)
distinct_append [] ys d e h = e
distinct_append (x ∷ xs) ys d e h = (λ m. ⊎_elim d.0 (h x (here refl)) (Memᴰ.append_cases xs m), distinct_append xs ys d.1 e (λ u m. h u (later m)))

-- and no vertex twice
pub partition_distinct : {g : Graph} {xs : List ℕ} {cs : List (List ℕ)} → Partition g xs cs → Distinct xs → Distinct (flatten cs)
unfolding flatten
partition_distinct end d = tt
partition_distinct (part {v = v} {after = after} {c = c} {cs = cs} k m r) d =
    distinct_append c (flatten cs) (component_distinct k d) (partition_distinct r (distinct_keep (λ u. not (occurs u c)) (v ∷ after) d))
    (λ u i j. (rest_in c (v ∷ after) ((partition_members r u).0 j)).1 i)

module _ {g : Graph} (s : Symmetric g) where
  -- each is a component of the whole
  pub partition_component : {xs c : List ℕ} {cs : List (List ℕ)} → Partition g xs cs → Memᴰ c cs → Component g xs c
  partition_component end i = absurd (Memᴰ.not-nil i)
  partition_component (part k m r) i =
      ⊎_elim
      (λ e. rw e k)
      (λ j. component_wider (others_apart k s) (partition_component r j))
      (Memᴰ.cases_cons i)

  -- and each component of the whole is there
  pub partition_listed : {xs d : List ℕ} {cs : List (List ℕ)} → Partition g xs cs → Component g xs d → Memᴰ d cs
  partition_listed end l = let (u, i) = l.member in none_in (component_in l i)
  partition_listed (part {c = c} k m r) l =
      let (u, i) = l.member in
      ⊎_elim
      (λ j. here (component_same l k i j))
      (λ h. later (partition_listed r (component_narrower (others_apart k s) l i (ap not ((occurs_out u c).1 h)))))
      (in_or_out u c)

  -- no edge joins two of them
  pub partition_apart : {xs c d : List ℕ} {cs : List (List ℕ)} {u w : ℕ} → Partition g xs cs → Memᴰ c cs → Memᴰ d cs → u ∈ c → w ∈ d → joined g u w ≡ true → c ≡ d
  partition_apart {c} {u} {w} r i j m n e =
      let k = partition_component r i in
      let l = partition_component r j in
      ⊎_elim
      (λ p. component_same k l p n)
      (λ h. clash e (k.closed u w m (component_in l n) h))
      (in_or_out w c)

-- the components are the lists that are components
pub components_are : (g : Graph) → Symmetric g → (core c : List ℕ) → Memᴰ c (components g core) ↔ Component g core c
components_are g s core c = (partition_component s (components_partition g s core), partition_listed s (components_partition g s core))

-- ---- Their lowest vertices

pub lowest_head : {g : Graph} {v : ℕ} {after c : List ℕ} → Component g (v ∷ after) c → v ∈ c → lowest c ≡ v
lowest_head k m = ap lowest (component_head k m)

lowest_in : {g : Graph} {xs : List ℕ} {cs : List (List ℕ)} {u : ℕ} → Partition g xs cs → u ∈ map lowest cs → u ∈ xs
lowest_in end i = i
lowest_in (part {v = v} {after = after} {c = c} k m r) i =
    ⊎_elim (λ e. here (e ∙ lowest_head k m)) (λ j. (rest_in c (v ∷ after) (lowest_in r j)).0) (Memᴰ.cases_cons i)

pub partition_rising : {g : Graph} {xs : List ℕ} {cs : List (List ℕ)} → Partition g xs cs → Rising xs → Rising (map lowest cs)
partition_rising end h = tt
partition_rising (part {v = v} {after = after} {c = c} k m r) h = (
  λ u i. rw (lowest_head k m) (h.0 u (rest_in c after (subst (λ l. u ∈ l) (rest_after v after c m) (lowest_in r i))).0),
  partition_rising r (rising_keep (λ u. not (occurs u c)) (v ∷ after) h),
)

-- ---- Sums

unfoldable pub sum_parts : (List ℕ → ℕ) → List (List ℕ) → ℕ
sum_parts F [] = 0
sum_parts F (c ∷ cs) = F c + sum_parts F cs

-- What adds up over two parts that no edge joins adds up over the components.
module _ {g : Graph} (F : List ℕ → ℕ) (empty : F [] ≡ 0)
    (split : (f : ℕ → Bool) (xs : List ℕ) → ((u w : ℕ) → u ∈ keep f xs → w ∈ keep (λ u. not (f u)) xs → joined g u w ≡ false)
    → F xs ≡ F (keep f xs) + F (keep (λ u. not (f u)) xs)) where
  pub partition_sum : {xs : List ℕ} {cs : List (List ℕ)} → Partition g xs cs → F xs ≡ sum_parts F cs
  unfolding sum_parts
  partition_sum end = empty
  partition_sum (part {v = v} {after = after} {c = c} k m r) =
      split (λ u. occurs u c) (v ∷ after)
      (λ u w i j. let n = rest_in c (v ∷ after) j in k.closed u w (subst (λ l. u ∈ l) k.kept i) n.0 n.1)
      ∙ ap₂ (λ (a b : ℕ). a + b) (ap F k.kept) (partition_sum r)

-- ---- The components of two parts that no edge joins

keep_comm : (f h : ℕ → Bool) (xs : List ℕ) → keep f (keep h xs) ≡ keep h (keep f xs)
keep_comm f h xs = keep_keep f h xs ∙ keep_same (λ u. h u && f u) (λ u. f u && h u) xs (λ u _. and_comm (h u) (f u)) ∙ sym (keep_keep h f xs)

-- the lists whose lowest vertex passes the test
unfoldable pub keep_parts : (ℕ → Bool) → List (List ℕ) → List (List ℕ)
keep_parts f [] = []
keep_parts f (c ∷ cs) = elim (f (lowest c)) [ true ↦ c ∷ keep_parts f cs | false ↦ keep_parts f cs ]

-- the components of such a part are those of the whole that begin in it, in their order
pub partition_keep : {g : Graph} {xs : List ℕ} {cs : List (List ℕ)} → Symmetric g → (f : ℕ → Bool) → Apart g f xs → Partition g xs cs → Partition g (keep f xs) (keep_parts f cs)
unfolding keep_parts keep
partition_keep s f a end = end
partition_keep {g} s f a (part {v = v} {after = after} {c = c} {cs = cs} k m r) =
    let xs = v ∷ after in
    let inner = partition_keep s f (λ u w i p j q. a u w (rest_in c xs i).0 p (rest_in c xs j).0 q) r in
    by_test (f v)
    (λ p. rw (ap f (lowest_head k m) ∙ p, keep_parts)
    (keep_cases f (λ l. Component g l c → Partition g (rest c l) (keep_parts f cs) → Partition g l (c ∷ keep_parts f cs)) v after
    (λ _ narrower left. part narrower m left)
    (λ q. clash p q)
    (component_narrower a k m p)
    (subst (λ l. Partition g l (keep_parts f cs)) (keep_comm f (λ u. not (occurs u c)) xs) inner)))
    (λ p. rw (ap f (lowest_head k m) ∙ p, keep_parts)
    (subst (λ l. Partition g l (keep_parts f cs))
    (keep_keep f (λ u. not (occurs u c)) xs ∙ keep_same (λ u. not (occurs u c) && f u) f xs (λ u _. by_test (occurs u c)
    (λ e. rw (e, not-true (f u) (component_stays k (apart_not g f xs s a) m ((occurs_in u c).0 e) (ap not p))))
    (λ e. rw e)))
    inner))

pub components_keep : (g : Graph) → Symmetric g → (f : ℕ → Bool) (core : List ℕ) → Apart g f core → components g (keep f core) ≡ keep_parts f (components g core)
components_keep g s f core a = partition_only s (partition_keep s f a (components_partition g s core))

-- so a list is a component of the whole exactly if it is one of the one part or of the other
pub components_either : (g : Graph) → Symmetric g → (f : ℕ → Bool) (core : List ℕ) → Apart g f core → (d : List ℕ)
    → Memᴰ d (components g core) ↔ (Memᴰ d (components g (keep f core)) ⊎ Memᴰ d (components g (keep (λ u. not (f u)) core)))
components_either g s f core a d = (
  λ i.
      let k = (components_are g s core d).0 i in
      let (v, m) = k.member in
      by_test (f v)
      (λ p. inl ((components_are g s (keep f core) d).1 (component_narrower a k m p)))
      (λ p. inr ((components_are g s (keep (λ u. not (f u)) core) d).1 (component_narrower b k m (ap not p)))),
  ⊎_elim
      (λ i. (components_are g s core d).1 (component_wider a ((components_are g s (keep f core) d).0 i)))
      (λ i. (components_are g s core d).1 (component_wider b ((components_are g s (keep (λ u. not (f u)) core) d).0 i))),
)
  where
    b : Apart g (λ u. not (f u)) core
    b = apart_not g f core s a
