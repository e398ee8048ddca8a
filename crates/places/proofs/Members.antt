-- The members of a set, the least first: as a loop takes them out, and those that are the pieces of a unit. Assumes nothing.
use mathlib.Core.Bool.{Bool, false, ◌&&◌}
use mathlib.Core.List.{List, [], ◌∷◌, ◌++◌}
use mathlib.Core.Path.{◌≡◌, sym, ap, ◌∙◌}
use Prim.Native.Nat.{ℕ, zero, suc, ◌+◌, ◌-◌, ◌≤◌, ◌<◌}
use native.Mathlib.Nat.{add-suc}
use native.Mathlib.Omega.{arith}
use lib.Dec.{eqb, ltb}
use lib.ListN.{length, get_or, replicate, get_or-replicate}
use borrow.Author.Tests.{lt-ltb, le-ltb}
use Rattle.bitset.specs.Bits.{member, Empty, Taken}
use Rattle.rules.specs.Basics.{up_to, keep}
use Rattle.rules.specs.Units.{merged_into}
use Rattle.rules.proofs.Lists.{keep_same, keep_none, in_up_to, up_to_snoc}
use Rattle.rules.proofs.Tests.{by_test}
use Rattle.adjacency.specs.Members.{members_of}
use Rattle.adjacency.specs.UnitGraph.{unit_at}
use Rattle.adjacency.proofs.MemberLaws.{members_first, members_out}

-- the least is taken out
pub taken_members : {s t : List ℕ} {r : ℕ} → Taken s r t → members_of s ≡ r ∷ members_of t
taken_members {s} {t} {r} taken = members_first s r taken.small taken.first ∙ ap (λ (xs : List ℕ). r ∷ xs) (sym (members_out s t r taken.out))

-- none is left
pub none_left : (s : List ℕ) → ((k : ℕ) → k < 512 → member s k ≡ false) → members_of s ≡ []
unfolding members_of
none_left s none = keep_none (member s) (up_to 512) (λ u m. none u ((in_up_to 512 u).0 m))

-- numbers that do not pass are left out at the end
keep_front : (f : ℕ → Bool) (xs : List ℕ) (y : ℕ) → f y ≡ false → keep f (xs ++ (y ∷ [])) ≡ keep f xs
unfolding keep
keep_front f [] y e = rw e
keep_front f (x ∷ xs) y e = by_test (f x) (λ t. rw (t, keep) (ap (λ (zs : List ℕ). x ∷ zs) (keep_front f xs y e))) (λ t. rw (t, keep) (keep_front f xs y e))

keep_within : (f : ℕ → Bool) (n d : ℕ) → ((q : ℕ) → n ≤ q → f q ≡ false) → keep f (up_to (n + d)) ≡ keep f (up_to n)
keep_within f n zero none = ap (λ (k : ℕ). keep f (up_to k)) (let e : n + 0 ≡ n = omega arith in e)
keep_within f n (suc d) none = rw (add-suc n d, up_to_snoc (n + d)) (keep_front f (up_to (n + d)) (n + d) (none (n + d) (omega arith)) ∙ keep_within f n d none)

-- the pieces of a unit
pub unit_members : (s units : List ℕ) (n u : ℕ) → n ≤ 512 → ((q : ℕ) → member s q ≡ (ltb q n && eqb (unit_at units q) u)) → members_of s ≡ merged_into (unit_at units) n u
unfolding members_of
unit_members s units n u few has =
    let all : 512 ≡ n + (512 - n) = omega arith in
    ap (λ (k : ℕ). keep (member s) (up_to k)) all
    ∙ keep_within (member s) n (512 - n) (λ q l. has q ∙ rw (le-ltb q n l))
    ∙ keep_same (member s) (λ q. eqb (unit_at units q) u) (up_to n) (λ q m. has q ∙ rw (lt-ltb q n ((in_up_to n q).0 m)))

-- ---- The pieces of all units

-- the pieces below n are in their units' sets
pub record Sorted (units : List ℕ) (n : ℕ) (sets : List (List ℕ)) : Type 0 where
  pub long : length sets ≡ 512
  pub has : (u q : ℕ) → u < 512 → member (get_or sets u []) q ≡ (ltb q n && eqb (unit_at units q) u)

-- no set has a member yet
pub none_there : (none : List ℕ) → Empty none → (u q : ℕ) → u < 512 → member (get_or (replicate 512 none) u []) q ≡ false
none_there none e u q l = ap (λ (s : List ℕ). member s q) (get_or-replicate 512 u none [] l) ∙ e.none q
