-- Properties that every number of a list has, by recursion on the list, and lists mapped number by number. Assumes nothing.
use mathlib.Core.List.{List, [], ◌∷◌, ◌++◌, map}
use mathlib.Core.Path.{◌≡◌, refl, subst⁻¹}
use Prim.Native.Nat.{ℕ, zero, suc, ◌+◌, ◌<◌}
use native.Mathlib.Nat.{not-suc-le-zero, le_of_suc-le-suc}
use native.Mathlib.Omega.{arith}
use lib.ListN.{length, get_or, take, replicate}
use Rattle.rules.specs.Basics.{up_from}
use Rattle.rules.proofs.Lists.{◌∈◌, here, later}

-- every number of the list has the property
abbrev pub Each : (ℕ → Type 0) → List ℕ → Type 0
Each P [] = Unit {0}
Each P (x ∷ xs) = P x × Each P xs

-- what holds of every number holds of those in the list
pub each_all : {P : ℕ → Type 0} → ((m : ℕ) → P m) → (xs : List ℕ) → Each P xs
each_all f [] = tt
each_all f (x ∷ xs) = (f x, each_all f xs)

-- a property that follows from another
pub each_imp : {P Q : ℕ → Type 0} → ((m : ℕ) → P m → Q m) → (xs : List ℕ) → Each P xs → Each Q xs
each_imp f [] e = tt
each_imp f (x ∷ xs) e = (f x e.0, each_imp f xs e.1)

-- one number more
pub each_snoc : (P : ℕ → Type 0) (xs : List ℕ) (m : ℕ) → Each P xs → P m → Each P (xs ++ (m ∷ []))
each_snoc P [] m e h = (h, tt)
each_snoc P (x ∷ xs) m e h = (e.0, each_snoc P xs m e.1 h)

-- from the numbers of the list to its places
pub each_at : (P : ℕ → Type 0) (xs : List ℕ) → Each P xs → (i : ℕ) → i < length xs → P (get_or xs i 0)
each_at P [] e i h = absurd (not-suc-le-zero h)
each_at P (x ∷ xs) e zero h = e.0
each_at P (x ∷ xs) e (suc i) h = each_at P xs e.1 i (le_of_suc-le-suc h)

-- and back
pub each_of : (P : ℕ → Type 0) (xs : List ℕ) → ((i : ℕ) → i < length xs → P (get_or xs i 0)) → Each P xs
each_of P [] f = tt
each_of P (x ∷ xs) f = (f zero (omega arith), each_of P xs (λ i h. f (suc i) (omega arith)))

-- a run of numbers has what all numbers below its end have
pub each_run : {P : ℕ → Type 0} (a k : ℕ) → ((m : ℕ) → m < a + k → P m) → Each P (up_from a k)
unfolding up_from
each_run a zero f = tt
each_run a (suc k) f = (f a (omega arith), each_run (suc a) k (λ m h. f m (omega arith)))

-- the mapped list, by its places
pub get_d_map : (f : ℕ → ℕ) (p : List ℕ) (i : ℕ) → i < length p → get_or (map f p) i 0 ≡ f (get_or p i 0)
get_d_map f [] i h = absurd (not-suc-le-zero h)
get_d_map f (x ∷ p) zero h = refl
get_d_map f (x ∷ p) (suc i) h = get_d_map f p i (le_of_suc-le-suc h)

pub each_append : (P : ℕ → Type 0) (xs ys : List ℕ) → Each P xs → Each P ys → Each P (xs ++ ys)
each_append P [] ys a b = b
each_append P (x ∷ xs) ys a b = (a.0, each_append P xs ys a.1 b)

pub each_replicate : (P : ℕ → Type 0) (x : ℕ) → P x → (n : ℕ) → Each P (replicate n x)
each_replicate P x h zero = tt
each_replicate P x h (suc n) = (h, each_replicate P x h n)

pub each_take : (P : ℕ → Type 0) (n : ℕ) (xs : List ℕ) → Each P xs → Each P (take n xs)
each_take P zero xs e = tt
each_take P (suc n) [] e = tt
each_take P (suc n) (x ∷ xs) e = (e.0, each_take P n xs e.1)

-- a property of each is one of every member
pub each_in : {P : ℕ → Type 0} (xs : List ℕ) → ((m : ℕ) → m ∈ xs → P m) → Each P xs
each_in [] f = tt
each_in (x ∷ xs) f = (f x (here refl), each_in xs (λ m i. f m (later i)))

pub each_has : (P : ℕ → Type 0) {m : ℕ} {xs : List ℕ} → m ∈ xs → Each P xs → P m
each_has P (here e) h = subst⁻¹ P e h.0
each_has P (later i) h = each_has P i h.1
