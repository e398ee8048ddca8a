-- The words that the rules are written in: sums, counts and lists of numbers.
use Rattle.std.specs.Prelude.{Bool, true, false, not, ◌||◌, List, [], ◌∷◌, ℕ, zero, suc, ◌+◌, eqb}
use Rattle.std.proofs.Math.Option.{Option, none, some}

-- x where the test holds, else 0
abbrev pub given : Bool → ℕ → ℕ
given true x = x
given false x = 0

-- the sum of f at 0, 1, .., n - 1
unfoldable pub sum_to : (ℕ → ℕ) → ℕ → ℕ
sum_to f zero = 0
sum_to f (suc n) = sum_to f n + f n

-- the sum of f over the unordered pairs of numbers below n, each pair once, its lesser number first
unfoldable pub sum_pairs : (ℕ → ℕ → ℕ) → ℕ → ℕ
sum_pairs f n = sum_to (λ v. sum_to (λ u. f u v) v) n

-- the sum of f over a list
unfoldable pub sum_of : (ℕ → ℕ) → List ℕ → ℕ
sum_of f [] = 0
sum_of f (x ∷ xs) = f x + sum_of f xs

-- m, m + 1, ..: k of them
unfoldable pub up_from : ℕ → ℕ → List ℕ
up_from m zero = []
up_from m (suc k) = m ∷ up_from (suc m) k

-- 0, 1, .., n - 1
abbrev pub up_to : ℕ → List ℕ
up_to n = up_from 0 n

-- whether one of the list passes the test
unfoldable pub any_of : (ℕ → Bool) → List ℕ → Bool
any_of f [] = false
any_of f (x ∷ xs) = f x || any_of f xs

-- how many of the list pass the test
unfoldable pub count_of : (ℕ → Bool) → List ℕ → ℕ
count_of f [] = 0
count_of f (x ∷ xs) = given (f x) 1 + count_of f xs

-- those of the list that pass the test, in their order
unfoldable pub keep : (ℕ → Bool) → List ℕ → List ℕ
keep f [] = []
keep f (x ∷ xs) = elim (f x) [ true ↦ x ∷ keep f xs | false ↦ keep f xs ]

-- the first of the list that passes the test
unfoldable pub find : (ℕ → Bool) → List ℕ → Option ℕ
find f [] = none
find f (x ∷ xs) = elim (f x) [ true ↦ some x | false ↦ find f xs ]

-- what was found, or else d
abbrev pub found_or : ℕ → Option ℕ → ℕ
found_or d none = d
found_or d (some x) = x

-- f at what was found, or else d
abbrev pub found_at : (ℕ → ℕ) → ℕ → Option ℕ → ℕ
found_at f d none = d
found_at f d (some x) = f x

-- whether x stands in the list
abbrev pub occurs : ℕ → List ℕ → Bool
occurs x xs = any_of (eqb x) xs

-- the list without x
abbrev pub without : ℕ → List ℕ → List ℕ
without x xs = keep (λ y. not (eqb x y)) xs
