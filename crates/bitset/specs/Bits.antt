-- What the contracts say: the bits of a word, the members of a set held in words of 64 bits, what holds of the rows of each
-- matrix, and how many numbers below a bound pass a test. Bits are read by division and remainder, so that
-- arithmetic settles most of what is asked of them.
-- Assumes nothing.
use Rattle.std.specs.Prelude.{ℕ, zero, suc, ◌+◌, ◌/◌, ◌%◌, ◌^◌, ◌≤◌, ◌<◌, ◌≡◌, Bool, true, false, not, ◌&&◌, List, [], eqb, get_or, replicate, Option, MatchOption}
use mir.Val.{bool_byte}

-- whether bit j of the word x is set; bit 0 is the lowest
unfoldable pub bit : ℕ → ℕ → Bool
bit x j = eqb (x / 2 ^ j % 2) 1

-- whether j is a member of the set s, 64 numbers to a word
unfoldable pub member : List ℕ → ℕ → Bool
member s j = bit (get_or s (j / 64) 0) (j % 64)

-- rows in which two numbers are members of each other's row, or neither is
abbrev pub BothWays : List (List ℕ) → Type 0
BothWays rows = (a b : ℕ) → member (get_or rows a []) b ≡ member (get_or rows b []) a

-- how many k below n pass the test f
unfoldable pub count_below : ℕ → (ℕ → Bool) → ℕ
count_below zero f = zero
count_below (suc n) f = count_below n f + bool_byte (f n)

-- the eight words s are all 0, so that nothing is a member
pub record Empty (s : List ℕ) : Type 0 where
  pub words : s ≡ replicate 8 0
  pub none : (k : ℕ) → member s k ≡ false

-- r is how many numbers below 512 pass the test f
pub record Size (f : ℕ → Bool) (r : ℕ) : Type 0 where
  pub count : r ≡ count_below 512 f
  pub within : r ≤ 512

-- nothing below r, which is at most 512, passes the test f, and r does if it is below 512
pub record First (f : ℕ → Bool) (r : ℕ) : Type 0 where
  pub within : r ≤ 512
  pub before : (k : ℕ) → k < r → f k ≡ false
  pub found : r < 512 → f r ≡ true

-- o is the least number below 512 that passes the test f, or None where none below 512 does
abbrev pub Least : (ℕ → Bool) → Option ℕ → Type 0
Least f o = MatchOption o ((k : ℕ) → k < 512 → f k ≡ false) (λ r. (r < 512) × First f r)

-- r is the least member of the set s, and t is s without it
pub record Taken (s : List ℕ) (r : ℕ) (t : List ℕ) : Type 0 where
  pub small : r < 512
  pub first : First (member s) r
  pub out : (k : ℕ) → member t k ≡ (member s k && not (eqb k r))

-- the least member is taken out of the set s, which leaves t: o is that member, or None where there is none
abbrev pub TakesLeast : List ℕ → Option ℕ → List ℕ → Type 0
TakesLeast s o t = MatchOption o (((k : ℕ) → k < 512 → member s k ≡ false) × (t ≡ s)) (λ r. Taken s r t)

-- bit r of the word x is set, and no bit below it is
pub record LowestSet (x r : ℕ) : Type 0 where
  pub small : r < 64
  pub set : bit x r ≡ true
  pub below : (k : ℕ) → k < r → bit x k ≡ false

-- y is x without its lowest set bit
pub record Dropped (x y : ℕ) : Type 0 where
  pub less : y < x
  pub bits : (r : ℕ) → LowestSet x r → (k : ℕ) → bit y k ≡ (bit x k && not (eqb k r))

-- r is the lowest of K masks whose bit in x is clear
pub record Lowest (K x r : ℕ) : Type 0 where
  pub small : r < K
  pub clear : bit x r ≡ false
  pub below : (k : ℕ) → k < r → bit x k ≡ true

-- o is the lowest of K masks whose bit in x is clear, or None where no mask's is
abbrev pub LowestFree : ℕ → ℕ → Option ℕ → Type 0
LowestFree K x o = MatchOption o ((k : ℕ) → k < K → bit x k ≡ true) (Lowest K x)
