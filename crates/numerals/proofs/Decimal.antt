-- Numbers to base ten.
-- The digits of n do not depend on how many are allowed, if that is more than n: so for 10 ≤ n they are those of n / 10 and one more.
-- Hence writing then reading gives the number back (`read_written`), what is written is a numeral (`written_numeral`), and a numeral is
-- what its value is written as (`written_read`), by `written_after`: digits after those that state n ≥ 1 are those of the number that all state.
-- Assumes nothing.
use mathlib.Core.Bool.{Bool, true, false, not}
use mathlib.Core.List.{List, [], ◌∷◌, ◌++◌, append_assoc, append-nil}
use mathlib.Core.Path.{◌≡◌, refl, sym, ap, ◌∙◌}
use Prim.Native.Nat.{ℕ, zero, suc, ◌+◌, ◌-◌, ◌*◌, ◌/◌, ◌%◌, ◌^◌, ◌≤◌, ◌<◌}
use native.Mathlib.Nat.{pow-suc}
use native.Mathlib.Omega.{arith}
use lib.Dec.{ltb, leb, eqb}
use lib.ListN.{length, length-append}
use borrow.Author.Tests.{ltb-true, ltb-false, leb-true, lt-ltb, le-ltb, le-leb, ne_eqb, eqb-false, not-true}
use Rattle.rules.specs.Lines.{digit0, digits_for, decimal, is_digit, all_digits, is_numeral, value_after, value}
use Rattle.rules.proofs.Tests.{both}

-- ---- Tests

pub digit_low : (b : ℕ) → is_digit b ≡ true → 48 ≤ b
digit_low b h = leb-true 48 b (both (leb 48 b) (leb b 57) h).0

digit_high : (b : ℕ) → is_digit b ≡ true → b ≤ 57
digit_high b h = leb-true b 57 (both (leb 48 b) (leb b 57) h).1

digit_from : (b : ℕ) → 48 ≤ b → b ≤ 57 → is_digit b ≡ true
digit_from b low high = rw (le-leb 48 b low, le-leb b 57 high)

-- ---- Writing

-- the number of digits allowed does not matter above n
enough : (f g n : ℕ) → n < f → n < g → digits_for f n ≡ digits_for g n
unfolding digits_for
enough zero g n p q = absurd (omega arith)
enough (suc f) zero n p q = absurd (omega arith)
enough (suc f) (suc g) n p q = go (ltb n 10) refl (λ (h : 10 ≤ n). enough f g (n / 10) (omega arith) (omega arith))
  where
    go : (t : Bool) → ltb n 10 ≡ t → (10 ≤ n → digits_for f (n / 10) ≡ digits_for g (n / 10)) → digits_for (suc f) n ≡ digits_for (suc g) n
    go true e ih = rw (e, digits_for)
    go false e ih = rw (e, digits_for) (rw (ih (ltb-false n 10 e)))

-- one digit
pub decimal_one : (n : ℕ) → n < 10 → decimal n ≡ (digit0 + n) ∷ []
unfolding digits_for
decimal_one n h = rw (lt-ltb n 10 h, digits_for)

-- more digits
pub decimal_more : (n : ℕ) → 10 ≤ n → decimal n ≡ decimal (n / 10) ++ ((digit0 + n % 10) ∷ [])
unfolding digits_for
decimal_more n h = rw (le-ltb n 10 h, digits_for) (ap (λ (ds : List ℕ). ds ++ ((digit0 + n % 10) ∷ [])) (enough n (suc (n / 10)) (n / 10) (omega arith) (omega arith)))

-- what holds of one digit, and of n where it holds of n / 10
decimal_ind : (P : ℕ → Type 0) → ((n : ℕ) → n < 10 → P n) → ((n : ℕ) → 10 ≤ n → P (n / 10) → P n) → (n : ℕ) → P n
decimal_ind P one more n = go (suc n) n (omega arith)
  where
    at : (f n : ℕ) → (t : Bool) → ltb n 10 ≡ t → (10 ≤ n → P (n / 10)) → P n
    at f n true e ih = one n (ltb-true n 10 e)
    at f n false e ih = more n (ltb-false n 10 e) (ih (ltb-false n 10 e))

    go : (f n : ℕ) → n < f → P n
    go zero n h = absurd (omega arith)
    go (suc f) n h = at f n (ltb n 10) refl (λ (k : 10 ≤ n). go f (n / 10) (omega arith))

-- ---- Reading what was written

pub value_snoc : (n : ℕ) (ds : List ℕ) (b : ℕ) → value_after n (ds ++ (b ∷ [])) ≡ 10 * value_after n ds + (b - digit0)
unfolding value_after
value_snoc n [] b = refl
value_snoc n (d ∷ ds) b = value_snoc (10 * n + (d - digit0)) ds b

pub read_written : (n : ℕ) → value (decimal n) ≡ n
unfolding value_after
read_written =
    decimal_ind (λ (n : ℕ). value (decimal n) ≡ n)
    (λ n h. rw (decimal_one n h) (omega arith))
    (λ n h ih. rw (decimal_more n h, value_snoc 0 (decimal (n / 10)) (digit0 + n % 10), ih) (omega arith))

digits_snoc : (ds : List ℕ) (b : ℕ) → all_digits ds ≡ true → is_digit b ≡ true → all_digits (ds ++ (b ∷ [])) ≡ true
unfolding all_digits
digits_snoc [] b h k = rw k
digits_snoc (d ∷ ds) b h k = rw ((both (is_digit d) (all_digits ds) h).0, digits_snoc ds b (both (is_digit d) (all_digits ds) h).1 k)

-- a numeral that is not 0, and one digit more
numeral_snoc : (ds : List ℕ) (b : ℕ) → is_numeral ds ≡ true → 1 ≤ value ds → is_digit b ≡ true → is_numeral (ds ++ (b ∷ [])) ≡ true
unfolding is_numeral value_after all_digits
numeral_snoc [] b h p k = let z : ◌≡◌ {A = ℕ} 0 1 = cc h in absurd (omega arith)
numeral_snoc (d ∷ []) b h p k = rw (ne_eqb d digit0 (λ e. omega arith), h, k)
numeral_snoc (d ∷ e ∷ ds) b h p k =
    let both₁ = both (not (eqb d digit0)) (all_digits (d ∷ e ∷ ds)) h in
    rw (both₁.0, digits_snoc (d ∷ e ∷ ds) b both₁.1 k)

pub written_numeral : (n : ℕ) → is_numeral (decimal n) ≡ true
unfolding is_numeral
written_numeral =
    decimal_ind (λ (n : ℕ). is_numeral (decimal n) ≡ true)
    (λ n h. rw (decimal_one n h) (digit_from (digit0 + n) (omega arith) (omega arith)))
    (λ n h ih. rw (decimal_more n h) (numeral_snoc (decimal (n / 10)) (digit0 + n % 10) ih (omega (arith, read_written (n / 10))) (digit_from (digit0 + n % 10) (omega arith) (omega arith))))

-- ---- Writing what was read

-- one digit more
decimal_next : (n d : ℕ) → 1 ≤ n → d < 10 → decimal (10 * n + d) ≡ decimal n ++ ((digit0 + d) ∷ [])
decimal_next n d p h =
    let quotient : (10 * n + d) / 10 ≡ n = omega arith in
    let rest : (10 * n + d) % 10 ≡ d = omega arith in
    decimal_more (10 * n + d) (omega arith) ∙ cc

written_after : (n : ℕ) (ds : List ℕ) → 1 ≤ n → all_digits ds ≡ true → decimal (value_after n ds) ≡ decimal n ++ ds
unfolding value_after all_digits
written_after n [] p h = sym (append-nil (decimal n))
written_after n (b ∷ ds) p h =
    let digit = both (is_digit b) (all_digits ds) h in
    let low = digit_low b digit.0 in
    let high = digit_high b digit.0 in
    let back : digit0 + (b - digit0) ≡ b = omega arith in
    written_after (10 * n + (b - digit0)) ds (omega arith) digit.1
    ∙ ap (λ (l : List ℕ). l ++ ds) (decimal_next n (b - digit0) p (omega arith))
    ∙ append_assoc (decimal n) ((digit0 + (b - digit0)) ∷ []) ds
    ∙ ap (λ (k : ℕ). decimal n ++ (k ∷ ds)) back

pub written_read : (ds : List ℕ) → is_numeral ds ≡ true → decimal (value ds) ≡ ds
unfolding is_numeral value_after all_digits
written_read [] h = let z : ◌≡◌ {A = ℕ} 0 1 = cc h in absurd (omega arith)
written_read (b ∷ []) h =
    let low = digit_low b h in
    let high = digit_high b h in
    let back : digit0 + (10 * 0 + (b - digit0)) ≡ b = omega arith in
    decimal_one (10 * 0 + (b - digit0)) (omega arith) ∙ ap (λ (k : ℕ). k ∷ []) back
written_read (b ∷ c ∷ ds) h =
    let parts = both (not (eqb b digit0)) (all_digits (b ∷ c ∷ ds)) h in
    let digits = both (is_digit b) (all_digits (c ∷ ds)) parts.1 in
    let low = digit_low b digits.0 in
    let high = digit_high b digits.0 in
    let first = eqb-false b digit0 (not-true (eqb b digit0) parts.0) in
    let back : digit0 + (10 * 0 + (b - digit0)) ≡ b = omega arith in
    written_after (10 * 0 + (b - digit0)) (c ∷ ds) (omega arith) digits.1
    ∙ ap (λ (l : List ℕ). l ++ (c ∷ ds)) (decimal_one (10 * 0 + (b - digit0)) (omega arith))
    ∙ ap (λ (k : ℕ). k ∷ c ∷ ds) back

-- ---- How many digits

pub decimal_length : (n k : ℕ) → n < 10 ^ suc k → length (decimal n) ≤ suc k
decimal_length =
    decimal_ind (λ (n : ℕ). (k : ℕ) → n < 10 ^ suc k → length (decimal n) ≤ suc k)
    (λ n h k p. rw (decimal_one n h) (omega arith))
    more
  where
    more : (n : ℕ) → 10 ≤ n → ((k : ℕ) → n / 10 < 10 ^ suc k → length (decimal (n / 10)) ≤ suc k) → (k : ℕ) → n < 10 ^ suc k → length (decimal n) ≤ suc k
    more n h ih zero p = absurd (omega arith)
    more n h ih (suc k) p =
        let smaller = ih k (omega (arith, pow-suc 10 (suc k))) in
        rw (decimal_more n h, length-append) (omega arith)

-- one digit more
pub decimal_longer : (n : ℕ) → 10 ≤ n → length (decimal n) ≡ length (decimal (n / 10)) + 1
decimal_longer n h = ap length (decimal_more n h) ∙ length-append (decimal (n / 10)) ((digit0 + n % 10) ∷ [])

-- there is a digit
pub decimal_some : (n : ℕ) → 1 ≤ length (decimal n)
decimal_some =
    decimal_ind (λ (n : ℕ). 1 ≤ length (decimal n))
    (λ n h. rw (decimal_one n h) (omega arith))
    (λ n h ih. rw (decimal_more n h, length-append) (omega arith))
