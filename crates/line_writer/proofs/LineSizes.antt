-- How long numbers with commas and lines are. Assumes nothing.
use mathlib.Core.List.{List, [], ◌∷◌, ◌++◌, append_assoc}
use mathlib.Core.Path.{◌≡◌, refl, sym, ap, ◌∙◌}
use Prim.Native.Nat.{ℕ, zero, suc, ◌+◌, ◌≤◌, ◌<◌, ◌^◌}
use native.Mathlib.Numerals.{add-one}
use native.Mathlib.Omega.{arith}
use lib.ListN.{length, get_or, take, length-append}
use lib.Seq.{take-suc, take-nil, length-take-le}
use Rattle.rules.specs.Lines.{newline, comma, decimal, comma_list, line}
use Rattle.numerals.proofs.Decimal.{decimal_length}

-- ---- Numbers with a comma between two

pub comma_one : (n : ℕ) → comma_list (n ∷ []) ≡ decimal n
unfolding comma_list
comma_one n = refl

pub comma_length : (n m : ℕ) (ns : List ℕ) → length (comma_list (n ∷ m ∷ ns)) ≡ length (decimal n) + (1 + length (comma_list (m ∷ ns)))
unfolding comma_list
comma_length n m ns = length-append (decimal n) (comma ∷ comma_list (m ∷ ns)) ∙ omega arith

-- the first number alone
pub comma_first : (ns : List ℕ) (k : ℕ) → k ≡ 0 → k < length ns → comma_list (take (k + 1) ns) ≡ comma_list (take k ns) ++ decimal (get_or ns k 0)
unfolding comma_list
comma_first [] k none h = absurd (omega arith)
comma_first (n ∷ ns) k none h = rw none refl

-- one number more
comma_snoc : (ns : List ℕ) (m : ℕ) → 1 ≤ length ns → comma_list (ns ++ (m ∷ [])) ≡ comma_list ns ++ (comma ∷ decimal m)
unfolding comma_list
comma_snoc [] m h = absurd (omega arith)
comma_snoc (n ∷ []) m h = refl
comma_snoc (n ∷ k ∷ ns) m h =
    ap (λ (l : List ℕ). decimal n ++ (comma ∷ l)) (comma_snoc (k ∷ ns) m (omega arith))
    ∙ sym (append_assoc (decimal n) (comma ∷ comma_list (k ∷ ns)) (comma ∷ decimal m))

pub comma_next : (ns : List ℕ) (k : ℕ) → 1 ≤ k → k < length ns → comma_list (take (k + 1) ns) ≡ comma_list (take k ns) ++ (comma ∷ decimal (get_or ns k 0))
comma_next ns k some h =
    let size = length-take-le k ns (omega arith) in
    rw (add-one, take-suc ns k 0 h) (comma_snoc (take k ns) (get_or ns k 0) (omega arith))

-- the first numbers are no longer than all
pub comma_part : (k : ℕ) (ns : List ℕ) → length (comma_list (take k ns)) ≤ length (comma_list ns)
unfolding comma_list
comma_part zero ns = omega arith
comma_part (suc k) [] = omega arith
comma_part (suc k) (n ∷ []) = rw (take-nil k) (omega arith)
comma_part (suc zero) (n ∷ m ∷ ns) = omega (arith, comma_length n m ns)
comma_part (suc (suc k)) (n ∷ m ∷ ns) = omega (arith, comma_length n m (take k ns), comma_length n m ns, comma_part (suc k) (m ∷ ns))

-- ---- Lines

pub line_length : (key ns : List ℕ) → length (line key ns) ≡ length key + length (comma_list ns) + 1
unfolding line
line_length key ns = length-append (key ++ comma_list ns) (newline ∷ []) ∙ rw (length-append key (comma_list ns))

-- a line with one number below a power of ten
pub number_length : (key : List ℕ) (k n : ℕ) → n < 10 ^ suc k → length (line key (n ∷ [])) ≤ length key + suc k + 1
number_length key k n h = omega (arith, line_length key (n ∷ []), ap length (comma_one n), decimal_length n k h)

-- one line more in front of others
pub more_length : (key : List ℕ) (n : ℕ) (text : List ℕ) (a b : ℕ) → length (line key (n ∷ [])) ≤ a → length text ≤ b → length (line key (n ∷ []) ++ text) ≤ a + b
more_length key n text a b h k = omega (arith, length-append (line key (n ∷ [])) text)
