-- The members of a bit set that pass a test: how many they are, and which is the first. A degree is a count that a function of the bit sets gives.
-- Assumes nothing.
use mathlib.Core.Bool.{Bool, true, false, ◌&&◌, and_comm}
use mathlib.Core.List.{List, [], ◌∷◌, ◌++◌}
use mathlib.Core.Option.{none, some}
use mathlib.Core.Path.{◌≡◌, refl, ap, ◌∙◌}
use Prim.Native.Nat.{ℕ, zero, suc, ◌+◌, ◌<◌}
use native.Mathlib.Omega.{arith}
use lib.Dec.{ltb}
use mir.Val.{bool_byte}
use Rattle.bitset.specs.Bits.{member, count_below}
use Rattle.bitset.specs.Edges.{has_edge, both}
use Rattle.bitset.specs.declared.matrix.Matrix.{Matrix}
use Rattle.bitset.proofs.Counts.{count_ext}
use Rattle.rules.specs.Basics.{given, up_to, up_from, count_of, find}
use Rattle.rules.proofs.Lists.{up_to_snoc, count_keep}
use Rattle.rules.proofs.Finding.{find_keep, find_up_to, find_none_up_to}
use Rattle.adjacency.specs.Members.{members_of}
use Rattle.adjacency.proofs.AdjacencyLaws.{given_test}

-- ---- counts

given_byte : (b : Bool) → given b 1 ≡ bool_byte b
given_byte true = refl
given_byte false = refl

count_snoc : (f : ℕ → Bool) (xs : List ℕ) (x : ℕ) → count_of f (xs ++ (x ∷ [])) ≡ count_of f xs + given (f x) 1
unfolding count_of
count_snoc f [] x = omega arith
count_snoc f (y ∷ xs) x = omega (arith, count_snoc f xs x)

pub count_up_to : (f : ℕ → Bool) (n : ℕ) → count_of f (up_to n) ≡ count_below n f
unfolding count_below count_of up_from
count_up_to f zero = refl
count_up_to f (suc n) = ap (count_of f) (up_to_snoc n) ∙ count_snoc f (up_to n) n ∙ omega (arith, count_up_to f n, given_byte (f n))

pub count_members : (f : ℕ → Bool) (s : List ℕ) → count_of f (members_of s) ≡ count_below 512 (λ k. member s k && f k)
unfolding members_of
count_members f s = count_keep f (member s) (up_to 512) ∙ count_up_to (λ k. member s k && f k) 512

-- ---- neighbours among the members, by the words of either kind

pub among : (words : Matrix) (s : List ℕ) (v k : ℕ) → (member s k && ltb 0 (given (has_edge words v k) 1)) ≡ both words v s k
among words s v k = rw (given_test (has_edge words v k)) (and_comm (member s k) (has_edge words v k))

pub degree : (words : Matrix) (s : List ℕ) (v : ℕ) → count_of (λ u. ltb 0 (given (has_edge words v u) 1)) (members_of s) ≡ count_below 512 (both words v s)
degree words s v = count_members (λ u. ltb 0 (given (has_edge words v u) 1)) s ∙ count_ext 512 (λ k l. among words s v k)

-- ---- the first member that passes

pub found_member : (h : ℕ → Bool) (s : List ℕ) {r : ℕ} → r < 512 → ((k : ℕ) → k < r → (member s k && h k) ≡ false) → (member s r && h r) ≡ true
    → find h (members_of s) ≡ some r
unfolding members_of
found_member h s {r} l before here = find_keep (member s) h (up_to 512) ∙ find_up_to (λ u. member s u && h u) 512 r l before here

pub found_no_member : (h : ℕ → Bool) (s : List ℕ) → ((k : ℕ) → k < 512 → (member s k && h k) ≡ false) → find h (members_of s) ≡ none
unfolding members_of
found_no_member h s fails = find_keep (member s) h (up_to 512) ∙ find_none_up_to (λ u. member s u && h u) 512 fails
