-- Numbers that pass a test, in rising order. A loop takes the least one out again and again, and each time one less is left.
-- The least one is found a word at a time. A test is a word's bits, or membership of a set.
-- Assumes nothing.
use mathlib.Core.Path.{◌≡◌, sym, ap, ◌∙◌}
use mathlib.Core.Bool.{Bool, true, false, not, true≢false}
use mathlib.Core.List.{List}
use Prim.Native.Nat.{ℕ, suc, ◌+◌, ◌*◌, ◌-◌, ◌≤◌, ◌<◌}
use native.Mathlib.Decide.{dec_lt}
use native.Mathlib.Omega.{arith}
use Rattle.std.specs.Prelude.{Option, None, Some}
use Rattle.bitset.specs.Bits.{bit, member, count_below, First, Least, LowestSet, Taken}
use Rattle.bitset.proofs.Counts.{count_ext, count_out}
use Rattle.bitset.proofs.Words.{bit_of_zero}

-- what differs from b below a is b at a or later, if anywhere
pub least_le : {f : ℕ → Bool} {a j : ℕ} (b : Bool) → ((k : ℕ) → k < a → f k ≡ not b) → f j ≡ b → a ≤ j
least_le {f} {a} {j} b h e = go b h e (dec_lt j a)
  where
    go : (b : Bool) → ((k : ℕ) → k < a → f k ≡ not b) → f j ≡ b → Dec (j < a) → a ≤ j
    go true h e (yes l) = absurd (true≢false (sym e ∙ h j l))
    go false h e (yes l) = absurd (true≢false (sym (h j l) ∙ e))
    go b h e (no n) = omega arith

-- ---- with its least member taken out, a set has one member less

pub taken_less : {s t : List ℕ} {r : ℕ} → Taken s r t → count_below 512 (member s) ≡ suc (count_below 512 (member t))
taken_less {s} {r = r} taken =
    count_out 512 (member s) r taken.small (taken.first.found taken.small) ∙ ap suc (count_ext 512 (λ k m. sym (taken.out k)))

-- ---- the least one, a word of 64 at a time: x is the word w of f, and nothing below that word passes

module _ (f : ℕ → Bool) (w x : ℕ) (word : (k : ℕ) → k < 64 → f (64 * w + k) ≡ bit x k) (none : (k : ℕ) → k < 64 * w → f k ≡ false) where
  none_more : (m : ℕ) → m ≤ 64 → ((i : ℕ) → i < m → bit x i ≡ false) → (k : ℕ) → k < 64 * w + m → f k ≡ false
  none_more m h low k l = go (dec_lt k (64 * w))
    where
      go : Dec (k < 64 * w) → f k ≡ false
      go (yes y) = none k y
      go (no n) =
          let e : k ≡ 64 * w + (k - 64 * w) = omega arith in
          rw e (word (k - 64 * w) (omega arith) ∙ low (k - 64 * w) (omega arith))

  pub none_next : x ≡ 0 → (k : ℕ) → k < 64 * (w + 1) → f k ≡ false
  none_next e k l = none_more 64 (omega arith) (λ i h. rw e (bit_of_zero i)) k (omega arith)

  pub first_here : w < 8 → (r : ℕ) → LowestSet x r → First f (64 * w + r)
  first_here h r low = record {
    within = omega (arith, low.small);
    before = none_more r (omega (arith, low.small)) low.below;
    found = λ _. word r low.small ∙ low.set;
  }

pub first_none : (f : ℕ → Bool) → ((k : ℕ) → k < 512 → f k ≡ false) → First f 512
first_none f none = record { within = omega arith; before = none; found = λ l. absurd (omega arith) }

-- ---- the least one as `First` has it, with 512 for none

abbrev pub or_512 : Option ℕ → ℕ
or_512 None = 512
or_512 (Some r) = r

pub least_first : {f : ℕ → Bool} (o : Option ℕ) → Least f o → First f (or_512 o)
least_first {f} None none = first_none f none
least_first (Some r) (h, first) = first
