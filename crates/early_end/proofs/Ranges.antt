-- Whether no number below a bound passes a test, from what an iterator's `all` answers over a range. Assumes nothing.
use mathlib.Core.Bool.{Bool, true, false, not}
use mathlib.Core.Path.{◌≡◌, sym, ap, subst, ◌∙◌}
use Prim.Native.Nat.{ℕ, ◌<◌}
use native.Mathlib.Nat.{zero-add}
use native.Mathlib.Omega.{arith}
use lib.ListN.{length, get_or}
use Rattle.std.proofs.lemmas.List.FromFn.{length-range_with_len, get_or-range_with_len}
use Rattle.std.specs.Bool.{MatchBool}
use Rattle.std.specs.List.{range_with_len, AllWithin, HoldsAt}
use Rattle.rules.specs.Basics.{up_to, any_of}
use Rattle.rules.proofs.Lists.{any_found, out_any, in_up_to}

-- `Yes` and `No` are what the iterator's test tells of a number
module _ (f : ℕ → Bool) (Yes No : ℕ → Type 0) (yes : (x : ℕ) → Yes x → f x ≡ false) (no : (x : ℕ) → No x → f x ≡ true) (n : ℕ) where
  at : (P : ℕ → Type 0) (k : ℕ) → k < n → P (get_or (range_with_len 0 n) k 0) → P k
  at P k l p = let read : get_or (range_with_len 0 n) k 0 ≡ k = get_or-range_with_len 0 n k 0 l ∙ zero-add k in subst P read p

  pub none_passes : (b : Bool)
      → MatchBool b (AllWithin Yes (range_with_len 0 n) 0 (length (range_with_len 0 n))) ((k : ℕ) × (k < length (range_with_len 0 n)) × HoldsAt No (range_with_len 0 n) k)
      → b ≡ not (any_of f (up_to n))
  none_passes true h =
      sym (ap not (out_any f (up_to n) (λ k m. let l = (in_up_to n k).0 m in yes k (at Yes k l (h k 0 (omega arith) (omega (arith, length-range_with_len 0 n)))))))
  none_passes false h =
      let l : h.0 < n = omega (arith, h.1, length-range_with_len 0 n) in
      sym (ap not (any_found f n l (no h.0 (at No h.0 l (h.2 0)))))
