-- An iterator's sum over the numbers below a bound is the rules' `sum_to`. Assumes nothing.
use Rattle.std.proofs.Common.{◌≡◌, ℕ, ◌+◌, zero, suc, map, sum, refl, sym, ap, ◌∙◌, add-one, arith}
use Rattle.std.specs.List.{range_with_len}
use Rattle.std.proofs.lemmas.List.FromFn.{map-range_with_len_more}
use Rattle.std.proofs.lemmas.List.Sums.{sum_by_push}
use Rattle.rules.specs.Basics.{sum_to}

pub sum_range : (f : ℕ → ℕ) (n : ℕ) → sum (map f (range_with_len 0 n)) ≡ sum_to f n
unfolding sum_to
sum_range f zero = refl
sum_range f (suc n) =
    ap (λ (k : ℕ). sum (map f (range_with_len 0 k))) (sym (add-one n))
    ∙ ap sum (map-range_with_len_more f 0 n n (omega arith))
    ∙ sum_by_push (λ x. x) (map f (range_with_len 0 n)) (f n)
    ∙ ap (λ (s : ℕ). s + f n) (sum_range f n)
