-- How many of a list are a place, as an iterator counts them. Assumes nothing.
use mathlib.Core.Bool.{Bool, true, false, cond}
use mathlib.Core.List.{List, [], ◌∷◌}
use mathlib.Core.Path.{◌≡◌, refl, ap, ◌∙◌}
use Prim.Native.Nat.{ℕ, ◌+◌}
use native.Mathlib.Omega.{arith}
use lib.Dec.{eqb}
use Rattle.std.specs.List.{fold, count_by}
use Rattle.rules.specs.Basics.{given, count_of}
use Rattle.rules.proofs.Tests.{eqb_sym}

cond_given : (b : Bool) → cond b 1 0 ≡ given b 1
cond_given true = refl
cond_given false = refl

-- those of a list, and n more
counted : (u : ℕ) (xs : List ℕ) (n : ℕ) → fold (λ a x. a + cond (eqb x u) 1 0) n xs ≡ n + count_of (eqb u) xs
unfolding count_of
counted u [] n = omega arith
counted u (x ∷ xs) n = omega (arith, counted u xs (n + cond (eqb x u) 1 0), ap {B = ℕ} (λ (b : Bool). cond b 1 0) (eqb_sym x u) ∙ cond_given (eqb u x))

pub times_all : (xs : List ℕ) (u : ℕ) → count_by (λ x. eqb x u) xs ≡ count_of (eqb u) xs
times_all xs u = counted u xs 0 ∙ omega arith
