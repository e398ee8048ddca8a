-- Whole numbers as differences of natural ones: sums, products and 0 by polynomials of natural numbers, which `omega` compares. Each law goes by the signs.
-- Assumes nothing.
use mathlib.Core.Bool.{Bool, true, false, cond}
use mathlib.Core.Logic.{◌↔◌}
use mathlib.Core.Path.{◌≡◌, refl, ap}
use Prim.Native.Nat.{ℕ, zero, suc, ◌+◌, ◌-◌, ◌*◌, ◌≤◌}
use native.Mathlib.Omega.{arith}
use borrow.Author.Tests.{ltb-true, ltb-false}
use lib.Dec.{ltb}
use lib.IntN.{ℤ, pos, negsuc, nat_abs, neg_ℤ, sub_ℕ, ◌+ℤ◌, ◌*ℤ◌}

-- a whole number is up - down
abbrev pub Says : ℤ → ℕ → ℕ → Type 0
Says (pos n) up down = up ≡ n + down
Says (negsuc n) up down = down ≡ suc n + up

pub record Is (x : ℤ) (up down : ℕ) : Type 0 where
  pub says : Says x up down

is_sub : (m n : ℕ) {up down : ℕ} → up + n ≡ m + down → Is (sub_ℕ m n) up down
is_sub m n {up} {down} e = record { says = go (ltb m n) refl }
  where
    go : (t : Bool) → ltb m n ≡ t → Says (cond t (negsuc (n - suc m)) (pos (m - n))) up down
    go true t = omega (arith, ltb-true m n t)
    go false t = omega (arith, ltb-false m n t)

pub is_add : {x y : ℤ} {a b c d : ℕ} → Is x a b → Is y c d → Is (x +ℤ y) (a + c) (b + d)
is_add {x = pos m} {y = pos n} p q = record { says = omega (arith, p.says, q.says) }
is_add {x = pos m} {y = negsuc n} p q = is_sub m (suc n) (omega (arith, p.says, q.says))
is_add {x = negsuc m} {y = pos n} p q = is_sub n (suc m) (omega (arith, p.says, q.says))
is_add {x = negsuc m} {y = negsuc n} p q = record { says = omega (arith, p.says, q.says) }

pub is_neg : {x : ℤ} {a b : ℕ} → Is x a b → Is (neg_ℤ x) b a
is_neg {x = pos zero} p = record { says = omega (arith, p.says) }
is_neg {x = pos (suc n)} p = record { says = omega (arith, p.says) }
is_neg {x = negsuc n} p = record { says = omega (arith, p.says) }

pub is_mul : {x y : ℤ} {a b c d : ℕ} → Is x a b → Is y c d → Is (x *ℤ y) (a * c + b * d) (a * d + b * c)
is_mul {x = pos m} {y = pos n} p q = record { says = rw (p.says, q.says) (omega arith) }
is_mul {x = pos m} {y = negsuc n} p q = is_neg {x = pos (m * suc n)} (record { says = rw (p.says, q.says) (omega arith) })
is_mul {x = negsuc m} {y = pos n} p q = is_neg {x = pos (suc m * n)} (record { says = rw (p.says, q.says) (omega arith) })
is_mul {x = negsuc m} {y = negsuc n} p q = record { says = rw (p.says, q.says) (omega arith) }

pub is_nothing : {x : ℤ} {a b : ℕ} → Is x a b → (x ≡ pos 0) ↔ (a ≡ b)
is_nothing {x = pos n} p = (λ e. let z : n ≡ 0 = cc e in omega (arith, p.says), λ e. ap pos (omega (arith, p.says)))
is_nothing {x = negsuc n} p = (λ e. let z : ◌≡◌ {A = ℕ} 0 1 = cc e in absurd (omega arith), λ e. absurd (omega (arith, p.says)))

-- a whole number is this less `least`
abbrev pub over : ℕ → ℤ → ℕ
over least (pos n) = n + least
over least (negsuc n) = least - suc n

pub is_over : (least : ℕ) (x : ℤ) → nat_abs x ≤ least → Is x (over least x) least
is_over least (pos n) h = record { says = refl }
is_over least (negsuc n) h = record { says = omega arith }

-- one natural number stands for one whole number
pub over_one : (least : ℕ) (x y : ℤ) → nat_abs x ≤ least → nat_abs y ≤ least → over least x ≡ over least y → x ≡ y
over_one least (pos m) (pos n) h l e = ap pos (omega arith)
over_one least (pos m) (negsuc n) h l e = absurd (omega arith)
over_one least (negsuc m) (pos n) h l e = absurd (omega arith)
over_one least (negsuc m) (negsuc n) h l e = ap negsuc (omega arith)
