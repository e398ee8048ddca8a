-- The number with given binary digits, digit by digit from the highest. Assumes nothing.
use mathlib.Core.List.{List, [], ◌∷◌, ◌++◌}
use mathlib.Core.Path.{◌≡◌, refl, sym, ap, ap₂, ◌∙◌}
use Prim.Native.Nat.{ℕ, ◌+◌, ◌*◌, ◌≤◌}
use native.Mathlib.Nat.{le_refl}
use native.Mathlib.Omega.{arith}
use denote.Param.Members.{Mut}
use denote.Ref.{Bor}
use lib.ListN.{length}
use Rattle.std.proofs.Common.{Iter}
use Rattle.std.specs.declared.iter.Rev.{Rev}
use Rattle.std.specs.Prelude.{Option}
use Rattle.std.specs.Fn.{Called}
use Rattle.std.specs.Iterator.{Yields, FoldTurn}
use Rattle.std.specs.List.{push, FoldsTo}
use Rattle.std.specs.Option.{MatchOption}
use Rattle.rules.specs.Edges.{Graph}
use Rattle.rules.specs.Library.{value_of, index_of, pair_edges}

-- the number with these digits below, and that number above them
abbrev pub below : List ℕ → ℕ → ℕ
below [] n = n
below (b ∷ bits) n = b + 2 * below bits n

-- no digit is passed yet
pub below_all : (bits : List ℕ) → below bits 0 ≡ value_of bits
unfolding value_of
below_all [] = refl
below_all (b ∷ bits) = ap (λ (n : ℕ). b + 2 * n) (below_all bits)

-- the highest digit passes
pub below_next : (bits : List ℕ) (b n : ℕ) → below (bits ++ (b ∷ [])) n ≡ below bits (b + 2 * n)
below_next [] b n = refl
below_next (a ∷ bits) b n = ap (λ (m : ℕ). a + 2 * m) (below_next bits b n)

-- the number above is no more than the whole
pub below_more : (bits : List ℕ) (n : ℕ) → n ≤ below bits n
below_more [] n = le_refl n
below_more (b ∷ bits) n = omega (arith, below_more bits n)

-- no digit is left
pub below_none : (bits : List ℕ) (n : ℕ) → length bits ≡ 0 → below bits n ≡ n
below_none [] n e = refl
below_none (b ∷ bits) n e = absurd (omega arith)

-- the index is made of the pairs' edges
pub index_as : (g : Graph) (k : ℕ) → index_of g k ≡ value_of (pair_edges g k)
unfolding index_of
index_as g k = refl

-- ---- Digit by digit, as a fold from the last

-- what is left of the digits, and the last of them, by an iterator that goes backwards
abbrev pub backwards : Rev (Iter ℕ) → Option (Bor ℕ) → Rev (Iter ℕ) → Type 0
backwards s r t = MatchOption r ((length s.iter.rest.now ≡ 0) × (t.iter ≡ s.iter)) (λ x. s.iter.rest.now ≡ push t.iter.rest.now x.now)

-- the digits left and the number of those passed make the same all the way
module _ {F : Type 0} {g : Mut F (ℕ × (Bor ℕ × Unit {0})) ℕ} (acts : (f : F) (n : ℕ) (x : Bor ℕ) (r : ℕ) (f' : F) → Called g f (n, (x, tt)) r f' → r ≡ x.now + 2 * n) where
  pub digits_left : (all : ℕ) (xs : List (Bor ℕ)) (s t : Rev (Iter ℕ)) (p q : F × ℕ) → below s.iter.rest.now p.1 ≡ all
      → Yields backwards s xs t → FoldsTo {P = F × ℕ} (FoldTurn g) p xs q → below t.iter.rest.now q.1 ≡ all
  digits_left all [] s t p q e y h = ap₂ (λ (s : Rev (Iter ℕ)) (p : F × ℕ). below s.iter.rest.now p.1) (sym y) (sym h) ∙ e
  digits_left all (x ∷ xs) s t p q e y h =
      digits_left all xs y.0 t h.0 q
      (rw (acts p.0 p.1 x h.0.1 h.0.0 h.1) (sym (below_next y.0.iter.rest.now x.now p.1) ∙ ap (λ (l : List ℕ). below l p.1) (sym y.1) ∙ e))
      y.2 h.2
