-- The numbers 0 to 242 are those of all assignments of three masks to five pieces, so that the least over the numbers is the least over the assignments.
-- Assumes nothing.
use mathlib.Core.List.{List, [], ◌∷◌, map}
use mathlib.Core.Path.{◌≡◌, refl, sym, ap, ◌∙◌}
use Prim.Native.Nat.{ℕ, zero, suc, ◌+◌, ◌*◌, ◌/◌, ◌%◌, ◌≤◌, ◌<◌, min}
use native.Mathlib.Nat.{le_trans, le_of_eq, le_antisymm}
use native.Mathlib.Omega.{arith}
use native.Mathlib.Numerals.{add-one}
use lib.ListN.{length}
use Rattle.std.proofs.Common.{Option, Some, fold}
use Rattle.std.specs.List.{range_with_len, reduce}
use Rattle.std.specs.Option.{option_map}
use Rattle.std.proofs.lemmas.List.FromFn.{map-range_with_len_more}
use Rattle.std.proofs.lemmas.List.Sums.{fold_push}
use Rattle.rules.specs.Basics.{sum_pairs}
use Rattle.rules.specs.Score.{conflicts_of}
use Rattle.rules.specs.Library.{least_to, least_over, indexed}
use Rattle.theory.proofs.Each.{Each, each_at}
use Rattle.theory.proofs.HalfDone.{below_set, whole_conflicts}
use Rattle.theory.proofs.Least.{to_low, to_met, over_low, over_met}
use Rattle.library_table.specs.Assignments.{masks_of, conflicts_between}
use Rattle.library_table.proofs.Pairs.{pairs_few}

-- an assignment's masks are below 3
three : (a : ℕ) → Each (λ m. m < 3) (masks_of a)
three a = (omega arith, (omega arith, (omega arith, (omega arith, (omega arith, tt)))))

-- the lowest digit of a number
last : {x : ℕ} (m t : ℕ) → m < 3 → x ≡ m + 3 * t → x % 3 ≡ m
last m t l e = rw e (omega arith)

-- masks below 3 have a number
some_number : (masks : List ℕ) → length masks ≡ 5 → Each (λ m. m < 3) masks → (a : ℕ) × (a ≤ 242) × (masks_of a ≡ masks)
some_number (m₀ ∷ m₁ ∷ m₂ ∷ m₃ ∷ m₄ ∷ []) e b =
    let a : ℕ = m₀ + 3 * m₁ + 9 * m₂ + 27 * m₃ + 81 * m₄ in
    let l₀ : m₀ < 3 = b.0 in
    let l₁ : m₁ < 3 = b.1.0 in
    let l₂ : m₂ < 3 = b.1.1.0 in
    let l₃ : m₃ < 3 = b.1.1.1.0 in
    let l₄ : m₄ < 3 = b.1.1.1.1.0 in
    let d₀ : a % 3 ≡ m₀ = last m₀ (m₁ + 3 * m₂ + 9 * m₃ + 27 * m₄) l₀ (omega arith) in
    let d₁ : a / 3 % 3 ≡ m₁ = last m₁ (m₂ + 3 * m₃ + 9 * m₄) l₁ (omega arith) in
    let d₂ : a / 9 % 3 ≡ m₂ = last m₂ (m₃ + 3 * m₄) l₂ (omega arith) in
    let d₃ : a / 27 % 3 ≡ m₃ = last m₃ m₄ l₃ (omega arith) in
    let d₄ : a / 81 % 3 ≡ m₄ = last m₄ 0 l₄ (omega arith) in
    (a, omega arith, rw (d₀, d₁, d₂, d₃, d₄))
some_number [] e b = absurd (omega arith)
some_number (m₀ ∷ []) e b = absurd (omega arith)
some_number (m₀ ∷ m₁ ∷ []) e b = absurd (omega arith)
some_number (m₀ ∷ m₁ ∷ m₂ ∷ []) e b = absurd (omega arith)
some_number (m₀ ∷ m₁ ∷ m₂ ∷ m₃ ∷ []) e b = absurd (omega arith)
some_number (m₀ ∷ m₁ ∷ m₂ ∷ m₃ ∷ m₄ ∷ m₅ ∷ masks) e b = absurd (omega arith)

-- the least over the numbers is the least over the assignments
pub tried : (f : List ℕ → ℕ) → least_to (λ a. f (masks_of a)) 242 ≡ least_over 3 5 f
tried f =
    let best = over_met 3 (omega arith) 5 f in
    let n = some_number best.masks best.size best.below in
    let at = to_met (λ a. f (masks_of a)) 242 in
    le_antisymm
    (le_trans (to_low (λ a. f (masks_of a)) 242 n.0 n.1) (le_of_eq (ap f n.2 ∙ best.value)))
    (le_trans (over_low 3 5 f (masks_of at.0) refl (three at.0)) (le_of_eq (sym at.2)))

-- what an iterator finds as the least over the numbers up to n
least_range : (f : ℕ → ℕ) (n : ℕ) → fold min (f 0) (map f (range_with_len 1 n)) ≡ least_to f n
unfolding least_to
least_range f zero = refl
least_range f (suc n) =
    ap (λ (k : ℕ). fold min (f 0) (map f (range_with_len 1 k))) (sym (add-one n))
    ∙ ap (fold min (f 0)) (map-range_with_len_more f 1 n (suc n) (omega arith))
    ∙ fold_push min (f 0) (map f (range_with_len 1 n)) (f (suc n))
    ∙ ap (λ (x : ℕ). min x (f (suc n))) (least_range f n)

pub least_found : (f : ℕ → ℕ) (n : ℕ) (r : Option ℕ) (x : ℕ) → option_map (λ y. y) r ≡ reduce min (map f (range_with_len 0 (suc n))) → r ≡ Some x → x ≡ least_to f n
least_found f n r x e q =
    let both : Some x ≡ Some (fold min (f 0) (map f (range_with_len 1 n))) = rw q at e in
    let same : x ≡ fold min (f 0) (map f (range_with_len 1 n)) = cc in
    same ∙ least_range f n

module _ (index a : ℕ) where
  -- the conflicts of an assignment, pair by pair
  pub by_pairs : conflicts_of (indexed 5 index) (masks_of a) 5 ≡ sum_pairs (conflicts_between index (masks_of a)) 5
  by_pairs = whole_conflicts (indexed 5 index) (masks_of a) 5 (λ i l. below_set (masks_of a) i (omega (arith, each_at (λ m. m < 3) (masks_of a) (three a) i l)))

  pub conflicts_few : conflicts_of (indexed 5 index) (masks_of a) 5 ≤ 10
  conflicts_few = omega (arith, by_pairs, pairs_few index (masks_of a) 5 (omega arith))
