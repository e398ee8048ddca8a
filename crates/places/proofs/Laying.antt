-- Parts of entries, appended one after the other, each with its start. Assumes nothing.
use mathlib.Core.List.{List, [], ◌∷◌, ◌++◌}
use mathlib.Core.Logic.{⊎_elim}
use mathlib.Core.Path.{◌≡◌, refl, sym, ap, ap₂, subst⁻¹, ◌∙◌}
use Prim.Native.Nat.{ℕ, ◌+◌, ◌-◌, ◌≤◌, ◌<◌}
use native.Mathlib.Omega.{arith}
use lib.ListN.{length, get_or, take, drop, length-append, get_or-append}
use lib.Seq.{take-length, drop-append_seam, get_or-append_seam}
use Rattle.std.proofs.lemmas.List.{take-append-le, drop-append-le, length-drop}
use Rattle.std.specs.List.{slice_range}
use Rattle.rules.proofs.Tests.{lt_or_ge}
use Rattle.places.specs.Parts.{part_at}

-- a range of a list stays where more is appended
range_append : (xs ys : List ℕ) (a b : ℕ) → a ≤ b → b ≤ length xs → slice_range (xs ++ ys) a b ≡ slice_range xs a b
range_append xs ys a b h l =
    let inside : a ≤ length xs = omega arith in
    let short : b - a ≤ length (drop a xs) = omega (arith, length-drop a xs) in
    ap (take (b - a)) (drop-append-le a xs ys inside) ∙ take-append-le (b - a) (drop a xs) ys short

-- the range that is appended
range_last : (xs ys : List ℕ) → slice_range (xs ++ ys) (length xs) (length (xs ++ ys)) ≡ ys
range_last xs ys =
    let size : length (xs ++ ys) - length xs ≡ length ys = omega (arith, length-append xs ys) in
    ap₂ (λ (n : ℕ) (zs : List ℕ). take n zs) size (drop-append_seam xs ys) ∙ take-length ys

-- n parts are there, and each meets P
pub record PartsTo (P : ℕ → List ℕ → Type 0) (starts entries : List ℕ) (n : ℕ) : Type 0 where
  pub long : length starts ≡ n + 1
  pub last : get_or starts n 0 ≡ length entries
  pub rising : (i : ℕ) → i < n → get_or starts i 0 ≤ get_or starts (i + 1) 0
  pub within : (i : ℕ) → i ≤ n → get_or starts i 0 ≤ length entries
  pub part : (i : ℕ) → i < n → P i (part_at starts entries i)

pub parts_none : (P : ℕ → List ℕ → Type 0) → PartsTo P (0 ∷ []) [] 0
parts_none P = record {
  long = refl;
  last = refl;
  rising = λ i h. absurd (omega arith);
  within = λ i h. let e : i ≡ 0 = omega arith in subst⁻¹ (λ (j : ℕ). get_or (0 ∷ []) j 0 ≤ 0) e (omega arith);
  part = λ i h. absurd (omega arith);
}

module _ {P : ℕ → List ℕ → Type 0} {starts entries starts' entries' : List ℕ} {n e : ℕ} (parts : PartsTo P starts entries n)
    (xs : List ℕ) (more : entries' ≡ entries ++ xs) (end : e ≡ length entries') (mark : starts' ≡ starts ++ (e ∷ [])) where
  old : (i : ℕ) → i ≤ n → get_or starts' i 0 ≡ get_or starts i 0
  old i h = ap (λ (l : List ℕ). get_or l i 0) mark ∙ get_or-append starts (e ∷ []) 0 i (omega (arith, parts.long))

  new : get_or starts' (n + 1) 0 ≡ length entries'
  new = ap₂ (λ (l : List ℕ) (i : ℕ). get_or l i 0) mark (sym parts.long) ∙ get_or-append_seam starts e [] 0 ∙ end

  grown : length entries ≤ length entries'
  grown = omega (arith, ap length more, length-append entries xs)

  kept : (i : ℕ) → i < n → part_at starts' entries' i ≡ part_at starts entries i
  kept i h =
      ap₂ (λ (a b : ℕ). slice_range entries' a b) (old i (omega arith)) (old (i + 1) (omega arith))
      ∙ ap (λ (l : List ℕ). part_at starts l i) more
      ∙ range_append entries xs (get_or starts i 0) (get_or starts (i + 1) 0) (parts.rising i h) (parts.within (i + 1) (omega arith))

  here : part_at starts' entries' n ≡ xs
  here =
      ap₂ (λ (a b : ℕ). slice_range entries' a b) (old n (omega arith) ∙ parts.last) new
      ∙ ap (λ (l : List ℕ). slice_range l (length entries) (length l)) more
      ∙ range_last entries xs

  -- one part more is appended, and marked
  pub parts_next : P n xs → PartsTo P starts' entries' (n + 1)
  parts_next p = record {
    long = ap length mark ∙ omega (arith, length-append starts (e ∷ []), parts.long);
    last = new;
    rising = λ i h. ⊎_elim
        (λ l. omega (arith, old i (omega arith), old (i + 1) (omega arith), parts.rising i l))
        (λ l.
        let at : i ≡ n = omega arith in
        subst⁻¹ (λ (j : ℕ). get_or starts' j 0 ≤ get_or starts' (j + 1) 0) at (omega (arith, old n (omega arith), new, parts.last, grown)))
        (lt_or_ge i n);
    within = λ i h. ⊎_elim
        (λ l. omega (arith, old i (omega arith), parts.within i (omega arith), grown))
        (λ l. let at : i ≡ n + 1 = omega arith in subst⁻¹ (λ (j : ℕ). get_or starts' j 0 ≤ length entries') at (omega (arith, new)))
        (lt_or_ge i (n + 1));
    part = λ i h. ⊎_elim
        (λ l. subst⁻¹ (P i) (kept i l) (parts.part i l))
        (λ l. let at : i ≡ n = omega arith in subst⁻¹ (λ (j : ℕ). P j (part_at starts' entries' j)) at (subst⁻¹ (P n) here p))
        (lt_or_ge i n);
  }
