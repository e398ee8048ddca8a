-- The numbers of a line, read one after the other: a numeral, then either the end, or a comma and the next. Assumes nothing.
use mathlib.Core.Bool.{Bool, true, false}
use mathlib.Core.List.{List, [], ◌∷◌, ◌++◌, append-nil}
use mathlib.Core.Option.{Option, none, some}
use mathlib.Core.Path.{◌≡◌, refl, sym, ap, ◌∙◌}
use Prim.Native.Nat.{ℕ, zero, suc}
use native.Mathlib.Omega.{arith}
use lib.Dec.{eqb}
use lib.ListN.{length, drop, take-append-drop, length-append}
use lib.Seq.{get_or-append_seam}
use borrow.Author.Tests.{ne_eqb}
use Rattle.rules.specs.Lines.{comma, is_digit, all_digits, is_numeral, value, parts_of, numbers_of}
use Rattle.numerals.specs.Numerals.{digits_in, digits_of}
use Rattle.rules.proofs.Tests.{both}
use Rattle.numerals.proofs.Decimal.{digit_low}
use Rattle.numerals.proofs.Digits.{all_digits_lem, digit_at, numeral_digits}

-- numbers in front of others
abbrev pub cons_number : ℕ → Option (List ℕ) → Option (List ℕ)
cons_number n none = none
cons_number n (some ns) = some (n ∷ ns)

-- what is to follow a numeral where `more` numbers are still expected
unfoldable pub after_numeral : ℕ → List ℕ → Option (List ℕ)
after_numeral zero [] = some []
after_numeral zero (b ∷ s) = none
after_numeral (suc more) [] = none
after_numeral (suc more) (b ∷ s) = elim (eqb b comma) [ true ↦ numbers_of (suc more) (parts_of s) | false ↦ none ]

-- a numeral, and what is to follow it
abbrev pub if_numeral : Bool → Option (List ℕ) → Option (List ℕ)
if_numeral true o = o
if_numeral false o = none

-- ---- Parts

-- there is a first part
parts_some : (s : List ℕ) → (part : List ℕ) × (parts : List (List ℕ)) × (parts_of s ≡ part ∷ parts)
unfolding parts_of
parts_some [] = ([], [], refl)
parts_some (b ∷ s) = go (eqb b comma) refl (parts_some s)
  where
    go : (t : Bool) → eqb b comma ≡ t → ((part : List ℕ) × (parts : List (List ℕ)) × (parts_of s ≡ part ∷ parts))
        → (part : List ℕ) × (parts : List (List ℕ)) × (parts_of (b ∷ s) ≡ part ∷ parts)
    go true e w = ([], parts_of s, rw (e, parts_of))
    go false e w = (b ∷ w.0, w.1, rw (e, parts_of) (rw w.2))

-- digits are no comma, so they stand in the first part
pub parts_digits : (ds s part : List ℕ) (parts : List (List ℕ)) → all_digits ds ≡ true → parts_of s ≡ part ∷ parts → parts_of (ds ++ s) ≡ (ds ++ part) ∷ parts
unfolding all_digits parts_of
parts_digits [] s part parts h e = e
parts_digits (d ∷ ds) s part parts h e =
    let digit = both (is_digit d) (all_digits ds) h in
    let low = digit_low d digit.0 in
    let no-comma : d ≡ comma → ⊥ = omega arith in
    rw (ne_eqb d comma no-comma, parts_of) (rw (parts_digits ds s part parts digit.1 e))

pub numbers_cons : (more : ℕ) (part : List ℕ) (parts : List (List ℕ)) → numbers_of (suc more) (part ∷ parts) ≡ if_numeral (is_numeral part) (cons_number (value part) (numbers_of more parts))
unfolding numbers_of
numbers_cons more part parts = go (is_numeral part) refl (numbers_of more parts) refl
  where
    go : (t : Bool) → is_numeral part ≡ t → (o : Option (List ℕ)) → numbers_of more parts ≡ o → numbers_of (suc more) (part ∷ parts) ≡ if_numeral t (cons_number (value part) o)
    go false e o eo = rw (e, numbers_of)
    go true e none eo = rw (e, numbers_of) (rw eo)
    go true e (some ns) eo = rw (e, numbers_of) (rw eo)

-- ---- Numerals

-- a byte that is no digit makes no numeral
no_numeral : (ds : List ℕ) (b : ℕ) (s : List ℕ) → is_digit b ≡ false → is_numeral (ds ++ (b ∷ s)) ≡ false
no_numeral ds b s other = go (is_numeral (ds ++ (b ∷ s))) refl
  where
    go : (t : Bool) → is_numeral (ds ++ (b ∷ s)) ≡ t → is_numeral (ds ++ (b ∷ s)) ≡ false
    go false e = e
    go true e =
        let digit = digit_at (ds ++ (b ∷ s)) (length ds) (numeral_digits (ds ++ (b ∷ s)) e) (omega (arith, length-append ds (b ∷ s))) in
        let seam = get_or-append_seam ds b s 0 in
        let z : true ≡ false = cc in
        cc

after-digits : (s : List ℕ) (b : ℕ) (u : List ℕ) → drop (digits_in s) s ≡ b ∷ u → is_digit b ≡ false
unfolding digits_in
after-digits [] b u e = let z : ◌≡◌ {A = ℕ} 0 1 = cc e in absurd (omega arith)
after-digits (d ∷ s) b u e = go (is_digit d) refl (after-digits s b u)
  where
    go : (t : Bool) → is_digit d ≡ t → (drop (digits_in s) s ≡ b ∷ u → is_digit b ≡ false) → is_digit b ≡ false
    go true ed ih = ih (rw (ed, digits_in) at e)
    go false ed ih = let e' = rw (ed, digits_in) at e in let same : d ≡ b = cc e' in cc

-- ---- A numeral, and what follows it

none_anyway : (t : Bool) → if_numeral t none ≡ none
none_anyway true = refl
none_anyway false = refl

numbers_from : (more : ℕ) (ds s : List ℕ) → all_digits ds ≡ true → ((b : ℕ) (u : List ℕ) → s ≡ b ∷ u → is_digit b ≡ false)
    → numbers_of (suc more) (parts_of (ds ++ s)) ≡ if_numeral (is_numeral ds) (cons_number (value ds) (after_numeral more s))
unfolding parts_of after_numeral numbers_of
numbers_from more ds [] h other =
    rw (parts_digits ds [] [] [] h refl, append-nil ds) (numbers_cons more ds [] ∙ ap (λ (o : Option (List ℕ)). if_numeral (is_numeral ds) (cons_number (value ds) o)) (go more))
  where
    go : (more : ℕ) → numbers_of more [] ≡ after_numeral more []
    go zero = refl
    go (suc more) = refl
numbers_from more ds (b ∷ u) h other = go (eqb b comma) refl (parts_some u)
  where
    rest : (more : ℕ) → eqb b comma ≡ true → ((part : List ℕ) × (parts : List (List ℕ)) × (parts_of u ≡ part ∷ parts)) → numbers_of more (parts_of u) ≡ after_numeral more (b ∷ u)
    rest zero e w = rw w.2
    rest (suc more) e w = sym (rw (e, after_numeral))

    nothing : (more : ℕ) → eqb b comma ≡ false → after_numeral more (b ∷ u) ≡ none
    nothing zero e = refl
    nothing (suc more) e = rw (e, after_numeral)

    go : (t : Bool) → eqb b comma ≡ t → ((part : List ℕ) × (parts : List (List ℕ)) × (parts_of u ≡ part ∷ parts))
        → numbers_of (suc more) (parts_of (ds ++ (b ∷ u))) ≡ if_numeral (is_numeral ds) (cons_number (value ds) (after_numeral more (b ∷ u)))
    go true e w =
        rw (parts_digits ds (b ∷ u) [] (parts_of u) h (rw (e, parts_of)), append-nil ds)
        (numbers_cons more ds (parts_of u) ∙ ap (λ (o : Option (List ℕ)). if_numeral (is_numeral ds) (cons_number (value ds) o)) (rest more e w))
    go false e w =
        rw (parts_digits ds (b ∷ u) (b ∷ w.0) w.1 h (rw (e, parts_of) (rw w.2)))
        (numbers_cons more (ds ++ (b ∷ w.0)) w.1
        ∙ rw (no_numeral ds b w.0 (other b u refl), nothing more e) (sym (none_anyway (is_numeral ds))))

pub numbers_first : (more : ℕ) (s : List ℕ)
    → numbers_of (suc more) (parts_of s) ≡ if_numeral (is_numeral (digits_of s)) (cons_number (value (digits_of s)) (after_numeral more (drop (digits_in s) s)))
numbers_first more s =
    ap (λ (l : List ℕ). numbers_of (suc more) (parts_of l)) (sym (take-append-drop (digits_in s) s))
    ∙ numbers_from more (digits_of s) (drop (digits_in s) s) (all_digits_lem s) (after-digits s)
