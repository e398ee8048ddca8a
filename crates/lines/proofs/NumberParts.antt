-- The numbers of a line, as the reader finds them: up to the cap, one after the other. Assumes nothing.
use mathlib.Core.Bool.{Bool, true, false}
use mathlib.Core.List.{List, [], ◌∷◌, ◌++◌, append-nil}
use mathlib.Core.Option.{Option, none, some}
use mathlib.Core.Path.{◌≡◌, refl, sym, ap, ◌∙◌}
use Prim.Native.Nat.{ℕ, suc, ◌+◌, ◌-◌, ◌≤◌, ◌<◌, min}
use native.Mathlib.Numerals.{add-one}
use native.Mathlib.Omega.{arith}
use lib.Dec.{eqb}
use lib.ListN.{length, take, drop, set, length-drop, length-set}
use lib.Seq.{take_all, take-suc-set, append_snoc}
use borrow.Author.Tests.{eqb-true, ne_eqb}
use Rattle.std.proofs.Common.{Some, None}
use Rattle.std.specs.Bool.{then_some}
use Rattle.rules.specs.Lines.{comma, is_numeral, value, parts_of, numbers_of}
use Rattle.rules.specs.Questions.{NumberRead}
use Rattle.numerals.specs.Numerals.{cap, digits_in, digits_of, numeral_of}
use Rattle.lines.specs.ReadLines.{capped, next_numeral, numbers_read}
use Rattle.lines.proofs.Parts.{cons_number, after_numeral, numbers_first}

-- a part of a text up to its end
pub part_from : (s : List ℕ) (a : ℕ) → take (length s - a) (drop a s) ≡ drop a s
part_from s a = take_all (length s - a) (drop a s) (omega (arith, length-drop a s))

-- numbers up to the cap
abbrev pub capped_numbers : Option (List ℕ) → Option (List ℕ)
capped_numbers none = none
capped_numbers (some ns) = some (capped ns)

-- ---- A numeral

cap_cons : (n : ℕ) (o : Option (List ℕ)) → capped_numbers (cons_number n o) ≡ cons_number (min n cap) (capped_numbers o)
cap_cons n none = refl
cap_cons n (some ns) = refl

module _ (s : List ℕ) (r : NumberRead) (e : some r ≡ numeral_of s) where
  -- the digits are one, its value, and the text after it
  parts : (is_numeral (digits_of s) ≡ true) × (r.number ≡ min (value (digits_of s)) cap) × (r.rest ≡ drop (digits_in s) s)
  unfolding numeral_of
  parts = go (is_numeral (digits_of s)) refl
    where
      go : (t : Bool) → is_numeral (digits_of s) ≡ t → (is_numeral (digits_of s) ≡ true) × (r.number ≡ min (value (digits_of s)) cap) × (r.rest ≡ drop (digits_in s) s)
      go true et = let e' = rw et at e in (et, cc e', cc e')
      go false et = let e' = rw et at e in absurd (cc e')

  numeral_good : (more : ℕ) → capped_numbers (numbers_of (suc more) (parts_of s)) ≡ cons_number r.number (capped_numbers (after_numeral more r.rest))
  numeral_good more = rw (numbers_first more s, parts.0, parts.1, parts.2) (cap_cons (value (digits_of s)) (after_numeral more (drop (digits_in s) s)))

numeral_bad : (s : List ℕ) (more : ℕ) → none ≡ numeral_of s → capped_numbers (numbers_of (suc more) (parts_of s)) ≡ none
unfolding numeral_of
numeral_bad s more e = go (is_numeral (digits_of s)) refl
  where
    go : (t : Bool) → is_numeral (digits_of s) ≡ t → capped_numbers (numbers_of (suc more) (parts_of s)) ≡ none
    go true et = let e' = rw et at e in absurd (cc e')
    go false et = rw (numbers_first more s, et)

-- ---- A comma and a numeral

pub next_other : (s : List ℕ) → ((rest : List ℕ) → s ≡ comma ∷ rest → ⊥) → none ≡ next_numeral s
unfolding next_numeral
next_other [] h = refl
next_other (b ∷ s) h = go (eqb b comma) refl
  where
    go : (t : Bool) → eqb b comma ≡ t → none ≡ next_numeral (b ∷ s)
    go true e = absurd (h s (ap (λ (n : ℕ). n ∷ s) (eqb-true b comma e)))
    go false e = rw (e, next_numeral)

pub next_comma : (s rest : List ℕ) → s ≡ comma ∷ rest → numeral_of rest ≡ next_numeral s
unfolding next_numeral
next_comma s rest e = rw e

next_good : (s : List ℕ) (r : NumberRead) (more : ℕ) → some r ≡ next_numeral s → capped_numbers (after_numeral (suc more) s) ≡ cons_number r.number (capped_numbers (after_numeral more r.rest))
unfolding next_numeral after_numeral
next_good [] r more e = absurd (cc e)
next_good (b ∷ s) r more e = go (eqb b comma) refl
  where
    go : (t : Bool) → eqb b comma ≡ t → capped_numbers (after_numeral (suc more) (b ∷ s)) ≡ cons_number r.number (capped_numbers (after_numeral more r.rest))
    go true et = let e' = rw (et, next_numeral) at e in rw (et, after_numeral) (numeral_good s r e' more)
    go false et = let e' = rw (et, next_numeral) at e in absurd (cc e')

next_bad : (s : List ℕ) (more : ℕ) → none ≡ next_numeral s → capped_numbers (after_numeral (suc more) s) ≡ none
unfolding next_numeral after_numeral
next_bad [] more e = refl
next_bad (b ∷ s) more e = go (eqb b comma) refl
  where
    go : (t : Bool) → eqb b comma ≡ t → capped_numbers (after_numeral (suc more) (b ∷ s)) ≡ none
    go true et = let e' = rw (et, next_numeral) at e in rw (et, after_numeral) (numeral_bad s more e')
    go false et = rw (et, after_numeral)

-- ---- The turns of the reader

-- numbers in front of others
abbrev pub cons_all : List ℕ → Option (List ℕ) → Option (List ℕ)
cons_all vs none = none
cons_all vs (some ns) = some (vs ++ ns)

cons_snoc : (vs : List ℕ) (v : ℕ) (o : Option (List ℕ)) → cons_all vs (cons_number v o) ≡ cons_all (vs ++ (v ∷ [])) o
cons_snoc vs v none = refl
cons_snoc vs v (some ns) = ap some (sym (append_snoc vs v ns))

-- `k` numbers were read, and a text is left: what they say of all numbers expected
pub record ReadSoFar (text : List ℕ) (count : ℕ) (values rest : List ℕ) (k : ℕ) : Type 0 where
  pub room : length values ≡ count
  pub numbers : capped_numbers (numbers_of count (parts_of text)) ≡ cons_all (take k values) (capped_numbers (after_numeral (count - k) rest))

module _ (text : List ℕ) (count : ℕ) where
  nothing_read : capped_numbers (numbers_of count (parts_of text)) ≡ none → None ≡ numbers_read (numbers_of count (parts_of text))
  nothing_read = go (numbers_of count (parts_of text))
    where
      go : (o : Option (List ℕ)) → capped_numbers o ≡ none → None ≡ numbers_read o
      go none e = refl
      go (some ns) e = absurd (cc e)

  pub read_nothing : 1 ≤ count → none ≡ numeral_of text → None ≡ numbers_read (numbers_of count (parts_of text))
  read_nothing h e =
      let more : suc (count - 1) ≡ count = omega arith in
      nothing_read (ap (λ (c : ℕ). capped_numbers (numbers_of c (parts_of text))) (sym more) ∙ numeral_bad text (count - 1) e)

  pub read_start : (r : NumberRead) (values : List ℕ) → 1 ≤ count → length values ≡ count → some r ≡ numeral_of text → ReadSoFar text count (set values 0 r.number) r.rest 1
  read_start r values h full e =
      let more : suc (count - 1) ≡ count = omega arith in
      record {
        room = length-set values 0 r.number ∙ full;
        numbers = ap (λ (c : ℕ). capped_numbers (numbers_of c (parts_of text))) (sym more)
            ∙ numeral_good text r e (count - 1)
            ∙ go (capped_numbers (after_numeral (count - 1) r.rest))
            ∙ ap (λ (vs : List ℕ). cons_all vs (capped_numbers (after_numeral (count - 1) r.rest))) (sym (take-suc-set values 0 r.number (omega arith)));
      }
    where
      go : (o : Option (List ℕ)) → cons_number r.number o ≡ cons_all (r.number ∷ []) o
      go none = refl
      go (some ns) = refl

  module _ {values rest : List ℕ} {k : ℕ} (passed : ReadSoFar text count values rest k) where
    pub read_on : (r : NumberRead) → k < count → some r ≡ next_numeral rest → ReadSoFar text count (set values k r.number) r.rest (k + 1)
    read_on r h e = record {
      room = length-set values k r.number ∙ passed.room;
      numbers = passed.numbers ∙ next ∙ cons_snoc (take k values) r.number others ∙ longer;
    }
      where
        others : Option (List ℕ)
        others = capped_numbers (after_numeral (count - (k + 1)) r.rest)

        left : count - k ≡ suc (count - (k + 1))
        left = omega arith

        next : cons_all (take k values) (capped_numbers (after_numeral (count - k) rest)) ≡ cons_all (take k values) (cons_number r.number others)
        next = rw (left, next_good rest r (count - (k + 1)) e)

        longer : cons_all (take k values ++ (r.number ∷ [])) others ≡ cons_all (take (k + 1) (set values k r.number)) others
        longer = rw (add-one, take-suc-set values k r.number (omega (arith, passed.room)))

    pub read_stop : k < count → none ≡ next_numeral rest → None ≡ numbers_read (numbers_of count (parts_of text))
    read_stop h e =
        let left : count - k ≡ suc (count - (k + 1)) = omega arith in
        nothing_read (passed.numbers ∙ rw (left, next_bad rest (count - (k + 1)) e))

    -- all were read: bytes are left over, or none
    pub read_ends : count ≤ k → then_some (eqb (length rest) 0) values ≡ numbers_read (numbers_of count (parts_of text))
    unfolding after_numeral
    read_ends h = go rest refl
      where
        none_left : count - k ≡ 0
        none_left = omega arith

        go : (s : List ℕ) → rest ≡ s → then_some (eqb (length s) 0) values ≡ numbers_read (numbers_of count (parts_of text))
        go (b ∷ s) e = rw (ne_eqb (length (b ∷ s)) 0 (λ z. omega arith)) (nothing_read (passed.numbers ∙ rw (none_left, e)))
        go [] e = whole (numbers_of count (parts_of text)) (passed.numbers ∙ rw (none_left, e) (ap some (append-nil (take k values))))
          where
            whole : (o : Option (List ℕ)) → capped_numbers o ≡ some (take k values) → Some values ≡ numbers_read o
            whole none e = absurd (cc e)
            whole (some ns) e =
                let same : take k values ≡ capped ns = cc e in
                ap (λ (l : List ℕ). Some l) (sym (take_all k values (omega (arith, passed.room))) ∙ same)
