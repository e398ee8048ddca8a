-- Lines that were read are those that their numbers are written as, and lines with one number that are written are read so. Assumes nothing.
use mathlib.Core.Bool.{true}
use mathlib.Core.List.{List, [], ◌∷◌, ◌++◌, map, append_assoc}
use mathlib.Core.Option.{Option, none, some}
use mathlib.Core.Path.{◌≡◌, refl, sym, ap, subst, ◌∙◌}
use Prim.Native.Nat.{ℕ, suc}
use native.Mathlib.Omega.{arith}
use lib.ListN.{length, get_or}
use Rattle.rules.specs.declared.refusal.Place.{Place}
use Rattle.rules.specs.Lines.{line, number_lines, NumbersRead, line_of}
use Rattle.rules.specs.LayerText.{NumberLine}
use Rattle.rules.specs.Questions.{done, refused, ask, read_line, NumberRead, read_number, read_numbers}
use Rattle.rules.proofs.Outcomes.{then_with}
use Rattle.lines.proofs.Written.{one_line, line_written, line_read}

-- ---- A line

pub line_none : (key : List ℕ) (count lineNo : ℕ) (text : List ℕ) → line_of key count text ≡ none → read_line key count lineNo text ≡ refused 3 (Place.Line lineNo)
unfolding read_line
line_none key count lineNo text e = rw (e, read_line)

pub line_some : (key : List ℕ) (count lineNo : ℕ) (text : List ℕ) (l : NumbersRead) → line_of key count text ≡ some l → read_line key count lineNo text ≡ done l
unfolding read_line
line_some key count lineNo text l e = rw (e, read_line)

-- the line that was read, from the line that is there
pub read_line_lem : (key : List ℕ) (count lineNo : ℕ) (text : List ℕ) (l : NumbersRead) → read_line key count lineNo text ≡ done l → (text ≡ line key l.numbers ++ l.rest) × (length l.numbers ≡ count)
unfolding read_line
read_line_lem key count lineNo text l e = go (line_of key count text) refl
  where
    go : (o : Option NumbersRead) → line_of key count text ≡ o → (text ≡ line key l.numbers ++ l.rest) × (length l.numbers ≡ count)
    go none eo = let e' = rw (eo, read_line) at e in let z : ◌≡◌ {A = ℕ} 0 1 = cc e' in absurd (omega arith)
    go (some k) eo = let e' = rw (eo, read_line) at e in let same : k ≡ l = cc e' in line_written key count text l (eo ∙ ap some same)

-- ---- Lines with one number

single : (ns : List ℕ) → length ns ≡ 1 → get_or ns 0 0 ∷ [] ≡ ns
single [] h = absurd (omega arith)
single (n ∷ []) h = refl
single (n ∷ m ∷ ns) h = absurd (omega arith)

number_written : (expected : NumberLine) (lineNo : ℕ) (text : List ℕ) (m : NumberRead) → read_number expected lineNo text ≡ done m
    → text ≡ line expected.key (m.number ∷ []) ++ m.rest
unfolding read_number
number_written expected lineNo text m e =
    then_with (read_line expected.key 1 lineNo text) _ m e λ l e1 k1.
    then_with (ask (expected.range (get_or l.numbers 0 0)) 4 (Place.Line lineNo)) _ m k1 λ _ e2 k2.
    let written = read_line_lem expected.key 1 lineNo text l e1 in
    let same : record { number = get_or l.numbers 0 0; rest = l.rest } ≡ m = cc k2 in
    written.0
    ∙ ap (λ (ns : List ℕ). line expected.key ns ++ l.rest) (sym (single l.numbers written.1))
    ∙ ap (λ (n : NumberRead). line expected.key (n.number ∷ []) ++ n.rest) same

abbrev pub keys_of : List NumberLine → List (List ℕ)
keys_of ls = map (λ l. l.key) ls

pub numbers_written : (ls : List NumberLine) (lineNo : ℕ) (text : List ℕ) (r : NumbersRead) → read_numbers ls lineNo text ≡ done r
    → (text ≡ number_lines (keys_of ls) r.numbers ++ r.rest) × (length r.numbers ≡ length ls)
unfolding read_numbers number_lines
numbers_written [] lineNo text r e =
    let same : record { numbers = []; rest = text } ≡ r = cc e in
    subst (λ (s : NumbersRead). (text ≡ number_lines [] s.numbers ++ s.rest) × (length s.numbers ≡ 0)) same (refl, refl)
numbers_written (l ∷ ls) lineNo text r e =
    then_with (read_number l lineNo text) _ r e λ n e1 k1.
    then_with (read_numbers ls (suc lineNo) n.rest) _ r k1 λ ns e2 k2.
    let first = number_written l lineNo text n e1 in
    let others = numbers_written ls (suc lineNo) n.rest ns e2 in
    let same : record { numbers = n.number ∷ ns.numbers; rest = ns.rest } ≡ r = cc k2 in
    subst (λ (s : NumbersRead). (text ≡ number_lines (keys_of (l ∷ ls)) s.numbers ++ s.rest) × (length s.numbers ≡ suc (length ls))) same (
      first ∙ ap (λ (t : List ℕ). line l.key (n.number ∷ []) ++ t) others.0 ∙ sym (append_assoc (line l.key (n.number ∷ [])) (number_lines (keys_of ls) ns.numbers) ns.rest),
      ap suc others.1,
    )

-- lines that are read as they are written: no key has a byte 10, and each number is in its range
abbrev pub Readable : List NumberLine → List ℕ → Type 0
Readable [] [] = Unit {0}
Readable [] (n ∷ ns) = ⊥
Readable (l ∷ ls) [] = ⊥
Readable (l ∷ ls) (n ∷ ns) = (one_line l.key ≡ true) × (l.range n ≡ true) × Readable ls ns

pub numbers_read : (ls : List NumberLine) (ns : List ℕ) (lineNo : ℕ) (rest : List ℕ) → Readable ls ns → read_numbers ls lineNo (number_lines (keys_of ls) ns ++ rest) ≡ done (record { numbers = ns; rest = rest })
unfolding read_numbers read_number number_lines
numbers_read [] [] lineNo rest h = refl
numbers_read [] (n ∷ ns) lineNo rest h = absurd h
numbers_read (l ∷ ls) [] lineNo rest h = absurd h
numbers_read (l ∷ ls) (n ∷ ns) lineNo rest h =
    let text = line l.key (n ∷ []) ++ (number_lines (keys_of ls) ns ++ rest) in
    let one : read_line l.key 1 lineNo text ≡ done (record { numbers = n ∷ []; rest = number_lines (keys_of ls) ns ++ rest })
    = line_some l.key 1 lineNo text _ (line_read l.key h.0 n [] (number_lines (keys_of ls) ns ++ rest)) in
    ap (read_numbers (l ∷ ls) lineNo) (append_assoc (line l.key (n ∷ [])) (number_lines (keys_of ls) ns) rest)
    ∙ rw (one, read_number, h.1, read_numbers, numbers_read ls ns (suc lineNo) rest h.2)
