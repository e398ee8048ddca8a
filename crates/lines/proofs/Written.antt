-- A line in its form is the line that its numbers are written as, and a line that is written is read as its numbers.
-- A text's first line is what stands before its first byte 10; what follows a key is the line without the key; and the parts between commas,
-- joined by commas, are the text again, so numerals give their numbers' text.
-- Assumes nothing.
use mathlib.Core.Bool.{Bool, true, false, not, ◌&&◌}
use mathlib.Core.List.{List, [], ◌∷◌, ◌++◌, append-nil, append_assoc}
use mathlib.Core.Option.{Option, none, some}
use mathlib.Core.Path.{◌≡◌, refl, sym, ap, ◌∙◌}
use Prim.Native.Nat.{ℕ, zero, suc}
use native.Mathlib.Omega.{arith}
use lib.Dec.{eqb}
use lib.ListN.{length}
use borrow.Author.Tests.{eqb-true, eq-eqb, ne_eqb, not-true}
use Rattle.rules.specs.Lines.{newline, comma, decimal, comma_list, line, FirstLine, ended, unended, first_line, after_key, is_digit, all_digits, is_numeral, value, in_front, parts_of, numbers_of, line_numbers, NumbersRead, line_of}
use Rattle.rules.proofs.Tests.{both}
use Rattle.numerals.proofs.Decimal.{digit_low, read_written, written_numeral, written_read}
use Rattle.numerals.proofs.Digits.{numeral_digits}
use Rattle.lines.proofs.Parts.{cons_number, parts_digits, numbers_cons}

-- ---- The first line

line_text : (text body rest : List ℕ) → first_line text ≡ ended body rest → text ≡ body ++ (newline ∷ rest)
unfolding first_line
line_text [] body rest e = let z : ◌≡◌ {A = ℕ} 0 1 = cc e in absurd (omega arith)
line_text (b ∷ text) body rest e = go (eqb b newline) refl (first_line text) refl (line_text text)
  where
    go : (t : Bool) → eqb b newline ≡ t → (o : FirstLine) → first_line text ≡ o → ((body rest : List ℕ) → first_line text ≡ ended body rest → text ≡ body ++ (newline ∷ rest))
        → b ∷ text ≡ body ++ (newline ∷ rest)
    go true et o eo ih =
        let e' = rw (et, first_line) at e in
        let eb : [] ≡ body = cc e' in
        let er : text ≡ rest = cc e' in
        rw (← eb, ← er) (ap (λ (n : ℕ). n ∷ text) (eqb-true b newline et))
    go false et (ended body' rest') eo ih =
        let e' = rw (et, first_line, eo) at e in
        let eb : b ∷ body' ≡ body = cc e' in
        let er : rest' ≡ rest = cc e' in
        rw (← eb, ← er) (ap (λ (l : List ℕ). b ∷ l) (ih body' rest' eo))
    go false et unended eo ih = let e' = rw (et, first_line, eo) at e in let z : ◌≡◌ {A = ℕ} 0 1 = cc e' in absurd (omega arith)

-- no byte is byte 10
unfoldable pub one_line : List ℕ → Bool
one_line [] = true
one_line (b ∷ bs) = not (eqb b newline) && one_line bs

line_split : (body rest : List ℕ) → one_line body ≡ true → first_line (body ++ (newline ∷ rest)) ≡ ended body rest
unfolding first_line one_line
line_split [] rest h = refl
line_split (b ∷ body) rest h =
    let parts = both (not (eqb b newline)) (one_line body) h in
    rw (not-true (eqb b newline) parts.0, first_line) (rw (line_split body rest parts.1))

one_append : (xs ys : List ℕ) → one_line xs ≡ true → one_line ys ≡ true → one_line (xs ++ ys) ≡ true
unfolding one_line
one_append [] ys h k = k
one_append (x ∷ xs) ys h k =
    let parts = both (not (eqb x newline)) (one_line xs) h in
    rw parts.0 (one_append xs ys parts.1 k)

one_digits : (ds : List ℕ) → all_digits ds ≡ true → one_line ds ≡ true
unfolding one_line all_digits
one_digits [] h = refl
one_digits (d ∷ ds) h =
    let parts = both (is_digit d) (all_digits ds) h in
    let low = digit_low d parts.0 in
    let other : d ≡ newline → ⊥ = omega arith in
    rw (ne_eqb d newline other) (one_digits ds parts.1)

digits_written : (n : ℕ) → all_digits (decimal n) ≡ true
digits_written n = numeral_digits (decimal n) (written_numeral n)

one_numbers : (ns : List ℕ) → one_line (comma_list ns) ≡ true
unfolding one_line comma_list
one_numbers [] = refl
one_numbers (n ∷ []) = one_digits (decimal n) (digits_written n)
one_numbers (n ∷ m ∷ ns) = one_append (decimal n) (comma ∷ comma_list (m ∷ ns)) (one_digits (decimal n) (digits_written n)) (one_numbers (m ∷ ns))

-- ---- The key

pub key_text : (key body rest : List ℕ) → after_key key body ≡ some rest → body ≡ key ++ rest
unfolding after_key
key_text [] body rest e = cc e
key_text (k ∷ key) [] rest e = let z : ◌≡◌ {A = ℕ} 0 1 = cc e in absurd (omega arith)
key_text (k ∷ key) (b ∷ body) rest e = go (eqb k b) refl (key_text key body rest)
  where
    go : (t : Bool) → eqb k b ≡ t → (after_key key body ≡ some rest → body ≡ key ++ rest) → b ∷ body ≡ k ∷ (key ++ rest)
    go true et ih =
        let same = eqb-true k b et in
        let tail = ih (rw (et, after_key) at e) in
        cc
    go false et ih = let e' = rw (et, after_key) at e in let z : ◌≡◌ {A = ℕ} 0 1 = cc e' in absurd (omega arith)

pub key_after : (key rest : List ℕ) → after_key key (key ++ rest) ≡ some rest
unfolding after_key
key_after [] rest = refl
key_after (k ∷ key) rest = rw (eq-eqb k k refl, after_key) (key_after key rest)

-- ---- The numbers

-- parts with a comma between two
unfoldable joined : List (List ℕ) → List ℕ
joined [] = []
joined (p ∷ []) = p
joined (p ∷ q ∷ ps) = p ++ (comma ∷ joined (q ∷ ps))

joined_longer : (b : ℕ) (ps : List (List ℕ)) → joined (in_front b ps) ≡ b ∷ joined ps
unfolding joined
joined_longer b [] = refl
joined_longer b (p ∷ []) = refl
joined_longer b (p ∷ q ∷ ps) = refl

joined_cons : (ps : List (List ℕ)) (s : List ℕ) → joined ps ≡ s → (length ps ≡ 0 → ⊥) → joined ([] ∷ ps) ≡ comma ∷ s
unfolding joined
joined_cons [] s e h = absurd (h refl)
joined_cons (p ∷ ps) s e h = ap (λ (l : List ℕ). comma ∷ l) e

parts_nonempty : (s : List ℕ) → length (parts_of s) ≡ 0 → ⊥
unfolding parts_of
parts_nonempty [] h = omega arith
parts_nonempty (b ∷ s) h = go (eqb b comma) refl (parts_of s) refl
  where
    go : (t : Bool) → eqb b comma ≡ t → (ps : List (List ℕ)) → parts_of s ≡ ps → ⊥
    go true e ps ep = omega (arith, rw (e, parts_of) at h)
    go false e [] ep = omega (arith, rw (e, parts_of, ep) at h)
    go false e (p ∷ ps) ep = omega (arith, rw (e, parts_of, ep) at h)

joined_parts : (s : List ℕ) → joined (parts_of s) ≡ s
unfolding parts_of joined
joined_parts [] = refl
joined_parts (b ∷ s) = go (eqb b comma) refl (joined_parts s)
  where
    go : (t : Bool) → eqb b comma ≡ t → joined (parts_of s) ≡ s → joined (parts_of (b ∷ s)) ≡ b ∷ s
    go true e ih = rw (e, parts_of) (joined_cons (parts_of s) s ih (parts_nonempty s) ∙ ap (λ (n : ℕ). n ∷ s) (sym (eqb-true b comma e)))
    go false e ih = rw (e, parts_of) (joined_longer b (parts_of s) ∙ ap (λ (l : List ℕ). b ∷ l) ih)

join_numbers : (p : List ℕ) (ps : List (List ℕ)) (ns : List ℕ) → decimal (value p) ≡ p → joined ps ≡ comma_list ns → length ps ≡ length ns → joined (p ∷ ps) ≡ comma_list (value p ∷ ns)
unfolding joined comma_list
join_numbers p [] [] e k h = sym e
join_numbers p [] (n ∷ ns) e k h = absurd (omega arith)
join_numbers p (q ∷ ps) [] e k h = absurd (omega arith)
join_numbers p (q ∷ ps) (n ∷ ns) e k h = rw e (ap (λ (l : List ℕ). p ++ (comma ∷ l)) k)

-- numerals are their numbers' text
numerals_text : (count : ℕ) (ps : List (List ℕ)) (ns : List ℕ) → numbers_of count ps ≡ some ns → (joined ps ≡ comma_list ns) × (length ps ≡ count) × (length ns ≡ count)
unfolding numbers_of joined comma_list
numerals_text zero [] ns e = let none-there : [] ≡ ns = cc e in rw (← none-there) (refl, refl, refl)
numerals_text zero (p ∷ ps) ns e = let z : ◌≡◌ {A = ℕ} 0 1 = cc e in absurd (omega arith)
numerals_text (suc count) [] ns e = let z : ◌≡◌ {A = ℕ} 0 1 = cc e in absurd (omega arith)
numerals_text (suc count) (p ∷ ps) ns e = go (is_numeral p) refl (numbers_of count ps) refl (numerals_text count ps)
  where
    go : (t : Bool) → is_numeral p ≡ t → (o : Option (List ℕ)) → numbers_of count ps ≡ o
        → ((ms : List ℕ) → numbers_of count ps ≡ some ms → (joined ps ≡ comma_list ms) × (length ps ≡ count) × (length ms ≡ count))
        → (joined (p ∷ ps) ≡ comma_list ns) × (suc (length ps) ≡ suc count) × (length ns ≡ suc count)
    go true et (some ms) eo ih =
        let e' = rw (numbers_cons count p ps, et, eo) at e in
        let en : value p ∷ ms ≡ ns = cc e' in
        let r = ih ms eo in
        rw (← en) (join_numbers p ps ms (written_read p et) r.0 (r.1 ∙ sym r.2), ap suc r.1, ap suc r.2)
    go true et none eo ih = let e' = rw (numbers_cons count p ps, et, eo) at e in let z : ◌≡◌ {A = ℕ} 0 1 = cc e' in absurd (omega arith)
    go false et o eo ih = let e' = rw (numbers_cons count p ps, et) at e in let z : ◌≡◌ {A = ℕ} 0 1 = cc e' in absurd (omega arith)

numbers_text : (count : ℕ) (s ns : List ℕ) → numbers_of count (parts_of s) ≡ some ns → (s ≡ comma_list ns) × (length ns ≡ count)
numbers_text count s ns e =
    let r = numerals_text count (parts_of s) ns e in
    (sym (joined_parts s) ∙ r.0, r.2)

-- a number that is written, and others after it
number_first : (more n : ℕ) (ps : List (List ℕ)) → numbers_of (suc more) (decimal n ∷ ps) ≡ cons_number n (numbers_of more ps)
number_first more n ps = numbers_cons more (decimal n) ps ∙ rw (written_numeral n, read_written n)

numbers_read : (n : ℕ) (ns : List ℕ) → numbers_of (suc (length ns)) (parts_of (comma_list (n ∷ ns))) ≡ some (n ∷ ns)
unfolding comma_list parts_of numbers_of
numbers_read n [] =
    let alone : parts_of (decimal n) ≡ decimal n ∷ [] =
    ap parts_of (sym (append-nil (decimal n))) ∙ parts_digits (decimal n) [] [] [] (digits_written n) refl ∙ ap (λ (l : List ℕ). l ∷ []) (append-nil (decimal n)) in
    ap (numbers_of 1) alone ∙ number_first 0 n []
numbers_read n (m ∷ ns) =
    let rest = parts_of (comma_list (m ∷ ns)) in
    let split : parts_of (decimal n ++ (comma ∷ comma_list (m ∷ ns))) ≡ decimal n ∷ rest =
    parts_digits (decimal n) (comma ∷ comma_list (m ∷ ns)) [] rest (digits_written n) refl ∙ ap (λ (l : List ℕ). l ∷ rest) (append-nil (decimal n)) in
    ap (numbers_of (suc (suc (length ns)))) split ∙ number_first (suc (length ns)) n rest ∙ ap (cons_number n) (numbers_read m ns)

-- ---- A line

-- what is read was written so
pub line_written : (key : List ℕ) (count : ℕ) (text : List ℕ) (l : NumbersRead) → line_of key count text ≡ some l
    → (text ≡ line key l.numbers ++ l.rest) × (length l.numbers ≡ count)
unfolding line_of line_numbers line
line_written key count text l e = first (first_line text) refl
  where
    Wanted : Type 0
    Wanted = (text ≡ line key l.numbers ++ l.rest) × (length l.numbers ≡ count)

    read_of : Option NumbersRead → NumbersRead
    read_of none = l
    read_of (some k) = k

    numbers : (body rest s : List ℕ) → first_line text ≡ ended body rest → after_key key body ≡ some s → (o : Option (List ℕ)) → numbers_of count (parts_of s) ≡ o → Wanted
    numbers body rest s ef ek none eo = let e' = rw (ef, line_of, ek, line_numbers, eo) at e in let z : ◌≡◌ {A = ℕ} 0 1 = cc e' in absurd (omega arith)
    numbers body rest s ef ek (some ns) eo =
        let e' = rw (ef, line_of, ek, line_numbers, eo) at e in
        let en : ns ≡ l.numbers = ap (λ (o : Option NumbersRead). (read_of o).numbers) e' in
        let er : rest ≡ l.rest = ap (λ (o : Option NumbersRead). (read_of o).rest) e' in
        let written = numbers_text count s ns eo in
        let body-text = key_text key body s ek ∙ ap (λ (k : List ℕ). key ++ k) written.0 in
        let whole = line_text text body rest ef in
        (whole ∙ ap (λ (k : List ℕ). k ++ (newline ∷ rest)) body-text ∙ sym (append_assoc (key ++ comma_list ns) (newline ∷ []) rest) ∙ rw (en, er), ap length (sym en) ∙ written.1)

    after : (body rest : List ℕ) → first_line text ≡ ended body rest → (o : Option (List ℕ)) → after_key key body ≡ o → Wanted
    after body rest ef none ek = let e' = rw (ef, line_of, ek, line_numbers) at e in let z : ◌≡◌ {A = ℕ} 0 1 = cc e' in absurd (omega arith)
    after body rest ef (some s) ek = numbers body rest s ef ek (numbers_of count (parts_of s)) refl

    first : (o : FirstLine) → first_line text ≡ o → Wanted
    first (ended body rest) ef = after body rest ef (after_key key body) refl
    first unended ef = let e' = rw (ef, line_of) at e in let z : ◌≡◌ {A = ℕ} 0 1 = cc e' in absurd (omega arith)

-- what is written is read so
pub line_read : (key : List ℕ) → one_line key ≡ true → (n : ℕ) (ns rest : List ℕ)
    → line_of key (suc (length ns)) (line key (n ∷ ns) ++ rest) ≡ some (record { numbers = n ∷ ns; rest = rest })
unfolding line_of line_numbers line
line_read key clean n ns rest =
    let body = key ++ comma_list (n ∷ ns) in
    let first : first_line (line key (n ∷ ns) ++ rest) ≡ ended body rest =
    ap first_line (append_assoc body (newline ∷ []) rest) ∙ line_split body rest (one_append key (comma_list (n ∷ ns)) clean (one_numbers (n ∷ ns))) in
    rw (first, line_of) (rw (key_after key (comma_list (n ∷ ns)), line_numbers) (rw (numbers_read n ns)))
