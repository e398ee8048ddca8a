-- A text's first line by the place of its first byte 10, and what follows a key. Assumes nothing.
use mathlib.Core.Bool.{Bool, true, false, cond, not}
use mathlib.Core.List.{List, [], ◌∷◌, ◌++◌}
use mathlib.Core.Option.{Option, none, some}
use mathlib.Core.Path.{◌≡◌, refl, ap, ◌∙◌}
use Prim.Native.Nat.{ℕ, suc, ◌+◌, ◌<◌}
use native.Mathlib.Numerals.{add-one}
use native.Mathlib.Omega.{arith}
use lib.Dec.{eqb, ltb}
use lib.ListN.{length, take, drop}
use Rattle.std.proofs.Common.{Some, None, ltb-true, ltb-false, lt-ltb, le-ltb}
use Rattle.std.specs.List.{position, position_or_len}
use Rattle.rules.specs.Lines.{newline, FirstLine, ended, unended, longer, first_line, after_key}
use Rattle.lines.proofs.Written.{key_text, key_after}

-- ---- The first line

abbrev pub is_newline : ℕ → Bool
is_newline b = eqb b newline

-- where the first byte 10 is
abbrev end_of : List ℕ → ℕ
end_of text = position_or_len is_newline text

abbrev split_at : List ℕ → ℕ → FirstLine
split_at text n = cond (ltb n (length text)) (ended (take n text) (drop (n + 1) text)) unended

split_here : (b : ℕ) (text : List ℕ) (m : ℕ) → m ≡ 0 → ended [] text ≡ split_at (b ∷ text) m
split_here b text m e = rw (e, lt-ltb 0 (suc (length text)) (omega arith))

split_longer : (b : ℕ) (text : List ℕ) (n m : ℕ) → m ≡ suc n → longer b (split_at text n) ≡ split_at (b ∷ text) m
split_longer b text n m e = go (ltb n (length text)) refl
  where
    go : (t : Bool) → ltb n (length text) ≡ t → longer b (split_at text n) ≡ split_at (b ∷ text) m
    go true et = rw (e, et, lt-ltb (suc n) (suc (length text)) (omega (arith, ltb-true n (length text) et))) (simp add-one)
    go false et = rw (e, et, le-ltb (suc n) (suc (length text)) (omega (arith, ltb-false n (length text) et)))

first_at : (text : List ℕ) → first_line text ≡ split_at text (end_of text)
unfolding first_line
first_at [] = refl
first_at (b ∷ text) = go (eqb b newline) refl (first_at text)
  where
    go : (t : Bool) → eqb b newline ≡ t → first_line text ≡ split_at text (end_of text) → first_line (b ∷ text) ≡ split_at (b ∷ text) (end_of (b ∷ text))
    go true e ih = rw (e, first_line) (split_here b text (cond (not true) (1 + end_of text) 0) refl)
    go false e ih = rw (e, first_line) (ap (longer b) ih ∙ split_longer b text (end_of text) (1 + end_of text) (omega arith))

module _ (text : List ℕ) where
  pub line_missing : None ≡ position is_newline text → first_line text ≡ unended
  line_missing e = first_at text ∙ go (ltb (end_of text) (length text)) refl
    where
      go : (t : Bool) → ltb (end_of text) (length text) ≡ t → split_at text (end_of text) ≡ unended
      go true et = let e' = rw et at e in absurd (cc e')
      go false et = rw et

  pub line_here : (n : ℕ) → Some n ≡ position is_newline text → (n < length text) × (first_line text ≡ ended (take n text) (drop (n + 1) text))
  line_here n e = go (ltb (end_of text) (length text)) refl
    where
      go : (t : Bool) → ltb (end_of text) (length text) ≡ t → (n < length text) × (first_line text ≡ ended (take n text) (drop (n + 1) text))
      go true et =
          let e' = rw et at e in
          let same : n ≡ end_of text = cc e' in
          (omega (arith, ltb-true (end_of text) (length text) et), first_at text ∙ rw (et, same))
      go false et = let e' = rw et at e in absurd (cc e')

-- ---- A key

-- what does not start with the key lacks it
pub key_missing : (key line : List ℕ) → ((rest : List ℕ) → line ≡ key ++ rest → ⊥) → after_key key line ≡ none
key_missing key line other = go (after_key key line) refl
  where
    go : (o : Option (List ℕ)) → after_key key line ≡ o → after_key key line ≡ none
    go none e = e
    go (some rest) e = absurd (other rest (key_text key line rest e))

pub key_there : (key line rest : List ℕ) → line ≡ key ++ rest → after_key key line ≡ some rest
key_there key line rest e = ap (after_key key) e ∙ key_after key rest
