-- A line read as a whole: no byte 10, no key, numbers out of form, or the numbers. Assumes nothing.
use mathlib.Core.List.{List}
use mathlib.Core.Option.{Option, none, some}
use mathlib.Core.Path.{◌≡◌, refl, ◌∙◌}
use Prim.Native.Nat.{ℕ, ◌+◌}
use lib.ListN.{take, drop}
use Rattle.std.proofs.Common.{Some, None}
use Rattle.rules.specs.Lines.{ended, unended, first_line, after_key, parts_of, numbers_of, line_numbers, NumbersRead, line_of}
use Rattle.lines.specs.ReadLines.{capped, numbers_read, line_read}

-- the numbers, and the text after the line
abbrev line_from : List ℕ → Option (List ℕ) → Option NumbersRead
line_from rest none = none
line_from rest (some ns) = some (record { numbers = ns; rest = rest })

module _ (text key : List ℕ) (N : ℕ) where
  pub line_unended : first_line text ≡ unended → none ≡ line_read (line_of key N text)
  unfolding line_of
  line_unended e = rw (e, line_of)

  module _ (n : ℕ) (split : first_line text ≡ ended (take n text) (drop (n + 1) text)) where
    line_ended : line_of key N text ≡ line_from (drop (n + 1) text) (line_numbers key N (take n text))
    unfolding line_of
    line_ended = go (line_numbers key N (take n text)) refl
      where
        go : (o : Option (List ℕ)) → line_numbers key N (take n text) ≡ o → line_of key N text ≡ line_from (drop (n + 1) text) o
        go none eo = rw (split, line_of) (rw eo)
        go (some ns) eo = rw (split, line_of) (rw eo)

    pub line_no_key : after_key key (take n text) ≡ none → none ≡ line_read (line_of key N text)
    unfolding line_numbers
    line_no_key lacks = rw (line_ended, line_numbers, lacks)

    module _ (rest : List ℕ) (there : after_key key (take n text) ≡ some rest) where
      numbers : line_of key N text ≡ line_from (drop (n + 1) text) (numbers_of N (parts_of rest))
      unfolding line_numbers
      numbers = line_ended ∙ rw (line_numbers, there)

      pub line_bad : None ≡ numbers_read (numbers_of N (parts_of rest)) → none ≡ line_read (line_of key N text)
      line_bad bad = go (numbers_of N (parts_of rest)) bad numbers
        where
          go : (o : Option (List ℕ)) → None ≡ numbers_read o → line_of key N text ≡ line_from (drop (n + 1) text) o → none ≡ line_read (line_of key N text)
          go none e k = rw k
          go (some ns) e k = absurd (cc e)

      pub line_good : (values : List ℕ) → Some values ≡ numbers_read (numbers_of N (parts_of rest))
          → some (record { numbers = values; rest = drop (n + 1) text }) ≡ line_read (line_of key N text)
      line_good values good = go (numbers_of N (parts_of rest)) good numbers
        where
          go : (o : Option (List ℕ)) → Some values ≡ numbers_read o → line_of key N text ≡ line_from (drop (n + 1) text) o → some (record { numbers = values; rest = drop (n + 1) text }) ≡ line_read (line_of key N text)
          go none e k = absurd (cc e)
          go (some ns) e k =
              let same : values ≡ capped ns = cc e in
              rw (k, same)
