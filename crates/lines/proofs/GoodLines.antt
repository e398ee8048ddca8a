-- What a line that was read says of the text: it is out of form, or it has these numbers up to the cap, and the text goes on after it.
-- Assumes nothing.
use mathlib.Core.List.{List}
use mathlib.Core.Option.{Option, none, some}
use mathlib.Core.Path.{◌≡◌, refl, ap, ◌∙◌}
use Prim.Native.Nat.{ℕ, min}
use lib.ListN.{get_or, get_or-map}
use Rattle.rules.specs.Lines.{NumbersRead, line_of}
use Rattle.numerals.specs.Numerals.{cap}
use Rattle.lines.specs.ReadLines.{capped, line_read}

pub record GoodLine (text key : List ℕ) (count : ℕ) (values rest : List ℕ) : Type 0 where
  pub line : NumbersRead
  pub found : line_of key count text ≡ some line
  pub after : rest ≡ line.rest
  pub numbers : values ≡ capped line.numbers
  pub value : (i : ℕ) → get_or values i 0 ≡ min (get_or line.numbers i 0) cap

module _ (text key : List ℕ) (count : ℕ) where
  pub bad_line : none ≡ line_read (line_of key count text) → line_of key count text ≡ none
  bad_line bad = go (line_of key count text) bad
    where
      go : (o : Option NumbersRead) → none ≡ line_read o → o ≡ none
      go none e = refl
      go (some l) e = absurd (cc e)

  pub good_line : {values rest : List ℕ} → some (record { numbers = values; rest = rest }) ≡ line_read (line_of key count text) → GoodLine text key count values rest
  good_line {values} {rest} good = go (line_of key count text) refl good
    where
      go : (o : Option NumbersRead) → line_of key count text ≡ o → some (record { numbers = values; rest = rest }) ≡ line_read o → GoodLine text key count values rest
      go none e k = absurd (cc k)
      go (some l) e k =
          let same : ◌≡◌ {A = NumbersRead} (record { numbers = values; rest = rest }) (record { numbers = capped l.numbers; rest = l.rest }) = cc k in
          let numbers : values ≡ capped l.numbers = ap (λ (n : NumbersRead). n.numbers) same in
          record {
            line = l;
            found = e;
            after = ap (λ (n : NumbersRead). n.rest) same;
            numbers = numbers;
            value = λ i. ap (λ (vs : List ℕ). get_or vs i 0) numbers ∙ get_or-map (λ n. min n cap) l.numbers i 0;
          }
