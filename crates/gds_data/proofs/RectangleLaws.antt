-- The test of five points, and the piece between two, with coordinates that are read without their sign. Assumes nothing.
use mathlib.Core.Bool.{Bool, true, false, not, ◌&&◌, ◌||◌}
use mathlib.Core.List.{List}
use mathlib.Core.Path.{◌≡◌, refl, ◌∙◌}
use Prim.Native.Nat.{ℕ, ◌+◌, ◌<◌, min, max}
use native.Mathlib.Omega.{arith}
use lib.Dec.{eqb}
use lib.ListN.{get_or}
use mir.Syntax.{w8}
use mir.Val.{Fits}
use borrow.Author.Tests.{eq-eqb, ne_eqb}
use Rattle.rules.specs.declared.layer.Piece.{Piece}
use Rattle.rules.specs.Settings.{unset}
use Rattle.rules.specs.Stream as rules
use Rattle.rules.specs.Stream.{word32, signed32, is_rectangle}
use Rattle.gds_data.specs.declared.rectangle.Point.{Point}
use Rattle.gds_data.specs.Rectangles.{word_point, unsigned32, corner_piece}
use Rattle.gds_data.proofs.SignedWords.{same_words, word_back}

abbrev equal : Point → Point → Bool
equal p q = eqb p.x q.x && eqb p.y q.y

-- the corner with the x of the one point and the y of the other
abbrev pub corner : Point → Point → Point
corner a c = record { x = a.x; y = c.y }

-- the last point is asked of each way round
shared : (s x y z : Bool) → (s && (x || y) && z) ≡ (s && (x && z || y && z))
shared false x y z = refl
shared true true true true = refl
shared true true true false = refl
shared true true false true = refl
shared true true false false = refl
shared true false y z = refl

module _ (bytes : List ℕ) (small : (k : ℕ) → Fits w8 (get_or bytes k 0)) where
  fits : (at : ℕ) → word32 bytes at < 4_294_967_296
  fits at = omega (arith, small at, small (at + 1), small (at + 2), small (at + 2 + 1))

  words : (i j : ℕ) → rules.same (signed32 (word32 bytes i)) (signed32 (word32 bytes j)) ≡ eqb (word32 bytes i) (word32 bytes j)
  words i j = same_words (word32 bytes i) (word32 bytes j) (fits i) (fits j)

  back : (at : ℕ) → unsigned32 (signed32 (word32 bytes at)) ≡ word32 bytes at
  back at = word_back (word32 bytes at) (fits at)

  pub between : (shape : ℕ) (a c : Point) → a ≡ word_point bytes 0 → c ≡ word_point bytes 2
      → ◌≡◌ {A = Piece} (record { shape = shape; x1 = min a.x c.x; y1 = min a.y c.y; x2 = max a.x c.x; y2 = max a.y c.y; fixed = unset }) (corner_piece (rules.point_at bytes 0) (rules.point_at bytes 2) shape)
  between shape a c ea ec = rw (ea, ec, back 0, back 4, back 16, back 20)

  module _ (a b c d e : Point) (ea : a ≡ word_point bytes 0) (eb : b ≡ word_point bytes 1) (ec : c ≡ word_point bytes 2) (ed : d ≡ word_point bytes 3) (ee : e ≡ word_point bytes 4) where
    abbrev sides : Bool
    sides = not (eqb a.x c.x) && not (eqb a.y c.y)

    -- the second point and the fourth lie at the other two corners, the one way round and the other
    abbrev one : Bool
    one = equal b (corner a c) && equal d (corner c a)

    abbrev other : Bool
    other = equal b (corner c a) && equal d (corner a c)

    abbrev closed : Bool
    closed = equal e a

    whole : is_rectangle bytes ≡ (sides && (one && closed || other && closed))
    unfolding is_rectangle
    whole = rw (ea, eb, ec, ed, ee) (simp words) ∙ shared sides one other closed

    pub of_corners : (a.x ≡ c.x → ⊥) → (a.y ≡ c.y → ⊥) → is_rectangle bytes ≡ (one && closed || other && closed)
    of_corners wide high = whole ∙ rw (ne_eqb a.x c.x wide, ne_eqb a.y c.y high)

    pub no_width : a.x ≡ c.x → is_rectangle bytes ≡ false
    no_width h = whole ∙ rw (eq-eqb a.x c.x h)

    pub no_height : a.y ≡ c.y → is_rectangle bytes ≡ false
    no_height h = whole ∙ rw (eq-eqb a.y c.y h) (none (not (eqb a.x c.x)) (one && closed || other && closed))
      where
        none : (s t : Bool) → (s && false && t) ≡ false
        none true t = refl
        none false t = refl
