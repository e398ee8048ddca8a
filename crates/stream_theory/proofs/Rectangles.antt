-- What the test of XY says of five points: it holds exactly when the path is closed, each side runs along an axis, and the path encloses an area, by the
-- shoelace formula over the whole numbers. The coordinates are moved to natural numbers, where the area is a polynomial. Sides along the two axes in turn make a
-- rectangle; two sides after one another along the same axis make a path without an area. Assumes nothing.
use mathlib.Core.Bool.{Bool, true, false, not, ◌&&◌, ◌||◌}
use mathlib.Core.List.{List}
use mathlib.Core.Logic.{◌↔◌, ◌⊎◌, inl, inr, ⊎_elim}
use mathlib.Core.Path.{◌≡◌, refl, sym, ◌∙◌, ap}
use Prim.Native.Nat.{ℕ, suc, ◌+◌, ◌-◌, ◌*◌, ◌≤◌, ◌<◌}
use native.Mathlib.Nat.{mul-le-mul_right}
use native.Mathlib.Omega.{arith}
use borrow.Author.Tests.{eqb-true, eq-eqb, not-true}
use lib.IntN.{ℤ, pos, negsuc, nat_abs, ◌+ℤ◌, ◌-ℤ◌, ◌*ℤ◌}
use Rattle.rules.specs.Stream.{Point, point_at, same, lies_at, is_rectangle}
use Rattle.stream_theory.proofs.Differences.{Is, is_add, is_neg, is_mul, is_nothing, over, is_over, over_one}
use Rattle.rules.proofs.Tests.{by_test, both, clash, lt_or_ge, or_either}

-- ---- The test of two coordinates

same_true : (x y : ℤ) → same x y ≡ true → x ≡ y
same_true (pos m) (pos n) e = ap pos (eqb-true m n e)
same_true (pos m) (negsuc n) e = clash e refl
same_true (negsuc m) (pos n) e = clash e refl
same_true (negsuc m) (negsuc n) e = ap negsuc (eqb-true m n e)

same_refl : (x : ℤ) → same x x ≡ true
same_refl (pos n) = eq-eqb n n refl
same_refl (negsuc n) = eq-eqb n n refl

true_same : (x y : ℤ) → x ≡ y → same x y ≡ true
true_same x y e = rw e (same_refl y)

-- ---- Paths over natural numbers

-- the area of a closed path is 0: the shoelace formula
abbrev Flat : (x0 y0 x1 y1 x2 y2 x3 y3 : ℕ) → Type 0
Flat x0 y0 x1 y1 x2 y2 x3 y3 = x0 * y1 + x1 * y2 + x2 * y3 + x3 * y0 ≡ x1 * y0 + x2 * y1 + x3 * y2 + x0 * y3

module _ (x0 y0 x1 y1 x2 y2 x3 y3 : ℕ) where
  one_x : x0 ≡ x1 → x1 ≡ x2 → x2 ≡ x3 → Flat x0 y0 x1 y1 x2 y2 x3 y3
  one_x e f g = rw (e, f, g) (omega arith)

  one_y : y0 ≡ y1 → y1 ≡ y2 → y2 ≡ y3 → Flat x0 y0 x1 y1 x2 y2 x3 y3
  one_y e f g = rw (e, f, g) (omega arith)

  -- two sides along one axis, then two along the other
  bent_0 : x0 ≡ x1 → x1 ≡ x2 → y2 ≡ y3 → y3 ≡ y0 → Flat x0 y0 x1 y1 x2 y2 x3 y3
  bent_0 e f g h = rw (e, f, g, h) (omega arith)

  bent_1 : x1 ≡ x2 → x2 ≡ x3 → y3 ≡ y0 → y0 ≡ y1 → Flat x0 y0 x1 y1 x2 y2 x3 y3
  bent_1 e f g h = rw (e, f, g, h) (omega arith)

  bent_2 : x2 ≡ x3 → x3 ≡ x0 → y0 ≡ y1 → y1 ≡ y2 → Flat x0 y0 x1 y1 x2 y2 x3 y3
  bent_2 e f g h = rw (e, f, g, h) (omega arith)

  bent_3 : x3 ≡ x0 → x0 ≡ x1 → y1 ≡ y2 → y2 ≡ y3 → Flat x0 y0 x1 y1 x2 y2 x3 y3
  bent_3 e f g h = rw (e, f, g, h) (omega arith)

-- corners that are apart
wide : (a b c d : ℕ) → a < b → c < d → a * d + b * c ≡ a * c + b * d → ⊥
wide a b c d h l e =
    let w : ℕ = d - suc c in
    let f : d ≡ c + suc w = omega arith in
    let e' = rw f at e in
    omega (arith, e', mul-le-mul_right (suc w) h)

-- opposite corners apart in both directions
corners : (x0 y0 x2 y2 : ℕ) → (x0 ≡ x2 → ⊥) → (y0 ≡ y2 → ⊥) → x0 * y2 + x2 * y0 ≡ x0 * y0 + x2 * y2 → ⊥
corners x0 y0 x2 y2 p q e = go (lt_or_ge x0 x2) (lt_or_ge y0 y2)
  where
    go : (x0 < x2) ⊎ (x2 ≤ x0) → (y0 < y2) ⊎ (y2 ≤ y0) → ⊥
    go (inl h) (inl l) = wide x0 x2 y0 y2 h l e
    go (inl h) (inr l) = wide x0 x2 y2 y0 h (omega arith) (omega arith)
    go (inr h) (inl l) = wide x2 x0 y0 y2 (omega arith) l (omega arith)
    go (inr h) (inr l) = wide x2 x0 y2 y0 (omega arith) (omega arith) (omega arith)

-- what four sides along the axes make: no area, or the corners of a rectangle one way round or the other
data Turns (x0 y0 x1 y1 x2 y2 x3 y3 : ℕ) : Type 0 where
  flat : Flat x0 y0 x1 y1 x2 y2 x3 y3 → Turns x0 y0 x1 y1 x2 y2 x3 y3
  up_first : x0 ≡ x1 → y1 ≡ y2 → x2 ≡ x3 → y3 ≡ y0 → Turns x0 y0 x1 y1 x2 y2 x3 y3
  across_first : y0 ≡ y1 → x1 ≡ x2 → y2 ≡ y3 → x3 ≡ x0 → Turns x0 y0 x1 y1 x2 y2 x3 y3

module _ (x0 y0 x1 y1 x2 y2 x3 y3 : ℕ) where
  turns : (x0 ≡ x1) ⊎ (y0 ≡ y1) → (x1 ≡ x2) ⊎ (y1 ≡ y2) → (x2 ≡ x3) ⊎ (y2 ≡ y3) → (x3 ≡ x0) ⊎ (y3 ≡ y0) → Turns x0 y0 x1 y1 x2 y2 x3 y3
  turns (inl e) (inl f) (inl g) (inl h) = flat (one_x x0 y0 x1 y1 x2 y2 x3 y3 e f g)
  turns (inl e) (inl f) (inl g) (inr h) = flat (one_x x0 y0 x1 y1 x2 y2 x3 y3 e f g)
  turns (inl e) (inl f) (inr g) (inl h) = flat (one_x x0 y0 x1 y1 x2 y2 x3 y3 e f (omega arith))
  turns (inl e) (inl f) (inr g) (inr h) = flat (bent_0 x0 y0 x1 y1 x2 y2 x3 y3 e f g h)
  turns (inl e) (inr f) (inl g) (inl h) = flat (one_x x0 y0 x1 y1 x2 y2 x3 y3 e (omega arith) g)
  turns (inl e) (inr f) (inl g) (inr h) = up_first e f g h
  turns (inl e) (inr f) (inr g) (inl h) = flat (bent_3 x0 y0 x1 y1 x2 y2 x3 y3 h e f g)
  turns (inl e) (inr f) (inr g) (inr h) = flat (one_y x0 y0 x1 y1 x2 y2 x3 y3 (omega arith) f g)
  turns (inr e) (inl f) (inl g) (inl h) = flat (one_x x0 y0 x1 y1 x2 y2 x3 y3 (omega arith) f g)
  turns (inr e) (inl f) (inl g) (inr h) = flat (bent_1 x0 y0 x1 y1 x2 y2 x3 y3 f g h e)
  turns (inr e) (inl f) (inr g) (inl h) = across_first e f g h
  turns (inr e) (inl f) (inr g) (inr h) = flat (one_y x0 y0 x1 y1 x2 y2 x3 y3 e (omega arith) g)
  turns (inr e) (inr f) (inl g) (inl h) = flat (bent_2 x0 y0 x1 y1 x2 y2 x3 y3 g h e f)
  turns (inr e) (inr f) (inl g) (inr h) = flat (one_y x0 y0 x1 y1 x2 y2 x3 y3 e f (omega arith))
  turns (inr e) (inr f) (inr g) (inl h) = flat (one_y x0 y0 x1 y1 x2 y2 x3 y3 e f g)
  turns (inr e) (inr f) (inr g) (inr h) = flat (one_y x0 y0 x1 y1 x2 y2 x3 y3 e f g)

  -- either way round has an area
  up_area : x0 ≡ x1 → y1 ≡ y2 → x2 ≡ x3 → y3 ≡ y0 → (x0 ≡ x2 → ⊥) → (y0 ≡ y2 → ⊥) → Flat x0 y0 x1 y1 x2 y2 x3 y3 → ⊥
  up_area e f g h p q z = corners x0 y0 x2 y2 p q (omega (arith, rw (← e, f, ← g, h) at z))

  across_area : y0 ≡ y1 → x1 ≡ x2 → y2 ≡ y3 → x3 ≡ x0 → (x0 ≡ x2 → ⊥) → (y0 ≡ y2 → ⊥) → Flat x0 y0 x1 y1 x2 y2 x3 y3 → ⊥
  across_area e f g h p q z = corners x0 y0 x2 y2 p q (omega (arith, rw (← e, f, ← g, h) at z))

-- ---- Paths of five points

-- two points on a line along an axis
abbrev pub Along : Point → Point → Type 0
Along p q = (p.x ≡ q.x) ⊎ (p.y ≡ q.y)

abbrev pub cross : Point → Point → ℤ
cross p q = p.x *ℤ q.y -ℤ q.x *ℤ p.y

-- twice the area within a path, with the sign of its way round: the shoelace formula
abbrev pub twice_area : Point → Point → Point → Point → Point → ℤ
twice_area a b c d e = cross a b +ℤ cross b c +ℤ cross c d +ℤ cross d e

-- the path is closed, runs along the axes and encloses an area
pub record Encloses (a b c d e : Point) : Type 0 where
  pub closed_x : a.x ≡ e.x
  pub closed_y : a.y ≡ e.y
  pub side1 : Along a b
  pub side2 : Along b c
  pub side3 : Along c d
  pub side4 : Along d e
  pub area : twice_area a b c d e ≡ pos 0 → ⊥

record Small (least : ℕ) (p : Point) : Type 0 where
  x : nat_abs p.x ≤ least
  y : nat_abs p.y ≤ least

-- the area over the natural numbers
module _ (least : ℕ) where
  abbrev up : ℤ → ℕ
  up z = over least z

  cross_is : {p q : Point} → Small least p → Small least q
      → Is (cross p q) (up p.x * up q.y + least * least + (up q.x * least + least * up p.y)) (up p.x * least + least * up q.y + (up q.x * up p.y + least * least))
  cross_is {p} {q} s t = is_add (is_mul (is_over least p.x s.x) (is_over least q.y t.y)) (is_neg (is_mul (is_over least q.x t.x) (is_over least p.y s.y)))

  area_flat : (a b c d : Point) → Small least a → Small least b → Small least c → Small least d
      → (twice_area a b c d a ≡ pos 0) ↔ Flat (up a.x) (up a.y) (up b.x) (up b.y) (up c.x) (up c.y) (up d.x) (up d.y)
  area_flat a b c d sa sb sc sd =
      let z = is_nothing (is_add (is_add (is_add (cross_is sa sb) (cross_is sb sc)) (cross_is sc sd)) (cross_is sd sa)) in
      (λ e. omega (arith, z.0 e), λ f. z.1 (omega arith))

-- ---- The test

abbrev rectangular : Point → Point → Point → Point → Point → Bool
rectangular a b c d e =
    not (same a.x c.x)
    && not (same a.y c.y)
    && (lies_at b a.x c.y && lies_at d c.x a.y || lies_at b c.x a.y && lies_at d a.x c.y)
    && lies_at e a.x a.y

all_four : (p q r s : Bool) → p ≡ true → q ≡ true → r ≡ true → s ≡ true → (p && q && r && s) ≡ true
all_four p q r s e f g h = rw (e, f, g, h)

or_second : (p q : Bool) → q ≡ true → (p || q) ≡ true
or_second true q e = refl
or_second false q e = e

not_same : (x y : ℤ) → (x ≡ y → ⊥) → not (same x y) ≡ true
not_same x y n = by_test (same x y) (λ t. absurd (n (same_true x y t))) (λ t. rw t)

lies_true : (p : Point) (x y : ℤ) → lies_at p x y ≡ true → (p.x ≡ x) × (p.y ≡ y)
lies_true p x y e = let t = both (same p.x x) (same p.y y) e in (same_true p.x x t.0, same_true p.y y t.1)

true_lies : (p : Point) (x y : ℤ) → p.x ≡ x → p.y ≡ y → lies_at p x y ≡ true
true_lies p x y e f = rw (true_same p.x x e, true_same p.y y f)

module _ (a b c d e : Point) where
  abbrev bound : ℕ
  bound = nat_abs a.x + nat_abs a.y + nat_abs b.x + nat_abs b.y + nat_abs c.x + nat_abs c.y + nat_abs d.x + nat_abs d.y

  abbrev at : ℤ → ℕ
  at z = over bound z

  closed_flat : (twice_area a b c d a ≡ pos 0) ↔ Flat (at a.x) (at a.y) (at b.x) (at b.y) (at c.x) (at c.y) (at d.x) (at d.y)
  closed_flat =
      area_flat bound a b c d (record { x = omega arith; y = omega arith }) (record { x = omega arith; y = omega arith }) (record { x = omega arith; y = omega arith }) (record { x = omega arith; y = omega arith })

  -- one way round or the other, between corners that are apart
  data Round : Type 0 where
    upwards : a.x ≡ b.x → b.y ≡ c.y → c.x ≡ d.x → d.y ≡ a.y → Round
    across : a.y ≡ b.y → b.x ≡ c.x → c.y ≡ d.y → d.x ≡ a.x → Round

  record Corners : Type 0 where
    round : Round
    apart_x : a.x ≡ c.x → ⊥
    apart_y : a.y ≡ c.y → ⊥
    closed_x : a.x ≡ e.x
    closed_y : a.y ≡ e.y

  test_corners : rectangular a b c d e ≡ true → Corners
  test_corners t =
      let p = both _ (lies_at e a.x a.y) t in
      let q = both _ _ p.0 in
      let r = both (not (same a.x c.x)) (not (same a.y c.y)) q.0 in
      let last = lies_true e a.x a.y p.1 in
      record {
        round = ⊎_elim one_way other_way (or_either _ _ q.1);
        apart_x = λ h. clash (true_same a.x c.x h) (not-true _ r.0);
        apart_y = λ h. clash (true_same a.y c.y h) (not-true _ r.1);
        closed_x = sym last.0;
        closed_y = sym last.1;
      }
    where
      one_way : (lies_at b a.x c.y && lies_at d c.x a.y) ≡ true → Round
      one_way h =
          let s = both (lies_at b a.x c.y) (lies_at d c.x a.y) h in
          let u = lies_true b a.x c.y s.0 in
          let v = lies_true d c.x a.y s.1 in
          upwards (sym u.0) u.1 (sym v.0) v.1

      other_way : (lies_at b c.x a.y && lies_at d a.x c.y) ≡ true → Round
      other_way h =
          let s = both (lies_at b c.x a.y) (lies_at d a.x c.y) h in
          let u = lies_true b c.x a.y s.0 in
          let v = lies_true d a.x c.y s.1 in
          across (sym u.1) u.0 (sym v.1) v.0

  corners_test : Corners → rectangular a b c d e ≡ true
  corners_test k =
      all_four _ _ _ _ (not_same a.x c.x k.apart_x) (not_same a.y c.y k.apart_y) (go k.round) (true_lies e a.x a.y (sym k.closed_x) (sym k.closed_y))
    where
      go : Round → (lies_at b a.x c.y && lies_at d c.x a.y || lies_at b c.x a.y && lies_at d a.x c.y) ≡ true
      go (upwards p q r s) = rw (true_lies b a.x c.y (sym p) q, true_lies d c.x a.y (sym r) s)
      go (across p q r s) =
          or_second (lies_at b a.x c.y && lies_at d c.x a.y) (lies_at b c.x a.y && lies_at d a.x c.y)
          (rw (true_lies b c.x a.y q (sym p), true_lies d a.x c.y s (sym r)))

  corners_enclose : Corners → Encloses a b c d e
  corners_enclose k = go k.round
    where
      farX : at a.x ≡ at c.x → ⊥
      farX h = k.apart_x (over_one bound a.x c.x (omega arith) (omega arith) h)

      far_y : at a.y ≡ at c.y → ⊥
      far_y h = k.apart_y (over_one bound a.y c.y (omega arith) (omega arith) h)

      go : Round → Encloses a b c d e
      go (upwards p q r s) = record {
        closed_x = k.closed_x;
        closed_y = k.closed_y;
        side1 = inl p;
        side2 = inr q;
        side3 = inl r;
        side4 = inr (s ∙ k.closed_y);
        area = λ z. up_area _ _ _ _ _ _ _ _ (ap at p) (ap at q) (ap at r) (ap at s) farX far_y (closed_flat.0 (rw (← k.closed_x, ← k.closed_y) at z));
      }
      go (across p q r s) = record {
        closed_x = k.closed_x;
        closed_y = k.closed_y;
        side1 = inr p;
        side2 = inl q;
        side3 = inr r;
        side4 = inl (s ∙ k.closed_x);
        area = λ z. across_area _ _ _ _ _ _ _ _ (ap at p) (ap at q) (ap at r) (ap at s) farX far_y (closed_flat.0 (rw (← k.closed_x, ← k.closed_y) at z));
      }

  enclosed_corners : Encloses a b c d e → Corners
  enclosed_corners h = go (turns _ _ _ _ _ _ _ _ (along a b h.side1) (along b c h.side2) (along c d h.side3) (along d a last))
    where
      last : Along d a
      last = rw (← h.closed_x, ← h.closed_y) at h.side4

      along : (p q : Point) → Along p q → (at p.x ≡ at q.x) ⊎ (at p.y ≡ at q.y)
      along p q s = ⊎_elim (λ u. inl (ap at u)) (λ u. inr (ap at u)) s

      no_area : Flat (at a.x) (at a.y) (at b.x) (at b.y) (at c.x) (at c.y) (at d.x) (at d.y) → ⊥
      no_area f = (rw (← h.closed_x, ← h.closed_y) at h.area) (closed_flat.1 f)

      go : Turns (at a.x) (at a.y) (at b.x) (at b.y) (at c.x) (at c.y) (at d.x) (at d.y) → Corners
      go (flat f) = absurd (no_area f)
      go (up_first p q r s) = record {
        round = upwards
            (over_one bound a.x b.x (omega arith) (omega arith) p)
            (over_one bound b.y c.y (omega arith) (omega arith) q)
            (over_one bound c.x d.x (omega arith) (omega arith) r)
            (over_one bound d.y a.y (omega arith) (omega arith) s);
        apart_x = λ u. let v = ap at u in no_area (one_x _ _ _ _ _ _ _ _ p (sym p ∙ v) r);
        apart_y = λ u. let v = ap at u in no_area (one_y _ _ _ _ _ _ _ _ (v ∙ sym q) q (sym v ∙ sym s));
        closed_x = h.closed_x;
        closed_y = h.closed_y;
      }
      go (across_first p q r s) = record {
        round = across
            (over_one bound a.y b.y (omega arith) (omega arith) p)
            (over_one bound b.x c.x (omega arith) (omega arith) q)
            (over_one bound c.y d.y (omega arith) (omega arith) r)
            (over_one bound d.x a.x (omega arith) (omega arith) s);
        apart_x = λ u. let v = ap at u in no_area (one_x _ _ _ _ _ _ _ _ (v ∙ sym q) q (sym v ∙ sym s));
        apart_y = λ u. let v = ap at u in no_area (one_y _ _ _ _ _ _ _ _ p (sym p ∙ v) r);
        closed_x = h.closed_x;
        closed_y = h.closed_y;
      }

-- the test of the 40 bytes of XY
abbrev pub EnclosesArea : List ℕ → Type 0
EnclosesArea bytes = Encloses (point_at bytes 0) (point_at bytes 1) (point_at bytes 2) (point_at bytes 3) (point_at bytes 4)

pub rectangle_exactly : (bytes : List ℕ) → (is_rectangle bytes ≡ true) ↔ EnclosesArea bytes
unfolding is_rectangle
rectangle_exactly bytes = (
  λ t. corners_enclose _ _ _ _ _ (test_corners (point_at bytes 0) (point_at bytes 1) (point_at bytes 2) (point_at bytes 3) (point_at bytes 4) t),
  λ h. corners_test (point_at bytes 0) (point_at bytes 1) (point_at bytes 2) (point_at bytes 3) (point_at bytes 4) (enclosed_corners _ _ _ _ _ h),
)
