-- Edges have no direction, since distance and contact are the same both ways. In a valid layer no piece is joined to itself: it has its own shape, and
-- as it has width and height it nowhere meets itself, so its contact with itself is 0, which is below every margin. The edge between two pieces is the
-- one that their shapes, distance and contact give. Assumes nothing.
use mathlib.Core.Bool.{Bool, true, false, not, ◌&&◌, cond, and-false}
use mathlib.Core.List.{List}
use mathlib.Core.Logic.{◌↔◌}
use mathlib.Core.Path.{◌≡◌, refl, sym, ◌∙◌}
use Prim.Native.Nat.{ℕ, ◌+◌, ◌*◌, ◌≤◌, ◌<◌}
use native.Mathlib.Nat.{max_comm, min_comm, mul-le-mul}
use native.Mathlib.Omega.{arith}
use lib.Dec.{leb, ltb}
use lib.ListN.{length}
use borrow.Author.Tests.{eqb-true, eqb-false, eq-eqb, ne_eqb, ltb-true, lt-ltb, le-ltb, leb-true, le-leb, lt-leb, not-true}
use Rattle.rules.specs.declared.layer.Settings.{Settings}
use Rattle.rules.specs.declared.layer.Piece.{Piece}
use Rattle.rules.specs.declared.layer.Edge.{Edge}
use Rattle.rules.specs.Basics.{given}
use Rattle.rules.specs.Settings.{settings_in_range, has_area, piece_at}
use Rattle.rules.specs.Edges.{overlap_x, overlap_y, gap_x, gap_y, same_shape, squared_gap, conflict_edge, meet_x, meet_y, contact, stitch_edge, tied, edge_of, Graph, graph_of, joined}
use Rattle.rules.specs.Questions.{Valid}
use Rattle.rules.specs.Demands.{TooClose, Stitchable, TooLittle}
use Rattle.rules.proofs.Tests.{by_test, clash, eqb_sym, both}
use Rattle.rules.proofs.Ranges.{settings_facts, area_facts}
use Rattle.rules.proofs.Validity.{valid_sound}

-- ---- No direction

gap_x_sym : (p q : Piece) → gap_x p q ≡ gap_x q p
unfolding gap_x
gap_x_sym p q = rw (max_comm p.x1 q.x1, min_comm p.x2 q.x2)

gap_y_sym : (p q : Piece) → gap_y p q ≡ gap_y q p
unfolding gap_y
gap_y_sym p q = rw (max_comm p.y1 q.y1, min_comm p.y2 q.y2)

overlap_x_sym : (p q : Piece) → overlap_x p q ≡ overlap_x q p
unfolding overlap_x
overlap_x_sym p q = rw (max_comm p.x1 q.x1, min_comm p.x2 q.x2)

overlap_y_sym : (p q : Piece) → overlap_y p q ≡ overlap_y q p
unfolding overlap_y
overlap_y_sym p q = rw (max_comm p.y1 q.y1, min_comm p.y2 q.y2)

pub conflict_sym : (s : Settings) (p q : Piece) → conflict_edge s p q ≡ conflict_edge s q p
unfolding conflict_edge squared_gap
conflict_sym s p q = rw (eqb_sym p.shape q.shape, gap_x_sym p q, gap_y_sym p q)

pub stitch_sym : (s : Settings) (p q : Piece) → stitch_edge s p q ≡ stitch_edge s q p
unfolding stitch_edge contact
stitch_sym s p q = rw (eqb_sym p.shape q.shape, gap_x_sym p q, gap_y_sym p q, overlap_x_sym p q, overlap_y_sym p q)

pub tie_sym : (s : Settings) (p q : Piece) → tied s p q ≡ tied s q p
unfolding tied contact
tie_sym s p q = rw (eqb_sym p.shape q.shape, gap_x_sym p q, gap_y_sym p q, overlap_x_sym p q, overlap_y_sym p q)

pub record Undirected (g : Graph) : Type 0 where
  pub conflicts : (u v : ℕ) → g.conflicts u v ≡ g.conflicts v u
  pub stitches : (u v : ℕ) → g.stitches u v ≡ g.stitches v u

pub undirected : (s : Settings) (ps : List Piece) → Undirected (graph_of s ps)
undirected s ps = record {
  conflicts = λ u v. rw (conflict_sym s (piece_at ps u) (piece_at ps v));
  stitches = λ u v. rw (stitch_sym s (piece_at ps u) (piece_at ps v));
}

pub joined_sym : {g : Graph} → Undirected g → (u v : ℕ) → joined g u v ≡ joined g v u
joined_sym d u v = rw (d.conflicts u v, d.stitches u v)

-- ---- No loops

pub no_self_conflict : (s : Settings) (p : Piece) → conflict_edge s p p ≡ false
unfolding conflict_edge
no_self_conflict s p = rw (eq-eqb p.shape p.shape refl)

self_contact : (p : Piece) → has_area p ≡ true → contact p p ≡ 0
unfolding contact overlap_x overlap_y gap_x gap_y
self_contact p a =
    let f = area_facts p a in
    rw (ne_eqb (overlap_x p p + gap_x p p) 0 (λ e. omega arith), ne_eqb (overlap_y p p + gap_y p p) 0 (λ e. omega arith))

pub no_self_stitch : (s : Settings) (p : Piece) → settings_in_range s ≡ true → has_area p ≡ true → stitch_edge s p p ≡ false
unfolding stitch_edge
no_self_stitch s p r a = rw (eq-eqb p.shape p.shape refl, self_contact p a, lt-leb s.margin 0 (settings_facts s r).margin.low)

pub no_self_tie : (s : Settings) (p : Piece) → has_area p ≡ true → tied s p p ≡ false
unfolding tied
no_self_tie s p a = rw (eq-eqb p.shape p.shape refl, self_contact p a)

pub loopless : (s : Settings) (ps : List Piece) → Valid s ps → (v : ℕ) → v < length ps → joined (graph_of s ps) v v ≡ false
loopless s ps valid v l =
    let f = valid_sound s ps valid in
    rw (no_self_conflict s (piece_at ps v), no_self_stitch s (piece_at ps v) f.settings (f.areas v l))

-- ---- What joins two pieces

module _ (s : Settings) (p q : Piece) where
  conflict_test : (conflict_edge s p q ≡ true) ↔ TooClose s p q
  unfolding conflict_edge
  conflict_test = (
    λ e. let b = both (not (same_shape p q)) (ltb (squared_gap p q) (s.spacing * s.spacing)) e in record { shapes = eqb-false p.shape q.shape (not-true (same_shape p q) b.0); near = ltb-true (squared_gap p q) (s.spacing * s.spacing) b.1 },
    λ c. rw (ne_eqb p.shape q.shape c.shapes, lt-ltb (squared_gap p q) (s.spacing * s.spacing) c.near),
  )

  stitch_test : (stitch_edge s p q ≡ true) ↔ Stitchable s p q
  unfolding stitch_edge
  stitch_test = (
    λ e. let b = both (same_shape p q) (leb s.margin (contact p q)) e in record { shape = eqb-true p.shape q.shape b.0; touching = leb-true s.margin (contact p q) b.1 },
    λ c. rw (eq-eqb p.shape q.shape c.shape, le-leb s.margin (contact p q) c.touching),
  )

  pub tie_test : (tied s p q ≡ true) ↔ TooLittle s p q
  unfolding tied
  tie_test = (
    λ e.
        let b = both (same_shape p q && ltb 0 (contact p q)) (ltb (contact p q) s.margin) e in
        let c = both (same_shape p q) (ltb 0 (contact p q)) b.0 in
        record { shape = eqb-true p.shape q.shape c.0; touching = ltb-true 0 (contact p q) c.1; short = ltb-true (contact p q) s.margin b.1 },
    λ c. rw (eq-eqb p.shape q.shape c.shape, lt-ltb 0 (contact p q) c.touching, lt-ltb (contact p q) s.margin c.short),
  )

  -- the edge found is the one that the tests give
  edge_by : (x y z : Bool) → conflict_edge s p q ≡ x → stitch_edge s p q ≡ y → tied s p q ≡ z
      → edge_of s p q ≡ cond x Edge.Conflict (cond y Edge.Stitch (cond z Edge.Tie Edge.None))
  unfolding edge_of
  edge_by x y z e f g = rw (e, f, g)

  -- a stitch edge joins one shape, a conflict edge two
  pub one_kind : conflict_edge s p q ≡ true → stitch_edge s p q ≡ true → ⊥
  one_kind e f = (conflict_test.0 e).shapes (stitch_test.0 f).shape

  -- tied pieces have no edge
  tied_no_conflict : tied s p q ≡ true → conflict_edge s p q ≡ true → ⊥
  tied_no_conflict t e = (conflict_test.0 e).shapes (tie_test.0 t).shape

  tied_no_stitch : tied s p q ≡ true → stitch_edge s p q ≡ true → ⊥
  tied_no_stitch t f = omega (arith, (tie_test.0 t).short, (stitch_test.0 f).touching)

  other_edge : {A : Type 0} {e f : Edge} → edge_of s p q ≡ e → edge_of s p q ≡ f → (e ≡ f → ◌≡◌ {A = ℕ} 0 1) → A
  other_edge x y n = let z : ◌≡◌ {A = ℕ} 0 1 = n (sym x ∙ y) in absurd (omega arith)

  -- the four answers, with the test that gives each
  by_edge : {A : Type 0} → (conflict_edge s p q ≡ true → edge_of s p q ≡ Edge.Conflict → A)
      → (stitch_edge s p q ≡ true → edge_of s p q ≡ Edge.Stitch → A)
      → (tied s p q ≡ true → edge_of s p q ≡ Edge.Tie → A)
      → (edge_of s p q ≡ Edge.None → A) → A
  by_edge c t m n =
      by_test (conflict_edge s p q) (λ f. c f (edge_by true (stitch_edge s p q) (tied s p q) f refl refl)) λ f.
      by_test (stitch_edge s p q) (λ g. t g (edge_by false true (tied s p q) f g refl)) λ g.
      by_test (tied s p q) (λ h. m h (edge_by false false true f g h)) λ h.
      n (edge_by false false false f g h)

  pub conflict_exactly : (edge_of s p q ≡ Edge.Conflict) ↔ TooClose s p q
  conflict_exactly = (
    λ e. by_edge (λ f _. conflict_test.0 f) (λ _ x. other_edge e x (λ h. cc h)) (λ _ x. other_edge e x (λ h. cc h)) (λ x. other_edge e x (λ h. cc h)),
    λ c. edge_by true (stitch_edge s p q) (tied s p q) (conflict_test.1 c) refl refl,
  )

  pub stitch_exactly : (edge_of s p q ≡ Edge.Stitch) ↔ Stitchable s p q
  stitch_exactly = (
    λ e. by_edge (λ _ x. other_edge e x (λ h. cc h)) (λ f _. stitch_test.0 f) (λ _ x. other_edge e x (λ h. cc h)) (λ x. other_edge e x (λ h. cc h)),
    λ c. by_test (conflict_edge s p q) (λ f. absurd (one_kind f (stitch_test.1 c))) (λ f. edge_by false true (tied s p q) f (stitch_test.1 c) refl),
  )

  pub tie_exactly : (edge_of s p q ≡ Edge.Tie) ↔ TooLittle s p q
  tie_exactly = (
    λ e. by_edge (λ _ x. other_edge e x (λ h. cc h)) (λ _ x. other_edge e x (λ h. cc h)) (λ f _. tie_test.0 f) (λ x. other_edge e x (λ h. cc h)),
    λ c.
        let t = tie_test.1 c in
        by_test (conflict_edge s p q) (λ f. absurd (tied_no_conflict t f)) λ f.
        by_test (stitch_edge s p q) (λ g. absurd (tied_no_stitch t g)) λ g.
        edge_by false false true f g t,
  )

  -- pieces that are the spacing apart in X, or in Y, have no edge: they are too far for a conflict, and touch nowhere
  module _ (range : settings_in_range s ≡ true) where
    no_contact : contact p q ≡ 0 → conflict_edge s p q ≡ false → edge_of s p q ≡ Edge.None
    unfolding stitch_edge tied
    no_contact e c =
        edge_by false false false c
        (rw (e, lt-leb s.margin 0 (settings_facts s range).margin.low) (and-false (same_shape p q)))
        (rw (e, and-false (same_shape p q)))

    pub far_in_x : s.spacing ≤ gap_x p q → edge_of s p q ≡ Edge.None
    unfolding conflict_edge squared_gap contact overlap_x gap_x
    far_in_x far =
        let some = (settings_facts s range).spacing.low in
        no_contact
        (rw (ne_eqb (overlap_x p q + gap_x p q) 0 (λ e. omega arith)) (by_test (meet_y p q) (λ e. rw e (omega arith)) (λ e. rw e)))
        (rw (le-ltb (squared_gap p q) (s.spacing * s.spacing) (omega (arith, mul-le-mul far far))) (and-false (not (same_shape p q))))

    pub far_in_y : s.spacing ≤ gap_y p q → edge_of s p q ≡ Edge.None
    unfolding conflict_edge squared_gap contact overlap_y gap_y
    far_in_y far =
        let some = (settings_facts s range).spacing.low in
        no_contact
        (by_test (meet_x p q) (λ e. rw e (omega arith)) (λ e. rw (e, ne_eqb (overlap_y p q + gap_y p q) 0 (λ e. omega arith))))
        (rw (le-ltb (squared_gap p q) (s.spacing * s.spacing) (omega (arith, mul-le-mul far far))) (and-false (not (same_shape p q))))

given_one : (b : Bool) → (given b 1 ≡ 1) ↔ (b ≡ true)
given_one true = (λ _. refl, λ _. refl)
given_one false = (λ e. absurd (omega arith), λ e. clash e refl)

module _ (s : Settings) (ps : List Piece) (u v : ℕ) where
  pub conflicts_exactly : ((graph_of s ps).conflicts u v ≡ 1) ↔ TooClose s (piece_at ps u) (piece_at ps v)
  conflicts_exactly =
      let one = given_one (conflict_edge s (piece_at ps u) (piece_at ps v)) in
      let test = conflict_test s (piece_at ps u) (piece_at ps v) in
      (λ e. test.0 (one.0 e), λ c. one.1 (test.1 c))

  pub stitches_exactly : ((graph_of s ps).stitches u v ≡ 1) ↔ Stitchable s (piece_at ps u) (piece_at ps v)
  stitches_exactly =
      let one = given_one (stitch_edge s (piece_at ps u) (piece_at ps v)) in
      let test = stitch_test s (piece_at ps u) (piece_at ps v) in
      (λ e. test.0 (one.0 e), λ c. one.1 (test.1 c))
