-- What the tests of ranges and areas say, as facts on numbers. Each test is a row of comparisons joined by "and". Assumes nothing.
use mathlib.Core.Bool.{Bool, true, ◌&&◌}
use mathlib.Core.Path.{◌≡◌}
use Prim.Native.Nat.{ℕ, ◌≤◌, ◌<◌}
use lib.Dec.{leb, ltb}
use borrow.Author.Tests.{leb-true, ltb-true}
use Rattle.rules.specs.declared.layer.Settings.{Settings}
use Rattle.rules.specs.declared.layer.Piece.{Piece}
use Rattle.rules.specs.Settings.{within, masks_in_range, spacing_in_range, margin_in_range, weight_in_range, budget_in_range, settings_in_range, shape_in_range, coordinate_in_range, piece_in_range, has_area}
use Rattle.rules.proofs.Tests.{both}

-- least ≤ x ≤ greatest
pub record Within (least greatest x : ℕ) : Type 0 where
  pub low : least ≤ x
  pub high : x ≤ greatest

pub within_facts : (least greatest x : ℕ) → within least greatest x ≡ true → Within least greatest x
within_facts least greatest x e =
    let b = both (leb least x) (leb x greatest) e in
    record { low = leb-true least x b.0; high = leb-true x greatest b.1 }

-- the parts of five tests that all pass
five : (a b c d e : Bool) → (a && b && c && d && e) ≡ true → (a ≡ true) × (b ≡ true) × (c ≡ true) × (d ≡ true) × (e ≡ true)
five a b c d e h =
    let p = both (a && b && c && d) e h in
    let q = both (a && b && c) d p.0 in
    let r = both (a && b) c q.0 in
    let s = both a b r.0 in
    (s.0, s.1, r.1, q.1, p.1)

-- ---- One by one, as tests

pub record SettingRanges (s : Settings) : Type 0 where
  pub masks : masks_in_range s.masks ≡ true
  pub spacing : spacing_in_range s.spacing ≡ true
  pub margin : margin_in_range s.margin ≡ true
  pub weight : weight_in_range s.weight ≡ true
  pub budget : budget_in_range s.budget ≡ true

pub setting_ranges : (s : Settings) → settings_in_range s ≡ true → SettingRanges s
unfolding settings_in_range
setting_ranges s e =
    let t = five (masks_in_range s.masks) (spacing_in_range s.spacing) (margin_in_range s.margin) (weight_in_range s.weight) (budget_in_range s.budget) e in
    record { masks = t.0; spacing = t.1; margin = t.2; weight = t.3; budget = t.4 }

pub record PieceRanges (p : Piece) : Type 0 where
  pub shape : shape_in_range p.shape ≡ true
  pub x1 : coordinate_in_range p.x1 ≡ true
  pub y1 : coordinate_in_range p.y1 ≡ true
  pub x2 : coordinate_in_range p.x2 ≡ true
  pub y2 : coordinate_in_range p.y2 ≡ true

pub piece_ranges : (p : Piece) → piece_in_range p ≡ true → PieceRanges p
unfolding piece_in_range
piece_ranges p e =
    let t = five (shape_in_range p.shape) (coordinate_in_range p.x1) (coordinate_in_range p.y1) (coordinate_in_range p.x2) (coordinate_in_range p.y2) e in
    record { shape = t.0; x1 = t.1; y1 = t.2; x2 = t.3; y2 = t.4 }

-- ---- As facts

pub record SettingsFacts (s : Settings) : Type 0 where
  pub masks : Within 2 8 s.masks
  pub spacing : Within 1 100_000 s.spacing
  pub margin : Within 1 100_000 s.margin
  pub weight : Within 1 1_000 s.weight
  pub budget : Within 0 1_000_000_000 s.budget

pub settings_facts : (s : Settings) → settings_in_range s ≡ true → SettingsFacts s
settings_facts s e =
    let r = setting_ranges s e in
    record {
      masks = within_facts _ _ _ r.masks;
      spacing = within_facts _ _ _ r.spacing;
      margin = within_facts _ _ _ r.margin;
      weight = within_facts _ _ _ r.weight;
      budget = within_facts _ _ _ r.budget;
    }

pub record PieceFacts (p : Piece) : Type 0 where
  pub shape : Within 0 511 p.shape
  pub x1 : Within 0 1_000_000 p.x1
  pub y1 : Within 0 1_000_000 p.y1
  pub x2 : Within 0 1_000_000 p.x2
  pub y2 : Within 0 1_000_000 p.y2

pub piece_facts : (p : Piece) → piece_in_range p ≡ true → PieceFacts p
piece_facts p e =
    let r = piece_ranges p e in
    record {
      shape = within_facts _ _ _ r.shape;
      x1 = within_facts _ _ _ r.x1;
      y1 = within_facts _ _ _ r.y1;
      x2 = within_facts _ _ _ r.x2;
      y2 = within_facts _ _ _ r.y2;
    }

pub area_facts : (p : Piece) → has_area p ≡ true → (p.x1 < p.x2) × (p.y1 < p.y2)
unfolding has_area
area_facts p e =
    let b = both (ltb p.x1 p.x2) (ltb p.y1 p.y2) e in
    (ltb-true p.x1 p.x2 b.0, ltb-true p.y1 p.y2 b.1)
