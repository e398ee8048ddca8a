-- What does not depend on fixed masks. Edges, ties, units and overlaps read the other parts of a piece, so layers whose pieces differ in their fixed masks
-- only have the same ones; and a valid layer stays valid without its fixed masks. Assumes nothing.
use mathlib.Core.Bool.{false, not, and-false}
use mathlib.Core.List.{List, [], ◌∷◌, map}
use mathlib.Core.Path.{◌≡◌, refl, ap, ap₂, ◌∙◌}
use Prim.Native.Nat.{ℕ, zero, suc, ◌<◌}
use native.Mathlib.Nat.{not-suc-le-zero, le_of_suc-le-suc}
use lib.ListN.{length, length-map, length-set, get_or-map}
use Rattle.rules.specs.declared.layer.Settings.{Settings}
use Rattle.rules.specs.declared.layer.Piece.{Piece}
use Rattle.rules.specs.declared.refusal.Place.{Place}
use Rattle.rules.specs.Basics.{given, up_to, any_of}
use Rattle.rules.specs.Settings.{piece_in_range, has_area, unset, no_piece, piece_at, fixed_masks}
use Rattle.rules.specs.Edges.{overlap_x, overlap_y, gap_x, gap_y, squared_gap, conflict_edge, contact, stitch_edge, tied, overlapping, graph_of}
use Rattle.rules.specs.Score.{mask_of, is_set}
use Rattle.rules.specs.Units.{unit_of}
use Rattle.rules.specs.Questions.{done, ask, ask_each, judge_overlaps, fixed_apart, judge_fixed, with_fixed, fix_at, Valid}
use Rattle.rules.proofs.Lists.{out_any}
use Rattle.rules.proofs.Outcomes.{each_passes}
use Rattle.rules.proofs.Validity.{valid_sound, sound_valid}

-- ---- The fixed mask of a piece

-- what stands in the list of fixed masks, past its end too
pub fixed_at : (ps : List Piece) (i : ℕ) → mask_of (fixed_masks ps) i ≡ (piece_at ps i).fixed
fixed_at ps i = get_or-map (λ (p : Piece). p.fixed) ps i no_piece

-- no piece has a fixed mask
abbrev pub NoneFixed : List Piece → Type 0
NoneFixed ps = (i : ℕ) → i < length ps → (piece_at ps i).fixed ≡ unset

pub none_set : (ps : List Piece) → NoneFixed ps → (i : ℕ) → i < length ps → is_set (fixed_masks ps) i ≡ false
none_set ps none i l = rw (fixed_at ps i, none i l)

none_apart : (s : Settings) (ps : List Piece) → NoneFixed ps → (i j : ℕ) → j < length ps → fixed_apart s ps i j ≡ false
none_apart s ps none i j l = rw (none_set ps none j l, and-false, and-false)

-- 14 passes where no mask is fixed
pub none_judged : (s : Settings) (ps : List Piece) → NoneFixed ps → judge_fixed s ps ≡ done tt
unfolding judge_fixed
none_judged s ps none = each_passes _ (length ps) (λ j l. rw (out_any _ (up_to j) (λ i m. none_apart s ps none i j l)))

-- ---- Pieces that differ in the fixed mask only

pub record AlikeBut (p q : Piece) : Type 0 where
  pub rest : with_fixed unset p ≡ with_fixed unset q

range_same : {p q : Piece} → AlikeBut p q → piece_in_range p ≡ piece_in_range q
unfolding piece_in_range
range_same e = ap piece_in_range e.rest

area_same : {p q : Piece} → AlikeBut p q → has_area p ≡ has_area q
unfolding has_area
area_same e = ap has_area e.rest

module _ (s : Settings) {p q p' q' : Piece} (e : AlikeBut p p') (f : AlikeBut q q') where
  conflict_same : conflict_edge s p q ≡ conflict_edge s p' q'
  unfolding conflict_edge squared_gap gap_x gap_y
  conflict_same = ap₂ (conflict_edge s) e.rest f.rest

  stitch_same : stitch_edge s p q ≡ stitch_edge s p' q'
  unfolding stitch_edge contact overlap_x overlap_y gap_x gap_y
  stitch_same = ap₂ (stitch_edge s) e.rest f.rest

  tie_same : tied s p q ≡ tied s p' q'
  unfolding tied contact overlap_x overlap_y gap_x gap_y
  tie_same = ap₂ (tied s) e.rest f.rest

overlapping_same : {p q p' q' : Piece} → AlikeBut p p' → AlikeBut q q' → overlapping p q ≡ overlapping p' q'
unfolding overlapping overlap_x overlap_y
overlapping_same e f = ap₂ overlapping e.rest f.rest

-- ---- Layers of such pieces

pub record SameButFixed (ps qs : List Piece) : Type 0 where
  pub size : length qs ≡ length ps
  pub alike : (i : ℕ) → AlikeBut (piece_at qs i) (piece_at ps i)

module _ (s : Settings) {ps qs : List Piece} (same : SameButFixed ps qs) where
  pub graph_same : graph_of s qs ≡ graph_of s ps
  graph_same = λ i. record {
    conflicts = λ u v. given (conflict_same s (same.alike u) (same.alike v) i) 1;
    stitches = λ u v. given (stitch_same s (same.alike u) (same.alike v) i) 1;
  }

  ties_same : (u v : ℕ) → tied s (piece_at qs u) (piece_at qs v) ≡ tied s (piece_at ps u) (piece_at ps v)
  ties_same u v = tie_same s (same.alike u) (same.alike v)

  unit_at : (i : ℕ) → unit_of s qs i ≡ unit_of s ps i
  unit_at i = simp (same.size, ties_same)

  pub unit_same : unit_of s qs ≡ unit_of s ps
  unit_same = λ k i. unit_at i k

pub overlaps_same : {ps qs : List Piece} → SameButFixed ps qs → judge_overlaps qs ≡ judge_overlaps ps
unfolding judge_overlaps
overlaps_same {ps} {qs} same = λ k.
    ask_each (λ j. ask (not (any_of (λ i. overlapping_same (same.alike i) (same.alike j) k) (up_to j))) 6 (Place.Piece j)) (same.size k)

-- a valid layer stays valid where none of its masks is fixed
pub none_valid : (s : Settings) {ps qs : List Piece} → SameButFixed ps qs → NoneFixed qs → Valid s ps → Valid s qs
none_valid s {ps} {qs} same none v =
    let f = valid_sound s ps v in
    sound_valid s qs (record {
      settings = f.settings;
      count = rw same.size f.count;
      ranges = λ i l. range_same (same.alike i) ∙ f.ranges i (rw same.size at l);
      fixed = λ i l. rw (none i l);
      areas = λ i l. area_same (same.alike i) ∙ f.areas i (rw same.size at l);
      apart = λ i j l h. overlapping_same (same.alike i) (same.alike j) ∙ f.apart i j l (rw same.size at h);
      agree = λ i j l h. none_apart s qs none i j h;
    })

-- ---- The layer without its fixed masks

abbrev pub unfixed : List Piece → List Piece
unfixed ps = map (with_fixed unset) ps

unfixed_at : (ps : List Piece) (i : ℕ) → AlikeBut (piece_at (unfixed ps) i) (piece_at ps i)
unfixed_at [] i = record { rest = refl }
unfixed_at (p ∷ ps) zero = record { rest = refl }
unfixed_at (p ∷ ps) (suc i) = unfixed_at ps i

pub unfixed_same : (ps : List Piece) → SameButFixed ps (unfixed ps)
unfixed_same ps = record { size = length-map ps (with_fixed unset); alike = unfixed_at ps }

pub unfixed_none : (ps : List Piece) → NoneFixed (unfixed ps)
unfixed_none [] i l = absurd (not-suc-le-zero l)
unfixed_none (p ∷ ps) zero l = refl
unfixed_none (p ∷ ps) (suc i) l = unfixed_none ps i (le_of_suc-le-suc l)

-- the layer with one mask fixed
pub fixed_same : (i m : ℕ) (ps : List Piece) → SameButFixed ps (fix_at i m ps)
fixed_same i m ps = record { size = length-set ps i _; alike = go i ps }
  where
    go : (i : ℕ) (ps : List Piece) (j : ℕ) → AlikeBut (piece_at (fix_at i m ps) j) (piece_at ps j)
    go i [] j = record { rest = refl }
    go zero (p ∷ ps) zero = record { rest = refl }
    go zero (p ∷ ps) (suc j) = record { rest = refl }
    go (suc i) (p ∷ ps) zero = record { rest = refl }
    go (suc i) (p ∷ ps) (suc j) = go i ps j
