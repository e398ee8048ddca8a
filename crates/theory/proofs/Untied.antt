-- A layer without ties is decomposed as its pieces are: each piece is a unit by itself, the graph of units has the edges of the graph of pieces and their fixed
-- masks, and what is reached is what the same rules reach on the pieces (`untied_reached`). So ties change nothing where there are none.
use mathlib.Core.Bool.{false}
use mathlib.Core.List.{List, [], ◌∷◌}
use mathlib.Core.Path.{◌≡◌, refl, sym, ap, ◌∙◌}
use Prim.Native.Nat.{ℕ, ◌<◌}
use native.Mathlib.Omega.{arith}
use lib.Dec.{eqb}
use lib.ListN.{length, replicate, length-replicate}
use borrow.Author.Tests.{eqb-true, eq-eqb, not-false}
use Rattle.rules.specs.declared.layer.Settings.{Settings}
use Rattle.rules.specs.declared.layer.Piece.{Piece}
use Rattle.rules.specs.Basics.{sum_of, up_to}
use Rattle.rules.specs.Settings.{unset, piece_at, fixed_masks}
use Rattle.rules.specs.Edges.{tied, graph_of}
use Rattle.rules.specs.Score.{mask_of, is_set}
use Rattle.rules.specs.Units.{unit_of, merged_into, unit_numbers, edges_between, merged_graph, spread, lowest_set, unit_fixed}
use Rattle.rules.specs.Decomposition.{Reached, decompose, reached}
use Rattle.rules.specs.Questions.{Valid}
use Rattle.rules.proofs.Edges.{undirected, no_self_conflict, no_self_stitch, loopless}
use Rattle.rules.proofs.Lists.{◌∈◌, none_in, here, later, keep_all, Distinct, distinct_keep, in_up_to, up_to_distinct}
use Rattle.rules.proofs.Ranges.{settings_facts}
use Rattle.rules.proofs.Tests.{by_test, clash}
use Rattle.rules.proofs.Validity.{valid_sound}
use Rattle.theory.proofs.Fixed.{FixedBelow}
use Rattle.theory.proofs.Units.{grouping, unit_keeps}
use Rattle.theory.proofs.Merging.{member_in, in_member, spread_only}
use Rattle.theory.proofs.Neighbours.{SameFixed}
use Rattle.theory.proofs.FixedUnits.{lowest_of, unit_unfixed, fixable}
use Rattle.theory.proofs.PuttingBack.{Ready}
use Rattle.theory.proofs.SameEdges.{SameEdges, decompose_same, decompose_fixed}
use Rattle.theory.proofs.Decomposition.{decomposed}

-- a list without repeats whose only member is u
only_one : (u : ℕ) (xs : List ℕ) → Distinct xs → u ∈ xs → ((i : ℕ) → i ∈ xs → i ≡ u) → xs ≡ u ∷ []
only_one u [] d m all = none_in m
only_one u (x ∷ []) d m all = ap (λ (y : ℕ). y ∷ []) (all x (here refl))
only_one u (x ∷ y ∷ xs) d m all = absurd (d.0 (here (all x (here refl) ∙ sym (all y (later (here refl))))))

module _ (s : Settings) (ps : List Piece) (untied : (i j : ℕ) → i < length ps → j < length ps → tied s (piece_at ps i) (piece_at ps j) ≡ false) where
  -- each piece is its own unit
  pub unit_own : (i : ℕ) → i < length ps → unit_of s ps i ≡ i
  unit_own i l =
      sym (unit_keeps s ps (λ j. j) (λ j k a b t. clash t (untied j k a b)) i (unit_of s ps i) l (omega (arith, (grouping s ps).lower i l)) (sym ((grouping s ps).again i l)))

  own_numbers : unit_numbers (unit_of s ps) (length ps) ≡ up_to (length ps)
  own_numbers = keep_all (λ i. eqb (unit_of s ps i) i) (up_to (length ps)) (λ i m. eq-eqb (unit_of s ps i) i (unit_own i ((in_up_to (length ps) i).0 m)))

  own_piece : (u : ℕ) → u < length ps → merged_into (unit_of s ps) (length ps) u ≡ u ∷ []
  own_piece u l =
      only_one u (merged_into (unit_of s ps) (length ps) u) (distinct_keep (λ i. eqb (unit_of s ps i) u) (up_to (length ps)) (up_to_distinct (length ps)))
      (in_member (unit_of s ps) (length ps) l (unit_own u l))
      (λ i m. let r = member_in (unit_of s ps) (length ps) m in sym (unit_own i r.0) ∙ r.1)

  -- the edges of the graph of units are those of the graph of pieces
  own_edges : (edges : ℕ → ℕ → ℕ) → ((u : ℕ) → u < length ps → edges u u ≡ 0) → (u v : ℕ) → u < length ps → v < length ps
      → edges_between edges (unit_of s ps) (length ps) u v ≡ edges u v
  unfolding edges_between sum_of
  own_edges edges loops u v l k =
      by_test (eqb u v)
      (λ e. rw e (sym (ap (edges u) (sym (eqb-true u v e)) ∙ loops u l)))
      (λ e. rw (e, own_piece u l, own_piece v k) (omega arith))

  -- the fixed mask of a unit is that of its piece
  own_fixed : SameFixed (unit_fixed (unit_of s ps) (length ps) (fixed_masks ps)) (mask_of (fixed_masks ps)) (up_to (length ps))
  own_fixed u m =
      let fixed = fixed_masks ps in
      let l = (in_up_to (length ps) u).0 m in
      let own = unit_own u l in
      by_test (is_set fixed u)
      (λ e.
      let low = lowest_of (unit_of s ps) (length ps) fixed u l e in
      let here : lowest_set (unit_of s ps) (length ps) fixed (unit_of s ps u) ≡ u = sym (unit_own _ low.inside) ∙ low.own ∙ own in
      ap (unit_fixed (unit_of s ps) (length ps) fixed) (sym own) ∙ low.mask ∙ ap (mask_of fixed) here)
      (λ e.
      unit_unfixed (unit_of s ps) (length ps) fixed u (λ i k unit. let q : i ≡ u = sym (unit_own i k) ∙ unit in rw q e)
      ∙ sym (eqb-true (mask_of fixed u) unset (not-false _ e)))

  module _ (valid : Valid s ps) where
    same_edges : SameEdges (merged_graph (unit_of s ps) (length ps) (graph_of s ps)) (graph_of s ps) (up_to (length ps))
    same_edges =
        let sound = valid_sound s ps valid in
        record {
          conflicts = λ u v m n. own_edges (graph_of s ps).conflicts (λ i l. rw (no_self_conflict s (piece_at ps i))) u v ((in_up_to (length ps) u).0 m) ((in_up_to (length ps) v).0 n);
          stitches = λ u v m n.
              own_edges (graph_of s ps).stitches (λ i l. rw (no_self_stitch s (piece_at ps i) sound.settings (sound.areas i l))) u v ((in_up_to (length ps) u).0 m) ((in_up_to (length ps) v).0 n);
        }

    -- what the pieces reach as vertices of their own
    abbrev on_pieces : Reached
    on_pieces = decompose s.masks s.weight s.budget (graph_of s ps) (mask_of (fixed_masks ps)) (up_to (length ps)) (replicate (length ps) 0)

    pieces_ready : Ready (graph_of s ps) (replicate (length ps) 0) (up_to (length ps))
    pieces_ready = record {
      distinct = up_to_distinct (length ps);
      placed = λ v m. rw (length-replicate {A = ℕ} (length ps) 0) ((in_up_to (length ps) v).0 m);
      loopless = λ v m. loopless s ps valid v ((in_up_to (length ps) v).0 m);
    }

    own_masks : on_pieces.masks ≡ spread (unit_of s ps) (length ps) on_pieces.masks
    own_masks =
        let some : 0 < s.masks = omega (arith, (settings_facts s (valid_sound s ps valid).settings).masks.low) in
        let low : FixedBelow s.masks (mask_of (fixed_masks ps)) (up_to (length ps)) = λ u m. (fixable s ps valid).below u ((in_up_to (length ps) u).0 m) in
        let size = (decomposed s.masks s.weight some (undirected s ps) (mask_of (fixed_masks ps)) pieces_ready low s.budget).size in
        spread_only (unit_of s ps) (length ps) on_pieces.masks on_pieces.masks (size ∙ length-replicate {A = ℕ} (length ps) 0) (λ i l. ap (mask_of on_pieces.masks) (sym (unit_own i l)))

    pub untied_reached : reached s ps ≡ on_pieces
    untied_reached =
        ap (λ (vs : List ℕ). spreads (decompose s.masks s.weight s.budget (merged_graph (unit_of s ps) (length ps) (graph_of s ps)) (unit_fixed (unit_of s ps) (length ps) (fixed_masks ps)) vs (replicate (length ps) 0))) own_numbers
        ∙ ap spreads (decompose_same s.masks s.weight s.budget _ (up_to (length ps)) (replicate (length ps) 0) same_edges)
        ∙ ap spreads (decompose_fixed s.masks s.weight s.budget (graph_of s ps) (up_to (length ps)) (replicate (length ps) 0) own_fixed)
        ∙ ap (λ (masks : List ℕ). record { steps = on_pieces.steps; stopped = on_pieces.stopped; masks = masks }) (sym own_masks)
      where
        spreads : Reached → Reached
        spreads r = record { steps = r.steps; stopped = r.stopped; masks = spread (unit_of s ps) (length ps) r.masks }
