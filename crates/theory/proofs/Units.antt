-- Units. They are the components of the graph of ties, so the laws of Components.antt say what they are: a partition of the pieces, and just the closure of
-- the ties. A piece's unit number is the lowest piece of its unit, the same for two pieces exactly if ties connect them. What ties keep, units keep
-- (`unit_keeps`): the masks of a rival, and the shape, so that no conflict edge lies inside a unit. So for masks that are all set and keep ties the score over the pieces
-- is the cost over the graph of units (`tied_score`).
use mathlib.Core.Bool.{true}
use mathlib.Core.List.{List}
use mathlib.Core.Path.{◌≡◌, refl, sym, ap, ◌∙◌}
use Prim.Native.Nat.{ℕ, ◌<◌}
use native.Mathlib.Omega.{arith}
use lib.ListN.{length}
use borrow.Author.Tests.{eq-eqb}
use Rattle.rules.specs.declared.layer.Settings.{Settings}
use Rattle.rules.specs.declared.layer.Piece.{Piece}
use Rattle.rules.specs.Basics.{up_to}
use Rattle.rules.specs.Settings.{piece_at}
use Rattle.rules.specs.Edges.{tied, conflict_edge, graph_of, joined}
use Rattle.rules.specs.Score.{mask_of, score_of}
use Rattle.rules.specs.Units.{tie_graph, units_of, unit_of, merged_graph, unit_numbers}
use Rattle.rules.proofs.Edges.{Undirected, undirected, tie_sym, tie_test, joined_sym}
use Rattle.rules.proofs.Lists.{Rising, in_up_to, up_to_rising}
use Rattle.rules.proofs.Tests.{by_test}
use Rattle.theory.proofs.Reach.{Symmetric, Linked}
use Rattle.theory.proofs.Components.{Partition, components_partition}
use Rattle.theory.proofs.Cost.{cost_in}
use Rattle.theory.proofs.HalfDone.{AllSet}
use Rattle.theory.proofs.Score.{score_cost}
use Rattle.theory.proofs.Parts.{InPart, part_of_lem, part_lower, part_again, part_joined, part_linked, linked_keeps}
use Rattle.theory.proofs.Merging.{Grouping, OneMask, merged_cost}

module _ (s : Settings) (ps : List Piece) where
  -- masks that are the same on tied pieces
  abbrev pub KeepsTies : (ℕ → ℕ) → Type 0
  KeepsTies a = (i j : ℕ) → i < length ps → j < length ps → tied s (piece_at ps i) (piece_at ps j) ≡ true → a i ≡ a j

  tie_undirected : Undirected (tie_graph s ps)
  tie_undirected = record { conflicts = λ u v. refl; stitches = λ u v. rw (tie_sym s (piece_at ps u) (piece_at ps v)) }

  ties_symmetric : Symmetric (tie_graph s ps)
  ties_symmetric = joined_sym tie_undirected

  -- the units are a partition of the pieces into components of the ties, in the order of their lowest pieces
  pub units_partition : Partition (tie_graph s ps) (up_to (length ps)) (units_of s ps)
  units_partition = components_partition (tie_graph s ps) ties_symmetric (up_to (length ps))

  rising : Rising (up_to (length ps))
  rising = up_to_rising (length ps)

  -- the number of a unit is its lowest piece
  pub unit_in : (i : ℕ) → i < length ps → (c : List ℕ) × InPart (units_of s ps) i c
  unit_in i l = part_of_lem units_partition rising ((in_up_to (length ps) i).1 l)

  pub grouping : Grouping (unit_of s ps) (length ps)
  grouping = record {
    lower = λ i l. part_lower ties_symmetric units_partition rising ((in_up_to (length ps) i).1 l);
    again = λ i l. part_again ties_symmetric units_partition rising ((in_up_to (length ps) i).1 l);
  }

  -- a tie is an edge of the graph of ties
  tie_joined : (i j : ℕ) → joined (tie_graph s ps) i j ≡ tied s (piece_at ps i) (piece_at ps j)
  tie_joined i j = by_test (tied s (piece_at ps i) (piece_at ps j)) (λ e. rw e) (λ e. rw e)

  -- tied pieces share a unit
  pub tied_unit : (i j : ℕ) → i < length ps → j < length ps → tied s (piece_at ps i) (piece_at ps j) ≡ true → unit_of s ps i ≡ unit_of s ps j
  tied_unit i j l k e = part_joined ties_symmetric units_partition rising ((in_up_to (length ps) i).1 l) ((in_up_to (length ps) j).1 k) (tie_joined i j ∙ e)

  -- pieces of one unit are linked by ties
  pub unit_linked : (i j : ℕ) → i < length ps → j < length ps → unit_of s ps i ≡ unit_of s ps j → Linked (tie_graph s ps) (up_to (length ps)) i j
  unit_linked i j l k e = part_linked ties_symmetric units_partition rising ((in_up_to (length ps) i).1 l) ((in_up_to (length ps) j).1 k) e

  -- what tied pieces share, a unit's pieces share
  pub unit_keeps : {A : Type 0} (f : ℕ → A)
      → ((i j : ℕ) → i < length ps → j < length ps → tied s (piece_at ps i) (piece_at ps j) ≡ true → f i ≡ f j)
      → (i j : ℕ) → i < length ps → j < length ps → unit_of s ps i ≡ unit_of s ps j → f i ≡ f j
  unit_keeps f h i j l k e =
      linked_keeps f (λ u w m n t. h u w ((in_up_to (length ps) u).0 m) ((in_up_to (length ps) w).0 n) (sym (tie_joined u w) ∙ t)) (unit_linked i j l k e)

  -- so masks that keep ties are the same on each unit
  pub one_mask : (a : ℕ → ℕ) → KeepsTies a → OneMask (unit_of s ps) (length ps) a
  one_mask a h i l = unit_keeps a h i (unit_of s ps i) l (omega (arith, grouping.lower i l)) (sym (grouping.again i l))

  -- and masks that are the same on each unit keep ties
  pub one_mask_keeps : (a : ℕ → ℕ) → OneMask (unit_of s ps) (length ps) a → KeepsTies a
  one_mask_keeps a one i j l k e = one i l ∙ ap a (tied_unit i j l k e) ∙ sym (one j k)

  -- no conflict edge lies inside a unit
  pub no_conflict_inside : (i j : ℕ) → i < length ps → j < length ps → unit_of s ps i ≡ unit_of s ps j → (graph_of s ps).conflicts i j ≡ 0
  unfolding conflict_edge
  no_conflict_inside i j l k e =
      let shapes : (piece_at ps i).shape ≡ (piece_at ps j).shape
      = unit_keeps (λ i. (piece_at ps i).shape) (λ i j _ _ t. ((tie_test s (piece_at ps i) (piece_at ps j)).0 t).shape) i j l k e in
      rw (eq-eqb (piece_at ps i).shape (piece_at ps j).shape shapes)

  -- for masks that are all set and keep ties the score over pieces is the cost over units
  pub tied_score : (W : ℕ) (masks : List ℕ) → AllSet (length ps) masks → KeepsTies (mask_of masks)
      → (score_of W (graph_of s ps) masks (length ps)).cost
      ≡ cost_in W (merged_graph (unit_of s ps) (length ps) (graph_of s ps)) (mask_of masks) (unit_numbers (unit_of s ps) (length ps))
  tied_score W masks all ties =
      score_cost W (undirected s ps) masks (length ps) all
      ∙ merged_cost (unit_of s ps) (length ps) W (undirected s ps) (mask_of masks) (one_mask (mask_of masks) ties) no_conflict_inside grouping
