use mathlib.Core.Path.{◌≡◌, refl, sym, ◌∙◌}
use Prim.Native.Nat.{◌<◌}
use native.Mathlib.Omega.{arith}
use lib.Seq.{get_or-take, length-take-le}
use denote.Enum.Bare.{sameb}
use Rattle.rules.specs.contracts.layer.Edge.{the_type}
use Rattle.rules.specs.declared.layer.Edge.{Edge}
use Rattle.rules.specs.Basics.{sum_to}
use Rattle.rules.specs.Edges.{edge_of}
use Rattle.rules.specs.Settings.{piece_at, no_piece}
use Rattle.rules.proofs.Edges.{tie_sym}
use Rattle.rules.proofs.Sums.{sum_more, sum_le}
use Rattle.adjacency.specs.Adjacency.{tie_of}
use Rattle.adjacency.specs.Kinds.{is_tie}
use Rattle.adjacency.proofs.KindLaws.{tie_kind}
use Rattle.adjacency.proofs.AdjacencyLaws.{row_none, row_joined, row_kept}
use Rattle.pair_tests.specs.PairTests.{conflict_at, stitch_at}
use Rattle.pair_tests.proofs.PairLaws.{conflict_le, stitch_le}
use Rattle.pair_tests.proofs.test_row.Goals as goal
use Rattle.pair_tests.proofs.test_row.Goals.{After-edge_from-edge, then-eq, else-eq}

pub loop-i-init : goal.loop-i-init
unfolding sum_to
loop-i-init c =
    let (tested, (conflicts, stitches)) = c.default-tally.ensures in
    rw (tested, conflicts, stitches) (record { tested = refl; conflicts = refl; stitches = refl; ties = row_none _ (λ a b. tie_sym _ _ _) _ _ })

module _ (c : After-edge_from-edge) where
  below : c.loop-i.i < c.args.j
  below = omega (arith, length-take-le c.args.j c.args.layer.now.pieces.now (omega arith))

  -- the edge that the test found
  edge : c.edge_from-edge.result ≡ edge_of c.args.layer.now.settings (piece_at c.args.layer.now.pieces.now c.loop-i.i) (piece_at c.args.layer.now.pieces.now c.args.j)
  edge = rw (get_or-take c.args.j c.args.layer.now.pieces.now c.loop-i.i no_piece below, c.of-reach.ensures.settings, c.of-reach.ensures.piece) at c.edge_from-edge.ensures

  -- the two are tied where it is a tie
  tied : tie_of c.args.layer.now.settings c.args.layer.now.pieces.now c.loop-i.i c.args.j ≡ is_tie c.edge_from-edge.result
  tied = rw edge (sym (tie_kind c.args.layer.now.settings _ _))

pub edge_from-edge-requires-clause-other_value : goal.edge_from-edge-requires-clause-other_value
edge_from-edge-requires-clause-other_value c =
    let ps = c.args.layer.now.pieces.now in
    let low : c.loop-i.i < c.args.j = omega (arith, length-take-le c.args.j ps (omega arith)) in
    rw (get_or-take c.args.j ps c.loop-i.i no_piece low) (c.args.layer.now.drawn.ranges c.loop-i.i (omega arith))

pub join-requires-clause-i_bound : goal.join-requires-clause-i_bound
join-requires-clause-i_bound c = omega (arith, below (goal.at.join-requires-clause-i_bound c).After-edge_from-edge, c.args.layer.now.drawn.few)

-- the test for a tie
same : (e : Edge) → sameb the_type e Edge.Tie ≡ is_tie e
same Edge.Conflict = refl
same Edge.Stitch = refl
same Edge.Tie = refl
same Edge.None = refl

pub add-requires : goal.add-requires
add-requires c =
    let at = (goal.at.add-requires c).After-edge_from-edge in
    let a = c.args in
    let s = a.layer.now.settings in
    let ps = a.layer.now.pieces.now in
    let i = c.loop-i.i in
    let low = below at in
    let few = a.layer.now.drawn.few in
    let conflicts = sum_le (λ u. conflict_at s ps a.masks.now u a.j) i (λ u. conflict_le s ps a.masks.now u a.j) in
    let stitches = sum_le (λ u. stitch_at s ps a.masks.now u a.j) i (λ u. stitch_le s ps a.masks.now u a.j) in
    record {
      tested_bound = omega (arith, c.loop-i.invariant.tested, sum_le (λ u. 1) i (λ u. omega arith));
      conflicts_bound = omega (arith, c.loop-i.invariant.conflicts, conflicts);
      stitches_bound = omega (arith, c.loop-i.invariant.stitches, stitches);
    }

pub loop-i-preserved : goal.loop-i-preserved
loop-i-preserved c =
    let at = (goal.at.loop-i-preserved c).After-edge_from-edge in
    let a = c.args in
    let s = a.layer.now.settings in
    let ps = a.layer.now.pieces.now in
    let masks = a.masks.now in
    let i = c.loop-i.i in
    let row = c.loop-i.invariant in
    rw (c.add.ensures, edge at)
    (record {
      tested = (sum_more (λ u. 1) i (λ u. omega arith) row.tested refl).0;
      conflicts = (sum_more (λ u. conflict_at s ps masks u a.j) i (λ u. conflict_le s ps masks u a.j) row.conflicts refl).0;
      stitches = (sum_more (λ u. stitch_at s ps masks u a.j) i (λ u. stitch_le s ps masks u a.j) row.stitches refl).0;
      ties = elim c.if-eq.branch [
        | then-eq w ↦ rw w.ties-is (row_joined _ (λ x y. tie_sym s _ _) (omega (arith, below at)) (tied at ∙ sym (same _) ∙ sym c.eq.ensures ∙ w.if-eq.true) row.ties w.join.ensures)
        | else-eq w ↦ rw w.ties-is (row_kept _ (λ x y. tie_sym s _ _) (omega (arith, below at)) (tied at ∙ sym (same _) ∙ sym c.eq.ensures ∙ w.if-eq.false) row.ties)
      ];
    })

pub returns : goal.returns
returns c =
    let all = c.loop-i.invariant in
    let e : c.loop-i.i ≡ c.args.j = omega (arith, length-take-le c.args.j c.args.layer.now.pieces.now (omega arith)) in
    record {
      tested_value = rw e at all.tested;
      conflicts_value = rw e at all.conflicts;
      stitches_value = rw e at all.stitches;
      row_to = rw e at all.ties;
    }
