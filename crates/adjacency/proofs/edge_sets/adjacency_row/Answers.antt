use Rattle.std.proofs.Common.{◌≡◌, ◌<◌, arith}
use lib.Seq.{get_or-take, length-take-le}
use Rattle.rules.specs.Edges.{edge_of}
use Rattle.rules.specs.Settings.{no_piece, piece_at}
use Rattle.rules.proofs.Edges.{conflict_sym, stitch_sym, tie_sym}
use Rattle.adjacency.proofs.AdjacencyLaws.{row_more}
use Rattle.adjacency.proofs.KindLaws.{conflict_kind, stitch_kind, tie_kind}
use Rattle.adjacency.proofs.edge_sets.adjacency_row.Goals as goal

pub edge_from-requires-clause-other_value : goal.edge_from-requires-clause-other_value
edge_from-requires-clause-other_value c =
    let ps = c.args.layer.now.pieces.now in
    let i = c.loop-i.i in
    let low : i < c.args.j = omega (arith, length-take-le c.args.j ps (omega arith)) in
    rw (get_or-take c.args.j ps i no_piece low) (c.args.layer.now.drawn.ranges i (omega arith))

pub join_by-requires-clause-i_bound : goal.join_by-requires-clause-i_bound
join_by-requires-clause-i_bound c =
    let ps = c.args.layer.now.pieces.now in
    omega (arith, length-take-le c.args.j ps (omega arith), c.args.layer.now.drawn.few)

pub loop-i-preserved : goal.loop-i-preserved
loop-i-preserved c =
    let s = c.args.layer.now.settings in
    let ps = c.args.layer.now.pieces.now in
    let i = c.loop-i.i in
    let j = c.args.j in
    let row = c.loop-i.invariant in
    let low : i < j = omega (arith, length-take-le j ps (omega arith)) in
    let edge : c.edge_from.result ≡ edge_of s (piece_at ps i) (piece_at ps j)
    = rw (get_or-take j ps i no_piece low, c.of-reach.ensures.settings, c.of-reach.ensures.piece) at c.edge_from.ensures in
    record {
      conflicts = row_more _ (λ a b. conflict_sym s _ _) i j _ (omega arith) (rw edge (conflict_kind s _ _)) row.conflicts c.join_by.ensures.conflicts;
      stitches = row_more _ (λ a b. stitch_sym s _ _) i j _ (omega arith) (rw edge (stitch_kind s _ _)) row.stitches c.join_by.ensures.stitches;
      ties = row_more _ (λ a b. tie_sym s _ _) i j _ (omega arith) (rw edge (tie_kind s _ _)) row.ties c.join_by.ensures.ties;
    }
