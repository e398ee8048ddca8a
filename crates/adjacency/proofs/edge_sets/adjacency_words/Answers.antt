use Rattle.std.proofs.Common.{◌≡◌, length, arith}
use Rattle.adjacency.proofs.AdjacencyLaws.{rows_none, rows_more, rows_adjacency, rows_ties}
use Rattle.adjacency.proofs.edge_sets.adjacency_words.Goals as goal

pub loop-j-init : goal.loop-j-init
loop-j-init c = record {
  conflicts = rows_none _ c.clear.ensures;
  stitches = rows_none _ c.clear-2.ensures;
  ties = rows_none _ c.clear-3.ensures;
}

pub loop-j-preserved : goal.loop-j-preserved
loop-j-preserved c = record {
  conflicts = rows_more _ _ c.loop-j.invariant.conflicts c.adjacency_row.ensures.conflicts;
  stitches = rows_more _ _ c.loop-j.invariant.stitches c.adjacency_row.ensures.stitches;
  ties = rows_more _ _ c.loop-j.invariant.ties c.adjacency_row.ensures.ties;
}

pub returns : goal.returns
returns c =
    let e : c.loop-j.j ≡ length c.args.layer.now.pieces.now = omega arith in
    record {
      adjacency = rows_adjacency _ _ c.args.layer.now.drawn (rw e at c.loop-j.invariant.conflicts) (rw e at c.loop-j.invariant.stitches);
      ties = rows_ties _ _ c.args.layer.now.drawn (rw e at c.loop-j.invariant.ties);
    }
