use Rattle.std.proofs.Common.{◌≡◌, ◌+◌, ◌≤◌, sym, ◌∙◌, arith}
use lib.Seq.{get_or-take, length-take-le}
use Rattle.rules.specs.Settings.{no_piece}
use Rattle.rules.proofs.Edges.{tie_sym}
use Rattle.adjacency.specs.Adjacency.{tie_of}
use Rattle.adjacency.proofs.AdjacencyLaws.{row_joined, row_kept}
use Rattle.adjacency.proofs.ties.tie_row.Goals as goal
use Rattle.adjacency.proofs.ties.tie_row.Goals.{then-tie, else-tie}

pub loop-i-preserved : goal.loop-i-preserved
loop-i-preserved c =
    let s = c.args.settings in
    let ps = c.args.pieces.now in
    let i = c.loop-i.i in
    let low : i ≤ c.args.j = omega (arith, length-take-le (c.args.j + 1) ps (omega arith)) in
    let tested : tie_of s ps i c.args.j ≡ c.tie.result = sym (rw (get_or-take (c.args.j + 1) ps i no_piece (omega arith)) at c.tie.ensures) in
    elim c.if-tie.branch [
      | then-tie w ↦ rw w.ties-is (row_joined _ (λ a b. tie_sym s _ _) low (tested ∙ w.if-tie.true) c.loop-i.invariant w.join.ensures)
      | else-tie w ↦ rw w.ties-is (row_kept _ (λ a b. tie_sym s _ _) low (tested ∙ w.if-tie.false) c.loop-i.invariant)
    ]
