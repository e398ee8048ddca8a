use Rattle.std.proofs.Common.{rules, ◌≡◌, ◌∙◌, count_by, eqb}
use Rattle.early_end.proofs.Times.{times_all}
use Rattle.early_end.proofs.listed_edges.times_in.Goals as goal

pub returns : goal.returns
returns c =
    let counted : c.count.result ≡ count_by (λ x. eqb x c.args.u) c.args.neighbours.now = search rules in
    counted ∙ times_all c.args.neighbours.now c.args.u
