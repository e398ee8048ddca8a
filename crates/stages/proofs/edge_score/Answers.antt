-- `edge_score`: a layer that passes has few pieces, and settings in their range. Assumes nothing.
use Rattle.std.proofs.Common.{sym, arith}
use Rattle.rules.proofs.Validity.{layer_facts}
use Rattle.stages.proofs.edge_score.Goals as goal

pub score_edges-score-requires : goal.score_edges-score-requires
score_edges-score-requires c =
    let facts = layer_facts _ _ (sym c.in_ok-layer.ensures.answer) in
    record { weight_bound = facts.settings.weight.high; masks_bound = omega (arith, facts.few) }
