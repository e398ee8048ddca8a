-- `edge`: the two are judged as a layer of two, and a layer that passes is sound. Assumes nothing.
use Rattle.std.proofs.Common.{[], ◌∷◌, sym, ◌∙◌, arith}
use Rattle.rules.proofs.Validity.{valid_sound}
use Rattle.edge_call.proofs.TwoPieces.{two_valid}
use Rattle.edge_call.proofs.edge.Goals as goal

pub judged_edge-requires : goal.judged_edge-requires
judged_edge-requires c =
    let a = c.args in
    let sound = valid_sound a.settings (a.a ∷ a.b ∷ []) (two_valid a.settings a.a a.b (sym c.in_ok-judge.ensures) (sym c.fixed_apart.ensures ∙ c.if-fixed_apart.false)) in
    record {
      settings_value = sound.settings;
      a_value = sound.ranges 0 (omega arith);
      b_value = sound.ranges 1 (omega arith);
    }
