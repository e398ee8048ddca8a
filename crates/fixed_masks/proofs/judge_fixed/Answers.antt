-- `judge_fixed`: where no mask is fixed 14 passes. Assumes nothing.
use Rattle.std.proofs.Common.{◌≡◌, sym, arith, rules, tests}
use Rattle.std.proofs.lemmas.Iterator.{cases_from_all, YieldsList-from_slice}
use Rattle.rules.specs.declared.layer.Piece.{Piece}
use Rattle.rules.specs.Settings.{unset, no_piece}
use Rattle.rules.proofs.Unfixed.{none_judged}
use Rattle.fixed_masks.proofs.judge_fixed.Goals as goal

pub returns-then-all : goal.returns-then-all
returns-then-all c =
    let ps = c.args.pieces.now in
    let all = rw c.if-all.true at (cases_from_all _ _ _ (λ (p : Piece). p.fixed ≡ unset) (λ (p : Piece). p.fixed ≡ unset → ⊥) c.all.ensures.ran
    (YieldsList-from_slice ps cc) (λ x q k. search (rules, tests)) (λ x q k. search (rules, tests))) in
    sym (none_judged c.args.settings ps (λ i l. all i no_piece (omega arith) l))
