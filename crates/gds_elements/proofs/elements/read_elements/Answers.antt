use Rattle.std.proofs.Common.{refl, sym, arith}
use Rattle.std.proofs.lemmas.Result.{err_from_is_err_and}
use Rattle.gds_elements.proofs.CollectLaws.{none_yet, fewer, stops_here, pushed, full, one_further, all_read}
use Rattle.gds_elements.proofs.elements.read_elements.Goals as goal
use Rattle.gds_elements.proofs.elements.read_elements.Goals.{then-elements-lt-COUNT_GREATEST, else-elements-lt-COUNT_GREATEST}

pub returns-in_err-piece-clause-elements : goal.returns-in_err-piece-clause-elements
returns-in_err-piece-clause-elements c =
    let p = err_from_is_err_and c.from_residual.result c.from_residual.ensures.1 in
    rw (p.1, p.2) (stops_here _ _ _ _ _ _ c.loop-records.invariant (sym c.loop-records-test.ensures) _ _ c.in_err-piece.ensures.element)

pub loop-records-init : goal.loop-records-init
loop-records-init c = rw c.none.ensures (none_yet _ _)

pub push-requires : goal.push-requires
push-requires c = omega (arith, fewer c.loop-records.invariant)

pub loop-records-preserved : goal.loop-records-preserved
loop-records-preserved c =
    let further = one_further _ _ _ _ _ _ c.loop-records.invariant (sym c.loop-records-test.ensures) c.in_ok-piece.piece _ _ c.in_ok-piece.ensures.element c.in_ok-piece.ensures.number in
    elim c.if-elements-lt-COUNT_GREATEST.branch [
      | then-elements-lt-COUNT_GREATEST w ↦ rw w.elements-is (further _ (pushed w.if-elements-lt-COUNT_GREATEST.true w.push.ensures))
      | else-elements-lt-COUNT_GREATEST w ↦ rw w.elements-is (further _ (full w.if-elements-lt-COUNT_GREATEST.false refl))
    ]

pub returns-clause-elements : goal.returns-clause-elements
returns-clause-elements c =
    let s = c.loop-records.invariant in
    record {
      elements = s.elements;
      read = all_read _ _ _ _ _ _ s (sym c.loop-records-test.ensures);
      counted = s.counted;
      kept = s.kept;
    }
