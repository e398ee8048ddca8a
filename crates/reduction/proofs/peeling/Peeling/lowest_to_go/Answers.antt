use native.Mathlib.Omega.{arith}
use Rattle.reduction.proofs.MemberTests.{found_member, found_no_member}
use Rattle.reduction.proofs.peeling.Peeling.lowest_to_go.Goals as goal

pub returns-then-i-eq512 : goal.returns-then-i-eq512
returns-then-i-eq512 c = found_no_member _ c.args.there.now (λ k l. c.loop-i.invariant.1 k (omega arith))

pub returns-then-may_go : goal.returns-then-may_go
returns-then-may_go c =
    found_member _ c.args.there.now (omega arith) c.loop-i.invariant.1 (rw (← c.has.ensures, c.if-has.true, ← c.may_go.ensures, c.if-may_go.true))
