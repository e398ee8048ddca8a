-- `pair_number`: the formula gives the pair's number, for each lesser piece. Assumes nothing.
use native.Mathlib.Omega.{arith}
use Rattle.library_table.proofs.Pairs.{numbered}
use Rattle.library_table.proofs.pair_number.Goals as goal

pub overflow_mul-result : goal.overflow_mul-result
overflow_mul-result c = omega (arith, (numbered c.args.u c.args.v (omega arith) (omega arith)).product)

pub overflow_add-result : goal.overflow_add-result
overflow_add-result c = omega (arith, (numbered c.args.u c.args.v (omega arith) (omega arith)).small)

pub returns : goal.returns
returns c = let n = numbered c.args.u c.args.v (omega arith) (omega arith) in (n.number, n.small)
