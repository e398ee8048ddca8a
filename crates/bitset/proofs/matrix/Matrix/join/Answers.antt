-- `Matrix::join` meets its contract: each of the two is put into the other's row. Assumes nothing.
use borrow.Author.Rules.{rules}
use mathlib.Core.Path.{◌≡◌}
use native.Mathlib.Omega.{arith}
use lib.ListN.{length}
use Rattle.bitset.proofs.Sets.{join_ways}
use Rattle.bitset.proofs.matrix.Matrix.join.Goals as goal

pub invariant_of-self : goal.invariant_of-self
invariant_of-self c =
    let m = c.args.self.now in
    let long : length m.rows ≡ 512 = search rules in
    record {
      both_ways = join_ways m.rows c.args.i c.args.j c.put.new.self c.put-2.new.self _ _ (omega (arith, c.requires.i_bound)) (omega (arith, c.requires.j_bound)) m.both_ways c.put.ensures c.put-2.ensures;
    }
