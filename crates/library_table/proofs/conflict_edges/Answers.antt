-- `conflict_edges`: the bit at the pair's number. Assumes nothing.
use mathlib.Core.Path.{sym}
use Rattle.rules.specs.Library.{bit_at}
use Rattle.library_table.proofs.Pairs.{edges_of}
use Rattle.library_table.proofs.conflict_edges.Goals as goal

pub returns : goal.returns
unfolding bit_at
returns c = rw c.pair_number.ensures.0 (sym (edges_of c.args.index c.args.u c.args.v c.requires.u_lt_v))
