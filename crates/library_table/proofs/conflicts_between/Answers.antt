-- `conflicts_between`: the pair's edges count where the masks are equal. Assumes nothing.
use borrow.Author.Tests.{eq-eqb, ne_eqb}
use Rattle.library_table.proofs.conflicts_between.Goals as goal

pub returns-then-masks-u : goal.returns-then-masks-u
returns-then-masks-u c = rw (eq-eqb _ _ c.if-masks-u.true) c.conflict_edges.ensures

pub returns-else-masks-u : goal.returns-else-masks-u
returns-else-masks-u c = rw (ne_eqb _ _ c.if-masks-u.false)
