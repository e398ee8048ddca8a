-- `added_row`: the stitch neighbours, the weight of the conflicts added, and the stitches on the same mask taken off. Assumes nothing.
use native.Mathlib.Omega.{arith}
use mathlib.Core.List.{List}
use mathlib.Core.Path.{ap}
use Prim.Native.Nat.{ℕ, ◌*◌}
use lib.ListN.{length}
use Rattle.places.specs.Local.{stitches_at, on_mask, local_added}
use Rattle.rows.proofs.Rows.{on_off, eight}
use Rattle.rows.proofs.row.added_row.Goals as goal

pub returns-clause-adds : goal.returns-clause-adds
unfolding local_added
returns-clause-adds c m l =
    let before = c.args.before.now in
    omega (
      arith,
      c.drop_stitches.ensures m l,
      c.add_conflicts.ensures.adds m l,
      eight (length c.stitches_of-stitches.result.now) m l,
      ap (λ (xs : List ℕ). c.args.table.now * on_mask before m xs) c.conflicts_of.ensures.value,
      ap (on_mask before m) c.stitches_of-stitches.ensures.value,
      ap length c.stitches_of-stitches.ensures.value,
      on_off (stitches_at c.args.lists.now (length before)) before m,
    )
