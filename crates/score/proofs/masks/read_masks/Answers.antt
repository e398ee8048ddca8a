use native.Mathlib.Omega.{arith}
use mathlib.Core.Path.{sym}
use lib.ListN.{length}
use borrow.Author.Tests.{eqb-true, eqb-false}
use Rattle.score.specs.Masks.{MaskRead}
use Rattle.score.proofs.MaskLines.{passed_start, passed_on, passed_full, shorter}
use Rattle.score.proofs.masks.read_masks.Goals as goal
use Rattle.score.proofs.masks.read_masks.Goals.{In_ok-mask, then-not-is_full, else-not-is_full}

pub loop-rest-init : goal.loop-rest-init
loop-rest-init c = (omega arith, rw c.new-masks.ensures (passed_start _))

-- the line that was read
line : (c : In_ok-mask) → MaskRead c.loop-rest.rest.now c.in_ok-mask.mask c.in_ok-mask.after.now
line c = rw c.in_ok-mask.ensures.ok_part at c.split_mask.ensures

pub loop-rest-smaller : goal.loop-rest-smaller
loop-rest-smaller c = shorter (line (goal.at.loop-rest-smaller c).In_ok-mask)

pub loop-rest-preserved : goal.loop-rest-preserved
loop-rest-preserved c =
    let read = line (goal.at.loop-rest-preserved c).In_ok-mask in
    let loop = c.loop-rest.invariant in
    let size = length c.loop-rest.masks.items in (
      omega (arith, shorter read),
      elim c.if-not-is_full.branch [
        | then-not-is_full w ↦ rw (w.masks-is, w.push.ensures.items) (passed_on _ _ _ _ loop.1 _ _ read (omega (arith, eqb-false size 513 (sym w.if-not-is_full.ensures.value))))
        | else-not-is_full w ↦ rw w.masks-is (passed_full _ _ _ _ loop.1 _ _ read (eqb-true size 513 (sym w.if-not-is_full.ensures.value)))
      ],
    )
