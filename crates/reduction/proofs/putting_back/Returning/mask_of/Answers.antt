-- `mask_of`: the neighbour's mask, or the lowest free one. Assumes nothing.
use Rattle.reduction.proofs.ReturnLaws.{free_in_use, free_small}
use Rattle.reduction.proofs.putting_back.Returning.mask_of.Goals as goal

pub returns-in-None : goal.returns-in-None
returns-in-None c =
    record {
      mask = λ stitches. rw (c.in-None.is, c.unwrap_or.ensures) (free_in_use _ _ _ _ _ _ _ c.masks_near-used.ensures c.free_mask.ensures stitches);
      small = rw c.unwrap_or.ensures (free_small _ _ _ c.args.self.now.few c.free_mask.ensures);
    }

pub returns-in-Some : goal.returns-in-Some
returns-in-Some c = record { mask = λ stitches. rw c.in-Some.is; small = c.requires.masked.low c.in-Some.u }
