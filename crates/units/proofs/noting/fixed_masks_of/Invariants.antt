-- `fixed_masks_of`: the fixed masks of the pieces passed are listed. Assumes nothing.
use mathlib.Core.Path.{◌≡◌}
use lib.ListN.{take}
use Rattle.rules.specs.Settings.{fixed_masks}
use Rattle.units.proofs.noting.fixed_masks_of.Given as goal

abbrev pub invariant-loop-piece : goal.invariant-loop-piece
invariant-loop-piece l = l.masks.items ≡ fixed_masks (take l.piece-index l.pieces)
