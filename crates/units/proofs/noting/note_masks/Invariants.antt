-- `note_masks`. The invariant: all pieces before i fit, and what is noted of a unit is the mask of its lowest set piece among them. Assumes nothing.
use Rattle.std.proofs.Common.{◌≡◌, true, ℕ, ◌<◌, length}
use Rattle.rules.specs.Score.{mask_of}
use Rattle.rules.specs.Units.{fits_unit}
use Rattle.adjacency.specs.UnitGraph.{unit_at}
use Rattle.units.proofs.NotedLaws.{Noted}
use Rattle.units.proofs.noting.note_masks.Given as goal

abbrev pub invariant-loop-i : goal.invariant-loop-i
invariant-loop-i l = record {
  fits : (k : ℕ) → k < l.i → fits_unit (unit_at l.units) (length l.masks) l.masks k ≡ true;
  size : length l.noted ≡ 512;
  right : (u : ℕ) → u < 512 → Noted (unit_at l.units) l.masks l.i u (mask_of l.noted u);
}
