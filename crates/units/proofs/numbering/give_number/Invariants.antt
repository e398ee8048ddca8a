-- `give_number`. The invariant: the members that were met have the number, and nothing else changed. Assumes nothing.
use Rattle.std.proofs.Common.{◌≡◌, true, false, ℕ, ◌<◌, length}
use Rattle.bitset.specs.Bits.{member}
use Rattle.adjacency.specs.UnitGraph.{unit_at}
use Rattle.units.proofs.numbering.give_number.Given as goal

abbrev pub invariant-loop-i : goal.invariant-loop-i
invariant-loop-i l = record {
  whole : length l.units ≡ length l.initial.units;
  within : (k : ℕ) → member l.i-iterator k ≡ true → member l.members k ≡ true;
  given : (k : ℕ) → k < 512 → member l.members k ≡ true → member l.i-iterator k ≡ false → unit_at l.units k ≡ l.number;
  others : (k : ℕ) → (k < 512 → member l.members k ≡ false) → unit_at l.units k ≡ unit_at l.initial.units k;
}
