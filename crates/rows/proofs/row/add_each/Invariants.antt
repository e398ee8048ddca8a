-- `add_each`: those passed are added to, and the others are as they were. Assumes nothing.
use mathlib.Core.Path.{◌≡◌}
use Prim.Native.Nat.{ℕ, ◌+◌, ◌≤◌, ◌<◌}
use lib.ListN.{get_or}
use Rattle.rows.proofs.row.add_each.Given as goal

abbrev pub invariant-loop-m : goal.invariant-loop-m
invariant-loop-m l = record {
  added : (k : ℕ) → k < l.m → get_or l.sums k 0 ≡ get_or l.initial.sums k 0 + get_or l.more k 0;
  left : (k : ℕ) → l.m ≤ k → get_or l.sums k 0 ≡ get_or l.initial.sums k 0;
}
