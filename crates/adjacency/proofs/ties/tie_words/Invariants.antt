-- `tie_words`. The invariant: the words have the ties of the pieces before j, those of each with itself too. Assumes nothing.
use Rattle.std.proofs.Common.{◌≡◌, ℕ, max, ltb}
use mathlib.Core.Bool.{◌&&◌}
use Rattle.bitset.specs.Edges.{has_edge}
use Rattle.adjacency.specs.Adjacency.{tie_of}
use Rattle.adjacency.proofs.ties.tie_words.Given as goal

abbrev pub invariant-loop-j : goal.invariant-loop-j
invariant-loop-j l = (a b : ℕ) → has_edge l.ties a b ≡ (tie_of l.settings l.pieces a b && ltb (max a b) l.j)
