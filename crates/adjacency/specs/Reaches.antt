-- Which pieces come into the reach of another one. Assumes nothing: these are definitions.
use Rattle.std.specs.Prelude.{Bool, ◌+◌, ◌-◌, min, ltb}
use Rattle.rules.specs.declared.layer.Piece.{Piece}
use Rattle.adjacency.specs.declared.reach.Reach.{Reach}

-- each of the four sums is above 1,000,000 where the piece is nearer than the spacing on that side
abbrev pub in_reach : Reach → Piece → Bool
in_reach r q = ltb 1_000_000 (min (min (r.left + q.x2) (r.right - q.x1)) (min (r.below + q.y2) (r.above - q.y1)))
