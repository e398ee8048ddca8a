-- What an edge is. Assumes nothing: these are definitions.
use Rattle.std.specs.Prelude.{Bool, true, false}
use Rattle.rules.specs.declared.layer.Edge.{Edge}

abbrev pub is_conflict : Edge → Bool
is_conflict Edge.Conflict = true
is_conflict Edge.Stitch = false
is_conflict Edge.Tie = false
is_conflict Edge.None = false

abbrev pub is_stitch : Edge → Bool
is_stitch Edge.Conflict = false
is_stitch Edge.Stitch = true
is_stitch Edge.Tie = false
is_stitch Edge.None = false

abbrev pub is_tie : Edge → Bool
is_tie Edge.Conflict = false
is_tie Edge.Stitch = false
is_tie Edge.Tie = true
is_tie Edge.None = false
