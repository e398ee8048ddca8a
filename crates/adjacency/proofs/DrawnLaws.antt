-- A layer that no question refuses is drawn. Assumes nothing.
use mathlib.Core.List.{List}
use Rattle.rules.specs.declared.layer.Settings.{Settings}
use Rattle.rules.specs.declared.layer.Piece.{Piece}
use Rattle.rules.specs.Questions.{Valid}
use Rattle.rules.proofs.Validity.{valid_sound, layer_facts}
use Rattle.adjacency.specs.Drawn.{Drawn}

pub valid_drawn : (s : Settings) (ps : List Piece) → Valid s ps → Drawn s ps
valid_drawn s ps valid =
    let f = valid_sound s ps valid in
    record { settings = f.settings; few = (layer_facts s ps valid).few; ranges = f.ranges; areas = f.areas }
