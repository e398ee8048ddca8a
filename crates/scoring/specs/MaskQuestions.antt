-- The questions of given masks, and the score after them. Assumes nothing: these are definitions.
use Rattle.std.specs.Prelude.{not, ◌||◌, List, ℕ, ltb, length}
use Rattle.rules.specs.declared.layer.Settings.{Settings}
use Rattle.rules.specs.declared.layer.Piece.{Piece}
use Rattle.rules.specs.declared.answers.Scoring.{Scoring}
use Rattle.rules.specs.declared.refusal.Place.{Place}
use Rattle.rules.specs.Edges.{graph_of}
use Rattle.rules.specs.Score.{mask_of, is_set, cost_of, score_of, pairs_of}
use Rattle.rules.specs.Units.{unit_of}
use Rattle.rules.specs.Questions.{Outcome, done, ask, and_then, ask_each}
use Rattle.units.specs.Noted.{split_question}
use Rattle.pair_tests.specs.declared.tally.Tally.{Tally}

-- 8 of piece i
abbrev pub mask_question : ℕ → List ℕ → ℕ → Outcome (Unit {0})
mask_question limit masks i = ask (not (is_set masks i) || ltb (mask_of masks i) limit) 8 (Place.Piece i)

-- the score, and beside it the pairs tested
abbrev pub scoring_of : Settings → List Piece → List ℕ → Scoring
scoring_of s ps masks = record { score = score_of s.weight (graph_of s ps) masks (length ps); tested = pairs_of (length ps) }

-- the score of what was counted
abbrev pub tallied : ℕ → Tally → Scoring
tallied weight t = record {
  score = record { conflicts = t.conflicts; stitches = t.stitches; cost = cost_of weight t.conflicts t.stitches };
  tested = t.tested;
}

-- 12 of every piece, then the score
abbrev pub units_scored : Settings → List Piece → List ℕ → Outcome Scoring
units_scored s ps masks = and_then (ask_each (split_question 12 (unit_of s ps) (length ps) masks) (length ps)) λ _. done (scoring_of s ps masks)
