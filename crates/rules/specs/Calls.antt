-- What each public call comes to (RULES 11 and 12), refusals in the order of the questions, and what it leaves in lent memory.
use Rattle.std.specs.Prelude.{not, ◌||◌, List, [], ◌∷◌, ◌++◌, ℕ, eqb, leb, ltb, length, drop}
use Rattle.rules.specs.declared.layer.Settings.{Settings}
use Rattle.rules.specs.declared.layer.Piece.{Piece}
use Rattle.rules.specs.declared.layer.Edge.{Edge}
use Rattle.rules.specs.declared.answers.Scoring.{Scoring}
use Rattle.rules.specs.declared.refusal.Place.{Place}
use Rattle.rules.specs.Settings.{settings_in_range}
use Rattle.rules.specs.Edges.{edge_of, graph_of}
use Rattle.rules.specs.Score.{mask_of, is_set, score_of, pairs_of}
use Rattle.rules.specs.Units.{unit_of, fits_unit}
use Rattle.rules.specs.Decomposition.{Run, run}
use Rattle.rules.specs.LayerText.{layer_text}
use Rattle.rules.specs.ResultText.{result_text}
use Rattle.rules.specs.Questions.{Outcome, done, refused, ask, and_then, ask_each, judge_layer, Layer, read_layer}
use Rattle.rules.specs.Stream.{read_stream}

-- settings from their values
unfoldable pub new_settings : ℕ → ℕ → ℕ → ℕ → ℕ → Outcome Settings
new_settings masks spacing margin weight budget =
    let s : Settings = record { masks = masks; spacing = spacing; margin = margin; weight = weight; budget = budget } in
    and_then (ask (settings_in_range s) 4 Place.Nothing) λ _.
    done s

-- the edge between two pieces, which are judged as the layer of these two
unfoldable pub edge_between : Settings → Piece → Piece → Outcome Edge
edge_between s a b = and_then (judge_layer s (a ∷ b ∷ [])) λ _. done (edge_of s a b)

-- the score of given masks: each is below K or not set yet, and those that are set do not split a unit; beside it, that every pair was tested once
unfoldable pub score_masks : Settings → List Piece → List ℕ → Outcome Scoring
score_masks s ps masks =
    and_then (judge_layer s ps) λ _.
    and_then (ask (eqb (length masks) (length ps)) 7 Place.Nothing) λ _.
    and_then (ask_each (λ i. ask (not (is_set masks i) || ltb (mask_of masks i) s.masks) 8 (Place.Piece i)) (length ps)) λ _.
    and_then (ask_each (λ i. ask (fits_unit (unit_of s ps) (length ps) masks i) 12 (Place.Piece i)) (length ps)) λ _.
    done (record { score = score_of s.weight (graph_of s ps) masks (length ps); tested = pairs_of (length ps) })

-- the whole decomposition, with a lent list for the masks
unfoldable pub decompose_layer : Settings → List Piece → List ℕ → Outcome Run
decompose_layer s ps masks =
    and_then (judge_layer s ps) λ _.
    and_then (ask (eqb (length masks) (length ps)) 7 Place.Nothing) λ _.
    done (run s ps)

-- the lent masks after it
abbrev pub masks_after : Outcome Run → List ℕ → List ℕ
masks_after (done r) masks = r.masks
masks_after (refused number place) masks = masks

-- the layer text, with a lent buffer for it
unfoldable pub write_layer : Settings → List Piece → List ℕ → Outcome (List ℕ)
write_layer s ps buffer =
    and_then (ask (leb 32_768 (length buffer)) 1 Place.Nothing) λ _.
    and_then (judge_layer s ps) λ _.
    done (layer_text s ps)

-- the result text of a layer that is read, with a lent buffer for it
abbrev pub decompose_read : Outcome Layer → List ℕ → Outcome (List ℕ)
decompose_read read buffer =
    and_then (ask (leb 4_096 (length buffer)) 1 Place.Nothing) λ _.
    and_then read λ l.
    done (result_text (run l.settings l.pieces))

-- from a layer text, and from a settings text and a stream
unfoldable pub decompose_text : List ℕ → List ℕ → Outcome (List ℕ)
decompose_text text buffer = decompose_read (read_layer text) buffer

unfoldable pub decompose_stream : List ℕ → List ℕ → List ℕ → Outcome (List ℕ)
decompose_stream settings stream buffer = decompose_read (read_stream settings stream) buffer

-- the lent buffer after a text was to be written: the text, then what stood there; a refusal leaves it as it was
abbrev pub buffer_after : Outcome (List ℕ) → List ℕ → List ℕ
buffer_after (done text) buffer = text ++ drop (length text) buffer
buffer_after (refused number place) buffer = buffer
