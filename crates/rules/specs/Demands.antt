-- The three demands (RULES 8), each as a type: what is proved is a value of it.
use Rattle.std.specs.Prelude.{true, not, List, ◌↔◌, ◌≡◌, ℕ, ◌*◌, ◌≤◌, ◌<◌, min, length, get_or}
use Rattle.rules.specs.declared.layer.Settings.{Settings}
use Rattle.rules.specs.declared.layer.Piece.{Piece}
use Rattle.rules.specs.declared.layer.Edge.{Edge}
use Rattle.rules.specs.declared.refusal.Place.{Place}
use Rattle.rules.specs.declared.answers.Score.{Score}
use Rattle.rules.specs.declared.answers.Scoring.{Scoring}
use Rattle.rules.specs.declared.answers.Verdict.{Verdict}
use Rattle.rules.specs.Basics.{given, sum_pairs}
use Rattle.rules.specs.Settings.{settings_in_range, piece_at, fixed_masks}
use Rattle.rules.specs.Edges.{squared_gap, contact, tied, edge_of, graph_of}
use Rattle.rules.specs.Score.{mask_of, same_mask, is_set, cost_of, score_of, pairs_of}
use Rattle.rules.specs.Decomposition.{Run, run, reached, completed, steps_in_all}
use Rattle.rules.specs.LayerText.{layer_text}
use Rattle.rules.specs.Questions.{Outcome, done, refused, Valid, Layer, read_layer}
use Rattle.rules.specs.Stream.{read_stream}
use Rattle.rules.specs.Calls.{new_settings, edge_between, score_masks, decompose_layer, masks_after, write_layer, decompose_text, decompose_stream, buffer_after}
use Rattle.rules.specs.Refusals.{Ends, OfSettings, OfRecords, OfMaskList, OfMasks, OfText, OfStream, OfBuffer}

-- an assignment of these pieces to these masks: a list of n masks, each below K, that breaks no tie
pub record Assignment (s : Settings) (ps : List Piece) (masks : List ℕ) : Type 0 where
  pub size : length masks ≡ length ps
  pub below : (i : ℕ) → i < length ps → get_or masks i 0 < s.masks
  pub ties : (i j : ℕ) → i < length ps → j < length ps → tied s (piece_at ps i) (piece_at ps j) ≡ true → get_or masks i 0 ≡ get_or masks j 0

-- a list has every mask that another one has set
abbrev pub Extends : ℕ → List ℕ → List ℕ → Type 0
Extends n masks more = (i : ℕ) → i < n → is_set masks i ≡ true → mask_of more i ≡ mask_of masks i

-- an assignment that keeps the fixed masks too: only such assignments are rivals of a run's
pub record Feasible (s : Settings) (ps : List Piece) (masks : List ℕ) : Type 0 where
  pub assignment : Assignment s ps masks
  pub kept : Extends (length ps) (fixed_masks ps) masks

-- masks that are half done: they can become an assignment by setting those that are not set; an assignment itself is half done with none missing
pub record HalfDone (s : Settings) (ps : List Piece) (masks : List ℕ) : Type 0 where
  pub size : length masks ≡ length ps
  pub whole : List ℕ
  pub assignment : Assignment s ps whole
  pub extends : Extends (length ps) masks whole

-- what masks score on a layer
abbrev pub layer_score : Settings → List Piece → List ℕ → Score
layer_score s ps masks = score_of s.weight (graph_of s ps) masks (length ps)

-- what scoring them answers
abbrev pub layer_scoring : Settings → List Piece → List ℕ → Scoring
layer_scoring s ps masks = record { score = layer_score s ps masks; tested = pairs_of (length ps) }

-- ---- Demand 1: every call comes to an end of its own, whatever its input

pub record Demand1 : Type 0 where
  pub settings : (masks spacing margin weight budget : ℕ) → Ends (λ s. settings_in_range s ≡ true) OfSettings (new_settings masks spacing margin weight budget)
  pub edge : (s : Settings) (a b : Piece) → Ends (λ e. e ≡ edge_of s a b) (OfRecords 2) (edge_between s a b)
  pub score : (s : Settings) (ps : List Piece) (masks : List ℕ) → Ends (λ r. r ≡ layer_scoring s ps masks) (OfMasks (length ps)) (score_masks s ps masks)
  -- a mask for every piece, its fixed mask where it has one, marked best or open
  pub decompose : (s : Settings) (ps : List Piece) (masks : List ℕ) → Ends (λ r. Feasible s ps r.masks) (OfMaskList (length ps)) (decompose_layer s ps masks)
  pub read : (text : List ℕ) → Ends (λ l. Valid l.settings l.pieces) (OfText text) (read_layer text)
  pub stream : (settings stream : List ℕ) → Ends (λ l. Valid l.settings l.pieces) (OfStream settings stream) (read_stream settings stream)
  -- what is written has room in the buffer
  pub write : (s : Settings) (ps : List Piece) (buffer : List ℕ) → Ends (λ text. length text ≤ length buffer) (OfBuffer (OfRecords (length ps))) (write_layer s ps buffer)
  pub load : (text buffer : List ℕ) → Ends (λ result. length result ≤ length buffer) (OfBuffer (OfText text)) (decompose_text text buffer)
  pub load_stream : (settings stream buffer : List ℕ) → Ends (λ result. length result ≤ length buffer) (OfBuffer (OfStream settings stream)) (decompose_stream settings stream buffer)
  -- a refusal leaves lent memory as it was
  pub masks_kept : (number : ℕ) (place : Place) (masks : List ℕ) → masks_after (refused number place) masks ≡ masks
  pub buffer_kept : (number : ℕ) (place : Place) (buffer : List ℕ) → buffer_after (refused number place) buffer ≡ buffer

-- ---- Demand 2: edges and counts are those of the rules, and texts state layers

-- what joins two pieces by a conflict edge, by a stitch edge, and by a tie
pub record TooClose (s : Settings) (p q : Piece) : Type 0 where
  pub shapes : p.shape ≡ q.shape → ⊥
  pub near : squared_gap p q < s.spacing * s.spacing

pub record Stitchable (s : Settings) (p q : Piece) : Type 0 where
  pub shape : p.shape ≡ q.shape
  pub touching : s.margin ≤ contact p q

pub record TooLittle (s : Settings) (p q : Piece) : Type 0 where
  pub shape : p.shape ≡ q.shape
  pub touching : 0 < contact p q
  pub short : contact p q < s.margin

-- a score that counts every edge: the conflicts are the conflict edges with one mask at both ends, the stitches are the stitch edges with two
pub record EachEdge (s : Settings) (ps : List Piece) (masks : List ℕ) : Type 0 where
  pub conflicts : (layer_score s ps masks).conflicts ≡ sum_pairs (λ u v. given (same_mask masks u v) ((graph_of s ps).conflicts u v)) (length ps)
  pub stitches : (layer_score s ps masks).stitches ≡ sum_pairs (λ u v. given (not (same_mask masks u v)) ((graph_of s ps).stitches u v)) (length ps)
  pub cost : (layer_score s ps masks).cost ≡ cost_of s.weight (layer_score s ps masks).conflicts (layer_score s ps masks).stitches

-- a score that has in nothing more than another one
pub record AtMost (a b : Score) : Type 0 where
  pub conflicts : a.conflicts ≤ b.conflicts
  pub stitches : a.stitches ≤ b.stitches
  pub cost : a.cost ≤ b.cost

-- a text states a layer
pub record States (text : List ℕ) (l : Layer) : Type 0 where
  pub valid : Valid l.settings l.pieces
  pub size : length text ≤ 32_768
  pub written : text ≡ layer_text l.settings l.pieces

pub record Demand2 : Type 0 where
  pub conflict : (s : Settings) (p q : Piece) → (edge_of s p q ≡ Edge.Conflict) ↔ TooClose s p q
  pub stitch : (s : Settings) (p q : Piece) → (edge_of s p q ≡ Edge.Stitch) ↔ Stitchable s p q
  pub tie : (s : Settings) (p q : Piece) → (edge_of s p q ≡ Edge.Tie) ↔ TooLittle s p q
  -- the graph of a layer has just these edges
  pub conflicts : (s : Settings) (ps : List Piece) (u v : ℕ) → ((graph_of s ps).conflicts u v ≡ 1) ↔ TooClose s (piece_at ps u) (piece_at ps v)
  pub stitches : (s : Settings) (ps : List Piece) (u v : ℕ) → ((graph_of s ps).stitches u v ≡ 1) ↔ Stitchable s (piece_at ps u) (piece_at ps v)
  -- masks are scored if the layer is valid and they are an assignment of it, whole or half done, and only then
  pub scored : (s : Settings) (ps : List Piece) (masks : List ℕ) → (score_masks s ps masks ≡ done (layer_scoring s ps masks)) ↔ (Valid s ps × HalfDone s ps masks)
  -- beside a score stands one for each unordered pair of pieces
  pub tested : (s : Settings) (ps : List Piece) (masks : List ℕ) (r : Scoring) → score_masks s ps masks ≡ done r → r.tested ≡ sum_pairs (λ u v. 1) (length ps)
  -- with every piece set, every edge counts
  pub whole : (s : Settings) (ps : List Piece) (masks : List ℕ) → Valid s ps → Assignment s ps masks → EachEdge s ps masks
  -- setting more pieces lowers nothing
  pub more : (s : Settings) (ps : List Piece) (masks further : List ℕ) → Extends (length ps) masks further → AtMost (layer_score s ps masks) (layer_score s ps further)
  -- counts and cost belong to the masks
  pub counts : (s : Settings) (ps : List Piece) (lent : List ℕ) (r : Run) → decompose_layer s ps lent ≡ done r
      → record { conflicts = r.conflicts; stitches = r.stitches; cost = r.cost } ≡ layer_score s ps r.masks
  pub as_stated : (text : List ℕ) (l : Layer) → (read_layer text ≡ done l) ↔ States text l
  pub reads_back : (l : Layer) → Valid l.settings l.pieces → read_layer (layer_text l.settings l.pieces) ≡ done l

-- ---- Demand 3: best means cheapest, and more budget never costs more

-- the same settings but for the budget, and the second budget at least as large
pub record Alike (s₁ s₂ : Settings) : Type 0 where
  pub masks : s₁.masks ≡ s₂.masks
  pub spacing : s₁.spacing ≡ s₂.spacing
  pub margin : s₁.margin ≡ s₂.margin
  pub weight : s₁.weight ≡ s₂.weight
  pub budget : s₁.budget ≤ s₂.budget

-- what an assignment costs, by the score
abbrev pub assignment_cost : Settings → List Piece → List ℕ → ℕ
assignment_cost s ps masks = (layer_score s ps masks).cost

-- the search ends within the budget: without one it takes no more steps
abbrev pub EndsWithin : Settings → List Piece → Type 0
EndsWithin s ps = steps_in_all s ps ≤ s.budget

-- What holds of one run. Its masks and steps are those reached at its budget, its counts and cost are those of its masks, and every piece has a mask, the fixed
-- one where there is one.
-- It says best exactly when the search ends within its budget. Its steps are those of the search without a budget, or the budget if that is less;
-- and where the search ends, its masks are those that the search without a budget leaves.
pub record OneRun (s : Settings) (ps : List Piece) (r : Run) : Type 0 where
  pub masks : r.masks ≡ (reached s ps).masks
  pub steps : r.steps ≡ (reached s ps).steps
  pub conflicts : r.conflicts ≡ (layer_score s ps r.masks).conflicts
  pub stitches : r.stitches ≡ (layer_score s ps r.masks).stitches
  pub cost : r.cost ≡ assignment_cost s ps r.masks
  pub whole : Feasible s ps r.masks
  pub best : (r.verdict ≡ Verdict.Best) ↔ EndsWithin s ps
  pub spent : r.steps ≡ min (steps_in_all s ps) s.budget
  pub ended : EndsWithin s ps → r.masks ≡ (completed s ps).masks

-- Demand 3 of two runs on one layer, at settings that are alike.
pub record Demand3 (s₁ s₂ : Settings) (ps : List Piece) (r₁ r₂ : Run) : Type 0 where
  pub first : OneRun s₁ ps r₁
  pub second : OneRun s₂ ps r₂
  pub same : r₁.verdict ≡ Verdict.Best → r₂ ≡ r₁
  pub cheapest : r₁.verdict ≡ Verdict.Best → (rival : List ℕ) → Feasible s₁ ps rival → r₁.cost ≤ assignment_cost s₁ ps rival
  pub no_dearer : r₁.verdict ≡ Verdict.Open → r₂.cost ≤ r₁.cost

-- demand 3 of a run against the run at any budget that is no smaller
abbrev pub AgainstLarger : Settings → List Piece → Run → Type 0
AgainstLarger s ps r = (larger : Settings) → Alike s larger → Valid larger ps → Demand3 s larger ps r (run larger ps)

-- demand 3 of what a call came to: of its run, where it was not refused
abbrev pub Demand3Of : Settings → List Piece → Outcome Run → Type 0
Demand3Of s ps o = (r : Run) → o ≡ done r → AgainstLarger s ps r

-- demand 3 of the run behind a layer that is read, where one is
abbrev pub Demand3OfRead : Outcome Layer → Type 0
Demand3OfRead read = (l : Layer) → read ≡ done l → AgainstLarger l.settings l.pieces (run l.settings l.pieces)

-- of the layer that a text states, and of the layer that a settings text and a stream state
abbrev pub Demand3OfText : List ℕ → Type 0
Demand3OfText text = Demand3OfRead (read_layer text)

abbrev pub Demand3OfStream : List ℕ → List ℕ → Type 0
Demand3OfStream settings stream = Demand3OfRead (read_stream settings stream)
