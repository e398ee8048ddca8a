-- Putting pieces back, and the whole decomposition (RULES 7 and 8).
use Rattle.std.specs.Prelude.{Bool, true, false, not, ◌&&◌, List, [], ◌∷◌, ℕ, ◌+◌, eqb, length, set, replicate}
use Rattle.rules.specs.declared.layer.Settings.{Settings}
use Rattle.rules.specs.declared.layer.Piece.{Piece}
use Rattle.rules.specs.declared.answers.Verdict.{Verdict}
use Rattle.rules.specs.Basics.{up_to, any_of, find, found_or}
use Rattle.rules.specs.Settings.{fixed_masks}
use Rattle.rules.specs.Edges.{Graph, in_conflict, graph_of}
use Rattle.rules.specs.Score.{mask_of, score_of}
use Rattle.rules.specs.Peeling.{Removal, low, pendant, Peeled, peel}
use Rattle.rules.specs.Components.{components}
use Rattle.rules.specs.Units.{unit_of, merged_graph, unit_numbers, spread, unit_fixed}
use Rattle.rules.specs.Search.{local_graph, local_fixed, search_from, complete_from}

-- the masks ms of a component's places, put down at its vertices
unfoldable pub put_masks : List ℕ → List ℕ → List ℕ → List ℕ
put_masks [] ms masks = masks
put_masks (v ∷ order) [] masks = masks
put_masks (v ∷ order) (m ∷ ms) masks = put_masks order ms (set masks v m)

-- What has been reached: the steps taken, whether a step was due beyond the budget, and the masks.
pub record Reached : Type 0 where
  pub steps : ℕ
  pub stopped : Bool
  pub masks : List ℕ

-- The budget counts over all components together, so each search starts from the steps taken before it.
unfoldable pub search_all : ℕ → ℕ → ℕ → Graph → (ℕ → ℕ) → List (List ℕ) → Reached → Reached
search_all K weight budget g fixed [] w = w
search_all K weight budget g fixed (order ∷ orders) w =
    let s = search_from K weight budget (local_graph g order) (local_fixed fixed order) (length order) w.steps w.stopped in
    search_all K weight budget g fixed orders (record { steps = s.steps; stopped = s.stopped; masks = put_masks order s.incumbent w.masks })

-- the vertices that are there, and the masks
pub record Placed : Type 0 where
  pub there : List ℕ
  pub masks : List ℕ

-- the lowest mask that no conflicting vertex already there has
abbrev pub free_mask : ℕ → Graph → Placed → ℕ → ℕ
free_mask K g a v = found_or 0 (find (λ m. not (any_of (λ u. in_conflict g v u && eqb (mask_of a.masks u) m) a.there)) (up_to K))

-- An (A) vertex takes the lowest free mask, a (B) vertex its stitch neighbour's.
unfoldable pub put_back : ℕ → Graph → Removal → Placed → Placed
put_back K g (low v) a = record { there = v ∷ a.there; masks = set a.masks v (free_mask K g a v) }
put_back K g (pendant v u) a = record { there = v ∷ a.there; masks = set a.masks v (mask_of a.masks u) }

-- Removed vertices return in reverse order: the one removed first is put back last.
unfoldable pub put_back_all : ℕ → Graph → List Removal → Placed → Placed
put_back_all K g [] a = a
put_back_all K g (r ∷ rs) a = put_back K g r (put_back_all K g rs a)

-- the masks with all removed vertices back
abbrev pub with_returned : ℕ → Graph → Peeled → List ℕ → List ℕ
with_returned K g peeled masks = (put_back_all K g peeled.removed (record { there = peeled.core; masks = masks })).masks

-- What is reached at a budget on the vertices vs, a rising list: the masks made of the incumbents then kept, removed vertices back, and the steps.
-- The masks of other vertices stay as they were.
unfoldable pub decompose : ℕ → ℕ → ℕ → Graph → (ℕ → ℕ) → List ℕ → List ℕ → Reached
decompose K weight budget g fixed vs masks =
    let peeled = peel K g fixed vs in
    let searched = search_all K weight budget g fixed (components g peeled.core) (record { steps = 0; stopped = false; masks = masks }) in
    record { steps = searched.steps; stopped = searched.stopped; masks = with_returned K g peeled searched.masks }

-- The vertices 0, 1, .., n - 1 of g are merged into units: these are decomposed, and every vertex has its unit's mask. `fixed` has the fixed masks of the
-- vertices; a unit has that of its vertices.
abbrev pub decompose_units : ℕ → ℕ → ℕ → Graph → List ℕ → (ℕ → ℕ) → ℕ → Reached
decompose_units K weight budget g fixed unit n =
    let r = decompose K weight budget (merged_graph unit n g) (unit_fixed unit n fixed) (unit_numbers unit n) (replicate n 0) in
    record { steps = r.steps; stopped = r.stopped; masks = spread unit n r.masks }

-- what is reached on a layer at the settings' budget
abbrev pub reached : Settings → List Piece → Reached
reached s ps = decompose_units s.masks s.weight s.budget (graph_of s ps) (fixed_masks ps) (unit_of s ps) (length ps)

-- ---- Without a budget

-- What the search comes to when nothing stops it: its steps in all, and the masks.
pub record Completed : Type 0 where
  pub steps : ℕ
  pub masks : List ℕ

-- The components' steps add up.
unfoldable pub complete_all : ℕ → ℕ → Graph → (ℕ → ℕ) → List (List ℕ) → Completed → Completed
complete_all K weight g fixed [] w = w
complete_all K weight g fixed (order ∷ orders) w =
    let s = complete_from K weight (local_graph g order) (local_fixed fixed order) (length order) in
    complete_all K weight g fixed orders (record { steps = w.steps + s.steps; masks = put_masks order s.incumbent w.masks })

unfoldable pub complete : ℕ → ℕ → Graph → (ℕ → ℕ) → List ℕ → List ℕ → Completed
complete K weight g fixed vs masks =
    let peeled = peel K g fixed vs in
    let searched = complete_all K weight g fixed (components g peeled.core) (record { steps = 0; masks = masks }) in
    record { steps = searched.steps; masks = with_returned K g peeled searched.masks }

-- the same for units
abbrev pub complete_units : ℕ → ℕ → Graph → List ℕ → (ℕ → ℕ) → ℕ → Completed
complete_units K weight g fixed unit n =
    let r = complete K weight (merged_graph unit n g) (unit_fixed unit n fixed) (unit_numbers unit n) (replicate n 0) in
    record { steps = r.steps; masks = spread unit n r.masks }

-- and for a layer; the settings' budget plays no part in it
abbrev pub completed : Settings → List Piece → Completed
completed s ps = complete_units s.masks s.weight (graph_of s ps) (fixed_masks ps) (unit_of s ps) (length ps)

-- how many steps the search takes on a layer in all
abbrev pub steps_in_all : Settings → List Piece → ℕ
steps_in_all s ps = (completed s ps).steps

-- ---- Runs

-- best when no step was due beyond the budget
abbrev pub verdict_of : Bool → Verdict
verdict_of false = Verdict.Best
verdict_of true = Verdict.Open

-- A run: the masks, their score, the steps and the verdict.
pub record Run : Type 0 where
  pub masks : List ℕ
  pub conflicts : ℕ
  pub stitches : ℕ
  pub cost : ℕ
  pub steps : ℕ
  pub verdict : Verdict

unfoldable pub run : Settings → List Piece → Run
run s ps =
    let r = reached s ps in
    let score = score_of s.weight (graph_of s ps) r.masks (length ps) in
    record {
      masks = r.masks;
      conflicts = score.conflicts;
      stitches = score.stitches;
      cost = score.cost;
      steps = r.steps;
      verdict = verdict_of r.stopped;
    }
