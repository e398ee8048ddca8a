-- How large the result of a valid layer is. It has at most 512 masks, each below 8. Two pieces have at most one edge of a kind, so an edge is counted at most
-- once for each of the 130,816 pairs, and an edge costs at most 1,000. The steps stay within the budget.
use mathlib.Core.List.{List}
use Prim.Native.Nat.{ℕ, ◌≤◌, ◌<◌}
use native.Mathlib.Omega.{arith}
use lib.ListN.{length, get_or}
use Rattle.rules.specs.declared.layer.Settings.{Settings}
use Rattle.rules.specs.declared.layer.Piece.{Piece}
use Rattle.rules.specs.Settings.{piece_at}
use Rattle.rules.specs.Edges.{conflict_edge, stitch_edge, graph_of}
use Rattle.rules.specs.Score.{score_of}
use Rattle.rules.specs.Decomposition.{reached, Run, run}
use Rattle.rules.specs.Questions.{Valid}
use Rattle.rules.proofs.ScoreBounds.{given_le, conflicts_small, stitches_small, cost_small}
use Rattle.rules.proofs.Ranges.{settings_facts, within_facts}
use Rattle.rules.proofs.Validity.{valid_sound}
use Rattle.theory.proofs.Demand3.{one_run}

pub record ResultBounds (r : Run) : Type 0 where
  pub count : length r.masks ≤ 512
  pub masks : (i : ℕ) → i < length r.masks → get_or r.masks i 0 < 8
  pub conflicts : r.conflicts ≤ 130_816
  pub stitches : r.stitches ≤ 130_816
  pub cost : r.cost ≤ 130_946_816
  pub steps : r.steps ≤ 1_000_000_000

pub run_bounds : (s : Settings) (ps : List Piece) → Valid s ps → ResultBounds (run s ps)
unfolding run score_of
run_bounds s ps valid =
    let g = graph_of s ps in
    let masks = (reached s ps).masks in
    let one = one_run s ps valid in
    let facts = settings_facts s (valid_sound s ps valid).settings in
    let few : length ps ≤ 512 = (within_facts 0 512 (length ps) (valid_sound s ps valid).count).high in
    let conflicts = conflicts_small g masks (length ps) few (λ u v. given_le (conflict_edge s (piece_at ps u) (piece_at ps v)) (omega arith)) in
    let stitches = stitches_small g masks (length ps) few (λ u v. given_le (stitch_edge s (piece_at ps u) (piece_at ps v)) (omega arith)) in
    record {
      count = omega (arith, one.whole.assignment.size);
      masks = λ i h. omega (arith, one.whole.assignment.below i (omega (arith, one.whole.assignment.size)), facts.masks.high);
      conflicts = conflicts;
      stitches = stitches;
      cost = cost_small facts.weight.high conflicts stitches;
      steps = omega (arith, one.spent, facts.budget.high);
    }
