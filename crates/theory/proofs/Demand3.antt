-- Demand 3 as a theorem of the rules. The laws of the decomposition hold of the graph of any layer's units, whose edges have no direction and join no unit to
-- itself; what a unit may have its pieces may have, and the other way round (`member_may`, `unit_may`); the score of masks below K that keep ties is their cost
-- among all units (`tied_score`); and settings that are alike but for the budget have one graph and the same units. That a run is the search without a budget as
-- far as its budget goes holds of every layer.
use mathlib.Core.Bool.{Bool, true, false}
use mathlib.Core.List.{List}
use mathlib.Core.Logic.Iff
use mathlib.Core.Logic.{◌↔◌, inl, inr, ⊎_elim}
use mathlib.Core.Path.{◌≡◌, refl, sym, ap, ◌∙◌}
use Prim.Native.Nat.{ℕ, ◌≤◌, ◌<◌, min}
use native.Mathlib.Omega.{arith}
use lib.ListN.{length, replicate, length-replicate}
use Rattle.rules.specs.declared.layer.Settings.{Settings}
use Rattle.rules.specs.declared.layer.Piece.{Piece}
use Rattle.rules.specs.declared.answers.Verdict.{Verdict}
use Rattle.rules.specs.Basics.{up_to, given}
use Rattle.rules.specs.Settings.{piece_at, fixed_masks}
use Rattle.rules.specs.Edges.{Graph, conflict_edge, stitch_edge, tied, graph_of}
use Rattle.rules.specs.Components.{components}
use Rattle.rules.specs.Units.{part_of, unit_of, merged_graph, unit_numbers, spread, unit_fixed}
use Rattle.rules.specs.Score.{mask_of, score_of}
use Rattle.rules.specs.Decomposition.{Reached, decompose, decompose_units, reached, Completed, complete_units, completed, steps_in_all, verdict_of, Run, run}
use Rattle.rules.specs.Questions.{Valid}
use Rattle.rules.specs.Demands.{Alike, Feasible, assignment_cost, EndsWithin, OneRun, Demand3}
use Rattle.rules.proofs.Edges.{Undirected, undirected}
use Rattle.rules.proofs.Tests.{clash}
use Rattle.theory.proofs.Cost.{cost_in, cost_same}
use Rattle.theory.proofs.Merging.{number_in, in_number, numbers_distinct, merged_undirected, merged_loopless, spread_length, spread_at, spread_number, spread_one}
use Rattle.theory.proofs.Fixed.{May, FixedBelow}
use Rattle.theory.proofs.FixedUnits.{units_below, member_may, unit_may, fixable}
use Rattle.theory.proofs.Units.{KeepsTies, grouping, one_mask, one_mask_keeps, tied_score}
use Rattle.theory.proofs.Assignments.{masks_above_0, masks_set}
use Rattle.theory.proofs.PuttingBack.{Ready}
use Rattle.theory.proofs.SearchAll.{unstopped, FollowsAll, follows_steps, follows_stopped, follows_ended, follows_same}
use Rattle.theory.proofs.Decomposition.{decomposed, decompose_cheapest, larger_no_dearer, larger_same, decompose_follows}

-- ---- The units of a layer

module _ (s : Settings) (ps : List Piece) where
  -- the graph of units, and their numbers
  abbrev g : Graph
  g = merged_graph (unit_of s ps) (length ps) (graph_of s ps)

  abbrev us : List ℕ
  us = unit_numbers (unit_of s ps) (length ps)

  -- and their fixed masks
  abbrev fixed : ℕ → ℕ
  fixed = unit_fixed (unit_of s ps) (length ps) (fixed_masks ps)

  both_ways : Undirected g
  both_ways = merged_undirected (unit_of s ps) (length ps) (undirected s ps)

  -- they are ready for the decomposition
  units_ready : Ready g (replicate (length ps) 0) us
  units_ready = record {
    distinct = numbers_distinct (unit_of s ps) (length ps);
    placed = λ v m. rw (length-replicate {A = ℕ} (length ps) 0) (number_in (unit_of s ps) (length ps) m).0;
    loopless = λ v m. merged_loopless (unit_of s ps) (length ps) (graph_of s ps) v;
  }

  -- what the units reach, and the pieces' masks of it
  abbrev on_units : ℕ → Reached
  on_units budget = decompose s.masks s.weight budget g fixed us (replicate (length ps) 0)

  abbrev spread_masks : ℕ → List ℕ
  spread_masks budget = spread (unit_of s ps) (length ps) (on_units budget).masks

  spread_ties : (budget : ℕ) → KeepsTies s ps (mask_of (spread_masks budget))
  spread_ties budget = one_mask_keeps s ps _ (spread_one (unit_of s ps) (length ps) (grouping s ps) (on_units budget).masks)

  module _ (valid : Valid s ps) where
    fixed_below : FixedBelow s.masks fixed us
    fixed_below = units_below (fixable s ps valid) us

    -- every piece gets a mask that it may have
    spread_may : (budget i : ℕ) → i < length ps → May s.masks (mask_of (fixed_masks ps)) i (mask_of (spread_masks budget) i)
    spread_may budget i l =
        rw (spread_at (unit_of s ps) (length ps) (on_units budget).masks i l)
        (member_may (fixable s ps valid) l
        ((decomposed s.masks s.weight (masks_above_0 s ps valid) both_ways fixed units_ready fixed_below budget).fits (unit_of s ps i) (in_number (unit_of s ps) (length ps) (grouping s ps) l)))

    -- what masks below K that keep ties cost, and what those reached cost
    cost_is : (masks : List ℕ) → ((i : ℕ) → i < length ps → mask_of masks i < s.masks) → KeepsTies s ps (mask_of masks)
        → assignment_cost s ps masks ≡ cost_in s.weight g (mask_of masks) us
    cost_is masks below ties = tied_score s ps s.weight masks (masks_set s ps valid masks below) ties

    reached_cost : (budget : ℕ) → assignment_cost s ps (spread_masks budget) ≡ cost_in s.weight g (mask_of (on_units budget).masks) us
    reached_cost budget =
        cost_is (spread_masks budget) (λ i l. (spread_may budget i l).below) (spread_ties budget)
        ∙ cost_same s.weight g _ _ us (λ u m. spread_number (unit_of s ps) (length ps) (grouping s ps) (on_units budget).masks m)

-- ---- Reports

-- the run that reports what was reached
abbrev report : ℕ → Graph → ℕ → Reached → Run
report W g n r = record {
  masks = r.masks;
  conflicts = (score_of W g r.masks n).conflicts;
  stitches = (score_of W g r.masks n).stitches;
  cost = (score_of W g r.masks n).cost;
  steps = r.steps;
  verdict = verdict_of r.stopped;
}

best_iff : (b : Bool) → (verdict_of b ≡ Verdict.Best) ↔ (b ≡ false)
best_iff false = (λ _. refl, λ _. refl)
best_iff true = (λ e. let z : ◌≡◌ {A = ℕ} 0 1 = cc in absurd (omega arith), λ e. clash refl e)

open_iff : (b : Bool) → (verdict_of b ≡ Verdict.Open) ↔ (b ≡ true)
open_iff false = (λ e. let z : ◌≡◌ {A = ℕ} 0 1 = cc in absurd (omega arith), λ e. clash e refl)
open_iff true = (λ _. refl, λ _. refl)

-- ---- A run and the search without a budget, on any layer

module _ (s : Settings) (ps : List Piece) where
  pub reached_follows : FollowsAll s.budget (reached s ps) (completed s ps)
  reached_follows =
      ⊎_elim
      (λ e. inl (e.0, ap (λ (r : Reached). record { steps = r.steps; stopped = r.stopped; masks = spread (unit_of s ps) (length ps) r.masks }) e.1))
      (λ h. inr h)
      (decompose_follows s.masks s.weight s.budget (g s ps) (fixed s ps) (us s ps) (replicate (length ps) 0))

  -- the steps of a run are those in all, or the budget if that is less
  pub run_steps : (run s ps).steps ≡ min (steps_in_all s ps) s.budget
  unfolding run
  run_steps = follows_steps reached_follows

  -- a run is stopped exactly when the budget is less than the steps in all
  pub run_stopped : ((reached s ps).stopped ≡ true) ↔ (s.budget < steps_in_all s ps)
  run_stopped = follows_stopped reached_follows

  pub run_open : ((run s ps).verdict ≡ Verdict.Open) ↔ (s.budget < steps_in_all s ps)
  unfolding run
  run_open = Iff.trans (open_iff (reached s ps).stopped) run_stopped

  -- it says best exactly when the search ends within the budget
  pub run_best : ((run s ps).verdict ≡ Verdict.Best) ↔ EndsWithin s ps
  unfolding run
  run_best = Iff.trans (best_iff (reached s ps).stopped) (follows_ended reached_follows)

  -- and then all is as without a budget
  pub run_ended : EndsWithin s ps → reached s ps ≡ unstopped (completed s ps)
  run_ended = follows_same reached_follows

-- one run on a valid layer
pub one_run : (s : Settings) (ps : List Piece) → Valid s ps → OneRun s ps (run s ps)
unfolding run
one_run s ps valid =
    record {
      masks = refl;
      steps = refl;
      conflicts = refl;
      stitches = refl;
      cost = refl;
      whole = record {
        assignment = record {
          size = spread_length (unit_of s ps) (length ps) _;
          below = λ i l. (spread_may s ps valid s.budget i l).below;
          ties = spread_ties s ps s.budget;
        };
        kept = λ i l. (spread_may s ps valid s.budget i l).kept;
      };
      best = run_best s ps;
      spent = run_steps s ps;
      ended = λ e. ap (λ (r : Reached). r.masks) (run_ended s ps e);
    }

module _ {s₁ s₂ : Settings} (alike : Alike s₁ s₂) (ps : List Piece) where
  alike_masks : s₂.masks ≡ s₁.masks
  alike_masks = sym alike.masks

  alike_weight : s₂.weight ≡ s₁.weight
  alike_weight = sym alike.weight

  conflict_same : (p q : Piece) → conflict_edge s₂ p q ≡ conflict_edge s₁ p q
  unfolding conflict_edge
  conflict_same p q = rw alike.spacing

  stitch_same : (p q : Piece) → stitch_edge s₂ p q ≡ stitch_edge s₁ p q
  unfolding stitch_edge
  stitch_same p q = rw alike.margin

  -- alike settings have one graph
  graph_same : graph_of s₂ ps ≡ graph_of s₁ ps
  graph_same = λ i. record {
    conflicts = λ u v. given (conflict_same (piece_at ps u) (piece_at ps v) i) 1;
    stitches = λ u v. given (stitch_same (piece_at ps u) (piece_at ps v) i) 1;
  }

  tied_same : (p q : Piece) → tied s₂ p q ≡ tied s₁ p q
  unfolding tied
  tied_same p q = rw alike.margin

  -- and the same units
  unit_same : unit_of s₂ ps ≡ unit_of s₁ ps
  unit_same = λ i. part_of (components (record { conflicts = λ u v. 0; stitches = λ u v. given (tied_same (piece_at ps u) (piece_at ps v) i) 1 }) (up_to (length ps)))

  -- what the second settings reach, on the first settings' graph and units
  second : reached s₂ ps ≡ decompose_units s₁.masks s₁.weight s₂.budget (graph_of s₁ ps) (fixed_masks ps) (unit_of s₁ ps) (length ps)
  second = λ i. decompose_units (alike_masks i) (alike_weight i) s₂.budget (graph_same i) (fixed_masks ps) (unit_same i) (length ps)

  -- the search without a budget is the same, and takes the same steps
  pub completed_same : completed s₂ ps ≡ completed s₁ ps
  completed_same = λ i. complete_units (alike_masks i) (alike_weight i) (graph_same i) (fixed_masks ps) (unit_same i) (length ps)

  pub steps_same : steps_in_all s₂ ps ≡ steps_in_all s₁ ps
  steps_same = ap (λ (c : Completed). c.steps) completed_same

  module _ (valid₁ : Valid s₁ ps) (valid₂ : Valid s₂ ps) where
    pos : 0 < s₁.masks
    pos = masks_above_0 s₁ ps valid₁

    -- the search that ended within the first budget does the same within the second
    same : (run s₁ ps).verdict ≡ Verdict.Best → run s₂ ps ≡ run s₁ ps
    unfolding run
    same e =
        let ended = (best_iff (reached s₁ ps).stopped).0 e in
        let longer = larger_same s₁.masks s₁.weight pos (both_ways s₁ ps) (fixed s₁ ps) (units_ready s₁ ps) (fixed_below s₁ ps valid₁) alike.budget ended in
        let equal = second ∙ ap (λ (r : Reached). record { steps = r.steps; stopped = r.stopped; masks = spread (unit_of s₁ ps) (length ps) r.masks }) longer in
        λ i. report (alike_weight i) (graph_same i) (length ps) (equal i)

    cheapest : (run s₁ ps).verdict ≡ Verdict.Best → (rival : List ℕ) → Feasible s₁ ps rival → (run s₁ ps).cost ≤ assignment_cost s₁ ps rival
    unfolding run
    cheapest e rival a =
        let ended = (best_iff (reached s₁ ps).stopped).0 e in
        let keeps = one_mask s₁ ps (mask_of rival) a.assignment.ties in
        let least = decompose_cheapest s₁.masks s₁.weight pos (both_ways s₁ ps) (fixed s₁ ps) (units_ready s₁ ps) (fixed_below s₁ ps valid₁) s₁.budget ended (mask_of rival)
        (unit_may (fixed_masks ps) (mask_of rival) keeps (λ i l. record { below = a.assignment.below i l; kept = a.kept i l })) in
        omega (arith, reached_cost s₁ ps valid₁ s₁.budget, cost_is s₁ ps valid₁ rival a.assignment.below a.assignment.ties)

    no_dearer_lem : (run s₂ ps).cost ≤ (run s₁ ps).cost
    unfolding run
    no_dearer_lem =
        let moved : (run s₂ ps).cost ≡ assignment_cost s₁ ps (spread_masks s₁ ps s₂.budget) = λ i. (score_of (alike_weight i) (graph_same i) (second i).masks (length ps)).cost in
        let less = larger_no_dearer s₁.masks s₁.weight pos (both_ways s₁ ps) (fixed s₁ ps) (units_ready s₁ ps) (fixed_below s₁ ps valid₁) alike.budget in
        omega (arith, reached_cost s₁ ps valid₁ s₁.budget, reached_cost s₁ ps valid₁ s₂.budget)

    pub demand3 : Demand3 s₁ s₂ ps (run s₁ ps) (run s₂ ps)
    demand3 = record {
      first = one_run s₁ ps valid₁;
      second = one_run s₂ ps valid₂;
      same = same;
      cheapest = cheapest;
      no_dearer = λ _. no_dearer_lem;
    }
