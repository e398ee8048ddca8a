-- `library_end`: the tests are those of the library, and the counts make its index. Assumes nothing.
use native.Mathlib.Omega.{arith}
use mathlib.Core.Bool.{true, not}
use mathlib.Core.Logic.{inl, inr}
use mathlib.Core.Path.{◌≡◌, sym, ap, ◌∙◌}
use Prim.Native.Nat.{ℕ, ◌*◌, ◌<◌}
use lib.ListN.{length}
use Rattle.std.specs.Prelude.{Some}
use Rattle.rules.specs.Edges.{Graph}
use Rattle.rules.specs.Library.{value_of, entry_of, index_of, served}
use Rattle.rules.proofs.Tests.{clash, passed, failed}
use Rattle.theory.proofs.Library.{served_by, index_small}
use Rattle.places.specs.Local.{list_graph}
use Rattle.adjacency.specs.UnitGraph.{fixed_at}
use Rattle.early_end.proofs.Index.{index_as}
use Rattle.early_end.proofs.Serving.{served_listed, serves, end_none, end_some}
use Rattle.early_end.proofs.ends.library_end.Goals as goal
use Rattle.early_end.proofs.ends.library_end.Goals.{then-has_fixed-via-then-has_fixed, then-has_fixed-via-else-has_fixed+then-not-all_listed, After-edge_counts-counts, Else-not-all_listed, Start}

-- the component
module _ (start : Start) where
  abbrev graph : Graph
  graph = list_graph start.args.local.now.lists.now

  abbrev size : ℕ
  size = length start.args.local.now.fixed.now

  abbrev fixed : ℕ → ℕ
  fixed = fixed_at start.args.local.now.fixed.now

-- all tests are passed
module _ (last : Else-not-all_listed) where
  abbrev graph-here : Graph
  graph-here = list_graph last.args.local.now.lists.now

  all-passed : served last.args.masks graph-here (fixed_at last.args.local.now.fixed.now) (length last.args.local.now.fixed.now) ≡ true
  all-passed =
      serves last.args.masks graph-here (fixed_at last.args.local.now.fixed.now) (length last.args.local.now.fixed.now) (omega arith)
      last.if-size-gt5.false
      (sym last.has_fixed.ensures ∙ last.if-has_fixed.false)
      (passed last.all_listed.result _ last.all_listed.ensures (ap not last.if-not-all_listed.false))

  index-low : index_of graph-here (length last.args.local.now.fixed.now) < 1024
  index-low = index_small graph-here (length last.args.local.now.fixed.now) (served_by last.args.masks graph-here (fixed_at last.args.local.now.fixed.now) (length last.args.local.now.fixed.now) all-passed).simple

-- the value of the counts
counted : (c : After-edge_counts-counts) → value_of c.edge_counts-counts.result ≡ index_of (list_graph c.args.local.now.lists.now) (length c.args.local.now.fixed.now)
counted c = ap value_of c.edge_counts-counts.ensures ∙ sym (index_as (list_graph c.args.local.now.lists.now) (length c.args.local.now.fixed.now))

pub returns-then-masks-ne3 : goal.returns-then-masks-ne3
returns-then-masks-ne3 c =
    let s = (goal.at.returns-then-masks-ne3 c).Start in
    end_none c.args.masks (graph s) (fixed s) (size s) c.args.weight
    (λ e.
    let by = served_by c.args.masks (graph s) (fixed s) (size s) e in
    elim c.then-masks-ne3.either [ inl n ↦ n by.three | inr w ↦ omega (arith, by.fits, w.1) ])

pub returns-then-has_fixed : goal.returns-then-has_fixed
returns-then-has_fixed c =
    let s = (goal.at.returns-then-has_fixed c).Start in
    end_none c.args.masks (graph s) (fixed s) (size s) c.args.weight
    (λ e. elim c.then-has_fixed.branch [
      | then-has_fixed-via-then-has_fixed w ↦ clash (sym c.has_fixed.ensures ∙ w.if-has_fixed.true) (served_by c.args.masks (graph s) (fixed s) (size s) e).free
      | then-has_fixed-via-else-has_fixed+then-not-all_listed w ↦ clash (served_listed c.args.masks (graph s) (fixed s) (size s) e) (failed w.all_listed.result _ w.all_listed.ensures (ap not w.if-not-all_listed.true))
    ])

pub index_of-requires : goal.index_of-requires
index_of-requires c = omega (arith, counted (goal.at.index_of-requires c).After-edge_counts-counts, index-low (goal.at.index_of-requires c).Else-not-all_listed)

pub entry-requires : goal.entry-requires
entry-requires c = omega (arith, c.index_of.ensures, counted (goal.at.entry-requires c).After-edge_counts-counts, index-low (goal.at.entry-requires c).Else-not-all_listed)

pub returns : goal.returns
returns c =
    let s = (goal.at.returns c).Start in
    let same : c.from-conflicts.result ≡ entry_of (index_of (graph s) (size s)) = c.from-conflicts.ensures ∙ c.entry.ensures ∙ ap entry_of (c.index_of.ensures ∙ counted (goal.at.returns c).After-edge_counts-counts) in
    ap (λ (n : ℕ). Some (c.args.weight * n)) same ∙ end_some c.args.masks (graph s) (fixed s) (size s) c.args.weight (all-passed (goal.at.returns c).Else-not-all_listed)
