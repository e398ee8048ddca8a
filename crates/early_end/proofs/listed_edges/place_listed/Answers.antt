use native.Mathlib.Omega.{arith}
use mathlib.Core.Bool.{not}
use mathlib.Core.Path.{◌≡◌, refl, sym, ap, ◌∙◌}
use Prim.Native.Nat.{ℕ, ◌≤◌, ◌<◌}
use Rattle.std.proofs.Common.{rules}
use Rattle.std.proofs.lemmas.Iterator.{cases_from_all, YieldsList-from_range}
use lib.ListN.{length}
use borrow.Author.Tests.{tests, eqb-true, eqb-false, lt-ltb, le-ltb}
use Rattle.rules.specs.Library.{unlisted}
use Rattle.places.specs.Local.{stitches_at, list_graph}
use Rattle.early_end.proofs.Listed.{stitched, unstitched}
use Rattle.early_end.proofs.Ranges.{none_passes}
use Rattle.early_end.proofs.listed_edges.place_listed.Goals as goal

pub returns-then-is_empty : goal.returns-then-is_empty
returns-then-is_empty c =
    let graph = list_graph c.args.lists.now in
    let v = c.args.v in
    let none : length (stitches_at c.args.lists.now v) ≡ 0 = ap length (sym c.stitches_of.ensures.value) ∙ eqb-true _ 0 (sym c.if-is_empty.ensures) in
    none_passes (λ u. unlisted graph u v) (λ u. graph.conflicts u v ≤ 1) (λ u. 1 < graph.conflicts u v)
    (λ u e. unstitched c.args.lists.now v none u ∙ le-ltb 1 (graph.conflicts u v) e) (λ u e. unstitched c.args.lists.now v none u ∙ lt-ltb 1 (graph.conflicts u v) e)
    v c.all.result
    (cases_from_all _ _ _ (λ (u : ℕ). graph.conflicts u v ≤ 1) (λ (u : ℕ). 1 < graph.conflicts u v) c.all.ensures.ran (YieldsList-from_range 0 v v refl (omega arith)) (λ x q k. search (rules, tests)) (λ x q k. search (rules, tests)))

pub returns-else-is_empty : goal.returns-else-is_empty
returns-else-is_empty c =
    let some : length c.stitches_of.result.now ≡ 0 → ⊥ = eqb-false _ 0 (sym c.is_empty.ensures ∙ c.if-is_empty.false) in
    c.if-is_empty.false ∙ sym (ap not (stitched c.args.lists.now c.args.v (rw c.stitches_of.ensures.value at c.stitches_of.ensures.earlier) (omega (arith, ap length c.stitches_of.ensures.value))))
