use native.Mathlib.Omega.{arith}
use mathlib.Core.Bool.{true, false}
use mathlib.Core.Path.{◌≡◌, refl}
use Prim.Native.Nat.{ℕ}
use lib.ListN.{length}
use Rattle.std.proofs.Common.{rules}
use Rattle.std.proofs.lemmas.Iterator.{cases_from_all, YieldsList-from_range}
use borrow.Author.Tests.{tests}
use Rattle.rules.specs.Library.{unlisted_at}
use Rattle.places.specs.Local.{list_graph}
use Rattle.early_end.proofs.Ranges.{none_passes}
use Rattle.early_end.proofs.listed_edges.all_listed.Goals as goal

pub returns : goal.returns
returns c =
    let has = unlisted_at (list_graph c.args.local.now.lists.now) in
    none_passes has (λ v. has v ≡ false) (λ v. has v ≡ true) (λ v e. e) (λ v e. e) (length c.args.local.now.fixed.now) c.all.result
    (cases_from_all _ _ _ (λ (v : ℕ). has v ≡ false) (λ (v : ℕ). has v ≡ true) c.all.ensures.ran (YieldsList-from_range 0 (length c.args.local.now.fixed.now) (length c.args.local.now.fixed.now) refl (omega arith)) (λ x q k. search (rules, tests)) (λ x q k. search (rules, tests)))
