use native.Mathlib.Omega.{arith}
use mathlib.Core.Path.{sym, ap, ap₂, ◌∙◌}
use Prim.Native.Nat.{ℕ, ◌+◌, ◌*◌}
use mathlib.Core.List.{List}
use lib.ListN.{length}
use Rattle.places.specs.Local.{Neighbours}
use Rattle.places.specs.Parts.{part_at}
use Rattle.places.proofs.LocalCost.{place_there, place_is}
use Rattle.places.proofs.lists.Lists.stitches_of.Goals as goal

pub overflow_mul-k : goal.overflow_mul-k
overflow_mul-k c = omega (arith, place_there _ _ c.self.view_is c.requires, ap length c.as_slice.ensures.value, c.as_slice.ensures.fits)

pub overflow_add-k : goal.overflow_add-k
overflow_add-k c = omega (arith, place_there _ _ c.self.view_is c.requires, ap length c.as_slice.ensures.value, c.as_slice.ensures.fits)

pub part-requires-clause-there : goal.part-requires-clause-there
part-requires-clause-there c = omega (arith, place_there _ _ c.self.view_is c.requires, ap length c.as_slice.ensures.value, c.self.invariant.pairs)

pub returns-clause-value : goal.returns-clause-value
returns-clause-value c =
    c.part.ensures
    ∙ ap₂ (λ (s l : List ℕ). part_at s l (2 * c.args.k + 1)) c.as_slice.ensures.value c.as_slice-2.ensures.value
    ∙ sym (ap (λ (n : Neighbours). n.stitches) (place_is _ _ c.self.view_is c.requires))
