use native.Mathlib.Omega.{arith}
use mathlib.Core.List.{List, [], ◌∷◌}
use mathlib.Core.Logic.{◌⊎◌, inl, inr}
use mathlib.Core.Path.{◌≡◌, refl, sym, ◌∙◌}
use Prim.Native.Nat.{ℕ}
use lib.ListN.{length}
use Rattle.rules.specs.Decomposition.{put_masks}
use Rattle.places.proofs.order.put_masks.Goals as goal

-- none is left on one side
put_end : (order ms masks : List ℕ) → (length order ≡ 0) ⊎ (length ms ≡ 0) → put_masks order ms masks ≡ masks
unfolding put_masks
put_end [] ms masks e = refl
put_end (v ∷ order) [] masks e = refl
put_end (v ∷ order) (m ∷ ms) masks (inl e) = absurd (omega arith)
put_end (v ∷ order) (m ∷ ms) masks (inr e) = absurd (omega arith)

pub loop-vertex-preserved : goal.loop-vertex-preserved
unfolding put_masks
loop-vertex-preserved c = let left = c.in-Some.ensures.steps in rw c.from.ensures (rw (left.0, left.1) at c.loop-vertex.invariant)

pub returns : goal.returns
returns c = sym (put_end _ _ c.loop-vertex.res (elim c.in-None.ensures.steps [ inl e ↦ inl e.1.0 | inr e ↦ inr e.1.0 ])) ∙ c.loop-vertex.invariant
