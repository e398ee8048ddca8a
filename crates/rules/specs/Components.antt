-- Components (RULES 5).
use Rattle.std.specs.Prelude.{not, List, [], ◌∷◌, ℕ, zero, suc, length}
use Rattle.std.proofs.Math.Option.{none, some}
use Rattle.rules.specs.Basics.{any_of, find, keep, occurs, without}
use Rattle.rules.specs.Edges.{Graph, joined}

-- As long as a vertex outside is joined to one inside, the lowest such comes in.
unfoldable pub reach_for : ℕ → Graph → List ℕ → List ℕ → List ℕ
reach_for zero g inside outside = inside
reach_for (suc rounds) g inside outside = elim (find (λ v. any_of (joined g v) inside) outside) [
  | none ↦ inside
  | some v ↦ reach_for rounds g (v ∷ inside) (without v outside)
]

-- the component of v among v and the vertices after it, in rising order
abbrev pub component_of : Graph → ℕ → List ℕ → List ℕ
component_of g v after =
    let inside = reach_for (length after) g (v ∷ []) after in
    keep (λ u. occurs u inside) (v ∷ after)

-- the components of a rising list, in the order of their lowest vertices
unfoldable pub components_for : ℕ → Graph → List ℕ → List (List ℕ)
components_for zero g left = []
components_for (suc rounds) g [] = []
components_for (suc rounds) g (v ∷ after) =
    let c = component_of g v after in
    c ∷ components_for rounds g (keep (λ u. not (occurs u c)) after)

abbrev pub components : Graph → List ℕ → List (List ℕ)
components g core = components_for (length core) g core
