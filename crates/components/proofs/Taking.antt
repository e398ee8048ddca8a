-- One component after the other: the lowest vertex that is left and its component are taken out of the set, and the components of what is left are those that
-- follow. Assumes nothing.
use mathlib.Core.Bool.{not, ◌&&◌}
use mathlib.Core.List.{List, [], ◌∷◌}
use mathlib.Core.Path.{◌≡◌, refl, sym, ap, ◌∙◌}
use Prim.Native.Nat.{ℕ, zero, suc, ◌≤◌, ◌<◌}
use native.Mathlib.Omega.{arith}
use lib.ListN.{length}
use Rattle.bitset.specs.Bits.{member, First}
use Rattle.bitset.specs.declared.matrix.Matrix.{Matrix}
use Rattle.rules.specs.Basics.{keep, occurs, without}
use Rattle.rules.specs.Edges.{Graph}
use Rattle.rules.specs.Components.{component_of, components_for, components}
use Rattle.rules.proofs.Lists.{keep_fail, keep_no_longer, occurs_in}
use Rattle.adjacency.specs.Adjacency.{word_graph}
use Rattle.adjacency.specs.Members.{members_of}
use Rattle.adjacency.proofs.MemberLaws.{in_members, members_first, members_rest}
use Rattle.components.specs.Component.{IsComponent}

-- rounds beyond the number of vertices change nothing
rounds_enough : (g : Graph) (n m : ℕ) (xs : List ℕ) → length xs ≤ n → length xs ≤ m → components_for n g xs ≡ components_for m g xs
unfolding components_for
rounds_enough g zero zero xs h k = refl
rounds_enough g zero (suc m) [] h k = refl
rounds_enough g zero (suc m) (x ∷ xs) h k = absurd (omega arith)
rounds_enough g (suc n) zero [] h k = refl
rounds_enough g (suc n) zero (x ∷ xs) h k = absurd (omega arith)
rounds_enough g (suc n) (suc m) [] h k = refl
rounds_enough g (suc n) (suc m) (v ∷ after) h k =
    let c = component_of g v after in
    let rest = keep (λ u. not (occurs u c)) after in
    let fewer = keep_no_longer (λ u. not (occurs u c)) after in
    ap (λ (cs : List (List ℕ)). c ∷ cs) (rounds_enough g n m rest (omega (arith, fewer)) (omega (arith, fewer)))

module _ {conflictWords stitchWords : Matrix} {component : List ℕ} (rest rest' : List ℕ) {v : ℕ} (small : v < 512) (first : First (member rest) v)
    (is : IsComponent conflictWords stitchWords rest v component) (gone : (k : ℕ) → k < 512 → member rest' k ≡ (member rest k && not (member component k))) where
  abbrev g : Graph
  g = word_graph conflictWords stitchWords

  abbrev after : List ℕ
  after = without v (members_of rest)

  members : members_of rest ≡ v ∷ after
  members = members_first rest v small first

  found : members_of component ≡ component_of g v after
  found = is.component after members

  abbrev others : List ℕ
  others = keep (λ u. not (occurs u (component_of g v after))) after

  not_v : keep (λ u. not (occurs u (members_of component))) (v ∷ after) ≡ keep (λ u. not (occurs u (members_of component))) after
  not_v = keep_fail (λ u. not (occurs u (members_of component))) v after (ap not ((occurs_in v (members_of component)).1 ((in_members component v).1 (small, is.first))))

  members_left : members_of rest' ≡ others
  members_left = members_rest rest component rest' gone ∙ ap (keep (λ u. not (occurs u (members_of component)))) members ∙ not_v
      ∙ ap (λ (d : List ℕ). keep (λ u. not (occurs u d)) after) found

  pub components_left : components g (members_of rest) ≡ members_of component ∷ components g (members_of rest')
  unfolding components_for
  components_left =
      ap (components g) members
      ∙ ap (λ (cs : List (List ℕ)). component_of g v after ∷ cs)
      (rounds_enough g (length after) (length others) others (keep_no_longer (λ u. not (occurs u (component_of g v after))) after) (omega arith)
      ∙ ap (components g) (sym members_left))
      ∙ ap (λ (c : List ℕ). c ∷ components g (members_of rest')) (sym found)

  pub fewer_left : length (members_of rest') < length (members_of rest)
  fewer_left =
      let no_more = keep_no_longer (λ u. not (occurs u (component_of g v after))) after in
      omega (arith, ap length members_left, ap length members)
