-- One component after the other. The components are found on the units' own words, whose graph joins the same units as g does. Assumes nothing.
use mathlib.Core.Bool.{true, false, not, ◌&&◌}
use mathlib.Core.List.{List, [], ◌∷◌}
use mathlib.Core.Path.{◌≡◌, refl, sym, ap, ◌∙◌}
use Prim.Native.Nat.{ℕ, ◌-◌, ◌≤◌, ◌<◌}
use native.Mathlib.Omega.{arith}
use lib.ListN.{length}
use Rattle.bitset.specs.Bits.{member, First}
use Rattle.bitset.specs.declared.matrix.Matrix.{Matrix}
use Rattle.rules.specs.Edges.{Graph}
use Rattle.rules.specs.Components.{components_for, components}
use Rattle.rules.specs.Decomposition.{Reached, search_all}
use Rattle.rules.proofs.Tests.{both}
use Rattle.adjacency.specs.Adjacency.{word_graph}
use Rattle.adjacency.specs.Members.{members_of}
use Rattle.adjacency.specs.UnitGraph.{fixed_at}
use Rattle.adjacency.proofs.MemberLaws.{members_none}
use Rattle.theory.proofs.Score.{put_length}
use Rattle.theory.proofs.Neighbours.{SameJoined, components_same}
use Rattle.components.specs.Component.{IsComponent}
use Rattle.components.proofs.Taking.{components_left}
use Rattle.search.specs.declared.limits.Limits.{Limits}
use Rattle.search.specs.declared.limits.Progress.{Progress}
use Rattle.core_search.specs.Core.{search_of, search_all_of, Given, OneSearched, CoreSearched}

-- what is left to search, and what it will make
pub record CoreLeft (g : Graph) (fixed core : List ℕ) (l : Limits) (p₀ : Progress) (result₀ : List ℕ) (p : Progress) (result rest : List ℕ) : Type 0 where
  pub given : Given fixed rest l p result
  pub same : search_all_of g (fixed_at fixed) rest l p result ≡ search_all_of g (fixed_at fixed) core l p₀ result₀
  pub size : length result ≡ length result₀
  pub fewer : p.left ≤ p₀.left

pub core_all : {g : Graph} {fixed core : List ℕ} {l : Limits} {p : Progress} {result : List ℕ} → Given fixed core l p result → CoreLeft g fixed core l p result p result core
core_all given = record { given = given; same = refl; size = refl; fewer = omega arith }

module _ {g : Graph} {fixed core : List ℕ} {l : Limits} {p₀ : Progress} {result₀ : List ℕ} {p : Progress} {result rest : List ℕ} (c : CoreLeft g fixed core l p₀ result₀ p result rest) where
  -- where the search stands
  abbrev reached : Reached
  reached = record { steps = l.budget - p.left; stopped = p.stopped; masks = result }

  -- none is left
  pub core_done : ((k : ℕ) → k < 512 → member rest k ≡ false) → CoreSearched g (fixed_at fixed) core l p₀ p result₀ result
  unfolding components_for search_all
  core_done empty =
      let first : First (member rest) 512 = record { within = omega arith; before = empty; found = λ h. absurd (omega arith) } in
      let none : components g (members_of rest) ≡ [] = ap (components g) (members_none rest first) in
      let ended : reached ≡ search_all_of g (fixed_at fixed) core l p₀ result₀
      = ap (λ (cs : List (List ℕ)). search_all l.masks l.weight l.budget g (fixed_at fixed) cs reached) (sym none) ∙ c.same in
      record {
        steps = ap (λ (r : Reached). r.steps) ended;
        stopped = ap (λ (r : Reached). r.stopped) ended;
        masks = ap (λ (r : Reached). r.masks) ended;
        fewer = c.fewer;
      }

  module _ {conflictWords stitchWords : Matrix} (joins : (vertices : List ℕ) → SameJoined g (word_graph conflictWords stitchWords) (members_of vertices))
      {v : ℕ} {component : List ℕ} (small : v < 512) (first : First (member rest) v) (is : IsComponent conflictWords stitchWords rest v component) where
    -- the search may be made
    pub core_given : Given fixed component l p result
    core_given = record {
      some = c.given.some;
      masks = c.given.masks;
      weight = c.given.weight;
      afford = c.given.afford;
      placed = λ u h m. c.given.placed u h (is.within u h m);
      fixed_whole = c.given.fixed_whole;
      fixed_low = λ u h m. c.given.fixed_low u h (is.within u h m);
    }

    module _ (rest' : List ℕ) (p' : Progress) (result' : List ℕ) (gone : (k : ℕ) → k < 512 → member rest' k ≡ (member rest k && not (member component k)))
        (one : OneSearched g (fixed_at fixed) component l p p' result result') where
      one_left : components g (members_of rest) ≡ members_of component ∷ components g (members_of rest')
      one_left =
          components_same (members_of rest) (joins rest)
          ∙ components_left rest rest' small first is gone
          ∙ ap (λ (cs : List (List ℕ)). members_of component ∷ cs) (sym (components_same (members_of rest') (joins rest')))

      one_more : search_all_of g (fixed_at fixed) rest' l p' result' ≡ search_all_of g (fixed_at fixed) rest l p result
      unfolding search_all
      one_more =
          let next : search_all_of g (fixed_at fixed) rest' l p' result' ≡ search_all l.masks l.weight l.budget g (fixed_at fixed) (members_of component ∷ components g (members_of rest')) reached
          = rw (one.steps, one.stopped, one.masks) in
          next ∙ ap (λ (cs : List (List ℕ)). search_all l.masks l.weight l.budget g (fixed_at fixed) cs reached) (sym one_left)

      -- what is left was there
      still : (u : ℕ) → u < 512 → member rest' u ≡ true → member rest u ≡ true
      still u h m = (both (member rest u) (not (member component u)) (sym (gone u h) ∙ m)).0

      pub core_next : CoreLeft g fixed core l p₀ result₀ p' result' rest'
      core_next =
          let kept : length result' ≡ length result = ap length one.masks ∙ put_length (members_of component) (search_of g (fixed_at fixed) component l p).incumbent result in
          record {
            given = record {
              some = c.given.some;
              masks = c.given.masks;
              weight = c.given.weight;
              afford = omega (arith, one.fewer, c.given.afford);
              placed = λ u h m. omega (arith, c.given.placed u h (still u h m), kept);
              fixed_whole = c.given.fixed_whole;
              fixed_low = λ u h m. c.given.fixed_low u h (still u h m);
            };
            same = one_more ∙ c.same;
            size = kept ∙ c.size;
            fewer = omega (arith, one.fewer, c.fewer);
          }
