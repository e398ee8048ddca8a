-- What the search of components leaves, on a graph. Assumes nothing: these are definitions.
use Rattle.std.specs.Prelude.{true, List, ◌≡◌, ℕ, ◌-◌, ◌≤◌, ◌<◌, length}
use Rattle.bitset.specs.Bits.{member}
use Rattle.rules.specs.Edges.{Graph}
use Rattle.rules.specs.Peeling.{is_fixed}
use Rattle.rules.specs.Search.{State, local_graph, local_fixed, search_from}
use Rattle.rules.specs.Components.{components}
use Rattle.rules.specs.Decomposition.{put_masks, Reached, search_all}
use Rattle.adjacency.specs.Members.{members_of}
use Rattle.adjacency.specs.UnitGraph.{unit_graph, fixed_at}
use Rattle.search.specs.declared.limits.Limits.{Limits}
use Rattle.search.specs.declared.limits.Progress.{Progress}
use Rattle.core_search.specs.declared.graph.UnitGraph.{UnitGraph}

-- the search of a component by the rules, with the steps that are left of the budget
abbrev pub search_of : Graph → (ℕ → ℕ) → List ℕ → Limits → Progress → State
search_of g fixed component l p =
    let order = members_of component in
    search_from l.masks l.weight l.budget (local_graph g order) (local_fixed fixed order) (length order) (l.budget - p.left) p.stopped

-- the graph of units that the rules search
abbrev pub graph_of : UnitGraph → Graph
graph_of u = unit_graph u.edges.now.conflicts u.edges.now.stitches u.units.now (length u.units.now)

-- what the search goes by, and of each vertex a place among the masks and a fixed mask that is one of them, where it has one
pub record Given (fixed vertices : List ℕ) (l : Limits) (p : Progress) (result : List ℕ) : Type 0 where
  pub some : 1 ≤ l.masks
  pub masks : l.masks ≤ 8
  pub weight : l.weight ≤ 1000
  pub afford : p.left ≤ l.budget
  pub placed : (u : ℕ) → u < 512 → member vertices u ≡ true → u < length result
  pub fixed_whole : length fixed ≡ 512
  pub fixed_low : (u : ℕ) → u < 512 → member vertices u ≡ true → is_fixed (fixed_at fixed) u ≡ true → fixed_at fixed u < l.masks

-- A component was searched, and its masks put down.
pub record OneSearched (g : Graph) (fixed : ℕ → ℕ) (component : List ℕ) (l : Limits) (p p' : Progress) (result result' : List ℕ) : Type 0 where
  pub steps : l.budget - p'.left ≡ (search_of g fixed component l p).steps
  pub stopped : p'.stopped ≡ (search_of g fixed component l p).stopped
  pub masks : result' ≡ put_masks (members_of component) (search_of g fixed component l p).incumbent result
  pub fewer : p'.left ≤ p.left

-- what the search of some vertices, component by component, makes of the masks, with the steps that are left of the budget
abbrev pub search_all_of : Graph → (ℕ → ℕ) → List ℕ → Limits → Progress → List ℕ → Reached
search_all_of g fixed vertices l p result =
    search_all l.masks l.weight l.budget g fixed (components g (members_of vertices)) (record { steps = l.budget - p.left; stopped = p.stopped; masks = result })

-- The core was searched.
pub record CoreSearched (g : Graph) (fixed : ℕ → ℕ) (core : List ℕ) (l : Limits) (p p' : Progress) (result result' : List ℕ) : Type 0 where
  pub steps : l.budget - p'.left ≡ (search_all_of g fixed core l p result).steps
  pub stopped : p'.stopped ≡ (search_all_of g fixed core l p result).stopped
  pub masks : result' ≡ (search_all_of g fixed core l p result).masks
  pub fewer : p'.left ≤ p.left
