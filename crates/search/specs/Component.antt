-- The search of one component on its local problem. Assumes nothing: these are definitions.
use Rattle.std.specs.Prelude.{List, [], ◌≡◌, ℕ, ◌-◌, ◌≤◌, length, take, Option}
use Rattle.rules.specs.Search.{State, state, candidates_in, first_after, first_mask, total, search_places}
use Rattle.adjacency.specs.UnitGraph.{fixed_at}
use Rattle.places.specs.Local.{Neighbours, local_added}
use Rattle.first_assignment.specs.First.{FixedLow}
use Rattle.search.specs.declared.limits.Limits.{Limits}
use Rattle.search.specs.declared.limits.Progress.{Progress}
use Rattle.search.specs.declared.limits.Best.{Best}
use Rattle.search.specs.Branch.{ends_at}

-- the search of the rules (`search_from`) with the local problem's added cost: from the first assignment on, with the steps taken before
abbrev pub search_local : List Neighbours → List ℕ → Limits → Option ℕ → Progress → State
search_local places fixed l end p =
    let add = local_added l.weight places in
    let own = fixed_at fixed in
    let first = first_after (first_mask add l.masks own) (length fixed) [] in
    search_places add (candidates_in l.masks own (length fixed)) (ends_at end) l.budget (length fixed) [] 0 (state (l.budget - p.left) p.stopped (total add first) first)

-- where the search of a component of n places stands in the end
abbrev pub state_after : ℕ → Limits → Progress → Best → State
state_after n l p best = state (l.budget - p.left) p.stopped best.cost (take n best.masks)

-- the fixed masks of places, what their search goes by, and the steps left
pub record Posed (fixed : List ℕ) (l : Limits) (p : Progress) : Type 0 where
  pub some : 1 ≤ l.masks
  pub masks : l.masks ≤ 8
  pub weight : l.weight ≤ 1000
  pub fixed_low : FixedLow (fixed_at fixed) (length fixed) l.masks
  pub afford : p.left ≤ l.budget

-- It was searched.
pub record Searched (places : List Neighbours) (fixed : List ℕ) (l : Limits) (end : Option ℕ) (p p' : Progress) (best : Best) : Type 0 where
  pub searched : state_after (length fixed) l p' best ≡ search_local places fixed l end p
  pub fewer : p'.left ≤ p.left
