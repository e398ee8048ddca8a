-- First assignment and branch-and-bound search (RULES 6), in one component. Its vertices stand in rising order, and the search sees only their places in it,
-- 0, 1, ... Masks so far are a list p: the mask of place i stands at i, and the next place is length p. `add p m` is the cost that mask m adds there. `fixed`
-- gives the mask that a place must have, or `unset` where it may have any (RULES 18). `ended` says at which costs of the incumbent a search ends early (RULES 19).
use Rattle.std.specs.Prelude.{Bool, true, false, not, cond, List, [], ◌∷◌, ◌++◌, map, ℕ, zero, suc, ◌+◌, ◌-◌, min, eqb, ltb, length, get_or}
use Rattle.std.proofs.Math.Option.{Option, none, some}
use Rattle.rules.specs.Basics.{given, sum_to, up_to, any_of, occurs}
use Rattle.rules.specs.Settings.{unset}
use Rattle.rules.specs.Edges.{Graph}
use Rattle.rules.specs.Score.{pair_cost}
use Rattle.rules.specs.Peeling.{is_fixed}
use Rattle.rules.specs.Library.{library_bound}

-- the graph of a component's places
abbrev pub local_graph : Graph → List ℕ → Graph
local_graph g order = record {
  conflicts = λ i j. g.conflicts (get_or order i 0) (get_or order j 0);
  stitches = λ i j. g.stitches (get_or order i 0) (get_or order j 0);
}

-- the fixed masks of a component's places
abbrev pub local_fixed : (ℕ → ℕ) → List ℕ → ℕ → ℕ
local_fixed fixed order i = get_or (map fixed order) i unset

-- what mask m adds at the next place, against the earlier places
unfoldable pub added : ℕ → Graph → List ℕ → ℕ → ℕ
added weight g p m = sum_to (λ i. pair_cost weight g i (length p) (get_or p i 0) m) (length p)

-- the cost of p, itself c, with the masks q after it
unfoldable pub total_after : (List ℕ → ℕ → ℕ) → List ℕ → ℕ → List ℕ → ℕ
total_after add p c [] = c
total_after add p c (m ∷ q) = total_after add (p ++ (m ∷ [])) (c + add p m) q

abbrev pub total : (List ℕ → ℕ → ℕ) → List ℕ → ℕ
total add p = total_after add [] 0 p

-- the number below k at which f is least, the lowest on a tie
unfoldable pub cheapest : (ℕ → ℕ) → ℕ → ℕ
cheapest f zero = zero
cheapest f (suc k) = let b = cheapest f k in cond (ltb (f k) (f b)) k b

-- First assignment: each of the places left takes the mask that is picked for it, after those before it.
unfoldable pub first_after : (List ℕ → ℕ) → ℕ → List ℕ → List ℕ
first_after pick zero p = p
first_after pick (suc left) p = first_after pick left (p ++ (pick p ∷ []))

-- picked is the fixed mask, or else the one that adds least
unfoldable pub first_mask : (List ℕ → ℕ → ℕ) → ℕ → (ℕ → ℕ) → List ℕ → ℕ
first_mask add K fixed p = cond (is_fixed fixed (length p)) (fixed (length p)) (cheapest (add p) K)

-- how many different masks are in p
unfoldable pub different : List ℕ → ℕ
different [] = 0
different (m ∷ p) = given (not (occurs m p)) 1 + different p

-- the masks tried after p, in rising order: 0 to the lesser of the number of different masks in p and K - 1
unfoldable pub candidates : ℕ → List ℕ → List ℕ
candidates K p = up_to (suc (min (different p) (K - 1)))

-- The masks tried after p in a component of k places: at a fixed place its mask only; where another place is fixed all K masks, since masks cannot be renamed
-- there; else the candidates.
unfoldable pub candidates_in : ℕ → (ℕ → ℕ) → ℕ → List ℕ → List ℕ
candidates_in K fixed k p =
    cond (is_fixed fixed (length p)) (fixed (length p) ∷ [])
    (cond (any_of (is_fixed fixed) (up_to k)) (up_to K) (candidates K p))

-- Where a search stands: the steps taken, whether a step was due when the budget was used up, and the incumbent (document 01: the holder) with its cost.
pub record State : Type 0 where
  pub steps : ℕ
  pub stopped : Bool
  pub cost : ℕ
  pub incumbent : List ℕ

abbrev pub state : ℕ → Bool → ℕ → List ℕ → State
state n b c h = record { steps = n; stopped = b; cost = c; incumbent = h }

-- a step is due and the budget is used up
abbrev pub stop : State → State
stop s = state s.steps true s.cost s.incumbent

-- one step more is taken
abbrev pub step : State → State
step s = state (suc s.steps) s.stopped s.cost s.incumbent

-- past the last place p, of cost c, is the new incumbent
abbrev pub hold : List ℕ → ℕ → State → State
hold p c s = state s.steps s.stopped c p

-- what goes on from a place: the masks so far, their cost, the state
abbrev pub Next : Type 0
Next = List ℕ → ℕ → State → State

module _ (add : List ℕ → ℕ → ℕ) (ended : ℕ → Bool) (budget : ℕ) where
  -- Tries the masks ms after p, where p costs c. No step is due once the incumbent's cost is one to end at. Each mask tried is one step. A mask whose cost stays
  -- below the incumbent's hands over to the next place.
  unfoldable pub try_masks : Next → List ℕ → List ℕ → ℕ → State → State
  try_masks next [] p c s = s
  try_masks next (m ∷ ms) p c s = elim (ended s.cost) [
    | true ↦ s
    | false ↦ elim (ltb s.steps budget) [
      | false ↦ stop s
      | true ↦ elim (ltb (c + add p m) s.cost) [
        | true ↦ try_masks next ms p c (next (p ++ (m ∷ [])) (c + add p m) (step s))
        | false ↦ try_masks next ms p c (step s)
      ]
    ]
  ]

module _ (add : List ℕ → ℕ → ℕ) (cands : List ℕ → List ℕ) (ended : ℕ → Bool) (budget : ℕ) where
  -- The search (document 01: the walk) over the places left after p, where p costs c. A place hands over to its masks.
  unfoldable pub search_places : ℕ → Next
  search_places zero p c s = hold p c s
  search_places (suc left) p c s = try_masks add ended budget (search_places left) (cands p) p c s

-- whether a cost is the one to end at, where there is one
abbrev pub at_bound : Option ℕ → ℕ → Bool
at_bound none c = false
at_bound (some b) c = eqb c b

-- The search of one component of k places, from its first assignment on, with the steps taken before it. Where the library serves the component, its bound ends
-- the search.
abbrev pub search_from : ℕ → ℕ → ℕ → Graph → (ℕ → ℕ) → ℕ → ℕ → Bool → State
search_from K weight budget g fixed k steps stopped =
    let add = added weight g in
    let first = first_after (first_mask add K fixed) k [] in
    search_places add (candidates_in K fixed k) (at_bound (library_bound K weight g fixed k)) budget k [] 0 (state steps stopped (total add first) first)

-- ---- The search without a budget

-- Where it stands: the steps taken, and the incumbent with its cost.
pub record Progress : Type 0 where
  pub steps : ℕ
  pub cost : ℕ
  pub incumbent : List ℕ

abbrev pub progress : ℕ → ℕ → List ℕ → Progress
progress n c h = record { steps = n; cost = c; incumbent = h }

-- one step more
abbrev pub further : Progress → Progress
further s = progress (suc s.steps) s.cost s.incumbent

module _ (add : List ℕ → ℕ → ℕ) (ended : ℕ → Bool) where
  -- the masks ms after p, as in `try_masks`
  unfoldable pub complete_masks : (List ℕ → ℕ → Progress → Progress) → List ℕ → List ℕ → ℕ → Progress → Progress
  complete_masks next [] p c s = s
  complete_masks next (m ∷ ms) p c s = elim (ended s.cost) [
    | true ↦ s
    | false ↦ elim (ltb (c + add p m) s.cost) [
      | true ↦ complete_masks next ms p c (next (p ++ (m ∷ [])) (c + add p m) (further s))
      | false ↦ complete_masks next ms p c (further s)
    ]
  ]

module _ (add : List ℕ → ℕ → ℕ) (cands : List ℕ → List ℕ) (ended : ℕ → Bool) where
  -- the places left after p, as in `search_places`
  unfoldable pub complete_places : ℕ → List ℕ → ℕ → Progress → Progress
  complete_places zero p c s = progress s.steps c p
  complete_places (suc left) p c s = complete_masks add ended (complete_places left) (cands p) p c s

-- The whole search of one component of k places, from its first assignment on.
abbrev pub complete_from : ℕ → ℕ → Graph → (ℕ → ℕ) → ℕ → Progress
complete_from K weight g fixed k =
    let add = added weight g in
    let first = first_after (first_mask add K fixed) k [] in
    complete_places add (candidates_in K fixed k) (at_bound (library_bound K weight g fixed k)) k [] 0 (progress 0 (total add first) first)
