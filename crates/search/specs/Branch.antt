-- What the search's functions say: when a call may be made, and what it leaves. Assumes nothing: these are definitions.
use Rattle.std.specs.Prelude.{Bool, true, false, cond, List, ◌≡◌, ℕ, suc, ◌-◌, ◌*◌, ◌≤◌, ◌<◌, min, eqb, ltb, length, get_or, take, Option, Some, None, is_some, unwrap_or}
use Rattle.rules.specs.Basics.{up_to, up_from, any_of, occurs}
use Rattle.rules.specs.Peeling.{is_fixed}
use Rattle.rules.specs.Search.{different, candidates_in, State, state, try_masks, search_places}
use Rattle.adjacency.specs.UnitGraph.{fixed_at}
use Rattle.places.specs.Local.{local_added}
use Rattle.first_assignment.specs.First.{FixedLow}
use Rattle.search.specs.declared.incumbent.Walk.{Walk}
use Rattle.search.specs.declared.branch.Problem.{Problem}

-- whether a cost is the one to end at, where there is one
abbrev pub ends_at : Option ℕ → ℕ → Bool
ends_at None c = false
ends_at (Some b) c = eqb c b

-- whether the search has ended
abbrev pub has_ended : Walk → Bool
has_ended w = is_some w.ended

-- the steps left, where so many were handed on: a search that has ended keeps them aside
abbrev pub left_in : Walk → ℕ → ℕ
left_in w left = unwrap_or w.ended left

-- a step was due beyond the budget, unless the search has ended
abbrev pub due_in : Walk → Walk
due_in w = cond (has_ended w) w (record w { stopped = true })

-- the partial assignment is the incumbent, and the steps left are kept where its cost is the one to end at
abbrev pub found_in : Option ℕ → Walk → ℕ → ℕ → Walk
found_in end w c left = record w { incumbent = w.partial; cost = c; ended = cond (ends_at end c) (Some left) w.ended }

-- what mask m adds at the next place
abbrev pub adds_in : Problem → List ℕ → ℕ → ℕ
adds_in b = local_added b.table b.local.lists.now

-- how many places there are, and their fixed masks
abbrev pub size_in : Problem → ℕ
size_in b = length b.local.fixed.now

abbrev pub fixed_in : Problem → ℕ → ℕ
fixed_in b = fixed_at b.local.fixed.now

-- whether a place is fixed
abbrev pub any_fixed : Problem → Bool
any_fixed b = any_of (is_fixed (fixed_in b)) (up_to (size_in b))

-- how many masks are tried at a place that is not fixed, where u are in use
abbrev pub tried_in : Problem → ℕ → ℕ
tried_in b u = min (suc u) b.limits.masks

-- where the search stands, with so many steps of its budget handed on
abbrev pub state_in : Problem → Walk → ℕ → State
state_in b w left = state (b.limits.budget - left_in w left) w.stopped w.cost (take (size_in b) w.incumbent)

-- the search of the rules on the local problem, from a place on
abbrev pub places_from : Problem → ℕ → List ℕ → ℕ → State → State
places_from b k =
    search_places (adds_in b) (candidates_in b.limits.masks (fixed_in b) (size_in b)) (ends_at b.end) b.limits.budget (size_in b - k)

-- some masks tried at a place, where the search goes on from the next one
abbrev pub masks_from : Problem → ℕ → List ℕ → List ℕ → ℕ → State → State
masks_from b k = try_masks (adds_in b) (ends_at b.end) b.limits.budget (places_from b (suc k))

-- The masks in use before a place, of K. Where no place is fixed they are u different ones, those below u. Where one is fixed all K are taken to be in use.
pub data Used (K : ℕ) (someFixed : Bool) (q : List ℕ) (u : ℕ) : Type 0 where
  renamed : someFixed ≡ false → different q ≡ u → ((m : ℕ) → occurs m q ≡ ltb m u) → Used K someFixed q u
  every : someFixed ≡ true → u ≡ K → Used K someFixed q u

-- A problem that can be searched.
pub record Sound (b : Problem) : Type 0 where
  pub some : 1 ≤ b.limits.masks
  pub masks : b.limits.masks ≤ 8
  pub fixed_low : FixedLow (fixed_in b) (size_in b) b.limits.masks

-- The masks before place p: they cost c, at most so much for each place, and u are in use. A search that has ended hands on no steps.
pub record Ready (b : Problem) (w : Walk) (p c u left : ℕ) : Type 0 where
  pub sound : Sound b
  pub whole : length w.partial ≡ 512
  pub at : p ≤ size_in b
  pub cheap : c ≤ 131_715_584 * p
  pub low : (i : ℕ) → i < p → get_or w.partial i 0 < 8
  pub within : u ≤ b.limits.masks
  pub used : Used b.limits.masks (any_fixed b) (take p w.partial) u
  pub afford : left_in w left ≤ b.limits.budget
  pub ended : has_ended w ≡ true → left ≡ 0
  pub agrees : has_ended w ≡ ends_at b.end w.cost

-- the row of what masks add at place p
pub record RowOf (b : Problem) (w : Walk) (p : ℕ) (row : List ℕ) : Type 0 where
  pub adds : (m : ℕ) → m < 8 → get_or row m 0 ≡ adds_in b (take p w.partial) m
  pub small : (m : ℕ) → m < 8 → get_or row m 0 ≤ 131_715_584

-- what a call leaves as it was
pub record Kept (b : Problem) (w w' : Walk) (p left left' : ℕ) : Type 0 where
  pub before : take p w'.partial ≡ take p w.partial
  pub whole : length w'.partial ≡ 512
  pub fewer : left_in w' left' ≤ left_in w left
  pub ended : has_ended w' ≡ true → left' ≡ 0
  pub agrees : has_ended w' ≡ ends_at b.end w'.cost

pub record Placed (b : Problem) (w w' : Walk) (p c left left' : ℕ) : Type 0 where
  pub searched : state_in b w' left' ≡ places_from b p (take p w.partial) c (state_in b w left)
  pub kept : Kept b w w' p left left'

pub record Masked (b : Problem) (w w' : Walk) (p c left first last left' : ℕ) : Type 0 where
  pub searched : state_in b w' left' ≡ masks_from b p (up_from first (last - first)) (take p w.partial) c (state_in b w left)
  pub kept : Kept b w w' p left left'
