-- The search of a component begins at place 0, with the first assignment as the incumbent, unless it costs what the search ends at. Assumes nothing.
use mathlib.Core.Bool.{Bool, true, false}
use mathlib.Core.List.{List, [], ◌++◌}
use mathlib.Core.Logic.{◌⊎◌, inl, inr, ⊎_elim}
use mathlib.Core.Path.{◌≡◌, refl, sym, ap, ◌∙◌}
use Prim.Native.Nat.{ℕ, ◌-◌}
use native.Mathlib.Omega.{arith}
use lib.Dec.{eqb}
use lib.ListN.{length, take, length-append}
use lib.Seq.{take-append_seam}
use borrow.Author.Tests.{le-ltb, eq-eqb, eqb-true}
use Rattle.std.specs.Prelude.{Option, Some, None}
use Rattle.std.specs.Option.{option_eq}
use Rattle.rules.specs.Basics.{any_of}
use Rattle.rules.specs.Search.{different, candidates_in, first_after, first_mask, total}
use Rattle.rules.proofs.Tests.{same, clash}
use Rattle.theory.proofs.Search.{first_ended}
use Rattle.adjacency.specs.UnitGraph.{fixed_at}
use Rattle.places.specs.declared.local.Local.{Local}
use Rattle.first_assignment.specs.First.{FirstOf}
use Rattle.search.specs.declared.limits.Limits.{Limits}
use Rattle.search.specs.declared.limits.Progress.{Progress}
use Rattle.search.specs.declared.incumbent.Walk.{Walk}
use Rattle.search.specs.declared.branch.Problem.{Problem}
use Rattle.search.specs.Branch.{ends_at, left_in, adds_in, size_in, fixed_in, any_fixed, state_in, places_from, Used, renamed, every, Ready, Placed}
use Rattle.search.specs.Component.{search_local, Posed, Searched}

-- how the code compares a cost with the one to end at
pub ends_as : (end : Option ℕ) (c : ℕ) → option_eq eqb end (Some c) ≡ ends_at end c
ends_as None c = refl
ends_as (Some b) c = same (eqb b c) (eqb c b) (λ e. eq-eqb c b (sym (eqb-true b c e))) (λ e. eq-eqb b c (sym (eqb-true c b e)))

-- before the first place no mask is in use, or all are taken to be
used_none : {K : ℕ} {someFixed : Bool} {u : ℕ} → ((someFixed ≡ true) × (u ≡ K)) ⊎ ((someFixed ≡ false) × (u ≡ 0)) → Used K someFixed [] u
unfolding different any_of
used_none (inl h) = every h.0 h.1
used_none {u = u} (inr h) = renamed h.0 (sym h.1) (λ m. sym (le-ltb m u (omega (arith, h.1))))

-- the walk at the first place, with the first assignment as the incumbent
abbrev pub begun : List ℕ → ℕ → Bool → Walk
begun partial c stopped = record { partial = partial; incumbent = partial; cost = c; stopped = stopped; ended = None }

module _ (own : Local) (l : Limits) (end : Option ℕ) {q : Progress} (weight : ℕ) (weighs : weight ≡ l.weight)
    (posed : Posed own.fixed.now l q) (rest : List ℕ) (long : length rest ≡ 512 - length own.fixed.now)
    {front : List ℕ} {c : ℕ} (first : FirstOf l.masks weight own.lists.now (fixed_at own.fixed.now) (length own.fixed.now) front c) where
  -- the first assignment fills the front of the array
  abbrev partial : List ℕ
  partial = front ++ rest

  filled : take (length own.fixed.now) partial ≡ front
  filled = ap (λ (n : ℕ). take n partial) (sym first.size) ∙ take-append_seam front rest

  abbrev b : Problem
  b = record { local = own; table = weight; limits = l; end = end }

  pub ready_first : ends_at end c ≡ false → (u : ℕ)
      → ((any_fixed b ≡ true) × (u ≡ l.masks)) ⊎ ((any_fixed b ≡ false) × (u ≡ 0)) → Ready b (begun partial c q.stopped) 0 0 u q.left
  ready_first on u w = record {
    sound = record { some = posed.some; masks = posed.masks; fixed_low = posed.fixed_low };
    whole = omega (arith, length-append front rest, first.size, own.few);
    at = omega arith;
    cheap = omega arith;
    low = λ i h. absurd (omega arith);
    within = ⊎_elim (λ h. omega (arith, h.1)) (λ h. omega (arith, h.1)) w;
    used = used_none w;
    afford = posed.afford;
    ended = λ e. clash e refl;
    agrees = sym on;
  }

  abbrev firsts : List ℕ
  firsts = first_after (first_mask (adds_in b) l.masks (fixed_in b)) (size_in b) []

  cost_first : c ≡ total (adds_in b) firsts
  cost_first = first.cost ∙ ap (total (adds_in b)) first.masks

  starts_there : places_from b 0 (take 0 partial) 0 (state_in b (begun partial c q.stopped) q.left) ≡ search_local own.lists.now own.fixed.now l end q
  starts_there =
      let all : size_in b - 0 ≡ size_in b = omega arith in
      rw (all, cost_first, filled, first.masks, weighs)

  -- no step is due
  pub searched_ended : ends_at end c ≡ true → Searched own.lists.now own.fixed.now l end q q (record { masks = partial; cost = c })
  searched_ended over =
      let at_end : ends_at end (total (adds_in b) firsts) ≡ true = ap (ends_at end) (sym cost_first) ∙ over in
      let done = first_ended (adds_in b) (candidates_in l.masks (fixed_in b) (size_in b)) (ends_at end) l.budget (first_mask (adds_in b) l.masks (fixed_in b)) (size_in b) (l.budget - q.left) q.stopped at_end in
      record { searched = rw (cost_first, filled, first.masks, ← weighs) (sym done); fewer = omega arith }

  pub searched_first : {w : Walk} {left : ℕ} → Placed b (begun partial c q.stopped) w 0 0 q.left left
      → Searched own.lists.now own.fixed.now l end q (record { left = left_in w left; stopped = w.stopped }) (record { masks = w.incumbent; cost = w.cost })
  searched_first placed = record { searched = placed.searched ∙ starts_there; fewer = placed.kept.fewer }
