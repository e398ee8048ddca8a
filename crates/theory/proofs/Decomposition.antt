-- The whole decomposition on a list of vertices. Putting back adds no cost to the core's, the core's cost is the sum of its components', and that is the
-- incumbents' costs together (`decomposed`). A rival costs at least what it costs on the core, which splits into the same components, so searches
-- that were not stopped are cheapest on the whole list (`decompose_cheapest`). A vertex with a fixed mask is in the core, and its search keeps that mask. Two
-- budgets have the same core and the same components, so they compare as their searches do (`larger_same`, `larger_no_dearer`), and so do a budget and none
-- (`decompose_follows`).
use mathlib.Core.Bool.{true, false}
use mathlib.Core.List.{List, Memᴰ}
use mathlib.Core.Logic.{inl, inr, ⊎_elim}
use mathlib.Core.Path.{◌≡◌, refl, ap, ◌∙◌}
use Prim.Native.Nat.{ℕ, ◌≤◌, ◌<◌}
use native.Mathlib.Omega.{arith}
use lib.ListN.{length}
use Rattle.rules.specs.Edges.{Graph}
use Rattle.rules.specs.Score.{mask_of}
use Rattle.rules.specs.Peeling.{peel}
use Rattle.rules.specs.Components.{components}
use Rattle.rules.specs.Decomposition.{Reached, search_all, with_returned, decompose, complete}
use Rattle.rules.proofs.Edges.{Undirected, joined_sym}
use Rattle.rules.proofs.Lists.{◌∈◌}
use Rattle.rules.proofs.Tests.{clash}
use Rattle.theory.proofs.Cost.{cost_in, cost_part, cost_apart}
use Rattle.theory.proofs.Peeling.{parts, gone_free}
use Rattle.theory.proofs.Fixed.{May, FixedBelow}
use Rattle.theory.proofs.PuttingBack.{Ready, returned}
use Rattle.theory.proofs.Components.{Partition, components_partition, component_in, partition_component, partition_sum, sum_parts}
use Rattle.theory.proofs.Reach.{Symmetric}
use Rattle.theory.proofs.SearchAll.{costs_of, Settled, settled, all_cheapest, all_within, all_spent, Compared, all_larger, FollowsAll, all_follows}

-- nothing is searched yet
abbrev pub unsearched : List ℕ → Reached
unsearched masks = record { steps = 0; stopped = false; masks = masks }

abbrev pub core : ℕ → Graph → (ℕ → ℕ) → List ℕ → List ℕ
core K g fixed vs = (peel K g fixed vs).core

-- what is reached when removed vertices are back
abbrev finished : ℕ → Graph → (ℕ → ℕ) → List ℕ → Reached → Reached
finished K g fixed vs s = record { steps = s.steps; stopped = s.stopped; masks = with_returned K g (peel K g fixed vs) s.masks }

-- what the incumbents of all components cost together
abbrev pub incumbents_cost : ℕ → ℕ → ℕ → Graph → (ℕ → ℕ) → List ℕ → List ℕ → ℕ
incumbents_cost K W budget g fixed vs masks = costs_of K W g fixed budget (components g (core K g fixed vs)) (unsearched masks)

-- What the decomposition of the vertices vs reaches.
pub record Decomposed (K W : ℕ) (budget : ℕ) (g : Graph) (fixed : ℕ → ℕ) (vs masks : List ℕ) (r : Reached) : Type 0 where
  pub size : length r.masks ≡ length masks
  pub outside : (u : ℕ) → (u ∈ vs → ⊥) → mask_of r.masks u ≡ mask_of masks u
  pub fits : (u : ℕ) → u ∈ vs → May K fixed u (mask_of r.masks u)
  pub cost : cost_in W g (mask_of r.masks) vs ≡ incumbents_cost K W budget g fixed vs masks

module _ (K W : ℕ) (pos : 0 < K) {g : Graph} (undirected : Undirected g) (fixed : ℕ → ℕ) {vs masks : List ℕ} (ready : Ready g masks vs)
    (low : FixedBelow K fixed vs) where
  symmetric : Symmetric g
  symmetric = joined_sym undirected

  partition : Partition g (core K g fixed vs) (components g (core K g fixed vs))
  partition = components_partition g symmetric (core K g fixed vs)

  -- the core costs what its components cost together
  core_cost : (a : ℕ → ℕ) → cost_in W g a (core K g fixed vs) ≡ sum_parts (cost_in W g a) (components g (core K g fixed vs))
  unfolding cost_in
  core_cost a = partition_sum (cost_in W g a) refl (cost_apart W undirected a) partition

  module _ (budget : ℕ) where
    searched : Settled K W g fixed budget (core K g fixed vs) (components g (core K g fixed vs)) (unsearched masks) (search_all K W budget g fixed (components g (core K g fixed vs)) (unsearched masks))
    searched =
        let p = parts K g fixed (length vs) vs in
        settled K W pos undirected fixed budget partition (p.distinct ready.distinct) (λ u m. low u (p.core_in u m)) (unsearched masks) (λ u m. ready.placed u (p.core_in u m))

    pub decomposed : Decomposed K W budget g fixed vs masks (decompose K W budget g fixed vs masks)
    unfolding decompose
    decomposed =
        let s = searched in
        let p = parts K g fixed (length vs) vs in
        let r = returned K undirected fixed (search_all K W budget g fixed (components g (core K g fixed vs)) (unsearched masks)).masks (length vs) vs
        (record { distinct = ready.distinct; placed = λ v m. rw s.size (ready.placed v m); loopless = ready.loopless }) in
        record {
          size = r.size ∙ s.size;
          outside = λ u n. r.outside u n ∙ s.outside u (λ m. n (p.core_in u m));
          fits = λ u m. record {
            below = r.below (λ w n. (s.fits w n).below) u m;
            kept = λ e. ⊎_elim
                (λ n. r.on_core u n ∙ (s.fits u n).kept e)
                (λ n. clash e (gone_free K g fixed (length vs) vs u n))
                (p.cover u m);
          };
          cost = r.cost W ∙ core_cost _ ∙ s.cost;
        }

    -- a search that was not stopped leaves no cheaper masks
    pub decompose_cheapest : (decompose K W budget g fixed vs masks).stopped ≡ false → (a : ℕ → ℕ) → ((u : ℕ) → u ∈ vs → May K fixed u (a u))
        → cost_in W g (mask_of (decompose K W budget g fixed vs masks).masks) vs ≤ cost_in W g a vs
    unfolding decompose
    decompose_cheapest e a l =
        let p = parts K g fixed (length vs) vs in
        let cs = components g (core K g fixed vs) in
        let inside : (c : List ℕ) → Memᴰ c cs → (u : ℕ) → u ∈ c → May K fixed u (a u)
        = λ c m u i. l u (p.core_in u (component_in (partition_component symmetric partition m) i)) in
        let part : cost_in W g a (core K g fixed vs) ≤ cost_in W g a vs = rw p.kept (cost_part W undirected a _ vs) in
        omega (arith, decomposed.cost, all_cheapest K W pos undirected fixed budget cs (unsearched masks) e a inside, core_cost a)

    -- steps stay within the budget, and are the budget when stopped
    pub decompose_within : (decompose K W budget g fixed vs masks).steps ≤ budget
    unfolding decompose
    decompose_within = all_within K W g fixed budget (components g (core K g fixed vs)) (unsearched masks) (omega arith)

    pub decompose_spent : (decompose K W budget g fixed vs masks).stopped ≡ true → (decompose K W budget g fixed vs masks).steps ≡ budget
    unfolding decompose
    decompose_spent = all_spent K W g fixed budget (components g (core K g fixed vs)) (unsearched masks) (omega arith) (λ e. clash e refl)

  -- a larger budget
  module _ {b₁ b₂ : ℕ} (le : b₁ ≤ b₂) where
    compared : let cs = components g (core K g fixed vs) in
        Compared K W g fixed b₁ b₂ cs (unsearched masks) (unsearched masks) (search_all K W b₁ g fixed cs (unsearched masks)) (search_all K W b₂ g fixed cs (unsearched masks))
    compared = all_larger K W g fixed le (components g (core K g fixed vs)) (unsearched masks) (unsearched masks) (inl (refl, refl))

    -- it costs no more
    pub larger_no_dearer : cost_in W g (mask_of (decompose K W b₂ g fixed vs masks).masks) vs ≤ cost_in W g (mask_of (decompose K W b₁ g fixed vs masks).masks) vs
    larger_no_dearer = omega (arith, (decomposed b₁).cost, (decomposed b₂).cost, compared.no_dearer)

    -- it does the same where the smaller one was not used up
    pub larger_same : (decompose K W b₁ g fixed vs masks).stopped ≡ false → decompose K W b₂ g fixed vs masks ≡ decompose K W b₁ g fixed vs masks
    unfolding decompose
    larger_same e = ap (finished K g fixed vs) (compared.same e refl)

-- A budget and none: they have the same core and the same components.
module _ (K W budget : ℕ) (g : Graph) (fixed : ℕ → ℕ) (vs masks : List ℕ) where
  pub decompose_follows : FollowsAll budget (decompose K W budget g fixed vs masks) (complete K W g fixed vs masks)
  unfolding decompose complete
  decompose_follows =
      ⊎_elim
      (λ e. inl (e.0, ap (finished K g fixed vs) e.1))
      (λ s. inr s)
      (all_follows K W g fixed budget (components g (core K g fixed vs)) (unsearched masks) (record { steps = 0; masks = masks }) (inl (omega arith, refl)))
