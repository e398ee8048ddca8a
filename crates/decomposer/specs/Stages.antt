-- What the stages ask and give, on a graph of units. Assumes nothing: these are definitions.
use Rattle.std.specs.Prelude.{true, false, List, ◌≡◌, ℕ, ◌<◌, length, replicate}
use Rattle.bitset.specs.Bits.{member}
use Rattle.rules.specs.declared.layer.Settings.{Settings}
use Rattle.rules.specs.Components.{components}
use Rattle.rules.specs.Edges.{Graph}
use Rattle.rules.specs.Peeling.{is_fixed}
use Rattle.rules.specs.Decomposition.{Reached, search_all, decompose, verdict_of}
use Rattle.adjacency.specs.Members.{members_of}
use Rattle.adjacency.specs.UnitGraph.{fixed_at}
use Rattle.decomposer.specs.declared.stages.Searched.{Searched}

-- each of the vertices has a place among the masks
abbrev pub HasPlaces : List ℕ → List ℕ → Type 0
HasPlaces vertices masks = (u : ℕ) → u < 512 → member vertices u ≡ true → u < length masks

-- where one of the vertices has a fixed mask, that is one of the K masks
pub record HasFixed (K : ℕ) (fixed vertices : List ℕ) : Type 0 where
  pub whole : length fixed ≡ 512
  pub low : (u : ℕ) → u < 512 → member vertices u ≡ true → is_fixed (fixed_at fixed) u ≡ true → fixed_at fixed u < K

-- what the search of the core reaches from these masks, by the rules
abbrev pub search_of_core : Settings → Graph → (ℕ → ℕ) → List ℕ → List ℕ → Reached
search_of_core s g fixed core masks = search_all s.masks s.weight s.budget g fixed (components g (members_of core)) (record { steps = 0; stopped = false; masks = masks })

-- the core was searched
pub record SearchedCore (s : Settings) (g : Graph) (fixed : ℕ → ℕ) (core before after : List ℕ) (r : Searched) : Type 0 where
  pub steps : r.steps ≡ (search_of_core s g fixed core before).steps
  pub verdict : r.verdict ≡ verdict_of (search_of_core s g fixed core before).stopped
  pub masks : after ≡ (search_of_core s g fixed core before).masks

-- what the whole decomposition of these units reaches, by the rules, with so many masks
abbrev pub reached_of : Settings → Graph → (ℕ → ℕ) → List ℕ → ℕ → Reached
reached_of s g fixed all size = decompose s.masks s.weight s.budget g fixed (members_of all) (replicate size 0)

-- the units were decomposed, whatever the masks were before
pub record Decomposed (s : Settings) (g : Graph) (fixed : ℕ → ℕ) (all before after : List ℕ) (r : Searched) : Type 0 where
  pub steps : r.steps ≡ (reached_of s g fixed all (length before)).steps
  pub verdict : r.verdict ≡ verdict_of (reached_of s g fixed all (length before)).stopped
  pub masks : after ≡ (reached_of s g fixed all (length before)).masks
  pub size : length after ≡ length before
