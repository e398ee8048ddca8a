-- The stages on the graph of units. Peeling, components and putting back are done on the units' words, which have the neighbours of that graph, so what is
-- peeled, searched and put back is what the rules reach (`all_decomposed`). Assumes nothing.
use mathlib.Core.Bool.{true, false}
use mathlib.Core.List.{List, Memᴰ}
use mathlib.Core.Path.{◌≡◌, sym, ap, ◌∙◌}
use Prim.Native.Nat.{ℕ, ◌<◌}
use native.Mathlib.Omega.{arith}
use lib.ListN.{length, get_or, replicate, length-replicate}
use Rattle.bitset.specs.declared.matrix.Matrix.{Matrix}
use Rattle.rules.specs.declared.layer.Settings.{Settings}
use Rattle.rules.specs.Edges.{Graph}
use Rattle.rules.specs.Peeling.{peel}
use Rattle.rules.specs.Components.{components}
use Rattle.rules.specs.Decomposition.{Reached, search_all, with_returned, verdict_of}
use Rattle.rules.specs.Settings.{settings_in_range}
use Rattle.rules.proofs.Ranges.{settings_facts}
use Rattle.adjacency.specs.Adjacency.{word_graph}
use Rattle.adjacency.specs.Members.{members_of}
use Rattle.adjacency.specs.UnitGraph.{unit_graph, fixed_at}
use Rattle.adjacency.proofs.MemberLaws.{in_members}
use Rattle.units.specs.Merged.{Merged}
use Rattle.units.proofs.UnitNeighbours.{unit_neighbours}
use Rattle.reduction.specs.declared.peeling.Removal.{Removal}
use Rattle.reduction.specs.Removals.{PeeledTo}
use Rattle.reduction.specs.Returning.{Masked, Placeable, PutBack}
use Rattle.reduction.proofs.Reduced.{peeled_placeable, peeled_masked, put_back_all}
use Rattle.rows.proofs.Rows.{all_small}
use Rattle.theory.proofs.Fixed.{FixedBelow}
use Rattle.theory.proofs.SameEdges.{components_in}
use Rattle.theory.proofs.SearchAll.{all_length, all_below}
use Rattle.theory.proofs.Neighbours.{SameNeighbours, joined_same, components_same, stages, decompose_stages}
use Rattle.decomposer.specs.declared.stages.Searched.{Searched}
use Rattle.decomposer.specs.Stages.{HasPlaces, HasFixed, SearchedCore, reached_of, Decomposed}

module _ (s : Settings) (in_range : settings_in_range s ≡ true) {conflicts stitches near stitched : Matrix} {units : List ℕ} {n : ℕ}
    (mergedNear : Merged conflicts units n near) (mergedStitched : Merged stitches units n stitched)
    {fixed all core : List ℕ} {removed : List Removal}
    (peeled : PeeledTo s.masks (word_graph near stitched) (fixed_at fixed) all core removed)
    (before : List ℕ) (placed : HasPlaces all before) (known : HasFixed s.masks fixed all) {start : List ℕ} (zeros : start ≡ replicate (length before) 0) where
  -- the graph of units, and that of its words
  abbrev g : Graph
  g = unit_graph conflicts stitches units n

  abbrev h : Graph
  h = word_graph near stitched

  some : 0 < s.masks
  some = omega (arith, (settings_facts s in_range).masks.low)

  same_there : (vertices : List ℕ) → SameNeighbours g h (members_of vertices)
  same_there vertices = unit_neighbours mergedNear mergedStitched (λ u m. ((in_members vertices u).0 m).0)

  start_length : length start ≡ length before
  start_length = ap length zeros ∙ length-replicate (length before) 0

  pub core_places : HasPlaces core start
  core_places u l m = omega (arith, start_length, placed u l (peeled.inside u m))

  pub core_fixed : HasFixed s.masks fixed core
  core_fixed = record { whole = known.whole; low = λ u l m. known.low u l (peeled.inside u m) }

  module _ {found : List ℕ} {r : Searched} (searched : SearchedCore s g (fixed_at fixed) core start found r) where
    found_length : length found ≡ length before
    found_length = ap length searched.masks ∙ all_length s.masks s.weight g (fixed_at fixed) s.budget (components g (members_of core)) _ ∙ start_length

    found_low : (i : ℕ) → get_or found i 0 < 8
    found_low i =
        let start-low : (j : ℕ) → get_or start j 0 < s.masks = λ j. rw zeros (omega (arith, all_small (length before) 0 j, some)) in
        let fixed_below : (c : List ℕ) → Memᴰ c (components g (members_of core)) → FixedBelow s.masks (fixed_at fixed) c
        = λ c m u k. let is = (in_members core u).0 (components_in g (members_of core) c m u k) in core_fixed.low u is.0 is.1 in
        let low = all_below s.masks s.weight g (fixed_at fixed) s.budget some (components g (members_of core)) fixed_below (record { steps = 0; stopped = false; masks = start }) start-low i in
        omega (arith, ap (λ (l : List ℕ). get_or l i 0) searched.masks, low, (settings_facts s in_range).masks.high)

    found_places : HasPlaces all found
    found_places u l m = omega (arith, found_length, placed u l m)

    -- what was peeled may be put back
    pub may_return : Placeable removed found
    may_return = peeled_placeable peeled found_places

    pub may_be_joined : Masked core found
    may_be_joined = peeled_masked peeled found_places found_low

    module _ {after : List ℕ} (back : PutBack s.masks near removed core found after) where
      on_words : reached_of s g (fixed_at fixed) all (length before) ≡ stages s.masks s.weight s.budget h g (fixed_at fixed) (members_of all) (replicate (length before) 0)
      on_words = decompose_stages s.masks s.weight s.budget (fixed_at fixed) (members_of all) (replicate (length before) 0) (same_there all)

      -- the search that the rules make of the core
      searches : search_all s.masks s.weight s.budget g (fixed_at fixed) (components g (members_of core)) (record { steps = 0; stopped = false; masks = start })
          ≡ search_all s.masks s.weight s.budget g (fixed_at fixed) (components h (peel s.masks h (fixed_at fixed) (members_of all)).core) (record { steps = 0; stopped = false; masks = replicate (length before) 0 })
      searches = rw (components_same (members_of core) (joined_same (same_there core)), peeled.core, zeros)

      pub all_decomposed : Decomposed s g (fixed_at fixed) all before after r
      all_decomposed = record {
        steps = searched.steps ∙ ap (λ (w : Reached). w.steps) searches ∙ sym (ap (λ (w : Reached). w.steps) on_words);
        verdict = searched.verdict ∙ ap (λ (w : Reached). verdict_of w.stopped) searches ∙ sym (ap (λ (w : Reached). verdict_of w.stopped) on_words);
        masks = put_back_all stitched peeled back
            ∙ ap (with_returned s.masks h (peel s.masks h (fixed_at fixed) (members_of all))) (searched.masks ∙ ap (λ (w : Reached). w.masks) searches)
            ∙ sym (ap (λ (w : Reached). w.masks) on_words);
        size = back.size ∙ found_length;
      }
