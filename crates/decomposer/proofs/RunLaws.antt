-- The run. The words of a layer have its edges and the array its units, so what was decomposed are the layer's units; each piece gets its unit's mask, and
-- with the score that is the run, of which demand 3 holds. Assumes nothing.
use mathlib.Core.Bool.{true, not, ◌&&◌}
use mathlib.Core.List.{List, [], ◌∷◌}
use mathlib.Core.Path.{◌≡◌, refl, sym, ap, subst, subst⁻¹, ◌∙◌}
use Prim.Native.Nat.{ℕ, ◌≤◌, ◌<◌}
use native.Mathlib.Omega.{arith}
use lib.Dec.{eqb}
use lib.ListN.{length, replicate}
use Rattle.std.specs.Prelude as std
use Rattle.std.specs.Prelude.{None, Some}
use Rattle.bitset.specs.declared.matrix.Matrix.{Matrix}
use Rattle.rules.specs.declared.layer.Settings.{Settings}
use Rattle.rules.specs.declared.layer.Piece.{Piece}
use Rattle.rules.specs.declared.answers.Score.{Score}
use Rattle.rules.specs.declared.answers.Decomposition.{Decomposition}
use Rattle.rules.specs.declared.refusal.Place.{Place}
use Rattle.rules.specs.Basics.{up_to, found_at}
use Rattle.rules.specs.Settings.{unset, fixed_masks}
use Rattle.rules.specs.Edges.{Graph, graph_of}
use Rattle.rules.specs.Score.{mask_of, is_set, score_of}
use Rattle.rules.specs.Units.{unit_of, merged_graph, spread, unit_fixed}
use Rattle.rules.specs.Decomposition.{Reached, decompose, reached, verdict_of, Run, run}
use Rattle.rules.specs.Answers.{run_of}
use Rattle.rules.specs.Demands.{AgainstLarger}
use Rattle.rules.specs.Questions.{Outcome, done, refused, Valid}
use Rattle.rules.proofs.Finding.{find_same}
use Rattle.rules.proofs.Lists.{◌∈◌, here, in_up_to}
use Rattle.rules.proofs.Validity.{sound_fixed, valid_sound, layer_facts}
use Rattle.adjacency.specs.Adjacency.{Adjacency, word_graph}
use Rattle.adjacency.specs.Members.{members_of}
use Rattle.adjacency.specs.UnitGraph.{unit_at, unit_graph, fixed_at}
use Rattle.adjacency.proofs.MemberLaws.{in_members}
use Rattle.units.specs.Noted.{NotedMasks, fitting}
use Rattle.units.specs.Numbered.{UnitsOf}
use Rattle.units.proofs.SplitLaws.{one_splits}
use Rattle.fixed_masks.proofs.FixedLaws.{masks_length, fixed_asked}
use Rattle.counting.proofs.ScoreLaws.{words_score}
use Rattle.theory.proofs.Merging.{Grouping, number_in, between_same, spread_length, spread_only, spread_at}
use Rattle.theory.proofs.FixedUnits.{units_below, fixable}
use Rattle.theory.proofs.Units.{grouping}
use Rattle.theory.proofs.SameEdges.{SameEdges, decompose_same, decompose_fixed}
use Rattle.theory.proofs.Demand3.{demand3}
use Rattle.decomposer.specs.declared.stages.Searched.{Searched}
use Rattle.decomposer.specs.Stages.{HasPlaces, HasFixed, reached_of, Decomposed}
use Rattle.decomposer.proofs.LayerWords.{layer_edges}

-- an outcome is not both
passes_not : {number : ℕ} {place : Place} → ◌≡◌ {A = Outcome (Unit {0})} (done tt) (refused number place) → ⊥
passes_not e = let z : ◌≡◌ {A = ℕ} 0 1 = cc in omega arith

module _ (s : Settings) (ps : List Piece) (valid : Valid s ps) where
  few : length ps ≤ 512
  few = (layer_facts s ps valid).few

  module _ {conflicts stitches : Matrix} {units all : List ℕ} (adjacency : Adjacency s ps (length ps) conflicts stitches) (array : UnitsOf s ps units all) where
    array_grouping : Grouping (unit_at units) (length ps)
    array_grouping = record {
      lower = λ i l. omega (arith, array.unit i l, (grouping s ps).lower i l);
      again = λ i l.
          let low : unit_of s ps i ≤ i = (grouping s ps).lower i l in
          ap (unit_at units) (array.unit i l) ∙ array.unit (unit_of s ps i) (omega arith) ∙ (grouping s ps).again i l ∙ sym (array.unit i l);
    }

    -- the units are below 512, as the search wants them
    pub layer_small : (i : ℕ) → i < length units → unit_at units i < 512
    layer_small i l = let inside : i < length ps = rw array.whole at l in omega (arith, array_grouping.lower i inside, inside, few)

    -- units have places in a list of as many masks as pieces
    pub unit_places : (masks : List ℕ) → length masks ≡ length ps → HasPlaces all masks
    unit_places masks e u l m =
        let there = subst (λ (vs : List ℕ). u ∈ vs) array.numbers ((in_members all u).1 (l, m)) in
        omega (arith, (number_in (unit_of s ps) (length ps) there).0)

    -- the graph of the array's units is that of the layer's
    abbrev g : Graph
    g = unit_graph conflicts stitches units (length units)

    same_graph : (vs : List ℕ) → SameEdges g (merged_graph (unit_of s ps) (length ps) (graph_of s ps)) vs
    same_graph vs =
        let edges = layer_edges adjacency in
        rw array.whole record {
          conflicts = λ u v _ _. between_same (unit_at units) (length ps) array.unit _ _ (λ i j l k. sym (edges.conflicts i j ((in_up_to (length ps) i).1 l) ((in_up_to (length ps) j).1 k))) u v;
          stitches = λ u v _ _. between_same (unit_at units) (length ps) array.unit _ _ (λ i j l k. sym (edges.stitches i j ((in_up_to (length ps) i).1 l) ((in_up_to (length ps) j).1 k))) u v;
        }

    -- the fixed masks of the pieces are those that are noted of their units
    module _ {noted : List ℕ} {misfit : std.Option ℕ} (first : NotedMasks (unit_at units) (fixed_masks ps) noted misfit) where
      -- 14 was passed, so no piece splits its unit
      all_noted : (o : std.Option ℕ) → NotedMasks (unit_at units) (fixed_masks ps) noted o → fitting (fixed_masks ps) o ≡ length ps
      all_noted None f = masks_length ps
      all_noted (Some r) f = absurd (passes_not (sym (sound_fixed s ps (valid_sound s ps valid)) ∙ fixed_asked s ps array ∙ one_splits 14 f))

      noted_fixed : (u : ℕ) → fixed_at noted u ≡ unit_fixed (unit_of s ps) (length ps) (fixed_masks ps) u
      noted_fixed u =
          let masks = fixed_masks ps in
          first.masks_noted u
          ∙ ap (λ (j : ℕ). unit_fixed (unit_at units) j masks u) (all_noted misfit first)
          ∙ ap (found_at (mask_of masks) unset) (find_same _ (λ i. is_set masks i && eqb (unit_of s ps i) u) (up_to (length ps)) (λ i m. rw (array.unit i ((in_up_to (length ps) i).0 m))))

      pub units_fixed : HasFixed s.masks noted all
      units_fixed = record {
        whole = first.whole;
        low = λ u l m e.
            subst⁻¹ (λ (x : ℕ). x < s.masks) (noted_fixed u)
            (units_below (fixable s ps valid) (u ∷ []) u (here refl) (subst (λ (x : ℕ). not (eqb x unset) ≡ true) (noted_fixed u) e));
      }

      module _ {before found : List ℕ} {r : Searched} (long : length before ≡ length ps) (done : Decomposed s g (fixed_at noted) all before found r) where
        -- what the layer's units reach
        abbrev on_units : Reached
        on_units = reached_of s (merged_graph (unit_of s ps) (length ps) (graph_of s ps)) (unit_fixed (unit_of s ps) (length ps) (fixed_masks ps)) all (length ps)

        units_reach : reached_of s g (fixed_at noted) all (length before) ≡ on_units
        units_reach =
            ap (reached_of s g (fixed_at noted) all) long
            ∙ decompose_same s.masks s.weight s.budget (fixed_at noted) (members_of all) _ (same_graph (members_of all))
            ∙ decompose_fixed s.masks s.weight s.budget (merged_graph (unit_of s ps) (length ps) (graph_of s ps)) (members_of all) _ (λ u m. noted_fixed u)

        -- the same with the numbers as the rules list them, and each piece on its unit's mask
        abbrev spreads : Reached → Reached
        spreads w = record { steps = w.steps; stopped = w.stopped; masks = spread (unit_of s ps) (length ps) w.masks }

        spread_reach : spreads on_units ≡ reached s ps
        spread_reach =
            ap (λ (vs : List ℕ). spreads (decompose s.masks s.weight s.budget (merged_graph (unit_of s ps) (length ps) (graph_of s ps)) (unit_fixed (unit_of s ps) (length ps) (fixed_masks ps)) vs (replicate (length ps) 0))) array.numbers

        reached_steps : r.steps ≡ (reached s ps).steps
        reached_steps = done.steps ∙ ap (λ (w : Reached). w.steps) units_reach ∙ ap (λ (w : Reached). w.steps) spread_reach

        reached_verdict : r.verdict ≡ verdict_of (reached s ps).stopped
        reached_verdict = done.verdict ∙ ap (λ (w : Reached). verdict_of w.stopped) units_reach ∙ ap (λ (w : Reached). verdict_of w.stopped) spread_reach

        found_size : length found ≡ length ps
        found_size = done.size ∙ long

        pub found_within : length found ≤ length units
        found_within = omega (arith, found_size, array.whole)

        pub found_grouping : Grouping (unit_at units) (length found)
        found_grouping = subst (Grouping (unit_at units)) (sym found_size) array_grouping

        module _ {after : List ℕ} (all-spread : after ≡ spread (unit_at units) (length found) found) where
          wide : after ≡ spread (unit_at units) (length ps) found
          wide = all-spread ∙ ap (λ (k : ℕ). spread (unit_at units) k found) found_size

          pub after_size : length after ≡ length ps
          after_size = ap length wide ∙ spread_length (unit_at units) (length ps) found

          by_unit : after ≡ spread (unit_of s ps) (length ps) found
          by_unit =
              spread_only (unit_of s ps) (length ps) found after after_size
              (λ i l. ap (λ (ms : List ℕ). mask_of ms i) wide ∙ spread_at (unit_at units) (length ps) found i l ∙ ap (mask_of found) (array.unit i l))

          reached_masks : after ≡ (reached s ps).masks
          reached_masks =
              by_unit
              ∙ ap (spread (unit_of s ps) (length ps)) (done.masks ∙ ap (λ (w : Reached). w.masks) units_reach)
              ∙ ap (λ (w : Reached). w.masks) spread_reach

          module _ {score : Score} (scored : score ≡ score_of s.weight (word_graph conflicts stitches) after (length after)) where
            score_same : score ≡ score_of s.weight (graph_of s ps) (reached s ps).masks (length ps)
            score_same =
                scored
                ∙ ap (score_of s.weight (word_graph conflicts stitches) after) after_size
                ∙ words_score s.weight s ps (length ps) conflicts stitches after adjacency
                ∙ rw reached_masks

            -- the run of the rules
            pub run_same : {d : Decomposition} → d.score ≡ score → d.steps ≡ r.steps → d.verdict ≡ r.verdict → run_of d after ≡ run s ps
            unfolding run
            run_same g e v =
                let gs = g ∙ score_same in
                let es = e ∙ reached_steps in
                let vs = v ∙ reached_verdict in
                λ i. record { masks = reached_masks i; conflicts = (gs i).conflicts; stitches = (gs i).stitches; cost = (gs i).cost; steps = es i; verdict = vs i }

  -- demand 3 holds of the run
  pub run_against : {r : Run} → r ≡ run s ps → AgainstLarger s ps r
  run_against e larger alike v = rw e (demand3 alike ps valid v)
