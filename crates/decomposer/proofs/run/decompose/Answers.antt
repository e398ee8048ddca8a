-- `decompose`: the units of the layer and their fixed masks, their decomposition, a mask for each piece and the score are the run. Assumes nothing.
use mathlib.Core.Path.{refl, ◌∙◌}
use native.Mathlib.Omega.{arith}
use Rattle.rules.specs.Settings.{fixed_masks}
use Rattle.rules.proofs.Validity.{layer_facts}
use Rattle.adjacency.specs.UnitGraph.{unit_at}
use Rattle.fixed_masks.proofs.FixedLaws.{masks_length}
use Rattle.units.specs.Noted.{NotedMasks}
use Rattle.units.proofs.SplitLaws.{unit_inside}
use Rattle.decomposer.proofs.LayerWords.{one_kind_each}
use Rattle.decomposer.proofs.RunLaws.{layer_small, unit_places, units_fixed, found_within, found_grouping, after_size, run_same, run_against}
use Rattle.decomposer.proofs.run.decompose.Goals as goal
use Rattle.decomposer.proofs.run.decompose.Goals.{After-note_masks}

pub note_masks-requires : goal.note_masks-requires
note_masks-requires c =
    rw (c.as_slice.ensures.value, c.fixed_masks_of-given.ensures, masks_length c.args.layer.now.pieces.now)
    (record {
      masks_len_bound = (layer_facts _ _ c.args.layer.now.valid).few;
      units_len = omega (arith, c.layer_units-all.ensures.units_of.whole);
      by_index = λ i l. unit_inside _ _ c.layer_units-all.ensures.units_of i l;
    })

-- the fixed masks of the pieces were noted of their units
noted : (c : After-note_masks) → NotedMasks (unit_at c.layer_units-all.new.units) (fixed_masks c.args.layer.now.pieces.now) c.note_masks.new.noted c.note_masks.result
noted c = rw (c.as_slice.ensures.value ∙ c.fixed_masks_of-given.ensures) at c.note_masks.ensures

pub invariant_of-graph : goal.invariant_of-graph
invariant_of-graph c =
    let valid = c.args.layer.now.valid in
    let adjacency = c.layer_units-all.ensures.adjacency in
    let numbered = c.layer_units-all.ensures.units_of in
    record {
      exclusive = one_kind_each adjacency;
      few = omega (arith, numbered.whole, (layer_facts _ _ valid).few);
      small = layer_small _ _ valid adjacency numbered;
    }

pub decompose_units-searched-requires : goal.decompose_units-searched-requires
decompose_units-searched-requires c =
    let valid = c.args.layer.now.valid in
    let adjacency = c.layer_units-all.ensures.adjacency in
    let numbered = c.layer_units-all.ensures.units_of in
    record {
      settings_value = (layer_facts _ _ valid).in_range;
      has_places = unit_places _ _ valid adjacency numbered c.args.masks.now c.requires;
      has_fixed = units_fixed _ _ valid adjacency numbered (noted (goal.at.decompose_units-searched-requires c).After-note_masks);
    }

pub spread_masks-requires : goal.spread_masks-requires
spread_masks-requires c =
    let valid = c.args.layer.now.valid in
    let adjacency = c.layer_units-all.ensures.adjacency in
    let numbered = c.layer_units-all.ensures.units_of in
    let first = noted (goal.at.spread_masks-requires c).After-note_masks in
    record {
      units_len = found_within _ _ valid adjacency numbered first c.requires c.decompose_units-searched.ensures;
      grouping = found_grouping _ _ valid adjacency numbered first c.requires c.decompose_units-searched.ensures;
    }

pub score_edges-score-requires : goal.score_edges-score-requires
score_edges-score-requires c =
    let valid = c.args.layer.now.valid in
    let adjacency = c.layer_units-all.ensures.adjacency in
    let numbered = c.layer_units-all.ensures.units_of in
    let first = noted (goal.at.score_edges-score-requires c).After-note_masks in
    let size = after_size _ _ valid adjacency numbered first c.requires c.decompose_units-searched.ensures c.spread_masks.ensures in
    record {
      weight_bound = (layer_facts _ _ valid).settings.weight.high;
      masks_bound = omega (arith, size, (layer_facts _ _ valid).few);
    }

pub returns : goal.returns
returns c =
    let valid = c.args.layer.now.valid in
    let adjacency = c.layer_units-all.ensures.adjacency in
    let numbered = c.layer_units-all.ensures.units_of in
    let first = noted (goal.at.returns c).After-note_masks in
    let run = run_same _ _ valid adjacency numbered first c.requires c.decompose_units-searched.ensures c.spread_masks.ensures c.score_edges-score.ensures refl refl refl in
    record {
      masks_after = run;
      against_larger = run_against _ _ valid run;
    }
