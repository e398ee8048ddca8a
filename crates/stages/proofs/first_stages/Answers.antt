-- `first_stages`: each stage may be called where the one before it ended, as in the run itself. Assumes nothing.
use Rattle.std.proofs.Common.{◌∙◌, arith}
use Rattle.rules.specs.Settings.{fixed_masks}
use Rattle.rules.proofs.Validity.{layer_facts}
use Rattle.adjacency.specs.UnitGraph.{unit_at}
use Rattle.fixed_masks.proofs.FixedLaws.{masks_length}
use Rattle.units.specs.Noted.{NotedMasks}
use Rattle.units.proofs.SplitLaws.{unit_inside}
use Rattle.decomposer.proofs.LayerWords.{one_kind_each}
use Rattle.decomposer.proofs.RunLaws.{layer_small, unit_places, units_fixed}
use Rattle.stages.proofs.first_stages.Goals as goal
use Rattle.stages.proofs.first_stages.Goals.{After-note_masks}

pub note_masks-requires : goal.note_masks-requires
note_masks-requires c =
    rw (c.as_slice.ensures.value, c.fixed_masks_of-given.ensures, masks_length c.args.layer.now.pieces.now)
    (record {
      masks_len_bound = (layer_facts _ _ c.args.layer.now.valid).few;
      units_len = omega (arith, c.layer_units-core.ensures.units_of.whole);
      by_index = λ i l. unit_inside _ _ c.layer_units-core.ensures.units_of i l;
    })

-- the fixed masks of the pieces were noted of their units
noted : (c : After-note_masks) → NotedMasks (unit_at c.layer_units-core.new.units) (fixed_masks c.args.layer.now.pieces.now) c.note_masks.new.noted c.note_masks.result
noted c = rw (c.as_slice.ensures.value ∙ c.fixed_masks_of-given.ensures) at c.note_masks.ensures

pub merge_edges-requires : goal.merge_edges-requires
merge_edges-requires c =
    let sizes = (layer_facts _ _ c.args.layer.now.valid).few in
    let numbered = c.layer_units-core.ensures.units_of in
    record {
      few = omega (arith, numbered.whole, sizes);
      by_index = λ i l. let inside = rw numbered.whole at l in omega (arith, sizes, unit_inside _ _ numbered i inside);
    }

pub invariant_of-graph : goal.invariant_of-graph
invariant_of-graph c =
    let valid = c.args.layer.now.valid in
    let adjacency = c.layer_units-core.ensures.adjacency in
    let numbered = c.layer_units-core.ensures.units_of in
    record {
      exclusive = one_kind_each adjacency;
      few = omega (arith, numbered.whole, (layer_facts _ _ valid).few);
      small = layer_small _ _ valid adjacency numbered;
    }

-- what is left of the units is among them
pub search_core-requires-clause-given : goal.search_core-requires-clause-given
search_core-requires-clause-given c =
    let valid = c.args.layer.now.valid in
    let adjacency = c.layer_units-core.ensures.adjacency in
    let numbered = c.layer_units-core.ensures.units_of in
    let facts = (layer_facts _ _ valid).settings in
    let places = unit_places _ _ valid adjacency numbered c.args.masks.now c.requires in
    let fixed = units_fixed _ _ valid adjacency numbered (noted (goal.at.search_core-requires-clause-given c).After-note_masks) in
    let within = c.peel-removals.ensures.inside in
    rw (c.new-progress.ensures, c.from-limits.ensures)
    (record {
      some = omega (arith, facts.masks.low);
      masks = facts.masks.high;
      weight = facts.weight.high;
      afford = omega arith;
      placed = λ u l m. places u l (within u m);
      fixed_whole = fixed.whole;
      fixed_low = λ u l m. fixed.low u l (within u m);
    })
