-- `decompose_units`: each stage may be called where the one before it ended, and together they are what the rules reach on the units. Assumes nothing.
use native.Mathlib.Omega.{arith}
use Rattle.rules.proofs.Ranges.{settings_facts}
use Rattle.decomposer.proofs.StageLaws.{may_return, may_be_joined, all_decomposed}
use Rattle.decomposer.proofs.stages.decompose_units.Goals as goal

pub put_back-requires : goal.put_back-requires
put_back-requires c =
    rw c.as_slice.ensures.value
    (record {
      masks_bound = omega (arith, (settings_facts _ c.requires.settings_value).masks.high);
      placeable = may_return _ c.requires.settings_value c.merge_edges.ensures.conflicts c.merge_edges.ensures.stitches c.peel-removals.ensures c.args.masks.now c.requires.has_places c.requires.has_fixed (c.fill.ensures.after (λ y h. h)) c.search-searched.ensures;
      masked = may_be_joined _ c.requires.settings_value c.merge_edges.ensures.conflicts c.merge_edges.ensures.stitches c.peel-removals.ensures c.args.masks.now c.requires.has_places c.requires.has_fixed (c.fill.ensures.after (λ y h. h)) c.search-searched.ensures;
    })

pub returns : goal.returns
returns c =
    all_decomposed _ c.requires.settings_value c.merge_edges.ensures.conflicts c.merge_edges.ensures.stitches c.peel-removals.ensures c.args.masks.now c.requires.has_places c.requires.has_fixed (c.fill.ensures.after (λ y h. h))
    c.search-searched.ensures (rw c.as_slice.ensures.value at c.put_back.ensures)
