-- `write_run`: there is a mask for each piece, and the result is the run's, so its text has room. Assumes nothing.
use mathlib.Core.Path.{sym}
use lib.Seq.{length-take-le}
use Rattle.rules.proofs.Validity.{layer_facts}
use Rattle.loader.proofs.CallLaws.{has_room, wrote_run}
use Rattle.loader.proofs.call.write_run.Goals as goal

pub slice_bounds-masks-end : goal.slice_bounds-masks-end
slice_bounds-masks-end c = sym (length-take-le _ _ (layer_facts _ _ c.args.layer.now.valid).few)

pub decompose-result-requires : goal.decompose-result-requires
decompose-result-requires c = length-take-le _ _ (layer_facts _ _ c.args.layer.now.valid).few

pub write_result-requires : goal.write_result-requires
write_result-requires c = has_room _ _ c.decompose-result.ensures.masks_after c.args.layer.now.valid c.requires

pub returns : goal.returns
returns c = wrote_run _ _ c.decompose-result.ensures.masks_after (record { size = c.write_result.ensures.length; buffer = c.write_result.ensures.written })
