-- `last_stages`: the result is the run's, so its text fits the buffer. Assumes nothing.
use Rattle.std.proofs.Common.{◌≡◌, ◌≤◌, List, length}
use Rattle.rules.specs.declared.layer.Settings.{Settings}
use Rattle.rules.specs.declared.layer.Piece.{Piece}
use Rattle.rules.specs.Decomposition.{Run, run}
use Rattle.rules.specs.Questions.{Valid}
use Rattle.rules.specs.ResultText.{result_text}
use Rattle.demands.proofs.ResultSizes.{result_fits}
use Rattle.stages.proofs.last_stages.Goals as goal

-- the text of a run fits the buffer
fits : (s : Settings) (ps : List Piece) {r : Run} → r ≡ run s ps → Valid s ps → length (result_text r) ≤ 4_096
fits s ps same valid = rw same (result_fits s ps valid)

pub write_result-length-requires : goal.write_result-length-requires
write_result-length-requires g c = fits _ _ c.decompose-run.ensures.masks_after c.args.layer.now.valid
