-- `decompose_text`: what is read is handed back, and a text states a valid layer or none. Assumes nothing.
use Rattle.rules.specs.Calls.{decompose_text}
use Rattle.rules.specs.Questions.{read_layer}
use Rattle.rules.proofs.Reading.{read_valid}
use Rattle.loader.proofs.CallLaws.{handed_judged, handed_promised}
use Rattle.loader.proofs.call.decompose_text.Goals as goal

pub write_read-requires : goal.write_read-requires
write_read-requires c = handed_judged (read_layer _) (read_valid _) _ c.read_layer.ensures

pub returns : goal.returns
unfolding decompose_text
returns c =
    let told = c.write_read.ensures in
    let promised = handed_promised (read_layer _) (read_valid _) _ c.read_layer.ensures c.args.buffer.now (told.result_value, told.buffer_after) in
    record { result_value = promised.0; buffer_after = promised.1.0; demand3of_text = promised.1.1 }
