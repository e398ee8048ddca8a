-- `decompose_stream`: what is read is handed back, and a settings text and a stream state a valid layer or none. Assumes nothing.
use Rattle.rules.specs.Calls.{decompose_stream}
use Rattle.rules.specs.Stream.{read_stream}
use Rattle.stream_theory.proofs.StreamReading.{stream_valid}
use Rattle.loader.proofs.CallLaws.{handed_judged, handed_promised}
use Rattle.loader.proofs.call.decompose_stream.Goals as goal

pub write_read-requires : goal.write_read-requires
write_read-requires c = handed_judged (read_stream _ _) (stream_valid _ _) _ c.read_stream.ensures

pub returns : goal.returns
unfolding decompose_stream
returns c =
    let told = c.write_read.ensures in
    let promised = handed_promised (read_stream _ _) (stream_valid _ _) _ c.read_stream.ensures c.args.buffer.now (told.result_value, told.buffer_after) in
    record { result_value = promised.0; buffer_after = promised.1.0; demand3of_stream = promised.1.1 }
