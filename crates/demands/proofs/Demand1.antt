-- Demand 1: every call comes to an end of its own, whatever its input. Each call's questions come to an end of their own (`Calls` of rules); a run has a mask for
-- every piece, the fixed one where there is one, and what is written has room. Assumes nothing.
use mathlib.Core.Path.{refl}
use Rattle.rules.specs.Demands.{Feasible, Demand1}
use Rattle.rules.proofs.Calls.{settings_end, edge_ends, score_ends, decompose_ends, write_ends, load_ends}
use Rattle.stream_theory.proofs.StreamCalls.{load_stream_ends}
use Rattle.rules.proofs.Outcomes.{ends_map}
use Rattle.rules.proofs.Reading.{read_ends}
use Rattle.stream_theory.proofs.StreamReading.{stream_ends}
use Rattle.rules.proofs.Validity.{sound_valid, valid_sound}
use Rattle.text_theory.proofs.LayerSizes.{layer_length}
use Rattle.theory.proofs.Demand3.{one_run}
use Rattle.demands.proofs.ResultSizes.{result_fits}

pub demand1 : Demand1
demand1 = record {
  settings = settings_end;
  edge = edge_ends;
  score = score_ends;
  decompose = decompose_ends (λ s ps r. Feasible s ps r.masks) (λ s ps valid. (one_run s ps valid).whole);
  read = λ text. ends_map (λ l f. sound_valid l.settings l.pieces f) (read_ends text);
  stream = λ settings stream. ends_map (λ l f. sound_valid l.settings l.pieces f) (stream_ends settings stream);
  write = write_ends (λ s ps valid. layer_length s ps (valid_sound s ps valid));
  load = load_ends result_fits;
  load_stream = load_stream_ends result_fits;
  masks_kept = λ number place masks. refl;
  buffer_kept = λ number place buffer. refl;
}
