-- Demand 2: edges are those of the rules' distances, masks are scored while they are half done, counts and cost are those of the masks, a layer text reads as the one layer that it states, and
-- a layer that was written is read back unchanged. Hence two different valid layers never have the same text. Assumes nothing.
use mathlib.Core.Path.{◌≡◌, sym, ap, ◌∙◌}
use lib.ListN.{length}
use Rattle.rules.specs.LayerText.{layer_text}
use Rattle.rules.specs.Questions.{Outcome, done, refused, Valid, Layer, read_layer}
use Rattle.rules.specs.Edges.{graph_of}
use Rattle.rules.specs.Demands.{Demand2}
use Rattle.rules.proofs.Calls.{decompose_counts, score_tested}
use Rattle.theory.proofs.Assignments.{scored_exactly, whole_counts}
use Rattle.theory.proofs.HalfDone.{more_score}
use Rattle.rules.proofs.Edges.{conflict_exactly, stitch_exactly, tie_exactly, conflicts_exactly, stitches_exactly}
use Rattle.text_theory.proofs.WrittenLayers.{read_states, reads_back_lem}

pub demand2 : Demand2
demand2 = record {
  conflict = conflict_exactly;
  stitch = stitch_exactly;
  tie = tie_exactly;
  conflicts = conflicts_exactly;
  stitches = stitches_exactly;
  scored = scored_exactly;
  tested = score_tested;
  whole = λ s ps masks valid. whole_counts s ps valid masks;
  more = λ s ps. more_score s.weight (graph_of s ps) (length ps);
  counts = decompose_counts;
  as_stated = λ text l. (read_states text l, λ st. ap read_layer st.written ∙ reads_back_lem l st.valid);
  reads_back = reads_back_lem;
}

abbrev layer_of : Layer → Outcome Layer → Layer
layer_of k (done l) = l
layer_of k (refused number place) = k

-- two different layers never have the same text
pub one_layer : (k l : Layer) → Valid k.settings k.pieces → Valid l.settings l.pieces
    → layer_text k.settings k.pieces ≡ layer_text l.settings l.pieces → k ≡ l
one_layer k l vk vl e = ap (layer_of k) (sym (reads_back_lem k vk) ∙ ap read_layer e ∙ reads_back_lem l vl)
