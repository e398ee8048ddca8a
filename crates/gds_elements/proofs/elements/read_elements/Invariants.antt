-- `read_elements`: the elements so far and those that are left are all of them; the measure is the bytes that are left. Assumes nothing.
use Rattle.std.proofs.Common.{length}
use Rattle.gds_elements.proofs.CollectLaws.{SoFar}
use Rattle.gds_elements.proofs.elements.read_elements.Given as goal

abbrev pub invariant-loop-records : goal.invariant-loop-records
invariant-loop-records l = SoFar l.initial.records.number l.initial.records.rest.now l.records.number l.records.rest.now l.elements.count l.elements.pieces

abbrev pub decreases-loop-records : goal.decreases-loop-records
decreases-loop-records l = length l.records.rest.now
