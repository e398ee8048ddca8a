-- `read_numbers`: the numbers read and what is to follow them are all numbers expected. Assumes nothing.
use Rattle.lines.proofs.NumberParts.{ReadSoFar}
use Rattle.lines.proofs.read.read_numbers.Given as goal

abbrev pub invariant-loop-k : goal.invariant-loop-k
invariant-loop-k g l = ReadSoFar l.text g.row.N l.values l.numeral.rest.now l.k
