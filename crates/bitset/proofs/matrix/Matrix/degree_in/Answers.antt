-- `Matrix::degree_in` meets its contract. Assumes nothing.
use Rattle.bitset.proofs.Counts.{size_same}
use Rattle.bitset.proofs.matrix.Matrix.degree_in.Goals as goal

pub returns : goal.returns
returns c = size_same (λ k h. c.neighbours_in.ensures k) c.len.ensures
