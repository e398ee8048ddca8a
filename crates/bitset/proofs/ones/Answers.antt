-- `bitset::ones` meets its contract. Assumes nothing.
use native.Mathlib.Omega.{arith}
use lib.Count.{ones-le}
use Rattle.bitset.proofs.Counts.{count_bits}
use Rattle.bitset.proofs.ones.Goals as goal

pub overflow_cast-result : goal.overflow_cast-result
overflow_cast-result c = omega (arith, ones-le 64 c.args.x c.ranges.x.fits)

pub returns : goal.returns
returns c = count_bits 64 c.args.x c.ranges.x.fits
