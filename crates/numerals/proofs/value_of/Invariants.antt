-- `value_of`: the total is the value of the digits passed, or the cap. Assumes nothing.
use Rattle.std.proofs.Common.{◌≡◌, min, take}
use Rattle.rules.specs.Lines.{value}
use Rattle.numerals.specs.Numerals.{cap}
use Rattle.numerals.proofs.value_of.Given as goal

abbrev pub invariant-loop-b : goal.invariant-loop-b
invariant-loop-b l = l.total ≡ min (value (take l.b-index l.digits)) cap
