-- `passes`: the fraction times the factor, where neither leaves 64 bits. Assumes nothing.
use Rattle.std.proofs.Common.{rules}
use Rattle.gds_data.proofs.UnitLaws.{scaled_in_range}
use Rattle.gds_data.proofs.units.passes.Goals as goal

pub returns : goal.returns
returns c = scaled_in_range c.args.fraction c.args.above c.checked_pow.result c.and_then.result c.is_some_and.result (rw (← c.from.ensures) c.checked_pow.ensures) (search rules) (search rules)
