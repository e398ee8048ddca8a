use Rattle.places.proofs.LocalCost.{places_none}
use Rattle.places.proofs.lists.Lists.empty.Goals as goal

pub returns : goal.returns
returns c = rw (c.push.ensures.items, c.new-starts.ensures, c.new.ensures) places_none
