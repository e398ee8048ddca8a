-- `search_core`: the sets of pieces are empty before they are filled. Assumes nothing.
use Rattle.places.proofs.Members.{none_there}
use Rattle.core_search.proofs.search_core.Goals as goal

pub pieces_of_units-requires-clause-empty : goal.pieces_of_units-requires-clause-empty
pieces_of_units-requires-clause-empty c = none_there c.empty-sets.result c.empty-sets.ensures
