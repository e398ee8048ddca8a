-- `entry`: what the search ends at is computed for each of the 1,024 graphs, and the digits are compared with the table's. Assumes nothing.
use mathlib.Core.Path.{refl}
use Rattle.rules.specs.Basics.{sum_to, up_from, any_of}
use Rattle.rules.specs.Score.{pair_cost}
use Rattle.rules.specs.Search.{added, total_after, cheapest, first_after, first_mask, different, candidates, candidates_in, try_masks, search_places}
use Rattle.rules.specs.Library.{bit_at, pair_number}
use Rattle.theory.proofs.Enough.{all_steps}
use Rattle.theory.proofs.Table.{least_by, least_digits}
use Rattle.library.proofs.entry.Goals as goal

pub number_at-requires : goal.number_at-requires
unfolding least_by least_digits all_steps sum_to up_from any_of pair_cost added total_after cheapest first_after first_mask different candidates candidates_in try_masks search_places bit_at pair_number
number_at-requires c =
    record {
      entries_value = refl;
      index_bound = c.requires;
    }
