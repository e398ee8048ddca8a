-- `search_one`: order, lists, bound, search and masks of one component. Assumes nothing.
use native.Mathlib.Omega.{arith}
use mathlib.Core.List.{map}
use mathlib.Core.Path.{◌≡◌, ap, ◌∙◌}
use Prim.Native.Nat.{◌≤◌}
use lib.ListN.{length}
use Rattle.adjacency.specs.Members.{members_of}
use Rattle.adjacency.specs.UnitGraph.{fixed_at}
use Rattle.core_search.proofs.OneComponent.{order_rises, own_size, posed, places_there, one_searched}
use Rattle.core_search.proofs.search_one.Goals as goal
use Rattle.core_search.proofs.search_one.Goals.{After-as_slice-own}

-- the order, and the fixed masks of its places
module _ (c : After-as_slice-own) where
  is : c.as_slice-order.result.now ≡ members_of c.args.component.now
  is = c.as_slice-order.ensures.value ∙ c.list_members-order.ensures.order

  few : length c.as_slice-order.result.now ≤ 512
  few = omega (arith, ap length c.as_slice-order.ensures.value, c.list_members-order.ensures.few)

  own : c.as_slice-own.result.now ≡ map (fixed_at c.args.fixed.now) c.as_slice-order.result.now
  own = c.as_slice-own.ensures.value ∙ c.local_fixed-own.ensures

pub lay_out-requires-clause-by_index_2 : goal.lay_out-requires-clause-by_index_2
lay_out-requires-clause-by_index_2 c = order_rises c.args.component.now _ (is (goal.at.lay_out-requires-clause-by_index_2 c).After-as_slice-own)

pub invariant_of-local : goal.invariant_of-local
invariant_of-local c =
    let made = (goal.at.invariant_of-local c).After-as_slice-own in
    record {
      few = omega (arith, own_size _ _ (own made), few made);
      laid = omega (arith, own_size _ _ (own made), c.lay_out.ensures.size);
    }

pub search_component-best-requires : goal.search_component-best-requires
search_component-best-requires c =
    let made = (goal.at.search_component-best-requires c).After-as_slice-own in
    posed _ c.requires.given (is made) (few made) c.lay_out.ensures (own made) c.library_end-end.ensures

pub put_masks-requires : goal.put_masks-requires
put_masks-requires c =
    let made = (goal.at.put_masks-requires c).After-as_slice-own in
    places_there _ c.requires.given (is made) (few made) c.lay_out.ensures (own made) c.library_end-end.ensures

pub returns : goal.returns
returns c =
    let made = (goal.at.returns c).After-as_slice-own in
    one_searched _ c.requires.given (is made) (few made) (rw c.requires.units at c.lay_out.ensures) (own made) c.library_end-end.ensures c.search_component-best.ensures c.put_masks.ensures
