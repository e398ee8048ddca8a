-- `list_members`: the members that are left come after those that are listed. Assumes nothing.
use mathlib.Core.List.{◌++◌}
use mathlib.Core.Path.{◌≡◌}
use Rattle.adjacency.specs.Members.{members_of}
use Rattle.places.proofs.order.list_members.Given as goal

abbrev pub invariant-loop-v : goal.invariant-loop-v
invariant-loop-v l = l.order.items ++ members_of l.v-iterator ≡ members_of l.members
