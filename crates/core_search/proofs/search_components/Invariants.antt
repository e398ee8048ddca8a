-- `search_components`: what is left makes what the whole core does. Assumes nothing.
use lib.ListN.{length}
use Rattle.adjacency.specs.Members.{members_of}
use Rattle.core_search.specs.Core.{graph_of}
use Rattle.core_search.proofs.CoreLaws.{CoreLeft}
use Rattle.core_search.proofs.search_components.Given as goal

abbrev pub invariant-loop-v : goal.invariant-loop-v
invariant-loop-v l = CoreLeft (graph_of l.graph) l.fixed l.core l.limits l.initial.progress l.initial.res l.progress l.res l.rest

abbrev pub decreases-loop-v : goal.decreases-loop-v
decreases-loop-v l = length (members_of l.rest)
