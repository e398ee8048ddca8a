use native.Mathlib.Omega.{arith}
use mathlib.Core.List.{List, [], ◌∷◌}
use mathlib.Core.Path.{◌≡◌, refl, ap}
use Prim.Native.Nat.{ℕ}
use lib.ListN.{length, get_or}
use Rattle.rules.proofs.Lists.{place_in}
use Rattle.adjacency.specs.Members.{members_of}
use Rattle.adjacency.proofs.MemberLaws.{in_members, members_few}
use Rattle.places.proofs.Appending.{append_room, append_next, append_all}
use Rattle.places.proofs.order.list_members.Goals as goal
use Rattle.places.proofs.order.list_members.Goals.{In-None}

-- none is left
listed : (c : In-None) → c.loop-v.order.items ≡ members_of c.args.members.now
listed c = append_all (λ (xs : List ℕ). xs) c.loop-v.order.items c.loop-v.v-iterator c.loop-v.invariant c.in-None.ensures.steps.0 refl

pub push-requires : goal.push-requires
push-requires c =
    let room = append_room (λ (xs : List ℕ). xs) c.loop-v.order.items c.loop-v.v-iterator c.loop-v.invariant c.in-Some.ensures.steps (c.in-Some.v ∷ []) refl in
    (omega arith, omega (arith, room, members_few c.args.members.now))

pub loop-v-preserved : goal.loop-v-preserved
loop-v-preserved c =
    rw c.push.ensures.items (append_next (λ (xs : List ℕ). xs) c.loop-v.order.items c.loop-v.v-iterator c.loop-v.invariant c.in-Some.ensures.steps (c.in-Some.v ∷ []) refl)

pub returns-clause-order : goal.returns-clause-order
returns-clause-order c = listed (goal.at.returns-clause-order c).In-None

pub returns-clause-few : goal.returns-clause-few
returns-clause-few c = omega (arith, ap length (listed (goal.at.returns-clause-few c).In-None), members_few c.args.members.now)

pub returns-clause-vertices : goal.returns-clause-vertices
returns-clause-vertices c i l =
    let all = listed (goal.at.returns-clause-vertices c).In-None in
    rw all ((in_members c.args.members.now (get_or (members_of c.args.members.now) i 0)).0 (place_in (members_of c.args.members.now) i (omega (arith, ap length all)))).0
