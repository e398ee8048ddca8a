-- The loop on bit sets: how it begins, one turn, and what it comes to. A vertex whose row was looked at is inside and does not wait; each turn
-- makes one more of them, so there are at most 512 turns. Assumes nothing.
use mathlib.Core.Bool.{Bool, true, false, not, ◌&&◌, ◌||◌}
use mathlib.Core.List.{List}
use mathlib.Core.Logic.{◌↔◌, ◌⊎◌}
use mathlib.Core.Path.{◌≡◌, refl, sym, subst, ◌∙◌}
use Prim.Native.Nat.{ℕ, suc, ◌<◌}
use native.Mathlib.Omega.{arith}
use lib.Dec.{eqb}
use borrow.Author.Tests.{eqb-true, eq-eqb, not-true}
use Rattle.bitset.specs.Bits.{member, count_below, Taken, Empty}
use Rattle.bitset.specs.Edges.{has_edge, rows_without}
use Rattle.bitset.specs.declared.matrix.Matrix.{Matrix}
use Rattle.bitset.proofs.Counts.{count_ext, count_in}
use Rattle.rules.specs.Basics.{without}
use Rattle.rules.specs.Edges.{joined}
use Rattle.rules.proofs.Lists.{◌∈◌}
use Rattle.rules.proofs.Tests.{by_test, clash, both}
use Rattle.adjacency.specs.Adjacency.{word_graph}
use Rattle.adjacency.specs.Members.{members_of}
use Rattle.adjacency.proofs.MemberLaws.{in_members, members_out, members_either, members_kept}
use Rattle.theory.proofs.Components.{Component}
use Rattle.components.specs.Component.{IsComponent}
use Rattle.components.proofs.WordGraph.{word_symmetric, word_joined}
use Rattle.components.proofs.Frontier.{Grown, grown_one, grown_more, grown_component, component_first}

-- the bit sets inside and frontier, among those left
abbrev pub GrownSets : Matrix → Matrix → List ℕ → ℕ → List ℕ → List ℕ → Type 0
GrownSets conflicts stitches left v inside frontier = Grown (word_graph conflicts stitches) (members_of left) (members_of inside) (members_of frontier) v

-- ---- v alone

module _ (none one : List ℕ) (v : ℕ) (empty : Empty none) (put : (k : ℕ) → member one k ≡ (member none k || eqb k v)) where
  alone : (k : ℕ) → member one k ≡ eqb k v
  alone k = put k ∙ rw (empty.none k)

  pub start_grown : (conflicts stitches : Matrix) (left : List ℕ) → v < 512 → member left v ≡ true → GrownSets conflicts stitches left v one one
  start_grown conflicts stitches left l m =
      grown_one (word_graph conflicts stitches) ((in_members left v).1 (l, m))
      (λ u. (
        λ i. eqb-true u v (sym (alone u) ∙ ((in_members one u).0 i).1),
        λ e. (in_members one u).1 (omega arith, alone u ∙ eq-eqb u v e),
      ))

-- ---- a turn

-- inside, and looked at
abbrev pub looked : List ℕ → List ℕ → ℕ → Bool
looked inside frontier k = member inside k && not (member frontier k)

-- a vertex is looked at after the turn where it was before or is the turn's
looked_turn : (inside waits new this : Bool) → (waits ≡ true → inside ≡ true) → (new ≡ true → inside ≡ false) → (this ≡ true → waits ≡ true)
    → ((inside || new) && not ((waits && not this) || new)) ≡ ((inside && not waits) || this)
looked_turn true true true t a b c = clash refl (b refl)
looked_turn true true false true a b c = refl
looked_turn true true false false a b c = refl
looked_turn true false true t a b c = clash refl (b refl)
looked_turn true false false true a b c = clash (c refl) refl
looked_turn true false false false a b c = refl
looked_turn false true n t a b c = clash (a refl) refl
looked_turn false false true true a b c = clash (c refl) refl
looked_turn false false true false a b c = refl
looked_turn false false false true a b c = clash (c refl) refl
looked_turn false false false false a b c = refl

-- u no longer waits, and its neighbours are new: they come in, and wait
pub record Turn (conflicts stitches : Matrix) (left inside frontier waiting new insideNow frontierNow : List ℕ) (u : ℕ) : Type 0 where
  pub taken : Taken frontier u waiting
  pub news : (k : ℕ) → k < 512 → member new k ≡ rows_without conflicts stitches u left inside k
  pub grow : (k : ℕ) → k < 512 → member insideNow k ≡ (member inside k || member new k)
  pub wait : (k : ℕ) → k < 512 → member frontierNow k ≡ (member waiting k || member new k)

module _ {conflicts stitches : Matrix} {left inside frontier waiting new insideNow frontierNow : List ℕ} {u : ℕ} (v : ℕ)
    (turn : Turn conflicts stitches left inside frontier waiting new insideNow frontierNow u) (old : GrownSets conflicts stitches left v inside frontier) where
  here_now : member frontier u ≡ true
  here_now = turn.taken.first.found turn.taken.small

  new_facts : (k : ℕ) → k < 512 → member new k ≡ true → ((has_edge conflicts u k || has_edge stitches u k) ≡ true) × (member left k ≡ true) × (member inside k ≡ false)
  new_facts k h e =
      let near = has_edge conflicts u k || has_edge stitches u k in
      let (a, o) = both (near && member left k) (not (member inside k)) (sym (turn.news k h) ∙ e) in
      let (j, m) = both near (member left k) a in
      (j, m, not-true (member inside k) o)

  neighbours : (w : ℕ) → (w ∈ members_of new) ↔ ((w ∈ members_of left) × (joined (word_graph conflicts stitches) u w ≡ true) × (w ∈ members_of inside → ⊥))
  neighbours w = (
    λ m.
        let (h, e) = (in_members new w).0 m in
        let (j, n, o) = new_facts w h e in
        ((in_members left w).1 (h, n), word_joined conflicts stitches u w ∙ j, λ i. clash ((in_members inside w).0 i).1 o),
    λ (m, j, o).
        let (h, n) = (in_members left w).0 m in
        (in_members new w).1 (h, turn.news w h ∙ rw (sym (word_joined conflicts stitches u w) ∙ j, n, outside w h o)),
  )
    where
      outside : (k : ℕ) → k < 512 → (k ∈ members_of inside → ⊥) → member inside k ≡ false
      outside k h o = by_test (member inside k) (λ e. absurd (o ((in_members inside k).1 (h, e)))) (λ e. e)

  waits_on : (w : ℕ) → (w ∈ members_of frontierNow) ↔ ((w ∈ without u (members_of frontier)) ⊎ (w ∈ members_of new))
  waits_on w =
      subst (λ xs. (w ∈ members_of frontierNow) ↔ ((w ∈ xs) ⊎ (w ∈ members_of new))) (members_out frontier waiting u turn.taken.out) (members_either waiting new frontierNow turn.wait w)

  pub turn_grown : GrownSets conflicts stitches left v insideNow frontierNow
  turn_grown =
      grown_more (word_symmetric conflicts stitches) old ((in_members frontier u).1 (turn.taken.small, here_now)) neighbours (members_either inside new insideNow turn.grow) waits_on

  pub turn_count : count_below 512 (looked insideNow frontierNow) ≡ suc (count_below 512 (looked inside frontier))
  turn_count =
      count_ext 512 (λ k h. rw (turn.grow k h, turn.wait k h, turn.taken.out k)
      (looked_turn (member inside k) (member frontier k) (member new k) (eqb k u)
      (inner k h)
      (λ e. (new_facts k h e).2)
      (λ e. rw (eqb-true k u e) here_now)))
      ∙ count_in 512 (looked inside frontier) u turn.taken.small (rw (inner u turn.taken.small here_now, here_now))
    where
      inner : (k : ℕ) → k < 512 → member frontier k ≡ true → member inside k ≡ true
      inner k h e = ((in_members inside k).0 (old.border k ((in_members frontier k).1 (h, e)))).1

-- ---- none waits

module _ (conflicts stitches : Matrix) (left : List ℕ) (v : ℕ) (inside frontier : List ℕ) (none : (k : ℕ) → k < 512 → member frontier k ≡ false)
    (grown : GrownSets conflicts stitches left v inside frontier) where
  whole : Component (word_graph conflicts stitches) (members_of left) (members_of inside)
  whole =
      grown_component (word_symmetric conflicts stitches) grown
      (λ k m. let (h, e) = (in_members frontier k).0 m in clash e (none k h))
      (members_kept left inside grown.within)

  pub grown_done : IsComponent conflicts stitches left v inside
  grown_done = record {
    component = component_first (word_symmetric conflicts stitches) whole grown.begun;
    within = λ k h e. ((in_members left k).0 (grown.within k ((in_members inside k).1 (h, e)))).1;
    first = ((in_members inside v).0 grown.begun).1;
  }
