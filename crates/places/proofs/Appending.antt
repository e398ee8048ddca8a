-- A list to which a part is appended for each member of a set, the least first, and what is left to append. Assumes nothing.
use mathlib.Core.List.{List, [], ◌∷◌, ◌++◌, append-nil, append_assoc}
use mathlib.Core.Path.{◌≡◌, sym, ap, ◌∙◌}
use Prim.Native.Nat.{ℕ, ◌+◌, ◌≤◌, ◌<◌}
use native.Mathlib.Omega.{arith}
use lib.ListN.{length, length-append}
use Rattle.bitset.specs.Bits.{member, Taken}
use Rattle.adjacency.specs.Members.{members_of}
use Rattle.places.proofs.Members.{taken_members, none_left}
use mathlib.Core.Bool.{false}

-- `of` has the parts of several members, one after the other
module _ (of : List ℕ → List ℕ) (list rest : List ℕ) {all : List ℕ} (left : list ++ of (members_of rest) ≡ all) where
  module _ {q : ℕ} {rest' : List ℕ} (taken : Taken rest q rest') (part : List ℕ) (first : of (q ∷ members_of rest') ≡ part ++ of (members_of rest')) where
    here : list ++ (part ++ of (members_of rest')) ≡ all
    here = ap (λ (xs : List ℕ). list ++ xs) (sym (ap of (taken_members taken) ∙ first)) ∙ left

    pub append_room : length list + length part ≤ length all
    append_room = omega (arith, ap length here, length-append list (part ++ of (members_of rest')), length-append part (of (members_of rest')))

    pub append_next : (list ++ part) ++ of (members_of rest') ≡ all
    append_next = append_assoc list part (of (members_of rest')) ∙ here

  pub append_all : ((q : ℕ) → q < 512 → member rest q ≡ false) → of [] ≡ [] → list ≡ all
  append_all none end = sym (append-nil list) ∙ ap (λ (xs : List ℕ). list ++ xs) (sym (ap of (none_left rest none) ∙ end)) ∙ left
