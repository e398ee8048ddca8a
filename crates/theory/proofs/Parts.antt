-- The parts of a partition by their lowest vertices: `part_of` gives for each vertex the lowest of its part. It is the same for two vertices exactly if a path
-- links them, and what every edge keeps, a path keeps.
use mathlib.Core.Bool.{true}
use mathlib.Core.List.{List, ◌∷◌, Memᴰ}
use mathlib.Core.Logic.{⊎_elim}
use mathlib.Core.Path.{◌≡◌, refl, sym, ap, subst, ◌∙◌}
use Prim.Native.Nat.{ℕ, ◌≤◌}
use native.Mathlib.Omega.{arith}
use Rattle.rules.specs.Basics.{occurs}
use Rattle.rules.specs.Edges.{Graph, joined}
use Rattle.rules.specs.Units.{lowest, part_of}
use Rattle.rules.proofs.Lists.{◌∈◌, here, later, none_in, here-or-later, equal-in, occurs_in, in_keep, rising_keep, Rising}
use Rattle.rules.proofs.Tests.{by_test}
use Rattle.theory.proofs.Reach.{Symmetric, Linked, stay, step, linked_start, linked_wider}
use Rattle.theory.proofs.Components.{component_in, component_same, Partition, end, part, partition_component, partition_apart, lowest_head}

-- c is the part that u is in
pub record InPart (cs : List (List ℕ)) (u : ℕ) (c : List ℕ) : Type 0 where
  pub listed : Memᴰ c cs
  pub member : u ∈ c
  pub number : part_of cs u ≡ lowest c
  pub own : lowest c ∈ c
  pub least : (w : ℕ) → w ∈ c → lowest c ≤ w

pub part_of_lem : {g : Graph} {xs : List ℕ} {cs : List (List ℕ)} {u : ℕ} → Partition g xs cs → Rising xs → u ∈ xs → (c : List ℕ) × InPart cs u c
unfolding part_of
part_of_lem end h m = none_in m
part_of_lem {u} (part {v = v} {after = after} {c = c} {cs = cs} k i r) h m =
    by_test (occurs u c)
    (λ e. (
      c,
      record {
        listed = here refl;
        member = (occurs_in u c).0 e;
        number = rw e;
        own = equal-in (lowest_head k i) i;
        least = λ w n. rw (lowest_head k i) (⊎_elim (λ q. omega arith) (λ o. omega (arith, h.0 w o)) (here-or-later (component_in k n)));
      },
    ))
    (λ e.
    let (d, p) = part_of_lem {u = u} r (rising_keep _ (v ∷ after) h) (in_keep _ m (rw e)) in
    (d, record { listed = later p.listed; member = p.member; number = rw e p.number; own = p.own; least = p.least }))

-- what every edge among xs keeps, a path keeps
pub linked_keeps : {A : Type 0} {g : Graph} {xs : List ℕ} (f : ℕ → A) → ((u w : ℕ) → u ∈ xs → w ∈ xs → joined g u w ≡ true → f u ≡ f w) → {u w : ℕ} → Linked g xs u w → f u ≡ f w
linked_keeps f h (stay m) = refl
linked_keeps f h (step {u = u} {v = v} m e l) = h u v m (linked_start l) e ∙ linked_keeps f h l

module _ {g : Graph} (s : Symmetric g) {xs : List ℕ} {cs : List (List ℕ)} (r : Partition g xs cs) (h : Rising xs) where
  -- two in one part have one number
  pub part_same : {u w : ℕ} {c : List ℕ} → u ∈ xs → w ∈ xs → Memᴰ c cs → u ∈ c → w ∈ c → part_of cs u ≡ part_of cs w
  part_same m n l i j =
      let (a, p) = part_of_lem r h m in
      let (b, q) = part_of_lem r h n in
      let k = partition_component s r l in
      p.number
      ∙ ap lowest (component_same (partition_component s r p.listed) k p.member i ∙ component_same k (partition_component s r q.listed) j q.member)
      ∙ sym q.number

  pub part_lower : {u : ℕ} → u ∈ xs → part_of cs u ≤ u
  part_lower {u} m = let (c, p) = part_of_lem r h m in rw p.number (p.least u p.member)

  pub part_in : {u : ℕ} → u ∈ xs → part_of cs u ∈ xs
  part_in m = let (c, p) = part_of_lem r h m in rw p.number (component_in (partition_component s r p.listed) p.own)

  pub part_again : {u : ℕ} → u ∈ xs → part_of cs (part_of cs u) ≡ part_of cs u
  part_again m = let (c, p) = part_of_lem r h m in part_same (part_in m) m p.listed (equal-in p.number p.own) p.member

  -- joined vertices have one number
  pub part_joined : {u w : ℕ} → u ∈ xs → w ∈ xs → joined g u w ≡ true → part_of cs u ≡ part_of cs w
  part_joined m n e =
      let (c, p) = part_of_lem r h m in
      let (d, q) = part_of_lem r h n in
      p.number ∙ ap lowest (partition_apart s r p.listed q.listed p.member q.member e) ∙ sym q.number

  -- vertices with one number are linked
  pub part_linked : {u w : ℕ} → u ∈ xs → w ∈ xs → part_of cs u ≡ part_of cs w → Linked g xs u w
  part_linked {u} {w} m n e =
      let (c, p) = part_of_lem r h m in
      let (d, q) = part_of_lem r h n in
      let k = partition_component s r p.listed in
      let l = partition_component s r q.listed in
      let same : c ≡ d = component_same k l p.own (equal-in (sym p.number ∙ e ∙ q.number) q.own) in
      linked_wider (λ v. component_in k) (k.connected u w p.member (subst (λ c. w ∈ c) (sym same) q.member))
