-- When two partial assignments of a component do the same as far as a place d. The same masks are tried after both where the same masks are used, and where a place
-- is fixed, whatever masks are used (`candidates_alike`). They add the same where each earlier place that an edge joins to a place from the next one to d has the
-- same mask in both (`facing_alike`). Two assignments that differ in their last place only are such, if that place has no neighbour from the next place to d
-- (`siblings`).
use mathlib.Core.Bool.{false}
use mathlib.Core.Path.{◌≡◌, sym, ◌∙◌}
use mathlib.Core.List.{List, [], ◌∷◌, ◌++◌, append-nil, append_assoc}
use mathlib.Core.Logic.{◌⊎◌, inl, inr, ⊎_elim}
use Prim.Native.Nat.{ℕ, ◌+◌, ◌-◌, ◌≤◌, ◌<◌}
use native.Mathlib.Nat.{eq-or-lt_of_le}
use native.Mathlib.Omega.{arith}
use lib.Dec.{eqb}
use lib.ListN.{length, get_or, length-append, get_or-append}
use lib.Seq.{get_or-append-add}
use Rattle.rules.specs.Basics.{up_to, any_of, occurs}
use Rattle.rules.specs.Edges.{Graph}
use Rattle.rules.specs.Score.{pair_cost}
use Rattle.rules.specs.Peeling.{is_fixed}
use Rattle.rules.specs.Search.{added, different, candidates, candidates_in}
use Rattle.rules.proofs.Lists.{any_snoc}
use Rattle.rules.proofs.Sums.{sum_ext}
use Rattle.rules.proofs.Tests.{lt_or_ge, by_test}
use Rattle.theory.proofs.Each.{each_imp}
use Rattle.theory.proofs.Cost.{pair_free}
use Rattle.theory.proofs.Renaming.{different_snoc, Used, not_in}
use Rattle.theory.proofs.Trace.{Alike}

-- no edge joins u and v
abbrev pub Unjoined : Graph → ℕ → ℕ → Type 0
Unjoined g u v = (g.conflicts u v ≡ 0) × (g.stitches u v ≡ 0)

-- ---- The masks used

-- the same masks are in p' and in p
pub record SameUsed (p p' : List ℕ) : Type 0 where
  pub count : different p' ≡ different p
  pub member : (m : ℕ) → occurs m p' ≡ occurs m p

pub used_snoc : {p p' : List ℕ} (m : ℕ) → SameUsed p p' → SameUsed (p ++ (m ∷ [])) (p' ++ (m ∷ []))
used_snoc {p} {p'} m u = record {
  count = different_snoc p' m ∙ rw (u.count, u.member m) (sym (different_snoc p m));
  member = λ n. any_snoc (eqb n) p' m ∙ rw (u.member n) (sym (any_snoc (eqb n) p m));
}

pub used_append : (q : List ℕ) {p p' : List ℕ} → SameUsed p p' → different (p' ++ q) ≡ different (p ++ q)
used_append [] {p} {p'} u = rw (append-nil p', append-nil p) u.count
used_append (m ∷ q) {p} {p'} u = rw (append_assoc p' (m ∷ []) q, append_assoc p (m ∷ []) q) at (used_append q (used_snoc m u))

-- masks that are just those below one number are the same
pub used_same : {d : ℕ} {p p' : List ℕ} → Used d p → Used d p' → SameUsed p p'
used_same {d} {p} {p'} u v = record {
  count = v.count ∙ sym u.count;
  member = λ m. ⊎_elim
      (λ l. v.all m l ∙ sym (u.all m l))
      (λ l. not_in m p' (each_imp (λ x h. omega arith) p' v.below) ∙ sym (not_in m p (each_imp (λ x h. omega arith) p u.below)))
      (lt_or_ge m d);
}

-- ---- The masks tried

module _ (K : ℕ) (fixed : ℕ → ℕ) (k : ℕ) where
  -- they are the same after both, if the same masks are used where no place is fixed
  pub candidates_alike : {p p' : List ℕ} → length p' ≡ length p → (any_of (is_fixed fixed) (up_to k) ≡ false → SameUsed p p')
      → (q : List ℕ) → candidates_in K fixed k (p' ++ q) ≡ candidates_in K fixed k (p ++ q)
  unfolding candidates_in candidates
  candidates_alike {p} {p'} size used q =
      let e : length (p' ++ q) ≡ length (p ++ q) = omega (arith, length-append p q, length-append p' q) in
      rw e
      (by_test (any_of (is_fixed fixed) (up_to k))
      (λ some. rw some)
      (λ none. rw (none, used_append q (used none))))

-- ---- What is seen

-- What the places from the next one to d see of p and p' is the same, in a component of k places.
pub record Facing (g : Graph) (fixed : ℕ → ℕ) (k d : ℕ) (p p' : List ℕ) : Type 0 where
  pub size : length p' ≡ length p
  pub used : any_of (is_fixed fixed) (up_to k) ≡ false → SameUsed p p'
  pub masks : (i j : ℕ) → i < length p → length p ≤ j → j ≤ d → (get_or p' i 0 ≡ get_or p i 0) ⊎ Unjoined g i j

-- beyond lists that are as long, the same stands after both
after_both : (p p' q : List ℕ) → length p' ≡ length p → (i : ℕ) → length p ≤ i → get_or (p' ++ q) i 0 ≡ get_or (p ++ q) i 0
after_both p p' q size i l =
    let e : length p + (i - length p) ≡ i = omega arith in
    let e' : length p' + (i - length p) ≡ i = omega arith in
    rw e' at (get_or-append-add p' q (i - length p) 0) ∙ sym (rw e at (get_or-append-add p q (i - length p) 0))

module _ (weight : ℕ) {g : Graph} {fixed : ℕ → ℕ} {k d : ℕ} {p p' : List ℕ} (f : Facing g fixed k d p p') where
  -- so a mask adds the same after both
  facing_added : (q : List ℕ) (m : ℕ) → length p + length q ≤ d → added weight g (p' ++ q) m ≡ added weight g (p ++ q) m
  unfolding added
  facing_added q m h =
      let size = f.size in
      let j = length (p ++ q) in
      let e : length (p' ++ q) ≡ j = omega (arith, length-append p q, length-append p' q) in
      rw e
      (sum_ext j (λ i l. ⊎_elim
      (λ b. rw (get_or-append p' q 0 i (omega arith), get_or-append p q 0 i b)
      (⊎_elim
      (λ s. rw s)
      (λ n. free i j (get_or p' i 0) m n ∙ sym (free i j (get_or p i 0) m n))
      (f.masks i j b (omega (arith, length-append p q)) (omega (arith, length-append p q)))))
      (λ b. rw (after_both p p' q size i b))
      (lt_or_ge i (length p))))
    where
      -- two places that no edge joins cost nothing, whatever their masks
      free : (u v x y : ℕ) → Unjoined g u v → pair_cost weight g u v x y ≡ 0
      free u v x y n = pair_free weight g u v x y (λ _. rw n.0) (λ _. rw n.1)

  pub facing_alike : (K r : ℕ) → Alike (added weight g) (candidates_in K fixed k) r d p p'
  facing_alike K r = record {
    size = f.size;
    tried = λ q h. candidates_alike K fixed k f.size f.used q;
    cost = λ q m h i. rw (facing_added q m h);
  }

-- Assignments that differ in their last place only, where that place has no neighbour from the next place to d.
pub siblings : (g : Graph) (fixed : ℕ → ℕ) (k d : ℕ) (p : List ℕ) (m m' : ℕ) → (any_of (is_fixed fixed) (up_to k) ≡ false → SameUsed (p ++ (m ∷ [])) (p ++ (m' ∷ [])))
    → ((j : ℕ) → length p < j → j ≤ d → Unjoined g (length p) j) → Facing g fixed k d (p ++ (m ∷ [])) (p ++ (m' ∷ []))
siblings g fixed k d p m m' used far = record {
  size = omega (arith, length-append p (m ∷ []), length-append p (m' ∷ []));
  used = used;
  masks = λ i j l h e. ⊎_elim
      (λ s. inr (rw s (far j (omega (arith, length-append p (m ∷ []))) e)))
      (λ b. inl (get_or-append p (m' ∷ []) 0 i b ∙ sym (get_or-append p (m ∷ []) 0 i b)))
      (eq-or-lt_of_le (omega (arith, length-append p (m ∷ []))));
}
