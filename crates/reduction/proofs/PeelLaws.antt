-- Peeling one vertex at a time. Whether a vertex may go is told by two counts, and its removal by its lowest stitch neighbour. What peeling makes of
-- a set is the removals that are listed, in front of what it makes of the vertices still there (`Progress`). Assumes nothing.
use mathlib.Core.Bool.{Bool, true, false, not, ◌&&◌, ◌||◌, and-true, and-false, or-false}
use mathlib.Core.List.{List, [], ◌∷◌, ◌++◌, append-nil, map-append}
use mathlib.Core.Option.{none, some}
use mathlib.Core.Path.{◌≡◌, refl, sym, ap, ◌∙◌}
use Prim.Native.Nat.{ℕ, zero, suc, ◌+◌, ◌≤◌, ◌<◌}
use native.Mathlib.Omega.{arith}
use lib.Dec.{eqb, ltb}
use lib.ListN.{length, length-append}
use lib.Seq.{append_snoc}
use borrow.Author.Tests.{eq-eqb, ne_eqb}
use Rattle.std.specs.List.{All}
use Rattle.std.specs.Prelude as std
use Rattle.std.specs.Prelude.{None, Some}
use Rattle.std.proofs.lemmas.List.Elements.{All-nil, All-push}
use Rattle.bitset.specs.Bits.{member, Size, Least}
use Rattle.bitset.specs.Edges.{has_edge, both}
use Rattle.bitset.specs.declared.matrix.Matrix.{Matrix}
use Rattle.bitset.proofs.Counts.{count_none}
use Rattle.rules.specs.Basics.{find, without}
use Rattle.rules.specs.Settings.{unset}
use Rattle.rules.specs.Edges.{Graph, in_stitch}
use Rattle.rules.specs.Peeling as rules
use Rattle.rules.specs.Peeling.{conflict_degree, stitch_degree, low_degree, is_pendant, is_fixed, may_go, removal_of, Peeled, peel_for, peel}
use Rattle.rules.proofs.Lists.{◌∈◌, first_in, find_first, length_without, Distinct, count_some}
use Rattle.rules.proofs.Tests.{by_test, clash, and_left, and_right}
use Rattle.adjacency.specs.Adjacency.{word_graph}
use Rattle.adjacency.specs.Members.{members_of}
use Rattle.adjacency.proofs.MemberLaws.{in_members, members_distinct, members_few, members_out}
use Rattle.reduction.specs.declared.peeling.Removal.{Removal}
use Rattle.reduction.specs.Removals.{went, removal_at, removals_of, WasIn, PeeledTo}
use Rattle.reduction.proofs.MemberTests.{degree, among, found_member}

-- ---- whether v may go

-- not where it is fixed
pub go_fixed : (K : ℕ) (g : Graph) (fixed : ℕ → ℕ) (there : List ℕ) (v : ℕ) → (fixed v ≡ unset → ⊥) → false ≡ may_go K g fixed there v
unfolding may_go
go_fixed K g fixed there v d = rw (ne_eqb (fixed v) unset d)

-- else by its two degrees
module _ (K : ℕ) (conflicts stitches : Matrix) (fixed : ℕ → ℕ) (s : List ℕ) (v near stitched : ℕ) (nearBy : Size (both conflicts v s) near) (stitchedTo : Size (both stitches v s) stitched) where
  module _ (free : fixed v ≡ unset) where
    by_degrees : may_go K (word_graph conflicts stitches) fixed (members_of s) v ≡ ((eqb stitched 0 && ltb near K) || (eqb near 0 && eqb stitched 1))
    unfolding may_go
    by_degrees = rw (eq-eqb (fixed v) unset free, degree conflicts s v, degree stitches s v, ← nearBy.count, ← stitchedTo.count)

    pub go_unstitched : stitched ≡ 0 → ltb near K ≡ may_go K (word_graph conflicts stitches) fixed (members_of s) v
    go_unstitched e = sym (by_degrees ∙ rw (e, and-false (eqb near 0)) (or-false (ltb near K)))

    pub go_pendant : stitched ≡ 1 → eqb near 0 ≡ may_go K (word_graph conflicts stitches) fixed (members_of s) v
    go_pendant e = sym (by_degrees ∙ rw e (and-true (eqb near 0)))

    pub go_never : (stitched ≡ 0 → ⊥) → (stitched ≡ 1 → ⊥) → false ≡ may_go K (word_graph conflicts stitches) fixed (members_of s) v
    go_never d e = sym (by_degrees ∙ rw (ne_eqb stitched 0 d, ne_eqb stitched 1 e) (and-false (eqb near 0)))

-- ---- the removal of v, by its lowest stitch neighbour

module _ (K : ℕ) (conflicts stitches : Matrix) (fixed : ℕ → ℕ) (s : List ℕ) (v : ℕ) where
  abbrev g : Graph
  g = word_graph conflicts stitches

  stitched_low : stitch_degree g (members_of s) v ≡ 0 → may_go K g fixed (members_of s) v ≡ true → low_degree K g (members_of s) v ≡ true
  unfolding may_go
  stitched_low e goes =
      by_test (low_degree K g (members_of s) v) (λ p. p)
      (λ p. clash (and_right (not (is_fixed fixed v)) (low_degree K g (members_of s) v || is_pendant g (members_of s) v) goes) (rw (p, e) (and-false (eqb (conflict_degree g (members_of s) v) 0))))

  pub removal_found : (o : std.Option ℕ) → may_go K g fixed (members_of s) v ≡ true → Least (both stitches v s) o → went v o ≡ removal_of K g (members_of s) v
  removal_found None goes none-joined =
      let unstitched : stitch_degree g (members_of s) v ≡ 0 = degree stitches s v ∙ count_none 512 (both stitches v s) none-joined in
      rw (stitched_low unstitched goes)
  removal_found (Some u) goes (l, first) =
      let found : find (in_stitch g v) (members_of s) ≡ some u
      = found_member (in_stitch g v) s l (λ k h. among stitches s v k ∙ first.before k h) (among stitches s v u ∙ first.found l) in
      let f = find_first (in_stitch g v) (members_of s) found in
      let some-stitch : 0 < stitch_degree g (members_of s) v = count_some (in_stitch g v) (first_in f) f.pass in
      rw (ne_eqb (stitch_degree g (members_of s) v) 0 (λ z. omega arith), found)

-- ---- rounds

module _ (K : ℕ) (g : Graph) (fixed : ℕ → ℕ) where
  rounds_none : (rounds : ℕ) (there : List ℕ) → find (may_go K g fixed there) there ≡ none → peel_for rounds K g fixed there ≡ record { removed = []; core = there }
  unfolding peel_for
  rounds_none zero there e = refl
  rounds_none (suc rounds) there e = rw (e, peel_for)

  peel_none : (there : List ℕ) → find (may_go K g fixed there) there ≡ none → peel K g fixed there ≡ record { removed = []; core = there }
  peel_none there = rounds_none (length there) there

  rounds_some : (rounds : ℕ) (there : List ℕ) (v : ℕ) → find (may_go K g fixed there) there ≡ some v
      → peel_for (suc rounds) K g fixed there ≡ record { removed = removal_of K g there v ∷ (peel_for rounds K g fixed (without v there)).removed; core = (peel_for rounds K g fixed (without v there)).core }
  unfolding peel_for
  rounds_some rounds there v e = rw (e, peel_for)

  peel_some : (there : List ℕ) (v : ℕ) → Distinct there → find (may_go K g fixed there) there ≡ some v
      → peel K g fixed there ≡ record { removed = removal_of K g there v ∷ (peel K g fixed (without v there)).removed; core = (peel K g fixed (without v there)).core }
  peel_some there v d e =
      ap (λ (n : ℕ). peel_for n K g fixed there) (sym (length_without (first_in (find_first (may_go K g fixed there) there e)) d))
      ∙ rounds_some (length (without v there)) there v e

-- ---- how far peeling is

-- a number that was found passes
found_is : (f : ℕ → Bool) (o : std.Option ℕ) → Least f o → (u : ℕ) → o ≡ Some u → (u < 512) × (f u ≡ true)
found_is f None out u e = let z : ⊥ = cc in absurd z
found_is f (Some x) (l, first) u e = let q : x ≡ u = cc in rw (← q) (l, first.found l)

abbrev ahead : List rules.Removal → Peeled → Peeled
ahead rs p = record { removed = rs ++ p.removed; core = p.core }

ahead_snoc : (rs : List rules.Removal) (r : rules.Removal) (p : Peeled) → ahead rs (record { removed = r ∷ p.removed; core = p.core }) ≡ ahead (rs ++ (r ∷ [])) p
ahead_snoc rs r p = ap (λ (l : List rules.Removal). record { removed = l; core = p.core }) (sym (append_snoc rs r p.removed))

pub record Progress (K : ℕ) (g : Graph) (fixed : ℕ → ℕ) (before there : List ℕ) (rs : List Removal) : Type 0 where
  pub same : peel K g fixed (members_of before) ≡ ahead (removals_of rs) (peel K g fixed (members_of there))
  pub room : length rs + length (members_of there) ≤ 512
  pub inside : (k : ℕ) → member there k ≡ true → member before k ≡ true
  pub listed : All (WasIn before) rs

pub progress_none : (K : ℕ) (g : Graph) (fixed : ℕ → ℕ) (before : List ℕ) → Progress K g fixed before before []
progress_none K g fixed before = record { same = refl; room = omega (arith, members_few before); inside = λ k e. e; listed = All-nil (WasIn before) }

module _ {K : ℕ} (conflicts stitches : Matrix) {fixed : ℕ → ℕ} {before there : List ℕ} {rs : List Removal}
    (p : Progress K (word_graph conflicts stitches) fixed before there rs) where
  abbrev words : Graph
  words = word_graph conflicts stitches

  abbrev goes : ℕ → Bool
  goes = may_go K words fixed (members_of there)

  pub progress_end : find goes (members_of there) ≡ none → PeeledTo K words fixed before there rs
  progress_end nothing =
      let all = p.same ∙ ap (ahead (removals_of rs)) (peel_none K words fixed (members_of there) nothing) in
      record {
        removed = sym (ap (λ (x : Peeled). x.removed) all ∙ append-nil (removals_of rs));
        core = sym (ap (λ (x : Peeled). x.core) all);
        few = omega (arith, p.room);
        inside = p.inside;
        listed = p.listed;
      }

  module _ {v : ℕ} (it : find goes (members_of there) ≡ some v) where
    is_there : v ∈ members_of there
    is_there = first_in (find_first goes (members_of there) it)

    pub goes_small : v < 512
    goes_small = ((in_members there v).0 is_there).0

    pub goes_room : length rs < 512
    goes_room = omega (arith, p.room, length_without is_there (members_distinct there))

    pub progress_more : (o : std.Option ℕ) {there' : List ℕ} → Least (both stitches v there) o → ((k : ℕ) → member there' k ≡ (member there k && not (eqb k v)))
        → (Progress K words fixed before there' (rs ++ (record { vertex = v; neighbour = o } ∷ []))) × (length (members_of there') < length (members_of there))
    progress_more o {there'} least out =
        let r : Removal = record { vertex = v; neighbour = o } in
        let removal = removal_found K conflicts stitches fixed there v o (find_first goes (members_of there) it).pass least in
        let left : members_of there' ≡ without v (members_of there) = members_out there there' v out in
        let fewer : suc (length (members_of there')) ≡ length (members_of there) = rw left (length_without is_there (members_distinct there)) in
        let rest = peel K words fixed (members_of there') in
        let round : peel K words fixed (members_of there) ≡ record { removed = went v o ∷ rest.removed; core = rest.core }
        = rw (left, removal) (peel_some K words fixed (members_of there) v (members_distinct there) it) in (
          record {
            same =
                p.same
                ∙ ap (ahead (removals_of rs)) round
                ∙ ahead_snoc (removals_of rs) (went v o) rest
                ∙ ap (λ (l : List rules.Removal). ahead l rest) (sym (map-append removal_at rs (r ∷ [])));
            room = omega (arith, p.room, length-append rs (r ∷ []));
            inside = λ k e. p.inside k (and_left (member there k) (not (eqb k v)) (sym (out k) ∙ e));
            listed = All-push (WasIn before) rs r p.listed (record {
              small = goes_small;
              vertex = p.inside v ((in_members there v).0 is_there).1;
              neighbour = λ u e.
                  let f = found_is (both stitches v there) o least u e in
                  (f.0, p.inside u (and_right (has_edge stitches v u) (member there u) f.1));
            });
          },
          omega arith,
        )
