-- Peeling, components and putting back ask only who is whose neighbour and who has a fixed mask, and that only of the vertices given. So each stage but the search may be
-- done on any graph with the same neighbours among them (`decompose_stages`), as one that adjacency words hold, whatever the number of edges between two
-- vertices. Only the search sees how many edges there are.
use mathlib.Core.Bool.{Bool, false, not, ◌&&◌}
use mathlib.Core.List.{List, [], ◌∷◌}
use mathlib.Core.Logic.{⊎_elim}
use mathlib.Core.Path.{◌≡◌, refl, sym, ap, ap₂, ◌∙◌}
use Prim.Native.Nat.{ℕ, zero, suc}
use lib.Dec.{eqb}
use lib.ListN.{length, set}
use Rattle.rules.specs.Basics.{up_to, any_of, count_of, keep, find, found_or, occurs, without}
use Rattle.rules.specs.Edges.{Graph, in_conflict, in_stitch, joined}
use Rattle.rules.specs.Score.{mask_of}
use Rattle.rules.specs.Peeling.{Removal, low, pendant, Peeled, conflict_degree, stitch_degree, may_go, removal_of, peel_for, peel}
use Rattle.rules.specs.Components.{reach_for, component_of, components_for, components}
use Rattle.rules.specs.Decomposition.{Reached, Placed, put_back, put_back_all, with_returned, search_all, decompose}
use Rattle.rules.proofs.Lists.{◌∈◌, here, later, none_in, here-or-later, equal-in, any_same, keep_same, keep_in, without_in, first_in, find_first, length_keep}
use Rattle.rules.proofs.Finding.{find_same}
use Rattle.theory.proofs.Peeling.{vertex_of, gone, parts}
use Rattle.theory.proofs.Reach.{by_found}

-- g and h have the same neighbours among vs
pub record SameNeighbours (g h : Graph) (vs : List ℕ) : Type 0 where
  pub conflict : (u v : ℕ) → u ∈ vs → v ∈ vs → in_conflict g u v ≡ in_conflict h u v
  pub stitch : (u v : ℕ) → u ∈ vs → v ∈ vs → in_stitch g u v ≡ in_stitch h u v

pub same_among : {g h : Graph} {vs ws : List ℕ} → ((u : ℕ) → u ∈ ws → u ∈ vs) → SameNeighbours g h vs → SameNeighbours g h ws
same_among f s = record {
  conflict = λ u v m n. s.conflict u v (f u m) (f v n);
  stitch = λ u v m n. s.stitch u v (f u m) (f v n);
}

-- ---- Tests that agree on a list's members

pub count_same : (f h : ℕ → Bool) (xs : List ℕ) → ((u : ℕ) → u ∈ xs → f u ≡ h u) → count_of f xs ≡ count_of h xs
count_same f h xs e = sym (length_keep f xs) ∙ ap length (keep_same f h xs e) ∙ length_keep h xs

-- ---- Peeling

-- the same vertices of vs have the same fixed masks
abbrev pub SameFixed : (ℕ → ℕ) → (ℕ → ℕ) → List ℕ → Type 0
SameFixed fixed fixed' vs = (v : ℕ) → v ∈ vs → fixed v ≡ fixed' v

module _ (K : ℕ) {g h : Graph} (fixed fixed' : ℕ → ℕ) where
  module _ {there : List ℕ} (s : SameNeighbours g h there) (f : SameFixed fixed fixed' there) {v : ℕ} (i : v ∈ there) where
    conflicts_same : conflict_degree g there v ≡ conflict_degree h there v
    conflicts_same = count_same (in_conflict g v) (in_conflict h v) there (λ u m. s.conflict v u i m)

    stitches_same : stitch_degree g there v ≡ stitch_degree h there v
    stitches_same = count_same (in_stitch g v) (in_stitch h v) there (λ u m. s.stitch v u i m)

    may_same : may_go K g fixed there v ≡ may_go K h fixed' there v
    unfolding may_go
    may_same = rw (conflicts_same, stitches_same, f v i)

    removal_same : removal_of K g there v ≡ removal_of K h there v
    removal_same = rw (conflicts_same, stitches_same, find_same (in_stitch g v) (in_stitch h v) there (λ u m. s.stitch v u i m))

  pub peel_same : (rounds : ℕ) (there : List ℕ) → SameNeighbours g h there → SameFixed fixed fixed' there → peel_for rounds K g fixed there ≡ peel_for rounds K h fixed' there
  unfolding peel_for
  peel_same zero there s f = refl
  peel_same (suc rounds) there s f =
      let may = may_go K g fixed there in
      let may' = may_go K h fixed' there in
      let e : find may there ≡ find may' there = find_same may may' there (λ u m. may_same s f m) in
      by_found (find may' there)
      (λ q. rw (e, q, peel_for))
      (λ v q.
      let i = first_in (find_first may' there q) in
      let stays : (u : ℕ) → u ∈ without v there → u ∈ there = λ u m. (without_in v there m).0 in
      let rest = peel_same rounds (without v there) (same_among stays s) (λ u m. f u (stays u m)) in
      rw (e, q, peel_for)
      (ap₂ (λ (r : Removal) (p : Peeled). goes r p) (removal_same s f i) rest))
    where
      goes : Removal → Peeled → Peeled
      goes r p = record { removed = r ∷ p.removed; core = p.core }

-- ---- Components

-- g and h join the same vertices among vs, by edges of whatever kind
pub record SameJoined (g h : Graph) (vs : List ℕ) : Type 0 where
  pub edge : (u v : ℕ) → u ∈ vs → v ∈ vs → joined g u v ≡ joined h u v

pub joined_same : {g h : Graph} {vs : List ℕ} → SameNeighbours g h vs → SameJoined g h vs
joined_same s = record { edge = λ u v m n. rw (s.conflict u v m n, s.stitch u v m n) }

module _ {g h : Graph} where
  reach_same : {vs : List ℕ} → SameJoined g h vs → (rounds : ℕ) (inside outside : List ℕ) → ((u : ℕ) → u ∈ inside → u ∈ vs) → ((u : ℕ) → u ∈ outside → u ∈ vs)
      → reach_for rounds g inside outside ≡ reach_for rounds h inside outside
  unfolding reach_for
  reach_same s zero inside outside a b = refl
  reach_same s (suc rounds) inside outside a b =
      let f : ℕ → Bool = λ v. any_of (joined g v) inside in
      let k : ℕ → Bool = λ v. any_of (joined h v) inside in
      let e : find f outside ≡ find k outside = find_same f k outside (λ v m. any_same (joined g v) (joined h v) inside (λ u n. s.edge v u (b v m) (a u n))) in
      by_found (find k outside)
      (λ q. rw (e, q, reach_for))
      (λ v q.
      let i = first_in (find_first k outside q) in
      rw (e, q, reach_for)
      (reach_same s rounds (v ∷ inside) (without v outside) (λ u m. ⊎_elim (λ d. equal-in d (b v i)) (a u) (here-or-later m)) (λ u m. b u (without_in v outside m).0)))

  pub component_of_same : (v : ℕ) (after : List ℕ) → SameJoined g h (v ∷ after) → component_of g v after ≡ component_of h v after
  component_of_same v after s =
      ap (λ (inside : List ℕ). keep (λ u. occurs u inside) (v ∷ after))
      (reach_same s (length after) (v ∷ []) after (λ u m. ⊎_elim (λ d. here d) (λ n. none_in n) (here-or-later m)) (λ u m. later m))

  components_for_same : (rounds : ℕ) (xs : List ℕ) → SameJoined g h xs → components_for rounds g xs ≡ components_for rounds h xs
  unfolding components_for
  components_for_same zero xs s = refl
  components_for_same (suc rounds) [] s = refl
  components_for_same (suc rounds) (v ∷ after) s =
      let d = component_of h v after in
      let stay : (u : ℕ) → u ∈ keep (λ u. not (occurs u d)) after → u ∈ v ∷ after = λ u m. later (keep_in (λ u. not (occurs u d)) after m).0 in
      ap (λ (c : List ℕ). c ∷ components_for rounds g (keep (λ u. not (occurs u c)) after)) (component_of_same v after s)
      ∙ ap (λ (cs : List (List ℕ)). d ∷ cs) (components_for_same rounds (keep (λ u. not (occurs u d)) after) (record { edge = λ u w m n. s.edge u w (stay u m) (stay w n) }))

  pub components_same : (xs : List ℕ) → SameJoined g h xs → components g xs ≡ components h xs
  components_same xs s = components_for_same (length xs) xs s

-- ---- Putting back

module _ (K : ℕ) {g h : Graph} {vs : List ℕ} (s : SameNeighbours g h vs) where
  put_same : (r : Removal) (a : Placed) → vertex_of r ∈ vs → ((u : ℕ) → u ∈ a.there → u ∈ vs) → put_back K g r a ≡ put_back K h r a
  unfolding put_back
  put_same (pendant v w) a m b = refl
  put_same (low v) a m b =
      ap (λ (x : ℕ). returns x)
      (ap (found_or 0)
      (find_same _ _ (up_to K) (λ x _. ap not (any_same _ _ a.there (λ u n. ap (λ (t : Bool). t && eqb (mask_of a.masks u) x) (s.conflict v u m (b u n)))))))
    where
      returns : ℕ → Placed
      returns x = record { there = v ∷ a.there; masks = set a.masks v x }

  put_there : (rs : List Removal) (a : Placed) → ((r : ℕ) → r ∈ gone (record { removed = rs; core = [] }) → r ∈ vs) → ((u : ℕ) → u ∈ a.there → u ∈ vs)
      → (u : ℕ) → u ∈ (put_back_all K h rs a).there → u ∈ vs
  unfolding put_back_all put_back
  put_there [] a f b u m = b u m
  put_there (low v ∷ rs) a f b u m = ⊎_elim (λ d. equal-in d (f v (here refl))) (λ n. put_there rs a (λ r i. f r (later i)) b u n) (here-or-later m)
  put_there (pendant v w ∷ rs) a f b u m = ⊎_elim (λ d. equal-in d (f v (here refl))) (λ n. put_there rs a (λ r i. f r (later i)) b u n) (here-or-later m)

  pub put_all_same : (rs : List Removal) (a : Placed) → ((r : ℕ) → r ∈ gone (record { removed = rs; core = [] }) → r ∈ vs) → ((u : ℕ) → u ∈ a.there → u ∈ vs)
      → put_back_all K g rs a ≡ put_back_all K h rs a
  unfolding put_back_all
  put_all_same [] a f b = refl
  put_all_same (r ∷ rs) a f b =
      ap (put_back K g r) (put_all_same rs a (λ u i. f u (later i)) b)
      ∙ put_same r (put_back_all K h rs a) (f (vertex_of r) (here refl)) (put_there rs a (λ u i. f u (later i)) b)

-- ---- The whole

-- the stages of the decomposition, with the neighbours of h and the edges of g
abbrev pub stages : ℕ → ℕ → ℕ → Graph → Graph → (ℕ → ℕ) → List ℕ → List ℕ → Reached
stages K W budget h g fixed vs masks =
    let peeled = peel K h fixed vs in
    let searched = search_all K W budget g fixed (components h peeled.core) (record { steps = 0; stopped = false; masks = masks }) in
    record { steps = searched.steps; stopped = searched.stopped; masks = with_returned K h peeled searched.masks }

pub decompose_stages : (K W budget : ℕ) {g h : Graph} (fixed : ℕ → ℕ) (vs masks : List ℕ) → SameNeighbours g h vs
    → decompose K W budget g fixed vs masks ≡ stages K W budget h g fixed vs masks
unfolding decompose
decompose_stages K W budget {g} {h} fixed vs masks s =
    let p = parts K h fixed (length vs) vs in
    let peeled = peel K h fixed vs in
    let inner = same_among p.core_in s in
    let found = search_all K W budget g fixed (components h peeled.core) (record { steps = 0; stopped = false; masks = masks }) in
    ap (λ (q : Peeled). rest g (components g q.core) q) (peel_same K fixed fixed (length vs) vs s (λ v m. refl))
    ∙ ap (λ (cs : List (List ℕ)). rest g cs peeled) (components_same peeled.core (joined_same inner))
    ∙ ap (λ (placed : Placed). done found placed) (put_all_same K s peeled.removed (record { there = peeled.core; masks = found.masks }) p.gone_in p.core_in)
  where
    done : Reached → Placed → Reached
    done r placed = record { steps = r.steps; stopped = r.stopped; masks = placed.masks }

    rest : Graph → List (List ℕ) → Peeled → Reached
    rest k cs q =
        let r = search_all K W budget g fixed cs (record { steps = 0; stopped = false; masks = masks }) in
        done r (put_back_all K k q.removed (record { there = q.core; masks = r.masks }))
