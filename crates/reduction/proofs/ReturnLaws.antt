-- Putting back one vertex at a time. Neighbours' masks are gathered from a set that loses each neighbour as it is met (`Seen`), the lowest clear bit is
-- the rules' free mask, and one vertex after the other returns to those present (`Returning`). Assumes nothing.
use mathlib.Core.Bool.{Bool, true, false, not, ◌&&◌, ◌||◌, or-true, or-false, or_assoc}
use mathlib.Core.List.{List, [], ◌∷◌, ◌++◌, map-append}
use mathlib.Core.Logic.{◌⊎◌, inl, inr, ⊎_elim}
use mathlib.Core.Path.{◌≡◌, refl, sym, ap, ◌∙◌}
use Prim.Native.Nat.{ℕ, ◌≤◌, ◌<◌}
use native.Mathlib.Omega.{arith}
use lib.Dec.{eqb}
use lib.ListN.{length, set, length-set}
use borrow.Author.Tests.{eqb-true, eq-eqb}
use Rattle.std.proofs.lemmas.List.{nil_from_length}
use Rattle.std.proofs.lemmas.List.Elements.{All-weaker, All-pop}
use Rattle.std.specs.Prelude as std
use Rattle.std.specs.Prelude.{None, Some, unwrap_or}
use Rattle.bitset.specs.Bits.{bit, member, Taken, LowestFree}
use Rattle.bitset.specs.Edges.{has_edge, both}
use Rattle.bitset.specs.declared.matrix.Matrix.{Matrix}
use Rattle.rules.specs.Basics.{up_to, any_of, find, found_or, without}
use Rattle.rules.specs.Edges.{Graph, in_conflict}
use Rattle.rules.specs.Score.{mask_of}
use Rattle.rules.specs.Peeling as rules
use Rattle.rules.specs.Decomposition.{Placed, free_mask, put_back, put_back_all}
use Rattle.rules.proofs.Lists.{◌∈◌, here, later, here-or-later, set_each, Same, any_in, in_any, any_out, any_same, out_any}
use Rattle.rules.proofs.Finding.{find_up_to, find_none_up_to, find_same, any_members, any_without}
use Rattle.rules.proofs.Tests.{by_test, clash, and_left, and_right, or_either, eqb_sym}
use Rattle.adjacency.specs.Adjacency.{word_graph}
use Rattle.adjacency.specs.Members.{members_of}
use Rattle.adjacency.proofs.AdjacencyLaws.{given_test}
use Rattle.adjacency.proofs.MemberLaws.{in_members, members_out}
use Rattle.reduction.specs.declared.peeling.Removal.{Removal}
use Rattle.reduction.specs.Removals.{went, removal_at, removals_of}
use Rattle.reduction.specs.Returning.{takes, InUse, mask_back, ReturnsWith, Masked, HasPlace, Placeable, PutBack}

-- ---- the masks in use

-- the masks in `used`, and those of the neighbours still to come, are those of all neighbours
pub record Seen (words : Matrix) (there masks rest : List ℕ) (v used : ℕ) : Type 0 where
  pub bits : (m : ℕ) → (bit used m || any_of (takes words masks v m) (members_of rest)) ≡ any_of (takes words masks v m) (members_of there)
  pub inside : (k : ℕ) → k < 512 → member rest k ≡ true → both words v there k ≡ true

pub seen_none : (words : Matrix) (there masks rest : List ℕ) (v used : ℕ) → ((m : ℕ) → bit used m ≡ false)
    → ((k : ℕ) → member rest k ≡ both words v there k) → Seen words there masks rest v used
seen_none words there masks rest v used empty near = record {
  bits = λ m. rw (empty m) (by_test (any_of (takes words masks v m) (members_of there)) (λ e. here m e ∙ sym e) (λ e. out m e ∙ sym e));
  inside = λ k l e. sym (near k) ∙ e;
}
  where
    -- a neighbour there with the mask is one of those to come
    here : (m : ℕ) → any_of (takes words masks v m) (members_of there) ≡ true → any_of (takes words masks v m) (members_of rest) ≡ true
    here m e =
        let f = any_in (takes words masks v m) (members_of there) e in
        let r = (in_members there f.0).0 f.1 in
        let joined : has_edge words v f.0 ≡ true = and_left (has_edge words v f.0) (eqb (mask_of masks f.0) m) f.2 in
        in_any (takes words masks v m) ((in_members rest f.0).1 (r.0, near f.0 ∙ rw (joined, r.1))) f.2

    out : (m : ℕ) → any_of (takes words masks v m) (members_of there) ≡ false → any_of (takes words masks v m) (members_of rest) ≡ false
    out m e = out_any (takes words masks v m) (members_of rest) λ u i.
        let r = (in_members rest u).0 i in
        let n = sym (near u) ∙ r.1 in
        any_out (takes words masks v m) (members_of there) e u ((in_members there u).1 (r.0, and_right (has_edge words v u) (member there u) n))

module _ {words : Matrix} {there masks rest : List ℕ} {v used : ℕ} (seen : Seen words there masks rest v used) where
  pub seen_all : ((k : ℕ) → k < 512 → member rest k ≡ false) → InUse words there masks v used
  seen_all none = record { bits = λ m. sym (or-false (bit used m)) ∙ ap (λ (b : Bool). bit used m || b) (sym (none_left m)) ∙ seen.bits m }
    where
      none_left : (m : ℕ) → any_of (takes words masks v m) (members_of rest) ≡ false
      none_left m = out_any (takes words masks v m) (members_of rest) λ w i.
          let r = (in_members rest w).0 i in clash r.1 (none w r.0)

  module _ {u : ℕ} {rest' : List ℕ} (taken : Taken rest u rest') where
    met : member rest u ≡ true
    met = taken.first.found taken.small

    near : both words v there u ≡ true
    near = seen.inside u taken.small met

    pub met_there : member there u ≡ true
    met_there = and_right (has_edge words v u) (member there u) near

    pub seen_more : {used' : ℕ} → ((k : ℕ) → bit used' k ≡ (bit used k || eqb k (mask_of masks u))) → Seen words there masks rest' v used'
    seen_more {used'} more =
        let is-left : u ∈ members_of rest = (in_members rest u).1 (taken.small, met) in
        let left : members_of rest' ≡ without u (members_of rest) = members_out rest rest' u taken.out in
        let joined : has_edge words v u ≡ true = and_left (has_edge words v u) (member there u) near in
        let one : (m : ℕ) → any_of (takes words masks v m) (members_of rest) ≡ (eqb m (mask_of masks u) || any_of (takes words masks v m) (members_of rest'))
        = λ m. rw (left, eqb_sym m (mask_of masks u)) (any_without (takes words masks v m) is-left ∙ rw joined) in
        record {
          bits = λ m.
              rw (more m)
              (or_assoc (bit used m) (eqb m (mask_of masks u)) (any_of (takes words masks v m) (members_of rest'))
              ∙ ap (λ (b : Bool). bit used m || b) (sym (one m))
              ∙ seen.bits m);
          inside = λ k l e. seen.inside k l (and_left (member rest k) (not (eqb k u)) (sym (taken.out k) ∙ e));
        }

-- ---- the lowest free mask

-- the test by words and members is the rules' test
taken : (words stitches : Matrix) (masks present there : List ℕ) (v m : ℕ) → Same present (members_of there)
    → any_of (λ u. in_conflict (word_graph words stitches) v u && eqb (mask_of masks u) m) present ≡ any_of (takes words masks v m) (members_of there)
taken words stitches masks present there v m s =
    any_same (λ u. in_conflict (word_graph words stitches) v u && eqb (mask_of masks u) m) (takes words masks v m) present (λ u i. rw (given_test (has_edge words v u)))
    ∙ any_members (takes words masks v m) present (members_of there) s

-- the lowest free mask, or 0 where none is, is found, and below 8
found : (K x : ℕ) (o : std.Option ℕ) → LowestFree K x o → unwrap_or o 0 ≡ found_or 0 (find (λ m. not (bit x m)) (up_to K))
found K x None all = sym (ap (found_or 0) (find_none_up_to (λ m. not (bit x m)) K (λ m l. ap not (all m l))))
found K x (Some m) lowest = sym (ap (found_or 0) (find_up_to (λ k. not (bit x k)) K m lowest.small (λ k h. ap not (lowest.below k h)) (ap not lowest.clear)))

pub free_small : (K x : ℕ) (o : std.Option ℕ) → K ≤ 8 → LowestFree K x o → unwrap_or o 0 < 8
free_small K x None few all = omega arith
free_small K x (Some m) few lowest = omega (arith, lowest.small)

pub free_in_use : (K : ℕ) (words : Matrix) (there masks : List ℕ) (v x : ℕ) (o : std.Option ℕ) → InUse words there masks v x → LowestFree K x o
    → (stitches : Matrix) → unwrap_or o 0 ≡ free_mask K (word_graph words stitches) (record { there = members_of there; masks = masks }) v
free_in_use K words there masks v x o used free stitches =
    found K x o free
    ∙ ap (found_or 0) (find_same (λ m. not (bit x m)) _ (up_to K)
    (λ m i. ap not (used.bits m ∙ sym (taken words stitches masks (members_of there) there v m (λ u. (λ n. n, λ n. n))))))

-- ---- how far putting back is

-- the removals still to return make of those present now what all of them make of those present at the start
pub record Returning (K : ℕ) (words : Matrix) (all left : List Removal) (start before there masks : List ℕ) : Type 0 where
  pub present : List ℕ
  pub same : Same present (members_of there)
  pub rest : (stitches : Matrix)
      → let g = word_graph words stitches in
      put_back_all K g (removals_of all) (record { there = members_of start; masks = before })
      ≡ put_back_all K g (removals_of left) (record { there = present; masks = masks })
  pub size : length masks ≡ length before
  pub masked : Masked there masks
  pub placeable : Placeable left masks

pub returning_none : (K : ℕ) (words : Matrix) (all : List Removal) {start before : List ℕ} → Placeable all before → Masked start before → Returning K words all all start before start before
returning_none K words all {start} placeable masked = record {
  present = members_of start;
  same = λ u. (λ i. i, λ i. i);
  rest = λ stitches. refl;
  size = refl;
  masked = masked;
  placeable = placeable;
}

pub returning_all : {K : ℕ} {words : Matrix} {all left : List Removal} {start before there masks : List ℕ}
    → Returning K words all left start before there masks → length left ≡ 0 → PutBack K words all start before masks
unfolding put_back_all
returning_all {left = left} r e = record {
  masks = λ stitches. sym (ap (λ (a : Placed). a.masks) (rw (nil_from_length left e) at (r.rest stitches)));
  size = r.size;
  low = r.masked.low;
}

put_back_snoc : (K : ℕ) (g : Graph) (rs : List rules.Removal) (r : rules.Removal) (a : Placed) → put_back_all K g (rs ++ (r ∷ [])) a ≡ put_back_all K g rs (put_back K g r a)
unfolding put_back_all
put_back_snoc K g [] r a = refl
put_back_snoc K g (q ∷ rs) r a = ap (put_back K g q) (put_back_snoc K g rs r a)

put_one : (K : ℕ) (g : Graph) (v : ℕ) (o : std.Option ℕ) (m : ℕ) (a : Placed) → m ≡ mask_back K g a.there a.masks v o
    → put_back K g (went v o) a ≡ record { there = v ∷ a.there; masks = set a.masks v m }
unfolding put_back
put_one K g v None m a e = rw e
put_one K g v (Some u) m a e = rw e

module _ (there there' : List ℕ) (v : ℕ) (put : (k : ℕ) → member there' k ≡ (member there k || eqb k v)) where
  put_cases : (k : ℕ) → member there' k ≡ true → (member there k ≡ true) ⊎ (k ≡ v)
  put_cases k e = ⊎_elim inl (λ t. inr (eqb-true k v t)) (or_either (member there k) (eqb k v) (sym (put k) ∙ e))

  present_more : v < 512 → {present : List ℕ} → Same present (members_of there) → Same (v ∷ present) (members_of there')
  present_more l {present} s u = (
    λ i. ⊎_elim
        (λ (e : u ≡ v). (in_members there' u).1 (omega arith, put u ∙ rw (eq-eqb u v e) (or-true (member there u))))
        (λ n. let r = (in_members there u).0 ((s u).0 n) in (in_members there' u).1 (r.0, put u ∙ rw r.1))
        (here-or-later i),
    λ i. let r = (in_members there' u).0 i in ⊎_elim (λ e. later ((s u).1 ((in_members there u).1 (r.0, e)))) (λ e. here e) (put_cases u r.1),
  )

  masked_more : {masks : List ℕ} (m : ℕ) → v < length masks → m < 8 → Masked there masks → Masked there' (set masks v m)
  masked_more {masks} m l h old = record {
    placed = λ u b e. rw (length-set masks v m) (⊎_elim (λ p. old.placed u b p) (λ (q : u ≡ v). omega arith) (put_cases u e));
    low = set_each (λ x. x < 8) masks v m h old.low;
  }

-- places do not go when a mask is written
placed_still : {masks after : List ℕ} → length after ≡ length masks → (rs : List Removal) → Placeable rs masks → Placeable rs after
placed_still {masks} {after} e rs = All-weaker (HasPlace masks) (HasPlace after)
    (λ r p. record { small = p.small; vertex = omega (arith, p.vertex); neighbour = λ u q. omega (arith, p.neighbour u q) }) rs

-- one vertex returns: the last of those that are left
module _ {K : ℕ} {words : Matrix} {all left : List Removal} (earlier : List Removal) {r : Removal} {start before there masks : List ℕ}
    (returning : Returning K words all left start before there masks) (last : left ≡ earlier ++ (r ∷ [])) where
  split : (Placeable earlier masks) × (HasPlace masks r)
  split = All-pop (HasPlace masks) left earlier (Some r) last returning.placeable

  last_placed : HasPlace masks r
  last_placed = split.1

  pub returning_more : {there' : List ℕ} {m : ℕ} → ReturnsWith K words there masks r m → ((k : ℕ) → member there' k ≡ (member there k || eqb k r.vertex))
      → Returning K words all earlier start before there' (set masks r.vertex m)
  returning_more {there'} {m} with put = record {
    present = r.vertex ∷ returning.present;
    same = present_more there there' r.vertex put last_placed.small returning.same;
    rest = λ stitches.
        let g = word_graph words stitches in
        let a : Placed = record { there = returning.present; masks = masks } in
        let mask : m ≡ mask_back K g returning.present masks r.vertex r.neighbour = with.mask stitches ∙ back_same stitches r.neighbour in
        returning.rest stitches
        ∙ ap (λ (rs : List Removal). put_back_all K g (removals_of rs) a) last
        ∙ ap (λ (rs : List rules.Removal). put_back_all K g rs a) (map-append removal_at earlier (r ∷ []))
        ∙ put_back_snoc K g (removals_of earlier) (removal_at r) a
        ∙ ap (put_back_all K g (removals_of earlier)) (put_one K g r.vertex r.neighbour m a mask);
    size = length-set masks r.vertex m ∙ returning.size;
    masked = masked_more there there' r.vertex put m last_placed.vertex with.small returning.masked;
    placeable = placed_still (length-set masks r.vertex m) earlier split.0;
  }
    where
      back_same : (stitches : Matrix) (o : std.Option ℕ) → let g = word_graph words stitches in
          mask_back K g (members_of there) masks r.vertex o ≡ mask_back K g returning.present masks r.vertex o
      back_same stitches None =
          let g = word_graph words stitches in
          ap (found_or 0) (find_same _ _ (up_to K) (λ m i. ap not (sym (any_members (λ u. in_conflict g r.vertex u && eqb (mask_of masks u) m) returning.present (members_of there) returning.same))))
      back_same stitches (Some u) = refl
