-- How often a place is entered, and how many entries a place has. Assumes nothing.
use mathlib.Core.Bool.{Bool, true, false, ◌&&◌, ◌||◌, and_assoc, and_comm, and-false}
use mathlib.Core.List.Memᴰ
use mathlib.Core.List.{List, [], ◌∷◌, ◌++◌, map}
use mathlib.Core.Logic.{⊎_elim}
use mathlib.Core.Path.{◌≡◌, refl, sym, ap, ap₂, ◌∙◌}
use Prim.Native.Nat.{ℕ, zero, suc, ◌+◌, ◌-◌, ◌*◌, ◌≤◌, ◌<◌}
use native.Mathlib.Nat.{suc-mul, add-mul, mul-add, mul_comm, mul-le-mul, le-mul_of_pos_right, add-suc}
use native.Mathlib.Omega.{arith}
use lib.Dec.{eqb}
use lib.ListN.{length, get_or, length-append, length-map}
use borrow.Author.Tests.{ne_eqb}
use Rattle.bitset.specs.Bits.{member}
use Rattle.bitset.specs.Edges.{has_edge, both}
use Rattle.bitset.specs.declared.matrix.Matrix.{Matrix}
use Rattle.rules.specs.Basics.{given, sum_of, up_to, count_of, keep, occurs}
use Rattle.rules.specs.Units.{merged_into, edges_between}
use Rattle.rules.proofs.Lists.{◌∈◌, here, later, each_cons, none_in, keep_in, keep_same, keep_no_longer, in_up_to, up_to_snoc, length_up_to, length_keep, count_keep}
use Rattle.rules.proofs.Tests.{by_test, and_right}
use Rattle.adjacency.specs.Members.{members_of}
use Rattle.adjacency.specs.UnitGraph.{unit_at}
use Rattle.theory.proofs.Cost.{sum_zero, sum_add}
use Rattle.theory.proofs.EdgeLists.{Lists}
use Rattle.theory.proofs.Neighbours.{count_same}
use Rattle.places.specs.declared.seats.Seats.{Seats}
use Rattle.places.specs.Seats.{piece_entries, place_entries}
use Rattle.places.specs.LaidOut.{Exclusive}
use Rattle.places.proofs.Seating.{Placed, placed_past, placed_at, placed_apart, piece_of_lem, piece_past}

-- ---- Counts

module _ (f : ℕ → Bool) where
  pub count_append : (xs ys : List ℕ) → count_of f (xs ++ ys) ≡ count_of f xs + count_of f ys
  unfolding count_of
  count_append [] ys = omega arith
  count_append (x ∷ xs) ys = omega (arith, count_append xs ys)

  count_map : (g : ℕ → ℕ) (xs : List ℕ) → count_of f (map g xs) ≡ count_of (λ x. f (g x)) xs
  unfolding count_of
  count_map g [] = refl
  count_map g (x ∷ xs) = ap (λ (k : ℕ). given (f (g x)) 1 + k) (count_map g xs)

  pub count_sum : (xs : List ℕ) → count_of f xs ≡ sum_of (λ x. given (f x) 1) xs
  unfolding count_of sum_of
  count_sum [] = refl
  count_sum (x ∷ xs) = ap (λ (k : ℕ). given (f x) 1 + k) (count_sum xs)

  -- none from n on
  count_more : (n d : ℕ) → ((q : ℕ) → n ≤ q → f q ≡ false) → count_of f (up_to (n + d)) ≡ count_of f (up_to n)
  unfolding count_of
  count_more n zero none = ap (λ (k : ℕ). count_of f (up_to k)) (let e : n + 0 ≡ n = omega arith in e)
  count_more n (suc d) none =
      rw (add-suc n d, up_to_snoc (n + d)) (count_append (up_to (n + d)) ((n + d) ∷ []) ∙ rw (none (n + d) (omega arith)) (omega (arith, count_more n d none)))

  count_within : (n : ℕ) → n ≤ 512 → ((q : ℕ) → n ≤ q → f q ≡ false) → count_of f (up_to 512) ≡ count_of f (up_to n)
  count_within n l none = let e : 512 ≡ n + (512 - n) = omega arith in ap (λ (k : ℕ). count_of f (up_to k)) e ∙ count_more n (512 - n) none

  count_few : (n : ℕ) → count_of f (up_to n) ≤ n
  count_few n = omega (arith, length_keep f (up_to n), keep_no_longer f (up_to n), length_up_to n)

-- two tests that no number passes both of
count_both : (f g h : ℕ → Bool) (xs : List ℕ) → ((x : ℕ) → given (f x) 1 + given (g x) 1 ≤ given (h x) 1) → count_of f xs + count_of g xs ≤ count_of h xs
unfolding count_of
count_both f g h [] e = omega arith
count_both f g h (x ∷ xs) e = omega (arith, e x, count_both f g h xs e)

count_either : (f g : ℕ → Bool) (xs : List ℕ) → ((x : ℕ) → f x ≡ true → g x ≡ false) → count_of (λ x. f x || g x) xs ≡ count_of f xs + count_of g xs
unfolding count_of
count_either f g [] e = refl
count_either f g (x ∷ xs) e =
    by_test (f x)
    (λ t. rw (t, e x t) (omega (arith, count_either f g xs e)))
    (λ t. rw t (omega (arith, count_either f g xs e)))

map_below : (f : ℕ → ℕ) (k : ℕ) (xs : List ℕ) → ((u : ℕ) → u ∈ xs → f u < k) → (x : ℕ) → x ∈ map f xs → x < k
map_below f k [] h x m = none_in m
map_below f k (y ∷ ys) h x m = each_cons {Q = λ z. z < k} (h y (here refl)) (map_below f k ys (λ u i. h u (later i))) x m

-- the neighbours of a piece, as a set
pub piece_as : (words : Matrix) (seats : Seats) (p : ℕ) (near : List ℕ) → ((q : ℕ) → member near q ≡ both words p seats.there q)
    → map (λ (q : ℕ). get_or seats.places q 0) (members_of near) ≡ piece_entries words seats p
unfolding piece_entries members_of
piece_as words seats p near has = ap (map (λ (q : ℕ). get_or seats.places q 0)) (keep_same (member near) (both words p seats.there) (up_to 512) (λ u m. has u))

-- ---- How often a place is entered

module _ {units : List ℕ} {n : ℕ} {order : List ℕ} {k : ℕ} {seats : Seats} (few : n ≤ 512) (placed : Placed units n order k seats) where
  module _ (words : Matrix) where
    -- for a piece: once for each edge to a piece of that place
    piece_counted : (p i : ℕ) → i < k → count_of (eqb i) (piece_entries words seats p) ≡ sum_of (λ q. given (has_edge words q p) 1) (merged_into (unit_at units) n (get_or order i 0))
    unfolding piece_entries
    piece_counted p i b =
        let at : ℕ → Bool = λ q. both words p seats.there q && eqb i (get_or seats.places q 0) in
        let of : ℕ → Bool = λ q. eqb (unit_at units q) (get_or order i 0) in
        count_map (eqb i) (λ q. get_or seats.places q 0) (keep (both words p seats.there) (up_to 512))
        ∙ count_keep (λ q. eqb i (get_or seats.places q 0)) (both words p seats.there) (up_to 512)
        ∙ count_within at n few (λ q m. rw (placed_past placed q m, and-false (has_edge words p q)))
        ∙ count_same at (λ q. of q && has_edge words q p) (up_to n) (λ q m.
        let h = (in_up_to n q).0 m in
        and_assoc (has_edge words p q) (member seats.there q) (eqb i (get_or seats.places q 0))
        ∙ ap₂ ◌&&◌ (words.both_ways p q) (placed_at placed q i h b)
        ∙ and_comm (has_edge words q p) (of q))
        ∙ sym (count_keep (λ q. has_edge words q p) of (up_to n))
        ∙ count_sum (λ q. has_edge words q p) (merged_into (unit_at units) n (get_or order i 0))

    -- for several pieces
    place_counted : (i : ℕ) → i < k → (ps : List ℕ)
        → count_of (eqb i) (place_entries words seats ps) ≡ sum_of (λ q. sum_of (λ p. given (has_edge words q p) 1) ps) (merged_into (unit_at units) n (get_or order i 0))
    unfolding place_entries count_of sum_of
    place_counted i b [] = sym (sum_zero (λ q. 0) (merged_into (unit_at units) n (get_or order i 0)) (λ u m. refl))
    place_counted i b (p ∷ ps) =
        count_append (eqb i) (piece_entries words seats p) (place_entries words seats ps)
        ∙ ap₂ ◌+◌ (piece_counted p i b) (place_counted i b ps)
        ∙ sym (sum_add (λ q. given (has_edge words q p) 1) (λ q. sum_of (λ p. given (has_edge words q p) 1) ps) (merged_into (unit_at units) n (get_or order i 0)))

  -- all are earlier places
  piece_below : (words : Matrix) (p x : ℕ) → x ∈ piece_entries words seats p → x < k
  unfolding piece_entries
  piece_below words p x m =
      map_below (λ q. get_or seats.places q 0) k (keep (both words p seats.there) (up_to 512)) (λ u i.
      (placed.inside u (and_right (has_edge words p u) (member seats.there u) (keep_in (both words p seats.there) (up_to 512) i).1)).1)
      x m

  place_below : (words : Matrix) (ps : List ℕ) (x : ℕ) → x ∈ place_entries words seats ps → x < k
  unfolding place_entries
  place_below words [] x m = none_in m
  place_below words (p ∷ ps) x m = ⊎_elim (piece_below words p x) (place_below words ps x) (Memᴰ.append_cases (piece_entries words seats p) m)

  module _ (rising : (i : ℕ) → i < k → get_or order i 0 < get_or order k 0) where
    abbrev pieces : List ℕ
    pieces = merged_into (unit_at units) n (get_or order k 0)

    -- a place is entered once for each edge between pieces of the two units
    pub place_lists : (words : Matrix)
        → Lists (λ i j. edges_between (λ a b. given (has_edge words a b) 1) (unit_at units) n (get_or order i 0) (get_or order j 0)) k (place_entries words seats pieces)
    unfolding edges_between
    place_lists words = record {
      below = place_below words pieces;
      counted = λ i b.
          rw (ne_eqb (get_or order i 0) (get_or order k 0) (λ e. omega (arith, rising i b)))
          (place_counted words i b pieces);
    }

    -- ---- How many entries there are

    -- the set and the pieces of place k have no piece in common
    together : count_of (λ q. member seats.there q || occurs q pieces) (up_to 512) ≡ length (members_of seats.there) + length pieces
    unfolding members_of
    together =
        count_either (member seats.there) (λ q. occurs q pieces) (up_to 512) (λ q e.
        let l = (placed.inside q e).0 in
        piece_of_lem units n (get_or order k 0) q l ∙ placed_apart placed rising q e)
        ∙ ap₂ ◌+◌ (sym (length_keep (member seats.there) (up_to 512)))
        (count_within (λ q. occurs q pieces) n few (piece_past units n (get_or order k 0))
        ∙ count_same _ (λ q. eqb (unit_at units q) (get_or order k 0)) (up_to n) (λ q m. piece_of_lem units n (get_or order k 0) q ((in_up_to n q).0 m))
        ∙ sym (length_keep (λ q. eqb (unit_at units q) (get_or order k 0)) (up_to n)))

    pub pieces_few : length (members_of seats.there) + length pieces ≤ 512
    pieces_few = omega (arith, together, count_few (λ q. member seats.there q || occurs q pieces) 512)

    pub pieces_in : (s' : List ℕ) → ((q : ℕ) → member s' q ≡ (member seats.there q || occurs q pieces)) → length (members_of s') ≡ length (members_of seats.there) + length pieces
    unfolding members_of
    pieces_in s' put = length_keep (member s') (up_to 512) ∙ count_same (member s') _ (up_to 512) (λ q m. put q) ∙ together

-- ---- How many entries both kinds have

module _ (conflictWords stitchWords : Matrix) (exclusive : Exclusive conflictWords stitchWords) (seats : Seats) where
  -- a piece has at most one for each piece of the set
  piece_few : (p : ℕ) → length (piece_entries conflictWords seats p) + length (piece_entries stitchWords seats p) ≤ length (members_of seats.there)
  unfolding piece_entries members_of
  piece_few p =
      omega (
        arith,
        length-map (keep (both conflictWords p seats.there) (up_to 512)) (λ q. get_or seats.places q 0),
        length-map (keep (both stitchWords p seats.there) (up_to 512)) (λ q. get_or seats.places q 0),
        length_keep (both conflictWords p seats.there) (up_to 512),
        length_keep (both stitchWords p seats.there) (up_to 512),
        length_keep (member seats.there) (up_to 512),
        count_both (both conflictWords p seats.there) (both stitchWords p seats.there) (member seats.there) (up_to 512) (λ q.
            by_test (has_edge conflictWords p q)
            (λ e. rw (e, exclusive p q e) (omega arith))
            (λ e. by_test (has_edge stitchWords p q) (λ d. rw (e, d) (omega arith)) (λ d. rw (e, d) (omega arith)))),
      )

  pub place_few : (ps : List ℕ) → length (place_entries conflictWords seats ps) + length (place_entries stitchWords seats ps) ≤ length ps * length (members_of seats.there)
  unfolding place_entries
  place_few [] = omega arith
  place_few (p ∷ ps) =
      omega (
        arith,
        length-append (piece_entries conflictWords seats p) (place_entries conflictWords seats ps),
        length-append (piece_entries stitchWords seats p) (place_entries stitchWords seats ps),
        piece_few p,
        place_few ps,
        suc-mul (length ps) (length (members_of seats.there)),
      )

-- ---- Room for all

-- where s pieces and m more come to entries, at most one for each pair
module _ (end s m c : ℕ) (room : 2 * end + s ≤ s * s) (more : c ≤ m * s) where
  self : (m : ℕ) → m ≤ m * m
  self zero = omega arith
  self (suc m) = le-mul_of_pos_right (suc m) (omega arith)

  pub room_next : 2 * (end + c) + (s + m) ≤ (s + m) * (s + m)
  room_next = omega (arith, self m, add-mul s m (s + m), mul-add s s m, mul-add m s m, mul_comm s m)

  pub room_left : s + m ≤ 512 → end + c ≤ 131_584
  room_left few = omega (arith, room_next, mul-le-mul few few)
