-- The five-piece library (RULES 19): the least number of conflicts of every conflict graph on five pieces with three masks, and the components whose search it
-- ends early.
use Rattle.std.specs.Prelude.{Bool, true, false, not, ◌&&◌, ◌||◌, List, [], ◌∷◌, ℕ, zero, suc, ◌+◌, ◌*◌, ◌-◌, ◌/◌, ◌%◌, ◌^◌, min, max, eqb, ltb, leb}
use Rattle.std.proofs.Math.Option.{Option, none, some}
use Rattle.rules.specs.Basics.{given, sum_to, up_to, any_of}
use Rattle.rules.specs.Edges.{Graph, in_stitch}
use Rattle.rules.specs.Score.{conflicts_of}
use Rattle.rules.specs.Peeling.{is_fixed}

-- ---- The least number of conflicts

-- the least of f at 0, 1, .., k
unfoldable pub least_to : (ℕ → ℕ) → ℕ → ℕ
least_to f zero = f 0
least_to f (suc k) = min (least_to f k) (f (suc k))

-- the least of f over all lists of n masks below K
unfoldable pub least_over : ℕ → ℕ → (List ℕ → ℕ) → ℕ
least_over K zero f = f []
least_over K (suc n) f = least_to (λ m. least_over K n (λ masks. f (m ∷ masks))) (K - 1)

-- the least number of conflicts among the vertices 0, 1, .., n - 1, over all assignments to K masks
unfoldable pub least_conflicts : ℕ → Graph → ℕ → ℕ
least_conflicts K g n = least_over K n (λ masks. conflicts_of g masks n)

-- ---- The table

-- the number of the pair u < v among the pairs of n pieces: 0-1, 0-2, .., 0-(n - 1), 1-2, ..
unfoldable pub pair_number : ℕ → ℕ → ℕ → ℕ
pair_number n u v = sum_to (λ i. n - suc i) u + (v - suc u)

-- bit k of i
unfoldable pub bit_at : ℕ → ℕ → ℕ
bit_at i k = i / 2 ^ k % 2

-- the conflict graph on n pieces whose index is i: each bit is a pair's
abbrev pub indexed : ℕ → ℕ → Graph
indexed n i = record {
  conflicts = λ u v. given (not (eqb u v)) (bit_at i (pair_number n (min u v) (max u v)));
  stitches = λ u v. 0;
}

-- the entry at an index: the least number of conflicts with three masks of the graph on five pieces with that index
abbrev pub entry_of : ℕ → ℕ
entry_of i = least_conflicts 3 (indexed 5 i) 5

-- ---- The library in a search

-- the number with these binary digits, the lowest first
unfoldable pub value_of : List ℕ → ℕ
value_of [] = 0
value_of (b ∷ bits) = b + 2 * value_of bits

-- the conflict edges between u < v of the vertices 0, 1, .., k - 1; a vertex from k on has none
abbrev pub edges_below : Graph → ℕ → ℕ → ℕ → ℕ
edges_below g k u v = given (ltb v k) (g.conflicts u v)

-- those of the ten pairs of five, in the order of the bits
abbrev pub pair_edges : Graph → ℕ → List ℕ
pair_edges g k =
    let at = edges_below g k in
    at 0 1 ∷ at 0 2 ∷ at 0 3 ∷ at 0 4 ∷ at 1 2 ∷ at 1 3 ∷ at 1 4 ∷ at 2 3 ∷ at 2 4 ∷ at 3 4 ∷ []

-- the index of a graph on k vertices, at most five, as one on five
unfoldable pub index_of : Graph → ℕ → ℕ
index_of g k = value_of (pair_edges g k)

-- whether two vertices have a stitch edge, or a conflict edge that is doubled
abbrev pub unlisted : Graph → ℕ → ℕ → Bool
unlisted g u v = in_stitch g u v || ltb 1 (g.conflicts u v)

-- whether a vertex has that with one before it
abbrev pub unlisted_at : Graph → ℕ → Bool
unlisted_at g v = any_of (λ u. unlisted g u v) (up_to v)

-- whether the library serves a component of k places: three masks, at most five places, none of them fixed, and no two with edges that it does not list
unfoldable pub served : ℕ → Graph → (ℕ → ℕ) → ℕ → Bool
served K g fixed k = eqb K 3 && leb k 5 && not (any_of (is_fixed fixed) (up_to k)) && not (any_of (unlisted_at g) (up_to k))

-- the cost at which the search of a component ends, where the library serves it
abbrev pub library_bound : ℕ → ℕ → Graph → (ℕ → ℕ) → ℕ → Option ℕ
library_bound K weight g fixed k = elim (served K g fixed k) [ true ↦ some (weight * entry_of (index_of g k)) | false ↦ none ]
