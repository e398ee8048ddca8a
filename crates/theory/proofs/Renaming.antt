-- The search tries after p only masks in use and the lowest one not in use. That loses nothing: an assignment whose next mask is a higher one costs the same
-- with those two masks exchanged from there on, since a cost asks only which places have the same mask. So every assignment to K masks has one of the same
-- cost that the candidates allow (`renaming`). Where a place is fixed masks are not exchanged, and the search tries all that the places may have. Either way a
-- search that was not stopped holds a cheapest one (`from_cheapest`), also where the library ended it.
use mathlib.Core.Bool.{Bool, true, false, not, cond, or-true, or-false}
use mathlib.Core.Path.{◌≡◌, refl, sym, ap, subst, ◌∙◌}
use mathlib.Core.List.{List, [], ◌∷◌, ◌++◌, map, map-append, map-map, map-id, Memᴰ}
use mathlib.Core.Logic.{⊎_elim, by_cases, ◌≢◌}
use Prim.Native.Nat.{ℕ, suc, ◌+◌, ◌-◌, ◌≤◌, ◌<◌, min, zero-le}
use native.Mathlib.Nat.{zero-add, not-suc-le-zero, le_of_suc-le-suc, eq-or-lt_of_le}
use native.Mathlib.Decide.{ℕ_discrete}
use native.Mathlib.Omega.{arith}
use lib.Dec.{eqb}
use lib.ListN.{length, get_or, length-map, length-append}
use borrow.Author.Tests.{eq-eqb, ne_eqb}
use Rattle.rules.specs.Basics.{given, up_to, any_of, occurs}
use Rattle.rules.specs.Edges.{Graph}
use Rattle.rules.specs.Score.{pair_cost}
use Rattle.rules.specs.Peeling.{is_fixed}
use Rattle.rules.specs.Search.{added, total_after, total, first_mask, different, candidates, candidates_in, State, search_places, search_from}
use Rattle.rules.proofs.Lists.{any_snoc, any_out, in_up_from, in_up_to}
use Rattle.rules.proofs.Tests.{by_test, lt_or_ge}
use Rattle.theory.proofs.Each.{Each, each_imp, each_snoc, each_of, get_d_map}
use Rattle.rules.proofs.Sums.{sum_ext}
use Rattle.theory.proofs.Search.{search_passes, search_priced, search_length, Priced, Allowed, Sparing, best, first_passes, first_length}
use Rattle.theory.proofs.Budget.{ends, start, search_until}
use Rattle.theory.proofs.Library.{library_spares}
use Rattle.theory.proofs.Fixed.{May, Fits, fits_none, fits_snoc, candidates_may, first_may, allowed_fixed, allowed_free}

-- ---- The candidates

-- they are all masks up to the number of different ones in p
pub is_candidate : (K : ℕ) {m : ℕ} (p : List ℕ) → m ≤ different p → m < K → Memᴰ m (candidates K p)
unfolding candidates
is_candidate K {m} p h l = in_up_from 0 (suc (min (different p) (K - 1))) m zero-le (omega arith)

-- ---- Masks in use

-- one mask more is one different mask more, if it is new
pub different_snoc : (p : List ℕ) (m : ℕ) → different (p ++ (m ∷ [])) ≡ different p + given (not (occurs m p)) 1
unfolding different any_of
different_snoc [] m = refl
different_snoc (x ∷ p) m =
    rw (any_snoc (eqb x) p m, different_snoc p m)
    (by_cases (ℕ_discrete m x)
    (λ e. rw (e, eq-eqb x x refl, or-true (occurs x p)) (omega arith))
    (λ n. rw (ne_eqb x m (λ e. n (sym e)), ne_eqb m x n, or-false (occurs x p)) (omega arith)))

-- the masks of p are just those below d
pub record Used (d : ℕ) (p : List ℕ) : Type 0 where
  pub count : different p ≡ d
  pub below : Each (λ m. m < d) p
  pub all : (j : ℕ) → j < d → occurs j p ≡ true

-- a mask that is not below d does not occur among masks below d
pub not_in : (d : ℕ) (p : List ℕ) → Each (λ m. m < d) p → occurs d p ≡ false
unfolding any_of
not_in d [] e = refl
not_in d (x ∷ p) e = rw (ne_eqb d x (λ q. omega (arith, e.0))) (not_in d p e.1)

-- none are used at first
pub used_none : Used 0 []
unfolding different
used_none = record { count = refl; below = tt; all = λ j h. absurd (not-suc-le-zero h) }

module _ {d : ℕ} {p : List ℕ} (u : Used d p) where
  -- a mask in use comes again
  pub used_old : (m : ℕ) → m < d → Used d (p ++ (m ∷ []))
  used_old m h = record {
    count = different_snoc p m ∙ rw (u.all m h) (omega (arith, u.count));
    below = each_snoc (λ m. m < d) p m u.below h;
    all = λ j l. any_snoc (eqb j) p m ∙ rw (u.all j l) refl;
  }

  -- the lowest mask not in use comes
  pub used_new : Used (suc d) (p ++ (d ∷ []))
  used_new = record {
    count = different_snoc p d ∙ rw (not_in d p u.below) (omega (arith, u.count));
    below = each_snoc (λ m. m < suc d) p d (each_imp (λ m l. omega arith) p u.below) (omega arith);
    all = λ j l. any_snoc (eqb j) p d ∙ ⊎_elim (λ e. rw (eq-eqb j d e) (or-true (occurs j p))) (λ g. rw (u.all j g) refl) (eq-or-lt_of_le (le_of_suc-le-suc l));
  }

-- ---- Other masks of the same cost

-- a map f of the masks under which the same masks are the same, and different ones different, keeps every cost
module _ (f : ℕ → ℕ) (apart : (x y : ℕ) → eqb (f x) (f y) ≡ eqb x y) (weight : ℕ) (g : Graph) where
  added_map : (p : List ℕ) (m : ℕ) → added weight g (map f p) (f m) ≡ added weight g p m
  unfolding added pair_cost
  added_map p m =
      rw (length-map p f)
      (sum_ext (length p)
      (λ i l. rw (get_d_map f p i l, apart (get_or p i 0) m)))

  total_map : (p : List ℕ) (c : ℕ) (q : List ℕ) → total_after (added weight g) (map f p) c (map f q) ≡ total_after (added weight g) p c q
  unfolding total_after
  total_map p c [] = refl
  total_map p c (m ∷ q) = cc (added_map p m, map-append f p (m ∷ []), total_map (p ++ (m ∷ [])) (c + added weight g p m) q)

-- ---- Two masks exchanged

-- a and b change places
abbrev swap : ℕ → ℕ → ℕ → ℕ
swap a b x = cond (eqb x a) b (cond (eqb x b) a x)

module _ (a b : ℕ) where
  swap_first : swap a b a ≡ b
  swap_first = rw (eq-eqb a a refl)

  swap_second : swap a b b ≡ a
  swap_second = by_cases (ℕ_discrete b a) (λ e. rw (eq-eqb b a e) e) (λ n. rw (ne_eqb b a n, eq-eqb b b refl))

  swap_other : (x : ℕ) → x ≢ a → x ≢ b → swap a b x ≡ x
  swap_other x n o = rw (ne_eqb x a n, ne_eqb x b o)

  swap_back : (x : ℕ) → swap a b (swap a b x) ≡ x
  swap_back x = by_cases (ℕ_discrete x a)
      (λ e. rw (e, swap_first) swap_second)
      (λ n. by_cases (ℕ_discrete x b)
      (λ e. rw (e, swap_second) swap_first)
      (λ o. rw (swap_other x n o) (swap_other x n o)))

  swap_apart : (x y : ℕ) → eqb (swap a b x) (swap a b y) ≡ eqb x y
  swap_apart x y = by_cases (ℕ_discrete x y)
      (λ e. eq-eqb (swap a b x) (swap a b y) (ap (swap a b) e) ∙ sym (eq-eqb x y e))
      (λ n. ne_eqb (swap a b x) (swap a b y) (λ e. n (sym (swap_back x) ∙ ap (swap a b) e ∙ swap_back y)) ∙ sym (ne_eqb x y n))

  swap_below : (K : ℕ) → a < K → b < K → (x : ℕ) → x < K → swap a b x < K
  swap_below K ha hb x hx = go (eqb x a) (eqb x b)
    where
      go : (t u : Bool) → cond t b (cond u a x) < K
      go true u = hb
      go false true = ha
      go false false = hx

  -- masks below both stay
  swap_below_both : b ≤ a → (p : List ℕ) → Each (λ m. m < b) p → map (swap a b) p ≡ p
  swap_below_both le [] e = refl
  swap_below_both le (x ∷ p) e = rw (swap_other x (λ q. omega (arith, e.0)) (λ q. omega (arith, e.0)), swap_below_both le p e.1)

  -- So the mask a costs what b costs with the two exchanged from there on. The masks after it are those of q under f.
  exchange : b ≤ a → (weight : ℕ) (g : Graph) (p : List ℕ) (c : ℕ) (f : ℕ → ℕ) (q : List ℕ) → Each (λ m. m < b) p
      → total_after (added weight g) p c (b ∷ map (λ x. swap a b (f x)) q) ≡ total_after (added weight g) p c (a ∷ map f q)
  exchange le weight g p c f q e = rw (swap_below_both le p e, swap_first, map-map (swap a b) f q) at (total_map (swap a b) swap_apart weight g p c (a ∷ map f q))

-- ---- Masks that the candidates allow

-- n masks after p, which costs c, that the candidates allow, and that cost t in all
pub record Renamed (K weight : ℕ) (g : Graph) (p : List ℕ) (c n t : ℕ) : Type 0 where
  pub masks : List ℕ
  pub size : length masks ≡ n
  pub allowed : Allowed (candidates K) p masks
  pub cost : total_after (added weight g) p c masks ≡ t

module _ (K weight : ℕ) (g : Graph) where
  -- a candidate before them
  extend : {m : ℕ} {p : List ℕ} {c n t u : ℕ} → Memᴰ m (candidates K p) → t ≡ u → Renamed K weight g (p ++ (m ∷ [])) (c + added weight g p m) n t → Renamed K weight g p c (suc n) u
  unfolding total_after
  extend {m} i e r = record { masks = m ∷ r.masks; size = ap suc r.size; allowed = (i, r.allowed); cost = r.cost ∙ e }

  -- A mask below d is in use, and stays. Any other is exchanged with d, the lowest not in use. The exchanges made so far are f.
  renamed : (q : List ℕ) (f : ℕ → ℕ) (d : ℕ) (p : List ℕ) (c : ℕ) → Used d p → Each (λ m. f m < K) q
      → Renamed K weight g p c (length q) (total_after (added weight g) p c (map f q))
  unfolding total_after
  renamed [] f d p c u e = record { masks = []; size = refl; allowed = tt; cost = refl }
  renamed (m ∷ q) f d p c u e = ⊎_elim
      (λ l. extend (is_candidate K p (omega (arith, u.count)) e.0) refl
      (renamed q f d (p ++ (f m ∷ [])) (c + added weight g p (f m)) (used_old u (f m) l) e.1))
      (λ l. extend (is_candidate K p (omega (arith, u.count)) (omega (arith, e.0))) (exchange (f m) d l weight g p c f q u.below)
      (renamed q (λ x. swap (f m) d (f x)) (suc d) (p ++ (d ∷ [])) (c + added weight g p d) (used_new u)
      (each_imp (λ x h. swap_below (f m) d K e.0 (omega (arith, e.0)) (f x) h) q e.1)))
      (lt_or_ge (f m) d)

  -- every assignment to K masks has one of the same size and cost that the candidates allow
  pub renaming : (q : List ℕ) → Each (λ m. m < K) q → Renamed K weight g [] 0 (length q) (total (added weight g) q)
  renaming q e = rw (map-id q) at (renamed q (λ m. m) 0 [] 0 used_none e)

-- ---- The search of a component

-- what it holds, whatever the budget: for each of k places a mask that it may have, and their cost
pub record Feasible (K weight : ℕ) (g : Graph) (fixed : ℕ → ℕ) (k : ℕ) (s : State) : Type 0 where
  pub size : length s.incumbent ≡ k
  pub fits : Fits K fixed s.incumbent
  pub cost : Priced (added weight g) s

-- with any costs to end at
module _ (ended : ℕ → Bool) (K weight : ℕ) (g : Graph) (fixed : ℕ → ℕ) (budget k steps : ℕ) (stopped : Bool) where
  -- it starts so, from the first assignment, and stays so
  pub until_feasible : 0 < K → ((i : ℕ) → i < k → is_fixed fixed i ≡ true → fixed i < K) → Feasible K weight g fixed k (search_until ended K weight budget g fixed k steps stopped)
  unfolding total_after
  until_feasible h below =
      let add = added weight g in
      let cands = candidates_in K fixed k in
      let pick = first_mask add K fixed in
      let s = start K weight g fixed k steps stopped in
      let first = first_passes pick (λ left p. (length p + left ≡ k) × Fits K fixed p)
      (λ left p e. (omega (arith, length-append p (pick p ∷ [])), fits_snoc p (pick p) e.1 (first_may K h fixed k below add p (omega arith))))
      k [] (zero-add k, fits_none) in
      record {
        size = search_length add cands ended budget k [] 0 s (zero-add k) (first_length pick k [] ∙ zero-add k);
        fits = (search_passes add cands ended budget (λ left p c. (length p + left ≡ k) × Fits K fixed p)
            (λ left p c e. each_imp (λ m n. (omega (arith, length-append p (m ∷ [])), fits_snoc p m e.1 n)) (cands p) (candidates_may K h fixed k below p (omega arith)))
            k [] 0 s (zero-add k, fits_none) first).1;
        cost = search_priced add cands ended budget k [] 0 s refl refl;
      }

  -- if it was not stopped, and ended early at no higher cost, no masks that the places may have cost less
  pub until_cheapest : (search_until ended K weight budget g fixed k steps stopped).stopped ≡ false
      → (q : List ℕ) → length q ≡ k → Fits K fixed q → Sparing ended (total (added weight g) q)
      → (search_until ended K weight budget g fixed k steps stopped).cost ≤ total (added weight g) q
  until_cheapest e q n fits spares =
      by_test (any_of (is_fixed fixed) (up_to k))
      (λ some. reaches q n (allowed_fixed K fixed k some [] q (λ j l. subst (λ (i : ℕ). May K fixed i (get_or q j 0)) (sym (zero-add j)) (fits j l))) spares)
      (λ none.
      let free : (i : ℕ) → i < k → is_fixed fixed i ≡ false = λ i l. any_out (is_fixed fixed) (up_to k) none i ((in_up_to k i).1 l) in
      let r = renaming K weight g q (each_of (λ m. m < K) q (λ i l. (fits i l).below)) in
      rw r.cost at (reaches r.masks (r.size ∙ n) (allowed_free K fixed k free [] r.masks (omega (arith, r.size)) r.allowed) (rw r.cost spares)))
    where
      cands : List ℕ → List ℕ
      cands = candidates_in K fixed k

      s : State
      s = start K weight g fixed k steps stopped

      -- what the candidates allow costs no less
      reaches : (q : List ℕ) → length q ≡ k → Allowed cands [] q → Sparing ended (total (added weight g) q) → (search_places (added weight g) cands ended budget k [] 0 s).cost ≤ total (added weight g) q
      reaches q n allowed spares =
          subst (λ (j : ℕ). (search_places (added weight g) cands ended budget j [] 0 s).stopped ≡ false → (search_places (added weight g) cands ended budget j [] 0 s).cost ≤ total (added weight g) q)
          n (best (added weight g) cands ended budget q [] 0 s allowed spares) e

-- with those of the library
module _ (K weight : ℕ) (g : Graph) (fixed : ℕ → ℕ) (budget k steps : ℕ) (stopped : Bool) where
  pub from_feasible : 0 < K → ((i : ℕ) → i < k → is_fixed fixed i ≡ true → fixed i < K) → Feasible K weight g fixed k (search_from K weight budget g fixed k steps stopped)
  from_feasible = until_feasible (ends K weight g fixed k) K weight g fixed budget k steps stopped

  pub from_cheapest : (search_from K weight budget g fixed k steps stopped).stopped ≡ false
      → (q : List ℕ) → length q ≡ k → Fits K fixed q → (search_from K weight budget g fixed k steps stopped).cost ≤ total (added weight g) q
  from_cheapest e q n fits =
      until_cheapest (ends K weight g fixed k) K weight g fixed budget k steps stopped e q n fits
      (rw n at (library_spares K weight g fixed q (each_of (λ m. m < K) q (λ i l. (fits i l).below))))
