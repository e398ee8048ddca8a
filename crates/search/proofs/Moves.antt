-- What each way through the search's two functions does to its walk, over plain values: the functions' proofs hand these what the code gives.
-- Assumes nothing.
use mathlib.Core.Bool.{Bool, true, false, cond}
use mathlib.Core.List.{List, [], ◌∷◌, ◌++◌}
use mathlib.Core.Path.{◌≡◌, refl, sym, ap, ap₂, subst⁻¹, ◌∙◌}
use Prim.Native.Nat.{ℕ, suc, ◌+◌, ◌-◌, ◌≤◌, ◌<◌, max}
use native.Mathlib.Numerals.{add-one}
use native.Mathlib.Omega.{arith}
use lib.ListN.{length, get_or, take, set, length-set}
use lib.Seq.{take-take, take-set-le, get_or-take}
use Rattle.std.specs.Prelude.{Option, Some, None, is_some, unwrap_or}
use Rattle.rules.specs.Basics.{up_from}
use Rattle.rules.specs.Search.{candidates_in, State, state, step, search_places, try_masks}
use Rattle.rules.proofs.Tests.{by_test, clash}
use Rattle.theory.proofs.Search.{at_end, at_stop, at_enter, at_skip}
use Rattle.first_assignment.proofs.Stored.{take_stored, stored_low}
use Rattle.search.specs.declared.incumbent.Walk.{Walk}
use Rattle.search.specs.declared.branch.Problem.{Problem}
use Rattle.search.specs.Branch.{ends_at, has_ended, left_in, due_in, found_in, adds_in, size_in, fixed_in, state_in, places_from, masks_from, Ready, RowOf, Kept, Placed, Masked}
use Rattle.search.proofs.FixedPlaces.{used-next}

-- ---- Lists of masks

take_shorter : (l k : List ℕ) (p : ℕ) → take (p + 1) l ≡ take (p + 1) k → take p l ≡ take p k
take_shorter l k p e = sym (take-take p (p + 1) l (omega arith)) ∙ ap (take p) e ∙ take-take p (p + 1) k (omega arith)

-- ---- Steps left

unwrap_none : (o : Option ℕ) (d : ℕ) → is_some o ≡ false → unwrap_or o d ≡ d
unwrap_none None d e = refl
unwrap_none (Some x) d e = cc

pub left_on : (w : Walk) (left : ℕ) → has_ended w ≡ false → left_in w left ≡ left
left_on w left e = unwrap_none w.ended left e

-- ---- When the next call may be made

-- the mask that is tried stands at its place
abbrev pub with_mask : Walk → ℕ → ℕ → Walk
with_mask w p m = record w { partial = set w.partial p m }

module _ {b : Problem} {w : Walk} {p c u left : ℕ} (ready : Ready b w p c u left) where
  -- with a step left, the search has not ended
  pub goes_on : 1 ≤ left → has_ended w ≡ false
  goes_on l = by_test (has_ended w) (λ e. absurd (omega (arith, ready.ended e))) (λ e. e)

  -- a mask is stored at p, and costs what the row says
  pub ready_next : (m r : ℕ) → p < size_in b → r ≤ 131_715_584 → m ≤ u → m < b.limits.masks → 1 ≤ left
      → Ready b (with_mask w p m) (p + 1) (c + r) (max u (m + 1)) (left - 1)
  ready_next m r h small l k more =
      let room : p < length w.partial = omega (arith, ready.whole, b.local.few) in
      record {
        sound = ready.sound;
        whole = simp length-set ready.whole;
        at = omega arith;
        cheap = omega (arith, ready.cheap);
        low = stored_low w.partial p m room (omega (arith, ready.sound.masks)) ready.low;
        within = omega (arith, ready.within);
        used = rw (take_stored w.partial p m room) (used-next ready.used m k l);
        afford = omega (arith, ready.afford, left_on w left (goes_on more), left_on w (left - 1) (goes_on more));
        ended = λ e. clash e (goes_on more);
        agrees = ready.agrees;
      }

  -- after a call that left it so
  pub ready_same : {w' : Walk} {left' : ℕ} → Kept b w w' p left left' → Ready b w' p c u left'
  ready_same {w'} k = record {
    sound = ready.sound;
    whole = k.whole;
    at = ready.at;
    cheap = ready.cheap;
    low = λ i h. omega (arith, ready.low i h, ap (λ (l : List ℕ). get_or l i 0) k.before, get_or-take p w.partial i 0 h, get_or-take p w'.partial i 0 h);
    within = ready.within;
    used = rw k.before ready.used;
    afford = omega (arith, ready.afford, k.fewer);
    ended = k.ended;
    agrees = k.agrees;
  }

  -- nothing was done
  kept_all : Kept b w w p left left
  kept_all = record { before = refl; whole = ready.whole; fewer = omega arith; ended = ready.ended; agrees = ready.agrees }

-- the row stays that of place p
pub row_same : {b : Problem} {w w' : Walk} {p left left' : ℕ} {row : List ℕ} → RowOf b w p row → Kept b w w' p left left' → RowOf b w' p row
row_same {b} r k = record { adds = λ m h. r.adds m h ∙ ap (λ (q : List ℕ). adds_in b q m) (sym k.before); small = r.small }

-- ---- A mask

module _ {b : Problem} {w : Walk} {p c u left : ℕ} (ready : Ready b w p c u left) (m last : ℕ) where
  abbrev s : State
  s = state_in b w left

  abbrev after : List ℕ
  after = up_from (m + 1) (last - (m + 1))

  -- one step of those that are left
  one_step : 1 ≤ left → step s ≡ state_in b w (left - 1)
  one_step h =
      let n : suc (b.limits.budget - left_in w left) ≡ b.limits.budget - left_in w (left - 1)
      = omega (arith, ready.afford, left_on w left (goes_on ready h), left_on w (left - 1) (goes_on ready h)) in
      λ i. state (n i) w.stopped w.cost (take (size_in b) w.incumbent)

  up_more : m < last → up_from m (last - m) ≡ m ∷ after
  unfolding up_from
  up_more h =
      let e : last - m ≡ suc (last - (m + 1)) = omega arith in
      ap (up_from m) e ∙ ap (λ (k : ℕ). m ∷ up_from k (last - (m + 1))) (sym (add-one m))

  tried_more : m < last → masks_from b p (up_from m (last - m)) (take p w.partial) c s ≡ masks_from b p (m ∷ after) (take p w.partial) c s
  tried_more h = ap (λ (ms : List ℕ). masks_from b p ms (take p w.partial) c s) (up_more h)

  -- no mask is left
  pub masked_none : last ≤ m → Masked b w w p c left m last left
  unfolding try_masks up_from
  masked_none h =
      let none : last - m ≡ 0 = omega arith in
      record { searched = rw none; kept = kept_all ready }

  -- the budget is used up
  masked_stop : has_ended w ≡ false → m < last → left ≡ 0 → Masked b w (record w { stopped = true }) p c left m last 0
  masked_stop on h e = record {
    searched = ap (λ (l : ℕ). state (b.limits.budget - left_in w l) true w.cost (take (size_in b) w.incumbent)) (sym e)
        ∙ sym (tried_more h ∙ at_stop (adds_in b) (ends_at b.end) b.limits.budget (places_from b (suc p)) m after (take p w.partial) c s (sym ready.agrees ∙ on) (omega (arith, left_on w left on)));
    kept = record { before = refl; whole = ready.whole; fewer = omega (arith, left_on w left on, left_on w 0 on); ended = λ _. refl; agrees = ready.agrees };
  }

  -- the search has ended
  masked_ended : has_ended w ≡ true → m < last → left ≡ 0 → Masked b w w p c left m last 0
  masked_ended over h e = record {
    searched = ap (state_in b w) (sym e)
        ∙ sym (tried_more h ∙ at_end (adds_in b) (ends_at b.end) b.limits.budget (places_from b (suc p)) m after (take p w.partial) c s (sym ready.agrees ∙ over));
    kept = record { before = refl; whole = ready.whole; fewer = omega (arith, ap (left_in w) e); ended = λ _. refl; agrees = ready.agrees };
  }

  -- a step is due, and none is left
  pub masked_due : m < last → left ≡ 0 → Masked b w (due_in w) p c left m last 0
  masked_due h e =
      let Due : Bool → Type 0 = λ t. Masked b w (cond t w (record w { stopped = true })) p c left m last 0 in
      by_test (has_ended w)
      (λ over. subst⁻¹ Due over (masked_ended over h e))
      (λ on. subst⁻¹ Due on (masked_stop on h e))

  module _ {r : ℕ} (some : m < last) (afford : 1 ≤ left) (adds : r ≡ adds_in b (take p w.partial) m) where
    on : ends_at b.end w.cost ≡ false
    on = sym ready.agrees ∙ goes_on ready afford

    in_budget : s.steps < b.limits.budget
    in_budget = omega (arith, ready.afford, left_on w left (goes_on ready afford))

    fewer_left : left_in w (left - 1) ≤ left_in w left
    fewer_left = omega (arith, left_on w left (goes_on ready afford), left_on w (left - 1) (goes_on ready afford))

    -- nothing but the step is gone
    pub kept_skip : Kept b w w p left (left - 1)
    kept_skip = record { before = refl; whole = ready.whole; fewer = fewer_left; ended = λ e. clash e (goes_on ready afford); agrees = ready.agrees }

    -- the mask costs too much
    pub masked_skip : w.cost ≤ c + r → (w₂ : Walk) (left₂ : ℕ) → Masked b w w₂ p c (left - 1) (m + 1) last left₂ → Masked b w w₂ p c left m last left₂
    masked_skip dear w₂ left₂ rest = record {
      searched = rest.searched
          ∙ ap (λ (t : State). masks_from b p after (take p w.partial) c t) (sym (one_step afford))
          ∙ sym (tried_more some ∙ at_skip (adds_in b) (ends_at b.end) b.limits.budget (places_from b (suc p)) m after (take p w.partial) c s on in_budget (omega (arith, adds)));
      kept = record { before = rest.kept.before; whole = rest.kept.whole; fewer = omega (arith, rest.kept.fewer, fewer_left); ended = rest.kept.ended; agrees = rest.kept.agrees };
    }

    module _ {w₁ : Walk} {left₁ : ℕ} (place : p < size_in b) (one : Placed b (with_mask w p m) w₁ (p + 1) (c + r) (left - 1) left₁) where
      -- what the search from the next place leaves
      pub kept_below : Kept b w w₁ p left left₁
      kept_below = record {
        before = take_shorter w₁.partial (set w.partial p m) p one.kept.before ∙ take-set-le p w.partial p m (omega arith);
        whole = one.kept.whole;
        fewer = omega (arith, one.kept.fewer, fewer_left);
        ended = one.kept.ended;
        agrees = one.kept.agrees;
      }

      entered : state_in b w₁ left₁ ≡ places_from b (suc p) (take p w.partial ++ (m ∷ [])) (c + adds_in b (take p w.partial) m) (step s)
      entered =
          let stored = take_stored w.partial p m (omega (arith, ready.whole, b.local.few)) in
          one.searched
          ∙ ap (λ (k : ℕ). places_from b k (take (p + 1) (set w.partial p m)) (c + r) (state_in b w (left - 1))) (add-one p)
          ∙ ap₂ (λ (q : List ℕ) (x : ℕ). places_from b (suc p) q (c + x) (state_in b w (left - 1))) stored adds
          ∙ ap (λ (t : State). places_from b (suc p) (take p w.partial ++ (m ∷ [])) (c + adds_in b (take p w.partial) m) t) (sym (one_step afford))

      -- the mask holds, and the search goes on from the next place
      pub masked_enter : c + r < w.cost → (w₂ : Walk) (left₂ : ℕ) → Masked b w₁ w₂ p c left₁ (m + 1) last left₂ → Masked b w w₂ p c left m last left₂
      masked_enter cheap w₂ left₂ rest = record {
        searched = rest.searched
            ∙ ap₂ (λ (q : List ℕ) (t : State). masks_from b p after q c t) kept_below.before entered
            ∙ sym (tried_more some ∙ at_enter (adds_in b) (ends_at b.end) b.limits.budget (places_from b (suc p)) m after (take p w.partial) c s on in_budget (omega (arith, adds)));
        kept = record { before = rest.kept.before ∙ kept_below.before; whole = rest.kept.whole; fewer = omega (arith, rest.kept.fewer, kept_below.fewer); ended = rest.kept.ended; agrees = rest.kept.agrees };
      }

-- ---- The masks of a place, one after the other

-- The masks before m were tried from the walk w₀: the next one may be tried, and those left, tried from here, make what all make.
pub record MasksLeft (b : Problem) (row : List ℕ) (w₀ : Walk) (p c u left₀ first last : ℕ) (w : Walk) (left m : ℕ) : Type 0 where
  pub ready : Ready b w p c u left
  pub adds : RowOf b w p row
  pub on : (w₂ : Walk) (left₂ : ℕ) → Masked b w w₂ p c left m last left₂ → Masked b w₀ w₂ p c left₀ first last left₂

pub masks_all : {b : Problem} {row : List ℕ} {w : Walk} {p c u left first last : ℕ} → Ready b w p c u left → RowOf b w p row → MasksLeft b row w p c u left first last w left first
masks_all ready adds = record { ready = ready; adds = adds; on = λ w₂ left₂ x. x }

-- one mask more was tried, and those after it, tried from there, make what they make with it
pub masks_next : {b : Problem} {row : List ℕ} {w₀ w w₁ : Walk} {p c u left₀ first last left m left₁ : ℕ} → MasksLeft b row w₀ p c u left₀ first last w left m
    → Kept b w w₁ p left left₁ → ((w₂ : Walk) (left₂ : ℕ) → Masked b w₁ w₂ p c left₁ (m + 1) last left₂ → Masked b w w₂ p c left m last left₂)
    → MasksLeft b row w₀ p c u left₀ first last w₁ left₁ (m + 1)
masks_next l kept goes = record { ready = ready_same l.ready kept; adds = row_same l.adds kept; on = λ w₂ left₂ x. l.on w₂ left₂ (goes w₂ left₂ x) }

-- ---- A place

module _ {b : Problem} {w : Walk} {p c u left : ℕ} (ready : Ready b w p c u left) where
  abbrev cands : List ℕ → List ℕ
  cands = candidates_in b.limits.masks (fixed_in b) (size_in b)

  -- all that are tried there
  pub placed_masks : {w₁ : Walk} {left₁ : ℕ} (first last : ℕ) → p < size_in b → up_from first (last - first) ≡ cands (take p w.partial)
      → Masked b w w₁ p c left first last left₁ → Placed b w w₁ p c left left₁
  unfolding search_places
  placed_masks first last h e masks =
      let places : size_in b - p ≡ suc (size_in b - suc p) = omega arith in
      record {
        searched = masks.searched
            ∙ ap (λ (ms : List ℕ). masks_from b p ms (take p w.partial) c (state_in b w left)) e
            ∙ sym (ap (λ (k : ℕ). search_places (adds_in b) cands (ends_at b.end) b.limits.budget k (take p w.partial) c (state_in b w left)) places);
        kept = masks.kept;
      }

  -- past the last place
  pub placed_last : has_ended w ≡ false → size_in b ≤ p → Placed b w (found_in b.end w c left) p c left (cond (ends_at b.end c) 0 left)
  unfolding search_places
  placed_last on past =
      let none_left : size_in b - p ≡ 0 = omega arith in
      let end : size_in b ≡ p = omega (arith, ready.at) in
      let same = left_on w left on in
      let Last : Bool → Type 0 = λ t. Placed b w (record w { incumbent = w.partial; cost = c; ended = cond t (Some left) w.ended }) p c left (cond t 0 left) in
      let rules : state (b.limits.budget - left_in w left) w.stopped c (take (size_in b) w.partial) ≡ places_from b p (take p w.partial) c (state_in b w left) = rw (none_left, end) in
      by_test (ends_at b.end c)
      (λ over. subst⁻¹ Last over (record {
        searched = ap (λ (l : ℕ). state (b.limits.budget - l) w.stopped c (take (size_in b) w.partial)) (sym same) ∙ rules;
        kept = record { before = refl; whole = ready.whole; fewer = omega (arith, same); ended = λ _. refl; agrees = sym over };
      }))
      (λ goes. subst⁻¹ Last goes (record {
        searched = rules;
        kept = record { before = refl; whole = ready.whole; fewer = omega arith; ended = λ e. clash e on; agrees = on ∙ sym goes };
      }))
