-- The search: each of its two functions does what the rules say of a place and of its masks, given that calls further on do. Assumes nothing.
use native.Mathlib.Omega.{arith}
use mathlib.Core.Logic.{inl, inr}
use mathlib.Core.Path.{◌≡◌, sym, ap, subst⁻¹, ◌∙◌}
use Prim.Native.Nat.{ℕ, ◌+◌, ◌-◌, ◌≤◌, ◌<◌}
use lib.ListN.{take}
use Rattle.rules.specs.Basics.{up_from}
use Rattle.rules.specs.Search.{candidates_in}
use Rattle.rules.specs.Settings.{unset}
use Rattle.rules.proofs.Lists.{default_same}
use Rattle.rules.proofs.StatedMasks.{none_stated, one_stated}
use Rattle.search.specs.Branch.{size_in, fixed_in, adds_in, tried_in, Ready, Placed}
use Rattle.search.proofs.FixedPlaces.{tried_at}
use Rattle.search.proofs.Moves.{goes_on, ready_next, with_mask, masked_none, masked_due, kept_skip, masked_skip, kept_below, masked_enter, masks_next, placed_masks, placed_last}
use Rattle.search.proofs.branch.Problem.+search_masks_search_place.Goals as goal
use Rattle.search.proofs.branch.Problem.+search_masks_search_place.Goals.{search_masks-After-from, search_masks-then-total-walk, search_masks-else-total-walk, search_place-in-Some-stated_mask, search_place-in-None, search_place-Joined-stated_mask}

-- ---- The masks of a place

-- a mask is tried: it is one of those that are, and a step is left
module _ (t : ℕ) (c : search_masks-After-from t) where
  afford : 1 ≤ c.loop-mask.rest
  afford = omega (arith, c.if-rest-eq0.false)

  used_most : c.loop-mask.mask ≤ c.args.used
  used_most = omega (arith, c.requires.tried, c.loop-mask-test.true)

  is_mask : c.loop-mask.mask < c.args.self.now.limits.masks
  is_mask = omega (arith, c.requires.tried, c.loop-mask-test.true)

  adds_is : c.from.result ≡ adds_in c.args.self.now (take c.args.p c.loop-mask.walk.partial) c.loop-mask.mask
  adds_is = c.from.ensures ∙ c.loop-mask.invariant.adds.adds c.loop-mask.mask (omega (arith, is_mask, c.requires.ready.sound.masks))

  small : c.from.result ≤ 131_715_584
  small = omega (arith, c.from.ensures, c.loop-mask.invariant.adds.small c.loop-mask.mask (omega (arith, is_mask, c.requires.ready.sound.masks)))

pub search_masks-returns-then-rest-eq0 : goal.search_masks-returns-then-rest-eq0
search_masks-returns-then-rest-eq0 t c =
    let a = c.args in
    let l = c.loop-mask in
    rw c.note_due.ensures
    (l.invariant.on _ 0 (masked_due l.invariant.ready l.mask a.last (omega arith) c.if-rest-eq0.true))

pub search_masks-search_place-rest-requires : goal.search_masks-search_place-rest-requires
search_masks-search_place-rest-requires t c =
    let here = (goal.at.search_masks-search_place-rest-requires t c).After-from in
    let a = c.args in
    let l = c.loop-mask in
    let next = ready_next l.invariant.ready l.mask (c.from.result) c.requires.place (small t here) (used_most t here) (is_mask t here) (afford t here) in (
      omega (arith, c.decreases, c.requires.place),
      (
        subst⁻¹ (λ (u : ℕ). Ready a.self.now (with_mask l.walk a.p l.mask) (a.p + 1) (a.cost + c.from.result) u (l.rest - 1)) c.max.ensures next,
        goes_on l.invariant.ready (afford t here),
      ),
    )

pub search_masks-loop-mask-preserved : goal.search_masks-loop-mask-preserved
search_masks-loop-mask-preserved t c =
    let here = (goal.at.search_masks-loop-mask-preserved t c).After-from in
    let b = c.args.self.now in
    let a = c.args in
    let l = c.loop-mask in
    let ready = l.invariant.ready in
    let r = c.from.result in
    elim c.if-total-walk.branch [
      | search_masks-then-total-walk w ↦
          let d = w.search_place-rest in
          let one : Placed b (with_mask l.walk a.p l.mask) d.new.walk (a.p + 1) (a.cost + r) (l.rest - 1) d.result = d.ensures in
          rw (w.walk-is, w.rest-is) (masks_next l.invariant
          (kept_below ready l.mask a.last c.loop-mask-test.true (afford t here) (adds_is t here) c.requires.place one)
          (masked_enter ready l.mask a.last c.loop-mask-test.true (afford t here) (adds_is t here) c.requires.place one w.if-total-walk.true))
      | search_masks-else-total-walk w ↦
          rw (w.walk-is, w.rest-is) (masks_next l.invariant
          (kept_skip ready l.mask a.last c.loop-mask-test.true (afford t here) (adds_is t here))
          (masked_skip ready l.mask a.last c.loop-mask-test.true (afford t here) (adds_is t here) w.if-total-walk.false))
    ]

pub search_masks-returns : goal.search_masks-returns
search_masks-returns t c =
    let a = c.args in
    let l = c.loop-mask in
    l.invariant.on _ _ (masked_none l.invariant.ready l.mask a.last (omega arith))

-- ---- A place

-- there is a place, and these masks are tried at it
module _ (t : ℕ) (c : search_place-Joined-stated_mask t) where
  -- the byte that is read
  read : c.in-Some.own.now ≡ fixed_in c.args.self.now c.args.p
  read = c.in-Some.ensures.lookup.1 ∙ default_same c.args.self.now.local.fixed.now c.args.p c.in-Some.own.now unset c.in-Some.ensures.lookup.3.0

  masks_tried : let b = c.args.self.now in
      (c.match-stated_mask.first.0 ≤ c.match-stated_mask.first.1)
      × (c.match-stated_mask.first.1 ≤ tried_in b c.args.used)
      × (up_from c.match-stated_mask.first.0 (c.match-stated_mask.first.1 - c.match-stated_mask.first.0) ≡ candidates_in b.limits.masks (fixed_in b) (size_in b) (take c.args.p c.args.walk.now.partial))
  masks_tried =
      tried_at c.requires.ready c.in-Some.ensures.lookup.3.0 read c.match-stated_mask.first.0 c.match-stated_mask.first.1
      (elim c.match-stated_mask.branch [
        | search_place-in-Some-stated_mask w ↦
            let own = one_stated c.in-Some.own.now (sym w.in-Some-stated_mask.is ∙ c.stated_mask.ensures) in
            inl (own.0, ap (λ (q : ℕ × ℕ). q.0) w.first-is ∙ w.from.ensures ∙ own.1, ap (λ (q : ℕ × ℕ). q.1) w.first-is ∙ ap (λ (m : ℕ). m + 1) (w.from-in-Some-stated_mask.ensures ∙ own.1))
        | search_place-in-None w ↦
            inr (none_stated c.in-Some.own.now (sym w.in-None.is ∙ c.stated_mask.ensures), ap (λ (q : ℕ × ℕ). q.0) w.first-is, ap (λ (q : ℕ × ℕ). q.1) w.first-is ∙ w.min.ensures)
      ])

pub search_place-returns-in_default : goal.search_place-returns-in_default
search_place-returns-in_default t c =
    let a = c.args in
    rw (c.hold.ensures.held, c.hold.ensures.handed) (placed_last c.requires.ready c.requires.goes_on c.in_default.ensures.lookup.3)

pub search_place-search_masks-requires : goal.search_place-search_masks-requires
search_place-search_masks-requires t c =
    let here = (goal.at.search_place-search_masks-requires t c).Joined-stated_mask in
    (omega (arith, c.decreases), (c.requires.ready, (record { adds = c.added_row-row.ensures.adds; small = c.added_row-row.ensures.small }, (c.in-Some.ensures.lookup.3.0, ((masks_tried t here).0, (masks_tried t here).1)))))

pub search_place-returns : goal.search_place-returns
search_place-returns t c =
    let here = (goal.at.search_place-returns t c).Joined-stated_mask in
    let a = c.args in
    placed_masks c.requires.ready _ _ c.in-Some.ensures.lookup.3.0 (masks_tried t here).2 c.search_masks.ensures
