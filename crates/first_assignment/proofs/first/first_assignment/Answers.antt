use native.Mathlib.Omega.{arith}
use mathlib.Core.Bool.{true, not, cond}
use mathlib.Core.Path.{◌≡◌, ap, subst, subst⁻¹, ◌∙◌}
use Prim.Native.Nat.{ℕ, ◌<◌}
use Rattle.std.proofs.Common.{rules}
use lib.Dec.{eqb}
use lib.ListN.{length, get_or}
use Rattle.rules.specs.Settings.{unset}
use Rattle.rules.proofs.Lists.{default_same}
use Rattle.adjacency.specs.UnitGraph.{fixed_at}
use Rattle.first_assignment.proofs.Firsts.{cheapest_take, taken, taken_low, filled_none, filled_next, filled_all}
use Rattle.first_assignment.proofs.first.first_assignment.Goals as goal
use Rattle.first_assignment.proofs.first.first_assignment.Goals.{After-first_mask-m}

-- where a mask was picked for a place
module _ (picked : After-first_mask-m) where
  abbrev byte : ℕ
  byte = get_or picked.args.local.now.fixed.now picked.loop-k.k 0

  -- the byte that was read
  read : byte ≡ fixed_at picked.args.local.now.fixed.now picked.loop-k.k
  read = default_same picked.args.local.now.fixed.now picked.loop-k.k 0 unset (omega arith)

  -- the mask by the whole row
  mask : picked.first_mask-m.result ≡ taken byte picked.added_row-row.result picked.args.masks
  mask =
      let eight : length picked.added_row-row.result ≡ 8 = search rules in
      picked.first_mask-m.ensures
      ∙ ap (λ (m : ℕ). cond (not (eqb byte unset)) byte m) (cheapest_take picked.added_row-row.result picked.args.masks (omega (arith, picked.requires.masks_bound.1)))

  low : picked.first_mask-m.result < 8
  low =
      let below = taken_low byte picked.added_row-row.result picked.args.masks picked.requires.masks_bound.0
      (λ e. subst⁻¹ (λ (x : ℕ). x < picked.args.masks) read (picked.requires.fixed_low picked.loop-k.k (omega arith) (subst (λ (x : ℕ). not (eqb x unset) ≡ true) read e))) in
      omega (arith, mask, below, picked.requires.masks_bound.1)

pub loop-k-init : goal.loop-k-init
loop-k-init c = filled_none c.args.masks c.args.table.now c.args.local.now.lists.now (fixed_at c.args.local.now.fixed.now) (length c.args.local.now.fixed.now) c.args.partial.now c.requires.room

pub overflow_cast-partial : goal.overflow_cast-partial
overflow_cast-partial c = omega (arith, low (goal.at.overflow_cast-partial c).After-first_mask-m)

pub offset_bounds-row-m : goal.offset_bounds-row-m
offset_bounds-row-m c = omega (arith, low (goal.at.offset_bounds-row-m c).After-first_mask-m)

pub bounds-row-m : goal.bounds-row-m
bounds-row-m c = low (goal.at.bounds-row-m c).After-first_mask-m

pub loop-k-preserved : goal.loop-k-preserved
loop-k-preserved c =
    let a = c.args in
    let row = c.added_row-row.result in
    let picked = (goal.at.loop-k-preserved c).After-first_mask-m in
    let next = filled_next a.masks a.table.now a.local.now.lists.now (fixed_at a.local.now.fixed.now) (length a.local.now.fixed.now) (byte picked) row
    a.local.now.few c.requires.masks_bound.0 c.requires.masks_bound.1 (omega arith) c.requires.fixed_low (read picked) c.added_row-row.ensures.small c.added_row-row.ensures.adds (mask picked) c.loop-k.invariant in
    rw c.from-cost.ensures next

pub returns : goal.returns
returns c =
    filled_all c.args.masks c.args.table.now c.args.local.now.lists.now (fixed_at c.args.local.now.fixed.now) (length c.args.local.now.fixed.now) (omega arith) c.loop-k.invariant
