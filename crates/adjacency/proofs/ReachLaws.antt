-- A piece that does not come into the reach of another one is at least the spacing away from it in X or in Y, and so has no edge with it. Assumes nothing.
use mathlib.Core.Bool.{true, false}
use mathlib.Core.Logic.{⊎_elim}
use mathlib.Core.Path.{◌≡◌}
use Prim.Native.Nat.{ℕ, ◌+◌, ◌-◌, ◌<◌, min}
use native.Mathlib.Omega.{arith}
use borrow.Author.Tests.{lt-ltb}
use Rattle.rules.specs.declared.layer.Piece.{Piece}
use Rattle.rules.specs.declared.layer.Edge.{Edge}
use Rattle.rules.specs.Settings.{settings_in_range}
use Rattle.rules.specs.Edges.{gap_x, gap_y, edge_of}
use Rattle.rules.proofs.Edges.{far_in_x, far_in_y}
use Rattle.rules.proofs.Ranges.{piece_facts}
use Rattle.rules.proofs.Tests.{clash, lt_or_ge}
use Rattle.adjacency.specs.declared.reach.Reach.{Reach}
use Rattle.adjacency.specs.Reaches.{in_reach}

above_both : {k a b : ℕ} → k < a → k < b → k < min a b
above_both h l = omega arith

module _ (r : Reach) (q : Piece) where
  near_in_x : gap_x q r.piece < r.settings.spacing → 1_000_000 < min (r.left + q.x2) (r.right - q.x1)
  unfolding gap_x
  near_in_x near = let x = (piece_facts r.piece r.piece_value).x1.high in above_both (omega arith) (omega arith)

  near_in_y : gap_y q r.piece < r.settings.spacing → 1_000_000 < min (r.below + q.y2) (r.above - q.y1)
  unfolding gap_y
  near_in_y near = let y = (piece_facts r.piece r.piece_value).y1.high in above_both (omega arith) (omega arith)

  pub out_of_reach : settings_in_range r.settings ≡ true → in_reach r q ≡ false → edge_of r.settings q r.piece ≡ Edge.None
  out_of_reach range e =
      ⊎_elim
      (λ x.
      ⊎_elim
      (λ y. clash (lt-ltb 1_000_000 _ (above_both (near_in_x x) (near_in_y y))) e)
      (far_in_y r.settings q r.piece range)
      (lt_or_ge (gap_y q r.piece) r.settings.spacing))
      (far_in_x r.settings q r.piece range)
      (lt_or_ge (gap_x q r.piece) r.settings.spacing)
