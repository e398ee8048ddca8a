-- The edge between two pieces is of one kind, or it is none: it is a conflict, a stitch or a tie exactly where the rules' test for that kind passes. Assumes nothing.
use mathlib.Core.Bool.{false}
use mathlib.Core.Path.{◌≡◌}
use native.Mathlib.Omega.{arith}
use Rattle.rules.specs.declared.layer.Settings.{Settings}
use Rattle.rules.specs.declared.layer.Piece.{Piece}
use Rattle.rules.specs.Edges.{conflict_edge, stitch_edge, tied, edge_of}
use Rattle.rules.proofs.Edges.{one_kind, tie_test, tie_exactly}
use Rattle.rules.proofs.Tests.{by_test}
use Rattle.adjacency.specs.Kinds.{is_conflict, is_stitch, is_tie}

module _ (s : Settings) (p q : Piece) where
  pub conflict_kind : is_conflict (edge_of s p q) ≡ conflict_edge s p q
  unfolding edge_of
  conflict_kind = grind arith

  pub stitch_kind : is_stitch (edge_of s p q) ≡ stitch_edge s p q
  unfolding edge_of
  stitch_kind = grind (arith, one_kind s p q)

  other_kind : tied s p q ≡ false → is_tie (edge_of s p q) ≡ false
  unfolding edge_of
  other_kind h = grind arith

  pub tie_kind : is_tie (edge_of s p q) ≡ tied s p q
  tie_kind = by_test (tied s p q) (λ h. rw ((tie_exactly s p q).1 ((tie_test s p q).0 h), h)) (λ h. rw h (other_kind h))
