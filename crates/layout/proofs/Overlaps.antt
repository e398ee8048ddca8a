-- Question 6 of one piece. Assumes nothing.
use Rattle.std.proofs.Common.{◌≡◌, ℕ, ◌<◌, List, Bool, true, IsTrue, ◌↔◌, get_or, length, take, arith, sym, ◌∙◌, ap}
use Rattle.std.specs.List.{SomeIndex}
use mathlib.Core.Bool.{not}
use lib.Seq.{get_or-take, length-take-le}
use Rattle.rules.specs.declared.layer.Piece.{Piece}
use Rattle.rules.specs.declared.refusal.Place.{Place}
use Rattle.rules.specs.Basics.{any_of, up_to}
use Rattle.rules.specs.Edges.{overlapping}
use Rattle.rules.specs.Questions.{Outcome, ask}
use Rattle.rules.specs.Settings.{piece_at, no_piece}
use Rattle.rules.proofs.Lists.{any_in, any_found, in_up_to}
use Rattle.rules.proofs.Tests.{same}

abbrev pub overlap_question : List Piece → ℕ → Outcome (Unit {0})
overlap_question ps j = ask (not (any_of (λ i. overlapping (piece_at ps i) (piece_at ps j)) (up_to j))) 6 (Place.Piece j)

-- whether a piece before place n passes a test, from what an iterator's `any` answers
pub any_before : (test : Piece → Bool) (ps : List Piece) (n : ℕ) (b : Bool) → n < length ps → (IsTrue b ↔ SomeIndex (take n ps) (λ k. test (get_or (take n ps) k no_piece) ≡ true))
    → b ≡ any_of (λ i. test (piece_at ps i)) (up_to n)
any_before test ps n b h found = same b (any_of (λ i. test (piece_at ps i)) (up_to n))
    (λ e. let r = found.0 e in let below : r.0 < n = omega (arith, r.1, size) in any_found (λ i. test (piece_at ps i)) n below (sym (at r.0 below) ∙ r.2))
    (λ e. let r = any_in (λ i. test (piece_at ps i)) (up_to n) e in let below = (in_up_to n r.0).0 r.1 in found.1 (r.0, omega (arith, below, size), at r.0 below ∙ r.2))
  where
    size : length (take n ps) ≡ n
    size = length-take-le n ps (omega arith)

    at : (i : ℕ) → i < n → test (get_or (take n ps) i no_piece) ≡ test (piece_at ps i)
    at i l = ap test (get_or-take n ps i no_piece l)
