-- Pieces in 512 records: one piece more, one with its mask fixed, and the records as a whole. Assumes nothing.
use Rattle.std.proofs.Common.{◌≡◌, sym, ap, ◌∙◌, ℕ, suc, ◌+◌, ◌-◌, ◌≤◌, ◌<◌, List, ◌++◌, length, take, drop, set, replicate, arith}
use lib.ListN.{take-append-drop}
use lib.Seq.{drop-drop, drop-set-lt, take-set-lt, get_or-take, length-take-le}
use Rattle.rules.specs.declared.layer.Piece.{Piece}
use Rattle.rules.specs.Answers.{in_records}
use Rattle.rules.specs.Settings.{no_piece, piece_at}
use Rattle.rules.specs.Questions.{with_fixed, fix_at}

-- the records after k are zero
abbrev pub Zero : List Piece → ℕ → Type 0
Zero records k = drop k records ≡ replicate (512 - k) no_piece

pub zero_on : (records : List Piece) (k : ℕ) (p : Piece) → k < 512 → Zero records k → Zero (set records k p) (k + 1)
zero_on records k p h e =
    let left : 512 - k ≡ suc (512 - (k + 1)) = omega arith in
    drop-set-lt (k + 1) records k p (omega arith)
    ∙ sym (drop-drop 1 k records)
    ∙ ap (drop 1) (e ∙ ap (λ (n : ℕ). replicate n no_piece) left)

pub in_all : (records : List Piece) (k : ℕ) → k ≤ length records → Zero records k → records ≡ in_records (take k records)
in_all records k h e =
    sym (take-append-drop k records)
    ∙ ap (λ (l : List Piece). take k records ++ l) (e ∙ ap (λ (n : ℕ). replicate (512 - n) no_piece) (sym (length-take-le k records h)))

-- one mask fixed, in the records
pub fixed_in : (records : List Piece) (k i m : ℕ) → i < k → take k (set records i (with_fixed m (piece_at records i))) ≡ fix_at i m (take k records)
fixed_in records k i m h =
    take-set-lt k records i (with_fixed m (piece_at records i)) h
    ∙ ap (λ (p : Piece). set (take k records) i (with_fixed m p)) (sym (get_or-take k records i no_piece h))
