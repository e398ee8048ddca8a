-- Piece lines, laid one after the other; lines that fix masks: none before the first piece, room for the next, and one more. Assumes nothing.
use mathlib.Core.List.{List, [], ◌∷◌, ◌++◌, append_assoc, append-nil}
use mathlib.Core.Path.{◌≡◌, refl, sym, ap, ◌∙◌}
use Prim.Native.Nat.{ℕ, suc, ◌+◌, ◌≤◌, ◌<◌}
use native.Mathlib.Omega.{arith}
use native.Mathlib.Numerals.{add-one}
use lib.ListN.{length, take, drop, length-append, take-append-drop}
use lib.Seq.{take-suc, length-take-le}
use Rattle.rules.specs.declared.layer.Piece.{Piece}
use Rattle.rules.specs.LayerText.{piece_line, piece_lines, fixed_line, fixed_lines}
use Rattle.rules.specs.Settings.{no_piece, piece_at}
use Rattle.line_writer.specs.declared.Writer.{Writer}
use Rattle.line_writer.specs.Writing.{HasRoom, Wrote, laid}
use Rattle.line_writer.proofs.Puts.{wrote_none, wrote_on, wrote_as, room_within}

-- ---- Pieces

pub piece_laid : (ps : List Piece) → piece_lines ps ≡ laid piece_line ps
unfolding piece_lines laid
piece_laid [] = refl
piece_laid (p ∷ ps) = ap (λ (l : List ℕ). piece_line p ++ l) (piece_laid ps)

-- ---- Lines that fix masks

fixed_split : (i : ℕ) (ps qs : List Piece) → fixed_lines i (ps ++ qs) ≡ fixed_lines i ps ++ fixed_lines (i + length ps) qs
unfolding fixed_lines
fixed_split i [] qs = ap (λ (k : ℕ). fixed_lines k qs) (omega arith)
fixed_split i (p ∷ ps) qs =
    ap (λ (l : List ℕ). fixed_line i p ++ l) (fixed_split (suc i) ps qs ∙ ap (λ (k : ℕ). fixed_lines (suc i) ps ++ fixed_lines k qs) (omega arith))
    ∙ sym (append_assoc (fixed_line i p) (fixed_lines (suc i) ps) (fixed_lines (i + suc (length ps)) qs))

fixed_next : (ps : List Piece) (k : ℕ) → k < length ps → fixed_lines 0 (take (k + 1) ps) ≡ fixed_lines 0 (take k ps) ++ fixed_line k (piece_at ps k)
unfolding fixed_lines
fixed_next ps k h =
    let place : 0 + length (take k ps) ≡ k = omega (arith, length-take-le k ps (omega arith)) in
    ap (λ (n : ℕ). fixed_lines 0 (take n ps)) (add-one k)
    ∙ ap (fixed_lines 0) (take-suc ps k no_piece h)
    ∙ fixed_split 0 (take k ps) (piece_at ps k ∷ [])
    ∙ rw place (ap (λ (l : List ℕ). fixed_lines 0 (take k ps) ++ l) (append-nil (fixed_line k (piece_at ps k))))

fixed_part : (ps : List Piece) (k : ℕ) → length (fixed_lines 0 (take k ps)) ≤ length (fixed_lines 0 ps)
fixed_part ps k =
    omega (
      arith,
      ap (λ (l : List Piece). length (fixed_lines 0 l)) (take-append-drop k ps),
      ap length (fixed_split 0 (take k ps) (drop k ps)),
      length-append (fixed_lines 0 (take k ps)) (fixed_lines (0 + length (take k ps)) (drop k ps)),
    )

pub fixed_begun : (w : Writer) → Wrote w (fixed_lines 0 []) w
unfolding fixed_lines
fixed_begun w = wrote_none w

pub fixed_room : {a b : Writer} (ps : List Piece) (k : ℕ) → k < length ps → Wrote a (fixed_lines 0 (take k ps)) b → HasRoom a (fixed_lines 0 ps) → HasRoom b (fixed_line k (piece_at ps k))
fixed_room ps k h wrote room = room_within _ _ wrote room (rw (sym (fixed_next ps k h)) (fixed_part ps (k + 1)))

pub fixed_more : {a b : Writer} (ps : List Piece) (k : ℕ) → k < length ps → Wrote a (fixed_lines 0 (take k ps)) b → {c : Writer} → Wrote b (fixed_line k (piece_at ps k)) c → Wrote a (fixed_lines 0 (take (k + 1) ps)) c
fixed_more ps k h before line = wrote_as (sym (fixed_next ps k h)) (wrote_on before line)
