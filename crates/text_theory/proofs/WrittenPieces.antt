-- Piece lines that were read are those that the pieces are written as, and piece lines that are written are read as the pieces without their fixed masks, which
-- piece lines do not state. Assumes nothing.
use mathlib.Core.Bool.{true}
use mathlib.Core.List.{List, [], ◌∷◌, ◌++◌, append_assoc}
use mathlib.Core.Path.{◌≡◌, refl, sym, ap, subst, ◌∙◌}
use Prim.Native.Nat.{ℕ, zero, suc, ◌<◌}
use native.Mathlib.Omega.{arith}
use lib.ListN.{length}
use Rattle.rules.specs.declared.layer.Piece.{Piece}
use Rattle.rules.specs.declared.refusal.Place.{Place}
use Rattle.rules.specs.Lines.{ascii, line}
use Rattle.rules.specs.LayerText.{piece_numbers, piece_line, piece_lines}
use Rattle.rules.specs.Settings.{piece_in_range, has_area, unset, piece_at}
use Rattle.rules.specs.Questions.{done, judge_piece, read_line, piece_from, PieceRead, read_piece, PiecesRead, read_pieces, with_fixed}
use Rattle.rules.proofs.Outcomes.{then_with}
use Rattle.rules.proofs.Unfixed.{NoneFixed, unfixed}
use Rattle.lines.proofs.Written.{one_line, line_read}
use Rattle.text_theory.proofs.WrittenLines.{line_some, read_line_lem}

-- piece lines do not state fixed masks
pub unfixed_lines : (ps : List Piece) → piece_lines (unfixed ps) ≡ piece_lines ps
unfolding piece_lines
unfixed_lines [] = refl
unfixed_lines (p ∷ ps) = ap (λ (l : List ℕ). piece_line p ++ l) (unfixed_lines ps)

-- ---- What is read was written so

pub five : (ns : List ℕ) → length ns ≡ 5 → piece_numbers (piece_from ns) ≡ ns
five [] h = absurd (omega arith)
five (a ∷ []) h = absurd (omega arith)
five (a ∷ b ∷ []) h = absurd (omega arith)
five (a ∷ b ∷ c ∷ []) h = absurd (omega arith)
five (a ∷ b ∷ c ∷ d ∷ []) h = absurd (omega arith)
five (a ∷ b ∷ c ∷ d ∷ e ∷ []) h = refl
five (a ∷ b ∷ c ∷ d ∷ e ∷ f ∷ ns) h = absurd (omega arith)

piece_written : (lineNo : ℕ) (text : List ℕ) (p : PieceRead) → read_piece lineNo text ≡ done p → (text ≡ piece_line p.piece ++ p.rest) × (p.piece.fixed ≡ unset)
unfolding read_piece
piece_written lineNo text p e =
    then_with (read_line (ascii "piece=") 5 lineNo text) _ p e λ l e1 k1.
    then_with (judge_piece (Place.Line lineNo) (piece_from l.numbers)) _ p k1 λ _ e2 k2.
    let written = read_line_lem (ascii "piece=") 5 lineNo text l e1 in
    let same : record { piece = piece_from l.numbers; rest = l.rest } ≡ p = cc k2 in
    subst (λ (q : PieceRead). (text ≡ piece_line q.piece ++ q.rest) × (q.piece.fixed ≡ unset)) same
    (written.0 ∙ ap (λ (ns : List ℕ). line (ascii "piece=") ns ++ l.rest) (sym (five l.numbers written.1)), refl)

free_cons : (p : Piece) (ps : List Piece) → p.fixed ≡ unset → NoneFixed ps → NoneFixed (p ∷ ps)
free_cons p ps e others zero h = e
free_cons p ps e others (suc i) h = others i (omega arith)

-- what is true of n pieces that were read
pub record Written (n : ℕ) (text : List ℕ) (r : PiecesRead) : Type 0 where
  pub written : text ≡ piece_lines r.pieces ++ r.rest
  pub count : length r.pieces ≡ n
  pub free : NoneFixed r.pieces

pub pieces_written : (n lineNo : ℕ) (text : List ℕ) (r : PiecesRead) → read_pieces n lineNo text ≡ done r → Written n text r
unfolding read_pieces piece_lines
pieces_written zero lineNo text r e =
    let same : record { pieces = []; rest = text } ≡ r = cc e in
    subst (Written 0 text) same (record { written = refl; count = refl; free = λ i h. absurd (omega arith) })
pieces_written (suc n) lineNo text r e =
    then_with (read_piece lineNo text) _ r e λ p e1 k1.
    then_with (read_pieces n (suc lineNo) p.rest) _ r k1 λ ps e2 k2.
    let first = piece_written lineNo text p e1 in
    let others = pieces_written n (suc lineNo) p.rest ps e2 in
    let same : record { pieces = p.piece ∷ ps.pieces; rest = ps.rest } ≡ r = cc k2 in
    subst (Written (suc n) text) same (record {
      written = first.0 ∙ ap (λ (t : List ℕ). piece_line p.piece ++ t) others.written ∙ sym (append_assoc (piece_line p.piece) (piece_lines ps.pieces) ps.rest);
      count = ap suc others.count;
      free = free_cons p.piece ps.pieces first.1 others.free;
    })

-- ---- What is written is read so

-- each piece is in range and has area
abbrev pub Passing : List Piece → Type 0
Passing ps = (i : ℕ) → i < length ps → (piece_in_range (piece_at ps i) ≡ true) × (has_area (piece_at ps i) ≡ true)

pub pieces_read : (ps : List Piece) (lineNo : ℕ) (rest : List ℕ) → Passing ps → read_pieces (length ps) lineNo (piece_lines ps ++ rest) ≡ done (record { pieces = unfixed ps; rest = rest })
unfolding read_pieces read_piece judge_piece piece_in_range has_area piece_lines one_line ascii
pieces_read [] lineNo rest h = refl
pieces_read (p ∷ ps) lineNo rest h =
    let text = piece_line p ++ (piece_lines ps ++ rest) in
    let first : (piece_in_range (with_fixed unset p) ≡ true) × (has_area (with_fixed unset p) ≡ true) = h 0 (omega arith) in
    let one : read_line (ascii "piece=") 5 lineNo text ≡ done (record { numbers = piece_numbers p; rest = piece_lines ps ++ rest })
    = line_some (ascii "piece=") 5 lineNo text _ (line_read (ascii "piece=") refl p.shape (p.x1 ∷ p.y1 ∷ p.x2 ∷ p.y2 ∷ []) (piece_lines ps ++ rest)) in
    let judged : judge_piece (Place.Line lineNo) (with_fixed unset p) ≡ done tt = rw (first.0, judge_piece) (rw first.1) in
    ap (read_pieces (suc (length ps)) lineNo) (append_assoc (piece_line p) (piece_lines ps) rest)
    ∙ rw (one, read_piece, judged, read_pieces, pieces_read ps (suc lineNo) rest (λ i l. h (suc i) (omega arith)))
