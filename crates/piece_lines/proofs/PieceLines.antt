-- A piece line read up to the cap is judged as the rules judge it, and the piece lines are read one after the other. Assumes nothing.
use Rattle.std.proofs.Common.{◌≡◌, refl, sym, ap, ◌∙◌, ℕ, suc, ◌+◌, ◌-◌, ◌<◌, ◌≤◌, min, true, List, [], ◌∷◌, ◌++◌, get_or, add-zero, arith}
use mathlib.Core.List.{append-nil}
use mathlib.Core.Path.{ap₂}
use lib.Seq.{append_snoc}
use Rattle.rules.specs.declared.layer.Piece.{Piece}
use Rattle.rules.specs.declared.refusal.Place.{Place}
use Rattle.rules.specs.Lines.{ascii}
use Rattle.rules.specs.Settings.{piece_in_range, unset}
use Rattle.rules.specs.Questions.{Outcome, done, refused, and_then, read_line, piece_from, judge_piece, read_piece, PiecesRead, read_pieces}
use Rattle.rules.proofs.Outcomes.{accepted}
use Rattle.rules.proofs.Ranges.{piece_ranges}
use Rattle.rules.proofs.Tests.{by_test}
use Rattle.rules.proofs.Validity.{judged_piece}
use Rattle.numerals.specs.Numerals.{cap}
use Rattle.numerals.proofs.Cap.{cap_range, cap_same}
use Rattle.lines.specs.Readers.{capped_line}
use Rattle.lines.proofs.ReaderLaws.{LineThere, line_refused, line_there, value_there}

-- ---- One piece

module _ (ns values : List ℕ) (at : (i : ℕ) → get_or values i 0 ≡ min (get_or ns i 0) cap) where
  piece_range : piece_in_range (piece_from values) ≡ piece_in_range (piece_from ns)
  unfolding piece_in_range
  piece_range =
      rw (at 0, at 1, at 2, at 3, at 4)
      (rw (
        cap_range 0 511 (get_or ns 0 0) (omega arith),
        cap_range 0 1_000_000 (get_or ns 1 0) (omega arith),
        cap_range 0 1_000_000 (get_or ns 2 0) (omega arith),
        cap_range 0 1_000_000 (get_or ns 3 0) (omega arith),
        cap_range 0 1_000_000 (get_or ns 4 0) (omega arith),
      ))

  piece_same : piece_in_range (piece_from values) ≡ true → piece_from values ≡ piece_from ns
  piece_same h =
      let r = piece_ranges (piece_from ns) (sym piece_range ∙ h) in
      let e0 = at 0 ∙ cap_same 0 511 (get_or ns 0 0) (omega arith) r.shape in
      let e1 = at 1 ∙ cap_same 0 1_000_000 (get_or ns 1 0) (omega arith) r.x1 in
      let e2 = at 2 ∙ cap_same 0 1_000_000 (get_or ns 2 0) (omega arith) r.y1 in
      let e3 = at 3 ∙ cap_same 0 1_000_000 (get_or ns 3 0) (omega arith) r.x2 in
      let e4 = at 4 ∙ cap_same 0 1_000_000 (get_or ns 4 0) (omega arith) r.y2 in
      λ i. record { shape = e0 i; x1 = e1 i; y1 = e2 i; x2 = e3 i; y2 = e4 i; fixed = unset }

  -- judged alike
  piece_judged : (place : Place) → judge_piece place (piece_from values) ≡ judge_piece place (piece_from ns)
  unfolding judge_piece
  piece_judged place =
      by_test (piece_in_range (piece_from values))
      (λ h. ap (judge_piece place) (piece_same h))
      (λ h. rw (h, sym piece_range ∙ h))

-- a piece that passes is in range
judged_range : (place : Place) (p : Piece) → judge_piece place p ≡ done tt → piece_in_range p ≡ true
judged_range place p e = (accepted (judged_piece {R = λ _ _. Unit {0}} place p tt tt) e).0

-- ---- A piece line

module _ (text : List ℕ) (lineNo : ℕ) where
  pub piece_form : (number : ℕ) (place : Place) → refused number place ≡ capped_line (read_line (ascii "piece=") 5 lineNo text) → refused number place ≡ read_piece lineNo text
  unfolding read_piece
  piece_form number place e = sym (rw (line_refused _ number place e, read_piece))

  module _ (values rest : List ℕ) (read : done (record { numbers = values; rest = rest }) ≡ capped_line (read_line (ascii "piece=") 5 lineNo text)) where
    there : LineThere (read_line (ascii "piece=") 5 lineNo text) values rest
    there = line_there _ values rest read

    judged : judge_piece (Place.Line lineNo) (piece_from values) ≡ judge_piece (Place.Line lineNo) (piece_from there.line.numbers)
    judged = piece_judged there.line.numbers values (value_there there) (Place.Line lineNo)

    pub piece_refused : (number : ℕ) (place : Place) → refused number place ≡ judge_piece (Place.Line lineNo) (piece_from values) → refused number place ≡ read_piece lineNo text
    unfolding read_piece
    piece_refused number place e = sym (rw (there.found, read_piece) (rw (sym judged ∙ sym e)))

    pub piece_good : done tt ≡ judge_piece (Place.Line lineNo) (piece_from values) → done (record { piece = piece_from values; rest = rest }) ≡ read_piece lineNo text
    unfolding read_piece
    piece_good e =
        let same = piece_same there.line.numbers values (value_there there) (judged_range (Place.Line lineNo) (piece_from values) (sym e)) in
        sym (rw (there.found, read_piece) (rw (sym judged ∙ sym e)
        (ap₂ (λ (p : Piece) (rest : List ℕ). done (record { piece = p; rest = rest })) (sym same) (sym there.after))))

-- ---- The piece lines from piece k on

-- pieces in front of others
abbrev ahead : List Piece → Outcome PiecesRead → Outcome PiecesRead
ahead ps (done r) = done (record { pieces = ps ++ r.pieces; rest = r.rest })
ahead ps (refused number place) = refused number place

ahead_none : (o : Outcome PiecesRead) → o ≡ ahead [] o
ahead_none (done r) = refl
ahead_none (refused number place) = refl

ahead_snoc : (ps : List Piece) (p : Piece) (o : Outcome PiecesRead) → ahead ps (and_then o λ r. done (record { pieces = p ∷ r.pieces; rest = r.rest })) ≡ ahead (ps ++ (p ∷ [])) o
ahead_snoc ps p (done r) = ap (λ (l : List Piece). done (record { pieces = l; rest = r.rest })) (sym (append_snoc ps p r.pieces))
ahead_snoc ps p (refused number place) = refl

-- what k pieces that were read, and the text after them, say of all
abbrev pub Read : ℕ → List ℕ → ℕ → List Piece → List ℕ → ℕ → Type 0
Read lineNo text count ps rest k = read_pieces count lineNo text ≡ ahead ps (read_pieces (count - k) (lineNo + k) rest)

module _ (lineNo : ℕ) (text : List ℕ) (count : ℕ) where
  pub read_start : Read lineNo text count [] text 0
  read_start =
      let all : count - 0 ≡ count = omega arith in
      rw (add-zero, all) (ahead_none (read_pieces count lineNo text))

  module _ (ps : List Piece) (rest : List ℕ) (k : ℕ) (passed : Read lineNo text count ps rest k) where
    module _ (turn : k < count) where
      left : count - k ≡ suc (count - (k + 1))
      left = omega arith

      pub read_on : (p : Piece) (after : List ℕ) → done (record { piece = p; rest = after }) ≡ read_piece (lineNo + k) rest → Read lineNo text count (ps ++ (p ∷ [])) after (k + 1)
      unfolding read_pieces
      read_on p after one =
          let next : suc (lineNo + k) ≡ lineNo + (k + 1) = omega arith in
          passed
          ∙ rw (left, sym one, read_pieces)
          (ahead_snoc ps p (read_pieces (count - (k + 1)) (suc (lineNo + k)) after)
          ∙ ap (λ (n : ℕ). ahead (ps ++ (p ∷ [])) (read_pieces (count - (k + 1)) n after)) next)

      pub read_stop : (number : ℕ) (place : Place) → refused number place ≡ read_piece (lineNo + k) rest → refused number place ≡ read_pieces count lineNo text
      unfolding read_pieces
      read_stop number place one = sym (passed ∙ rw (left, sym one, read_pieces))

    pub read_end : count ≤ k → done (record { pieces = ps; rest = rest }) ≡ read_pieces count lineNo text
    unfolding read_pieces
    read_end h =
        let none_left : count - k ≡ 0 = omega arith in
        sym (passed ∙ rw none_left (ap (λ (l : List Piece). done (record { pieces = l; rest = rest })) (append-nil ps)))
