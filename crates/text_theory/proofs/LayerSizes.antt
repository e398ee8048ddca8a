-- How long a valid layer's text is at most: 78 bytes for the six lines, 42 for each piece and 12 for each fixed mask. Assumes nothing.
use mathlib.Core.Bool.{true}
use mathlib.Core.List.{List, [], ◌∷◌, ◌++◌}
use mathlib.Core.Path.{◌≡◌, ap}
use Prim.Native.Nat.{ℕ, suc, ◌+◌, ◌*◌, ◌≤◌, ◌<◌}
use native.Mathlib.Omega.{arith}
use lib.Dec.{eqb}
use lib.ListN.{length, length-append}
use borrow.Author.Tests.{ltb-true}
use Rattle.rules.specs.declared.layer.Settings.{Settings}
use Rattle.rules.specs.declared.layer.Piece.{Piece}
use Rattle.rules.specs.Settings.{piece_in_range, unset, fixed_in_range, piece_at}
use Rattle.rules.specs.Lines.{ascii, number_lines}
use Rattle.rules.specs.LayerText.{header_keys, header_numbers, piece_numbers, piece_line, piece_lines, fixed_line, fixed_lines, layer_text}
use Rattle.rules.specs.Questions.{Valid}
use Rattle.rules.proofs.Ranges.{settings_facts, piece_facts, within_facts}
use Rattle.rules.proofs.Tests.{by_test}
use Rattle.rules.proofs.Validity.{Sound, valid_sound}
use Rattle.numerals.proofs.Decimal.{decimal_length}
use Rattle.line_writer.proofs.LineSizes.{comma_one, comma_length, line_length, number_length, more_length}

piece_length : (p : Piece) → piece_in_range p ≡ true → length (piece_line p) ≤ 42
unfolding ascii
piece_length p r =
    let f = piece_facts p r in
    omega (
      arith,
      line_length (ascii "piece=") (piece_numbers p),
      comma_length p.shape p.x1 (p.y1 ∷ p.x2 ∷ p.y2 ∷ []),
      comma_length p.x1 p.y1 (p.x2 ∷ p.y2 ∷ []),
      comma_length p.y1 p.x2 (p.y2 ∷ []),
      comma_length p.x2 p.y2 [],
      ap length (comma_one p.y2),
      decimal_length p.shape 2 (omega (arith, f.shape.high)),
      decimal_length p.x1 6 (omega (arith, f.x1.high)),
      decimal_length p.y1 6 (omega (arith, f.y1.high)),
      decimal_length p.x2 6 (omega (arith, f.x2.high)),
      decimal_length p.y2 6 (omega (arith, f.y2.high)),
    )

lines_length : (ps : List Piece) → ((i : ℕ) → i < length ps → piece_in_range (piece_at ps i) ≡ true) → length (piece_lines ps) ≤ 42 * length ps
unfolding piece_lines
lines_length [] h = omega arith
lines_length (p ∷ ps) h =
    omega (arith, length-append (piece_line p) (piece_lines ps), piece_length p (h 0 (omega arith)), lines_length ps (λ i l. h (suc i) (omega arith)))

-- of fewer than ten masks, and fewer than a thousand pieces
fixed_length : (K i : ℕ) (p : Piece) → K < 10 → i < 1_000 → fixed_in_range K p.fixed ≡ true → length (fixed_line i p) ≤ 12
unfolding ascii
fixed_length K i p few small r =
    by_test (eqb p.fixed unset)
    (λ t. rw t (omega arith))
    (λ t.
    let below = ltb-true p.fixed K (rw t at r) in
    rw t
    (omega (
      arith,
      line_length (ascii "fixed=") (i ∷ p.fixed ∷ []),
      comma_length i p.fixed [],
      ap length (comma_one p.fixed),
      decimal_length i 2 (omega arith),
      decimal_length p.fixed 0 (omega arith),
    )))

fixed_lines_length : (K i : ℕ) (ps : List Piece) → K < 10 → i + length ps ≤ 1_000 → ((k : ℕ) → k < length ps → fixed_in_range K (piece_at ps k).fixed ≡ true)
    → length (fixed_lines i ps) ≤ 12 * length ps
unfolding fixed_lines
fixed_lines_length K i [] few small h = omega arith
fixed_lines_length K i (p ∷ ps) few small h =
    omega (
      arith,
      length-append (fixed_line i p) (fixed_lines (suc i) ps),
      fixed_length K i p few (omega arith) (h 0 (omega arith)),
      fixed_lines_length K (suc i) ps few (omega arith) (λ k l. h (suc k) (omega arith)),
    )

header_length : (s : Settings) (ps : List Piece) → Sound s ps → length (number_lines header_keys (header_numbers s (length ps))) ≤ 78
unfolding number_lines ascii
header_length s ps f =
    let r = settings_facts s f.settings in
    let few = (within_facts 0 512 (length ps) f.count).high in
    more_length (ascii "masks=") s.masks _ 8 70 (number_length (ascii "masks=") 0 s.masks (omega (arith, r.masks.high)))
    (more_length (ascii "spacing=") s.spacing _ 15 55 (number_length (ascii "spacing=") 5 s.spacing (omega (arith, r.spacing.high)))
    (more_length (ascii "margin=") s.margin _ 14 41 (number_length (ascii "margin=") 5 s.margin (omega (arith, r.margin.high)))
    (more_length (ascii "weight=") s.weight _ 12 29 (number_length (ascii "weight=") 3 s.weight (omega (arith, r.weight.high)))
    (more_length (ascii "budget=") s.budget _ 18 11 (number_length (ascii "budget=") 9 s.budget (omega (arith, r.budget.high)))
    (more_length (ascii "pieces=") (length ps) [] 11 0 (number_length (ascii "pieces=") 2 (length ps) (omega arith)) (omega arith))))))

-- how long its three parts are together
pub parts_length : (s : Settings) (ps : List Piece)
    → length (layer_text s ps) ≡ length (number_lines header_keys (header_numbers s (length ps))) + length (piece_lines ps) + length (fixed_lines 0 ps)
unfolding layer_text
parts_length s ps =
    let header = number_lines header_keys (header_numbers s (length ps)) in
    omega (arith, length-append header (piece_lines ps), length-append (header ++ piece_lines ps) (fixed_lines 0 ps))

pub longest : (s : Settings) (ps : List Piece) → Sound s ps → length (layer_text s ps) ≤ 27_726
longest s ps f =
    let few = (within_facts 0 512 (length ps) f.count).high in
    omega (
      arith,
      parts_length s ps,
      header_length s ps f,
      lines_length ps f.ranges,
      fixed_lines_length s.masks 0 ps (omega (arith, (settings_facts s f.settings).masks.high)) (omega arith) f.fixed,
    )

pub layer_length : (s : Settings) (ps : List Piece) → Sound s ps → length (layer_text s ps) ≤ 32_768
layer_length s ps f = omega (arith, longest s ps f)

-- a buffer of 32,768 bytes has room for it
pub layer_room : (s : Settings) (ps : List Piece) → Valid s ps → {n : ℕ} → 32_768 ≤ n → length (layer_text s ps) ≤ n
layer_room s ps valid h = omega (arith, layer_length s ps (valid_sound s ps valid))
