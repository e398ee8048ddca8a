-- Layer texts: what is read was written so, and what is written is read so. Reading goes line by line, so each line that was read is the line that its numbers are
-- written as, and the lines one after the other are the layer's text. The other way, each line of a valid layer's text is read as its numbers. Assumes nothing.
use mathlib.Core.List.{List, [], ◌∷◌, ◌++◌, append_assoc}
use mathlib.Core.Path.{◌≡◌, refl, sym, ap, ap₂, subst, ◌∙◌}
use Prim.Native.Nat.{ℕ, ◌+◌, ◌≤◌}
use native.Mathlib.Omega.{arith}
use lib.Dec.{leb}
use lib.ListN.{length, get_or, length-map}
use borrow.Author.Tests.{leb-true, le-leb}
use Rattle.rules.specs.declared.layer.Settings.{Settings}
use Rattle.rules.specs.declared.layer.Piece.{Piece}
use Rattle.rules.specs.declared.refusal.Place.{Place}
use Rattle.rules.specs.Lines.{ascii, number_lines}
use Rattle.rules.specs.LayerText.{header_lines, header_keys, header_numbers, piece_lines, fixed_lines, layer_text}
use Rattle.rules.specs.Settings.{unset}
use Rattle.rules.specs.Questions.{done, ask, judge_overlaps, judge_fixed, Valid, read_numbers, read_pieces, read_all_fixed, HeaderRead, settings_from, header_from, read_header, Layer, with_fixed, layer_from, read_body, read_layer}
use Rattle.rules.specs.Demands.{States}
use Rattle.rules.proofs.Outcomes.{accepted, then_with, ask_yes}
use Rattle.rules.proofs.Ranges.{setting_ranges, settings_facts}
use Rattle.rules.proofs.Reading.{header_ends, read_valid}
use Rattle.rules.proofs.Validity.{Sound, valid_sound, sound_overlaps, sound_fixed}
use Rattle.lines.proofs.Written.{one_line}
use Rattle.text_theory.proofs.WrittenLines.{Readable, numbers_written, numbers_read}
use Rattle.text_theory.proofs.WrittenPieces.{unfixed_lines, pieces_written, pieces_read}
use Rattle.text_theory.proofs.FixedLines.{all_written, all_read}
use Rattle.text_theory.proofs.LayerSizes.{layer_length}

-- ---- What is read is stated

-- six numbers are the header's
six : (ns : List ℕ) → length ns ≡ 6 → header_numbers (settings_from ns) (get_or ns 5 0) ≡ ns
six [] h = absurd (omega arith)
six (a ∷ []) h = absurd (omega arith)
six (a ∷ b ∷ []) h = absurd (omega arith)
six (a ∷ b ∷ c ∷ []) h = absurd (omega arith)
six (a ∷ b ∷ c ∷ d ∷ []) h = absurd (omega arith)
six (a ∷ b ∷ c ∷ d ∷ e ∷ []) h = absurd (omega arith)
six (a ∷ b ∷ c ∷ d ∷ e ∷ f ∷ []) h = refl
six (a ∷ b ∷ c ∷ d ∷ e ∷ f ∷ g ∷ ns) h = absurd (omega arith)

header_written : (text : List ℕ) (h : HeaderRead) → read_header text ≡ done h → text ≡ number_lines header_keys (header_numbers h.settings h.count) ++ h.rest
unfolding read_header
header_written text h e =
    then_with (read_numbers header_lines 1 text) _ h e λ l e1 k1.
    let written = numbers_written header_lines 1 text l e1 in
    let same : header_from l ≡ h = cc k1 in
    written.0
    ∙ ap (λ (ns : List ℕ). number_lines header_keys ns ++ l.rest) (sym (six l.numbers written.1))
    ∙ ap (λ (k : HeaderRead). number_lines header_keys (header_numbers k.settings k.count) ++ k.rest) same

-- so few masks are read that none is 255, which stands for none
pub header_masks : (text : List ℕ) (h : HeaderRead) → read_header text ≡ done h → h.settings.masks ≤ 8
header_masks text h e = (settings_facts h.settings (accepted (header_ends {R = λ _ _. Unit {0}} text (λ _ _ _. (tt, tt))) e).settings).masks.high

body_written : (s : Settings) (n : ℕ) (text : List ℕ) (l : Layer) → s.masks ≤ unset → read_body s n text ≡ done l
    → (l.settings ≡ s) × (length l.pieces ≡ n) × (text ≡ piece_lines l.pieces ++ fixed_lines 0 l.pieces)
unfolding read_body layer_from
body_written s n text l few e =
    then_with (read_pieces n 7 text) _ l e λ read e1 k1.
    then_with (read_all_fixed (length read.rest) s.masks 0 (7 + n) read.pieces read.rest) _ l k1 λ ps e2 k2.
    then_with (judge_overlaps ps) _ l k2 λ _ e3 k3.
    then_with (judge_fixed s ps) _ l k3 λ _ e4 k4.
    let w = pieces_written n 7 text read e1 in
    let f = all_written (length read.rest) s.masks 0 (7 + n) read.pieces read.rest ps few (omega arith) (λ k _. w.free k) e2 in
    let lines : piece_lines read.pieces ≡ piece_lines ps = sym (unfixed_lines read.pieces) ∙ ap piece_lines (sym f.others) ∙ unfixed_lines ps in
    let size : length ps ≡ n = sym (length-map ps (with_fixed unset)) ∙ ap length f.others ∙ length-map read.pieces (with_fixed unset) ∙ w.count in
    let same : record { settings = s; pieces = ps } ≡ l = cc k4 in
    subst (λ (m : Layer). (m.settings ≡ s) × (length m.pieces ≡ n) × (text ≡ piece_lines m.pieces ++ fixed_lines 0 m.pieces)) same
    (refl, size, w.written ∙ ap₂ (λ (a b : List ℕ). a ++ b) lines f.written)

pub read_states : (text : List ℕ) (l : Layer) → read_layer text ≡ done l → States text l
unfolding read_layer layer_text
read_states text l e =
    then_with (ask (leb (length text) 32_768) 2 Place.Nothing) _ l e λ _ e0 k0.
    then_with (read_header text) _ l k0 λ h e1 k1.
    let header = header_written text h e1 in
    let body = body_written h.settings h.count h.rest l (omega (arith, header_masks text h e1)) k1 in
    record {
      valid = read_valid text l e;
      size = leb-true (length text) 32_768 (ask_yes (leb (length text) 32_768) 2 Place.Nothing e0);
      written = header ∙ rw (body.2, body.0, body.1, append_assoc);
    }

-- ---- What is stated is read

module _ (s : Settings) (ps : List Piece) (f : Sound s ps) where
  header_readable : Readable header_lines (header_numbers s (length ps))
  unfolding one_line ascii
  header_readable =
      let r = setting_ranges s f.settings in
      (refl, r.masks, (refl, r.spacing, (refl, r.margin, (refl, r.weight, (refl, r.budget, (refl, f.count, tt))))))

  pub sound_reads : read_layer (layer_text s ps) ≡ done (record { settings = s; pieces = ps })
  unfolding read_layer read_header read_body layer_from layer_text
  sound_reads =
      let small : length (layer_text s ps) ≤ 32_768 = layer_length s ps f in
      let body = piece_lines ps ++ fixed_lines 0 ps in
      let text = append_assoc (number_lines header_keys (header_numbers s (length ps))) (piece_lines ps) (fixed_lines 0 ps) in
      let header = numbers_read header_lines (header_numbers s (length ps)) 1 body header_readable in
      let pieces = pieces_read ps 7 (fixed_lines 0 ps) (λ i l. (f.ranges i l, f.areas i l)) in
      let fixed = all_read (length ps) s.masks 0 (length (fixed_lines 0 ps)) 0 (7 + length ps) ps (omega arith) (omega arith) (omega arith) f.fixed in
      rw (le-leb (length (layer_text s ps)) 32_768 small, text, header, read_header, pieces, read_body, fixed, layer_from, sound_overlaps s ps f, sound_fixed s ps f)

pub reads_back_lem : (l : Layer) → Valid l.settings l.pieces → read_layer (layer_text l.settings l.pieces) ≡ done l
reads_back_lem l valid = sound_reads l.settings l.pieces (valid_sound l.settings l.pieces valid)
