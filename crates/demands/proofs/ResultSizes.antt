-- How long a result text is at most: 13 bytes for the verdict, 65 for the four counts and 7 for each mask. So the result of every valid layer fits a
-- buffer of 4,096 bytes, and its values fit the types of the answer. Assumes nothing.
use mathlib.Core.List.{List, [], ◌∷◌}
use mathlib.Core.Path.{◌≡◌, refl}
use Prim.Native.Nat.{ℕ, suc, ◌*◌, ◌≤◌, ◌<◌, ◌^◌}
use native.Mathlib.Omega.{arith}
use lib.ListN.{length, get_or, length-append}
use Rattle.rules.specs.declared.layer.Settings.{Settings}
use Rattle.rules.specs.declared.layer.Piece.{Piece}
use Rattle.rules.specs.declared.answers.Verdict.{Verdict}
use Rattle.rules.specs.Decomposition.{Run, run}
use Rattle.rules.specs.Lines.{ascii, number_lines}
use Rattle.rules.specs.Questions.{Valid}
use Rattle.rules.specs.ResultText.{verdict_line, result_keys, result_numbers, mask_line, mask_lines, result_text}
use Rattle.line_writer.proofs.LineSizes.{number_length, more_length}
use Rattle.theory.proofs.Results.{ResultBounds, run_bounds}
use Rattle.result_writer.proofs.ResultLines.{result_size}

verdict_length : (v : Verdict) → length (verdict_line v) ≡ 13
unfolding ascii
verdict_length Verdict.Best = refl
verdict_length Verdict.Open = refl

masks_length : (masks : List ℕ) → ((i : ℕ) → i < length masks → get_or masks i 0 < 8) → length (mask_lines masks) ≤ 7 * length masks
unfolding mask_lines ascii
masks_length [] h = omega arith
masks_length (m ∷ masks) h =
    omega (
      arith,
      length-append (mask_line m) (mask_lines masks),
      number_length (ascii "mask=") 0 m (omega (arith, h 0 (omega arith))),
      masks_length masks (λ i k. h (suc i) (omega arith)),
    )

counts_length : (r : Run) → ResultBounds r → length (number_lines result_keys (result_numbers r)) ≤ 65
unfolding number_lines ascii
counts_length r b =
    more_length (ascii "conflicts=") r.conflicts _ 17 48 (number_length (ascii "conflicts=") 5 r.conflicts (omega (arith, b.conflicts)))
    (more_length (ascii "stitches=") r.stitches _ 16 32 (number_length (ascii "stitches=") 5 r.stitches (omega (arith, b.stitches)))
    (more_length (ascii "cost=") r.cost _ 15 17 (number_length (ascii "cost=") 8 r.cost (omega (arith, b.cost)))
    (more_length (ascii "steps=") r.steps [] 17 0 (number_length (ascii "steps=") 9 r.steps (omega (arith, b.steps))) (omega arith))))

-- the result text of a valid layer fits the loader's buffer
pub result_fits : (s : Settings) (ps : List Piece) → Valid s ps → length (result_text (run s ps)) ≤ 4_096
result_fits s ps valid =
    let r = run s ps in
    let b = run_bounds s ps valid in
    omega (arith, result_size r, verdict_length r.verdict, counts_length r b, masks_length r.masks b.masks, b.count)

-- its values fit the answer's types
pub record Fits (r : Run) : Type 0 where
  pub masks : (i : ℕ) → i < length r.masks → get_or r.masks i 0 < 2 ^ 8
  pub conflicts : r.conflicts < 2 ^ 32
  pub stitches : r.stitches < 2 ^ 32
  pub cost : r.cost < 2 ^ 32
  pub steps : r.steps < 2 ^ 32

pub run_fits : (s : Settings) (ps : List Piece) → Valid s ps → Fits (run s ps)
run_fits s ps valid =
    let b = run_bounds s ps valid in
    record {
      masks = λ i l. omega (arith, b.masks i l);
      conflicts = omega (arith, b.conflicts);
      stitches = omega (arith, b.stitches);
      cost = omega (arith, b.cost);
      steps = omega (arith, b.steps);
    }
