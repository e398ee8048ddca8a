-- Mask lines, laid one after the other; the parts of a result. Assumes nothing.
use mathlib.Core.List.{List, [], ◌∷◌, ◌++◌}
use mathlib.Core.Path.{◌≡◌, refl, ap}
use Prim.Native.Nat.{ℕ, ◌+◌}
use native.Mathlib.Omega.{arith}
use lib.ListN.{length, length-append}
use Rattle.rules.specs.Decomposition.{Run}
use Rattle.rules.specs.Lines.{number_lines}
use Rattle.rules.specs.ResultText.{verdict_line, result_keys, result_numbers, mask_line, mask_lines, result_text}
use Rattle.line_writer.specs.Writing.{laid}

-- ---- Masks

pub mask_laid : (masks : List ℕ) → mask_lines masks ≡ laid mask_line masks
unfolding mask_lines laid
mask_laid [] = refl
mask_laid (m ∷ masks) = ap (λ (l : List ℕ). mask_line m ++ l) (mask_laid masks)

-- ---- A result

pub result_size : (r : Run) → length (result_text r) ≡ length (verdict_line r.verdict) + length (number_lines result_keys (result_numbers r)) + length (mask_lines r.masks)
unfolding result_text
result_size r =
    let lines = verdict_line r.verdict ++ number_lines result_keys (result_numbers r) in
    omega (arith, length-append lines (mask_lines r.masks), length-append (verdict_line r.verdict) (number_lines result_keys (result_numbers r)))
