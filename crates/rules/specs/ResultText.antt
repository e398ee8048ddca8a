-- The result text (RULES 10), as a list of bytes.
use Rattle.std.specs.Prelude.{List, [], ◌∷◌, ◌++◌, ℕ}
use Rattle.rules.specs.declared.answers.Verdict.{Verdict}
use Rattle.rules.specs.Decomposition.{Run}
use Rattle.rules.specs.Lines.{ascii, newline, line, number_lines}

abbrev pub verdict_line : Verdict → List ℕ
verdict_line Verdict.Best = ascii "verdict=best" ++ (newline ∷ [])
verdict_line Verdict.Open = ascii "verdict=open" ++ (newline ∷ [])

abbrev pub result_keys : List (List ℕ)
result_keys = ascii "conflicts=" ∷ ascii "stitches=" ∷ ascii "cost=" ∷ ascii "steps=" ∷ []

abbrev pub result_numbers : Run → List ℕ
result_numbers r = r.conflicts ∷ r.stitches ∷ r.cost ∷ r.steps ∷ []

abbrev pub mask_line : ℕ → List ℕ
mask_line m = line (ascii "mask=") (m ∷ [])

unfoldable pub mask_lines : List ℕ → List ℕ
mask_lines [] = []
mask_lines (m ∷ masks) = mask_line m ++ mask_lines masks

unfoldable pub result_text : Run → List ℕ
result_text r = verdict_line r.verdict ++ number_lines result_keys (result_numbers r) ++ mask_lines r.masks
