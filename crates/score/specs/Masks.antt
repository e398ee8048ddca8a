-- What reading a file of masks finds, by the mask lines of the rules.
use Rattle.std.specs.Prelude.{cond, List, ◌++◌, map, ◌≡◌, ℕ, ◌+◌, ◌<◌, leb, length, take}
use Rattle.std.proofs.Math.Option.{none}
use Rattle.rules.specs.Lines.{ascii, line_of}
use Rattle.rules.specs.ResultText.{mask_line, mask_lines}

-- the mask that a number is handed on as
abbrev pub mask_of : ℕ → ℕ
mask_of n = cond (leb n 255) n 254

-- the masks that numbers are handed on as, the first 513
abbrev pub masks_of : List ℕ → List ℕ
masks_of numbers = take 513 (map mask_of numbers)

-- ---- A line

-- the text is a number's mask line and the text after it
pub record MaskRead (text : List ℕ) (mask : ℕ) (after : List ℕ) : Type 0 where
  pub number : ℕ
  pub line : text ≡ mask_line number ++ after
  pub value : mask ≡ mask_of number

abbrev pub NoMaskLine : List ℕ → Type 0
NoMaskLine text = line_of (ascii "mask=") 1 text ≡ none

-- ---- All lines

-- the text is the numbers' mask lines, and these are their masks, the first 513
pub record AllStored (text masks : List ℕ) : Type 0 where
  pub numbers : List ℕ
  pub lines : text ≡ mask_lines numbers
  pub stored : masks ≡ masks_of numbers

-- after the mask lines of some numbers the text goes on, with what is no mask line
pub record BadLine (text : List ℕ) (line : ℕ) : Type 0 where
  pub numbers : List ℕ
  pub rest : List ℕ
  pub lines : text ≡ mask_lines numbers ++ rest
  pub place : line ≡ length numbers + 1
  pub more : 0 < length rest
  pub bad : NoMaskLine rest
