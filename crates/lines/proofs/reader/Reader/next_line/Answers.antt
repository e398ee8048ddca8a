-- `next_line`: the line that the text starts with, or the refusal of its form. Assumes nothing.
use native.Mathlib.Omega.{arith}
use Rattle.std.proofs.Common.{◌≡◌, ◌∙◌, Some}
use Rattle.std.proofs.Math.Option.{none}
use Rattle.lines.proofs.ReaderLaws.{form_refused, line_found}
use Rattle.lines.specs.ReadLines.{line_as}
use Rattle.lines.proofs.reader.Reader.next_line.Goals as goal

pub read_line-requires : goal.read_line-requires
read_line-requires g c = (omega arith, c.requires.count.0)

pub returns-in_default-clause-read : goal.returns-in_default-clause-read
returns-in_default-clause-read g c =
    let bad : none ≡ line_as c.read_line.result = grind arith in
    rw (c.at.ensures, c.place.ensures) (form_refused _ _ _ _ (bad ∙ c.read_line.ensures))

pub returns-clause-read : goal.returns-clause-read
returns-clause-read g c =
    let good : line_as (Some c.in-Some.line) ≡ line_as c.read_line.result = grind arith in
    line_found _ _ _ _ (good ∙ c.read_line.ensures)
