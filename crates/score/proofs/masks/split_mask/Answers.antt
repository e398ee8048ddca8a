-- `split_mask`: a line out of form, or the mask of its number and the text after it. Assumes nothing.
use Rattle.rules.specs.Lines.{ascii}
use Rattle.lines.proofs.GoodLines.{bad_line}
use Rattle.score.proofs.MaskLines.{line_good}
use Rattle.score.proofs.masks.split_mask.Goals as goal

pub returns-in_err-line : goal.returns-in_err-line
unfolding ascii
returns-in_err-line c = rw c.from_residual.ensures (bad_line c.args.text.now _ 1 c.in_err-line.ensures)

pub returns : goal.returns
unfolding ascii
returns c = line_good c.args.text.now c.in_ok-line.ensures _ c.mask_of.ensures
