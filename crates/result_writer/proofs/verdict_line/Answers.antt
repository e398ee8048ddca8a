use mathlib.Core.Path.{sym, ap}
use Rattle.rules.specs.Lines.{ascii}
use Rattle.rules.specs.ResultText.{verdict_line}
use Rattle.result_writer.proofs.verdict_line.Goals as goal

pub returns-in-Best : goal.returns-in-Best
unfolding ascii
returns-in-Best c = sym (ap verdict_line c.in-Best.is)

pub returns-in-Open : goal.returns-in-Open
unfolding ascii
returns-in-Open c = sym (ap verdict_line c.in-Open.is)
