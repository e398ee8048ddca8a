-- `read_number`: the form, then the range; the number up to the cap decides as the number itself. Assumes nothing.
use Rattle.std.proofs.Common.{rules, tests}
use Rattle.std.proofs.lemmas.Result.{err_from_is_err_and}
use Rattle.text.proofs.HeaderLines.{number_form, number_out, number_in}
use Rattle.text.proofs.header.read_number.Goals as goal

pub returns-in_err-number-clause-number : goal.returns-in_err-number-clause-number
returns-in_err-number-clause-number c =
    let p = err_from_is_err_and c.from_residual.result c.from_residual.ensures.1 in
    rw (p.1, p.2) (number_form _ _ c.args.expected.least c.args.expected.greatest _ _ _ c.in_err-number.ensures.read)

pub returns-then-not-contains-clause-number : goal.returns-then-not-contains-clause-number
returns-then-not-contains-clause-number c =
    rw (c.at.ensures, c.place-place.ensures)
    (number_out _ _ c.args.expected.least c.args.expected.greatest _ c.requires.small _ _ c.in_ok-number.ensures.read (search (rules, tests)))

pub returns-clause-number : goal.returns-clause-number
returns-clause-number c =
    number_in _ _ c.args.expected.least c.args.expected.greatest _ c.requires.small _ _ c.in_ok-number.ensures.read (search (rules, tests))
