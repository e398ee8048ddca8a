-- `read_header`: after each line that was read, the numbers so far and the lines from here on are what the six lines are read as. Assumes nothing.
use Rattle.std.proofs.lemmas.Result.{err_from_is_err_and}
use Rattle.rules.specs.Lines.{ascii}
use Rattle.text.proofs.HeaderLines.{read_start, read_on, read_stop, read_end}
use Rattle.text.proofs.header.read_header.Goals as goal

pub returns-in_err-masks-clause-header : goal.returns-in_err-masks-clause-header
unfolding ascii
returns-in_err-masks-clause-header c =
    let p = err_from_is_err_and c.from_residual.result c.from_residual.ensures.1 in
    let r0 = read_start c.new-reader.ensures.rest c.new-reader.ensures.line in
    rw (p.1, p.2) (read_stop r0 c.in_err-masks.ensures.number)

pub returns-in_err-spacing-clause-header : goal.returns-in_err-spacing-clause-header
unfolding ascii
returns-in_err-spacing-clause-header c =
    let p = err_from_is_err_and c.from_residual-in_err-spacing.result c.from_residual-in_err-spacing.ensures.1 in
    let r0 = read_start c.new-reader.ensures.rest c.new-reader.ensures.line in
    let r1 = read_on r0 c.in_ok-masks.ensures.number c.in_ok-masks.ensures.line in
    rw (p.1, p.2) (read_stop r1 c.in_err-spacing.ensures.number)

pub returns-in_err-margin-clause-header : goal.returns-in_err-margin-clause-header
unfolding ascii
returns-in_err-margin-clause-header c =
    let p = err_from_is_err_and c.from_residual-in_err-margin.result c.from_residual-in_err-margin.ensures.1 in
    let r0 = read_start c.new-reader.ensures.rest c.new-reader.ensures.line in
    let r1 = read_on r0 c.in_ok-masks.ensures.number c.in_ok-masks.ensures.line in
    let r2 = read_on r1 c.in_ok-spacing.ensures.number c.in_ok-spacing.ensures.line in
    rw (p.1, p.2) (read_stop r2 c.in_err-margin.ensures.number)

pub returns-in_err-weight-clause-header : goal.returns-in_err-weight-clause-header
unfolding ascii
returns-in_err-weight-clause-header c =
    let p = err_from_is_err_and c.from_residual-in_err-weight.result c.from_residual-in_err-weight.ensures.1 in
    let r0 = read_start c.new-reader.ensures.rest c.new-reader.ensures.line in
    let r1 = read_on r0 c.in_ok-masks.ensures.number c.in_ok-masks.ensures.line in
    let r2 = read_on r1 c.in_ok-spacing.ensures.number c.in_ok-spacing.ensures.line in
    let r3 = read_on r2 c.in_ok-margin.ensures.number c.in_ok-margin.ensures.line in
    rw (p.1, p.2) (read_stop r3 c.in_err-weight.ensures.number)

pub returns-in_err-budget-clause-header : goal.returns-in_err-budget-clause-header
unfolding ascii
returns-in_err-budget-clause-header c =
    let p = err_from_is_err_and c.from_residual-in_err-budget.result c.from_residual-in_err-budget.ensures.1 in
    let r0 = read_start c.new-reader.ensures.rest c.new-reader.ensures.line in
    let r1 = read_on r0 c.in_ok-masks.ensures.number c.in_ok-masks.ensures.line in
    let r2 = read_on r1 c.in_ok-spacing.ensures.number c.in_ok-spacing.ensures.line in
    let r3 = read_on r2 c.in_ok-margin.ensures.number c.in_ok-margin.ensures.line in
    let r4 = read_on r3 c.in_ok-weight.ensures.number c.in_ok-weight.ensures.line in
    rw (p.1, p.2) (read_stop r4 c.in_err-budget.ensures.number)

pub returns-in_err-count-clause-header : goal.returns-in_err-count-clause-header
unfolding ascii
returns-in_err-count-clause-header c =
    let p = err_from_is_err_and c.from_residual-in_err-count.result c.from_residual-in_err-count.ensures.1 in
    let r0 = read_start c.new-reader.ensures.rest c.new-reader.ensures.line in
    let r1 = read_on r0 c.in_ok-masks.ensures.number c.in_ok-masks.ensures.line in
    let r2 = read_on r1 c.in_ok-spacing.ensures.number c.in_ok-spacing.ensures.line in
    let r3 = read_on r2 c.in_ok-margin.ensures.number c.in_ok-margin.ensures.line in
    let r4 = read_on r3 c.in_ok-weight.ensures.number c.in_ok-weight.ensures.line in
    let r5 = read_on r4 c.in_ok-budget.ensures.number c.in_ok-budget.ensures.line in
    rw (p.1, p.2) (read_stop r5 c.in_err-count.ensures.number)

pub returns-clause-header : goal.returns-clause-header
unfolding ascii
returns-clause-header c =
    let r0 = read_start c.new-reader.ensures.rest c.new-reader.ensures.line in
    let r1 = read_on r0 c.in_ok-masks.ensures.number c.in_ok-masks.ensures.line in
    let r2 = read_on r1 c.in_ok-spacing.ensures.number c.in_ok-spacing.ensures.line in
    let r3 = read_on r2 c.in_ok-margin.ensures.number c.in_ok-margin.ensures.line in
    let r4 = read_on r3 c.in_ok-weight.ensures.number c.in_ok-weight.ensures.line in
    let r5 = read_on r4 c.in_ok-budget.ensures.number c.in_ok-budget.ensures.line in
    let r6 = read_on r5 c.in_ok-count.ensures.number c.in_ok-count.ensures.line in
    read_end r6
