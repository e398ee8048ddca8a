-- `read_numeral`: the tests of the digits that the text starts with. Assumes nothing.
use Rattle.std.proofs.Common.{arith, rules, ◌≤◌, length}
use Rattle.numerals.proofs.Digits.{DigitsFirst, digits_within, read_digits, read_none, read_zero_first, read_one, read_more}
use Rattle.numerals.proofs.read_numeral.Goals as goal
use Rattle.numerals.proofs.read_numeral.Goals.{After-split_at, in_default-via-then-digits-lt2, in_default-via-else-digits-lt2+in_default-1}

pub split_at-requires : goal.split_at-requires
split_at-requires c = omega (arith, digits_within c.args.text.now)

split : (c : After-split_at) → DigitsFirst c.args.text.now c.split_at.result.0.now c.split_at.result.1.now
split c = record { front = rw (← c.leading_digits.ensures) c.split_at.ensures.front; back = rw (← c.leading_digits.ensures) c.split_at.ensures.back }

pub value_of-requires : goal.value_of-requires
value_of-requires c = read_digits (split (goal.at.value_of-requires c).After-split_at)

pub returns-in_default : goal.returns-in_default
returns-in_default c =
    let s = split (goal.at.returns-in_default c).After-split_at in
    let some-there : 1 ≤ length c.split_at.result.0.now = search rules in
    rw c.value_of.ensures elim c.in_default.branch [
      | in_default-via-then-digits-lt2 w ↦ read_one s some-there (search rules)
      | in_default-via-else-digits-lt2+in_default-1 w ↦ read_more s some-there (λ e. omega arith)
    ]

pub returns-in-empty : goal.returns-in-empty
returns-in-empty c = read_none (split (goal.at.returns-in-empty c).After-split_at) c.in-empty.len_below

pub returns-in-48 : goal.returns-in-48
returns-in-48 c = read_zero_first (split (goal.at.returns-in-48 c).After-split_at) c.in-48.len_at_least (omega arith)
