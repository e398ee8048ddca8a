-- `number`: what `itoa` prints is what the rules call the digits of n. Assumes nothing.
use mathlib.Core.List.{List, [], ◌∷◌, ◌++◌}
use mathlib.Core.Path.{◌≡◌, sym, ap, ◌∙◌}
use Prim.Native.Nat.{ℕ, ◌+◌, ◌%◌, ◌<◌, ◌^◌}
use native.Mathlib.Omega.{arith}
use Rattle.std.specs.Fmt.{decimal}
use Rattle.std.proofs.lemmas.Fmt.{decimal_by_steps}
use Rattle.rules.specs.Lines as rules
use Rattle.numerals.proofs.Decimal.{decimal_one, decimal_more}
use Rattle.line_writer.proofs.Puts.{wrote_as}
use Rattle.line_writer.proofs.Writer.number.Goals as goal
use Rattle.line_writer.proofs.Writer.number.Goals.{After-as_bytes}

same : (n : ℕ) → n < 2 ^ 64 → decimal n ≡ rules.decimal n
same =
    decimal_by_steps (λ (n : ℕ) (ds : List ℕ). ds ≡ rules.decimal n)
    (λ n h. sym (decimal_one n h))
    (λ n ds h e. rw (decimal_more n h) (ap (λ (ds : List ℕ). ds ++ ((48 + n % 10) ∷ [])) e))

printed : (c : After-as_bytes) → c.as_bytes.result.now ≡ rules.decimal c.args.n
printed c = c.as_bytes.ensures.value ∙ c.format.ensures.text ∙ same c.args.n (omega arith)

pub bytes-requires : goal.bytes-requires
bytes-requires c = rw (printed (goal.at.bytes-requires c).After-as_bytes) c.requires

pub returns : goal.returns
returns c = wrote_as (printed (goal.at.returns c).After-as_bytes) c.bytes.ensures
