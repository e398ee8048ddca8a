-- `read_line`: the line's end, then its key, then its numbers, each only where the one before is there. Assumes nothing.
use mathlib.Core.Path.{◌≡◌, sym, ap, ◌∙◌}
use Prim.Native.Nat.{◌+◌, ◌<◌}
use lib.ListN.{length, take, drop}
use Rattle.rules.specs.Lines.{ended, first_line}
use Rattle.std.proofs.Common.{Some, None, rules, tests}
use Rattle.std.specs.List.{position}
use Rattle.std.proofs.lemmas.Bool.Decides.{Decides-eqb}
use Rattle.std.proofs.lemmas.Iterator.{YieldsList-from_slice}
use Rattle.std.proofs.lemmas.Iterator.Search.{position_from_yields_List}
use Rattle.std.proofs.lemmas.Slice.Eq.{strip_prefix_is}
use Rattle.lines.proofs.Splits.{is_newline, line_here, line_missing, key_there, key_missing}
use Rattle.lines.specs.ReadLines.{line_as}
use Rattle.lines.proofs.NumberParts.{part_from}
use Rattle.lines.proofs.LineForm.{line_unended, line_no_key, line_bad, line_good}
use Rattle.lines.proofs.read.read_line.Goals as goal
use Rattle.lines.proofs.read.read_line.Goals.{After-position, In_ok-end}
use Rattle.lines.proofs.read.read_line.Given.{Over}

-- the first byte 10
first : (g : Over) (c : After-position g) → c.position.result ≡ position is_newline c.args.text.now
first g c = position_from_yields_List is_newline _ _ c.position.result c.position.ensures.ran (YieldsList-from_slice c.args.text.now (cc)) (λ x b q k. search (rules, tests))

-- where it is, and what the line starts with
ends : (g : Over) (c : In_ok-end g) → (c.in_ok-end.end < length c.args.text.now) × (first_line c.args.text.now ≡ ended (take c.in_ok-end.end c.args.text.now) (drop (c.in_ok-end.end + 1) c.args.text.now))
ends g c =
    let found : Some c.in_ok-end.end ≡ position is_newline c.args.text.now = cc (first g (goal.at.In_ok-end g c).After-position) in
    line_here _ _ found

pub returns-in_err-end : goal.returns-in_err-end
returns-in_err-end g c = ap line_as c.from_residual.ensures ∙ line_unended _ _ g.row.N (line_missing _ (sym c.in_err-end.was ∙ first g (goal.at.returns-in_err-end g c).After-position))

pub returns-in_err-strip_prefix : goal.returns-in_err-strip_prefix
returns-in_err-strip_prefix g c =
    let lacks = strip_prefix_is Decides-eqb (take c.in_ok-end.end c.args.text.now) c.args.key.now None c.in_err-strip_prefix.ensures.cases in
    ap line_as c.from_residual-in_err-strip_prefix.ensures ∙ line_no_key _ _ g.row.N _ (ends g (goal.at.returns-in_err-strip_prefix g c).In_ok-end).1 (key_missing _ _ lacks)

pub returns-in_err-values : goal.returns-in_err-values
returns-in_err-values g c =
    let starts = strip_prefix_is Decides-eqb (take c.in_ok-end.end c.args.text.now) c.args.key.now (Some c.in_ok-strip_prefix.field-0) c.in_ok-strip_prefix.ensures.cases in
    ap line_as c.from_residual-in_err-values.ensures ∙ line_bad _ _ g.row.N _ (ends g (goal.at.returns-in_err-values g c).In_ok-end).1 _ (key_there _ _ _ starts) c.in_err-values.ensures

pub returns : goal.returns
returns g c =
    let starts = strip_prefix_is Decides-eqb (take c.in_ok-end.end c.args.text.now) c.args.key.now (Some c.in_ok-strip_prefix.field-0) c.in_ok-strip_prefix.ensures.cases in
    rw part_from (line_good _ _ g.row.N _ (ends g (goal.at.returns g c).In_ok-end).1 _ (key_there _ _ _ starts) _ c.in_ok-values.ensures)
