use Rattle.std.proofs.Common.{◌≡◌, ◌<◌, refl, ap, ◌∙◌, length, length-set, arith}
use Rattle.std.proofs.lemmas.Result.{err_from_is_err_and}
use Rattle.text_theory.proofs.FixedLines.{OneFixed}
use Rattle.piece_lines.proofs.FixedReading.{fixed_facts, passed_none, passed_one, passed_stop, passed_all}
use Rattle.piece_lines.proofs.fixed.read_all_fixed.Goals as goal
use Rattle.piece_lines.proofs.fixed.read_all_fixed.Goals.{In_ok-fixed, After-fix}

-- the line that was read, of as many pieces as there are
facts : (c : In_ok-fixed)
    → let loop = c.loop-reader in
    OneFixed c.args.masks (length loop.pieces) loop.least loop.reader.rest.now (record { piece = c.in_ok-fixed.fixed.piece; mask = c.in_ok-fixed.fixed.mask; rest = c.read_fixed.new.reader.rest.now })
facts c = fixed_facts _ _ _ _ _ _ c.in_ok-fixed.ensures.fixed

pub loop-reader-init : goal.loop-reader-init
loop-reader-init c = record { many = refl; low = omega arith; line = omega arith; passed = passed_none _ _ _ _ }

pub read_fixed-requires-clause-room : goal.read_fixed-requires-clause-room
read_fixed-requires-clause-room c = omega (arith, c.loop-reader.invariant.many, c.loop-reader.invariant.low, c.loop-reader.invariant.line, c.requires.room)

pub returns-in_err-fixed-clause-pieces : goal.returns-in_err-fixed-clause-pieces
returns-in_err-fixed-clause-pieces c =
    let p = err_from_is_err_and c.from_residual.result c.from_residual.ensures.1 in
    let some : 0 < length c.loop-reader.reader.rest.now = grind arith in
    rw (p.1, p.2) (passed_stop _ _ _ _ _ _ _ _ c.loop-reader.invariant.passed _ _ some c.in_err-fixed.ensures.fixed)

pub fix-requires : goal.fix-requires
fix-requires c = (facts (goal.at.fix-requires c).In_ok-fixed).piece

pub overflow_add-least : goal.overflow_add-least
overflow_add-least c = omega (arith, (facts (goal.at.overflow_add-least c).In_ok-fixed).piece, c.loop-reader.invariant.many, c.requires.room)

-- as many pieces after the mask was fixed
same_many : (c : After-fix) → length c.fix.new.self ≡ length c.loop-reader.pieces
same_many c = ap length c.fix.ensures ∙ length-set c.loop-reader.pieces c.in_ok-fixed.fixed.piece _

pub loop-reader-smaller : goal.loop-reader-smaller
loop-reader-smaller c =
    let f = facts (goal.at.loop-reader-smaller c).In_ok-fixed in
    omega (arith, f.piece, f.risen, same_many (goal.at.loop-reader-smaller c).After-fix)

pub loop-reader-preserved : goal.loop-reader-preserved
loop-reader-preserved c =
    let f = facts (goal.at.loop-reader-preserved c).In_ok-fixed in
    let many = same_many (goal.at.loop-reader-preserved c).After-fix in
    record {
      many = many ∙ c.loop-reader.invariant.many;
      low = omega (arith, f.piece, many);
      line = omega (arith, c.in_ok-fixed.ensures.line, c.loop-reader.invariant.line, f.risen);
      passed = rw (c.fix.ensures, c.in_ok-fixed.ensures.line) (passed_one _ _ _ _ _ _ _ _ c.loop-reader.invariant.passed _ c.in_ok-fixed.ensures.fixed);
    }

pub returns-clause-pieces : goal.returns-clause-pieces
returns-clause-pieces c =
    let none : length c.loop-reader.reader.rest.now ≡ 0 = grind arith in
    passed_all _ _ _ _ _ _ _ _ c.loop-reader.invariant.passed none
