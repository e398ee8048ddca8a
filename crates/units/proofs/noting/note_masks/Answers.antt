use Rattle.std.proofs.Common.{◌≡◌, ◌<◌, length, sym, ◌∙◌, arith}
use borrow.Author.Count.{below_more}
use Rattle.rules.specs.Score.{mask_of}
use Rattle.adjacency.specs.UnitGraph.{unit_at}
use Rattle.units.proofs.NotedLaws.{fits_question, noted_next, after_misfit, noted_all}
use Rattle.units.proofs.noting.note_masks.Goals as goal

pub returns-then-not-fits_noted : goal.returns-then-not-fits_noted
returns-then-not-fits_noted c =
    let unit = unit_at c.args.units.now in
    let masks = c.args.masks.now in
    let i = c.loop-i.i in
    let before = c.loop-i.invariant in
    let small : unit i < 512 = omega (arith, c.requires.by_index i c.loop-i-test.true) in
    let misfit = rw c.from.ensures at (sym c.fits_noted.ensures.value) ∙ c.if-not-fits_noted.true in
    let kept = rw c.from.ensures at c.fits_noted.ensures.noted_after ∙ after_misfit c.loop-i.noted (unit i) (mask_of masks i) misfit in
    record {
      misfit = (c.loop-i-test.true, sym (fits_question unit masks i c.loop-i-test.true c.loop-i.noted (before.right _ small)) ∙ misfit, before.fits);
      masks_noted = λ u. rw kept (noted_all unit masks c.loop-i.noted i before.size before.right (λ j l. omega (arith, c.requires.by_index j (omega arith))) u);
      whole = c.fits_noted.array_long;
    }

pub loop-i-preserved : goal.loop-i-preserved
loop-i-preserved c =
    let unit = unit_at c.args.units.now in
    let masks = c.args.masks.now in
    let i = c.loop-i.i in
    let before = c.loop-i.invariant in
    let small : unit i < 512 = omega (arith, c.requires.by_index i c.loop-i-test.true) in
    let fits = sym (fits_question unit masks i c.loop-i-test.true c.loop-i.noted (before.right _ small))
    ∙ rw c.from.ensures at (sym c.fits_noted.ensures.value) ∙ c.if-not-fits_noted.false in
    record {
      fits = below_more _ _ before.fits fits;
      size = c.fits_noted.array_long;
      right = λ u l. rw (c.fits_noted.ensures.noted_after, c.from.ensures)
          (noted_next unit masks i c.loop-i-test.true c.loop-i.noted (omega (arith, before.size)) before.right small u l);
    }

pub returns : goal.returns
returns c =
    let e : c.loop-i.i ≡ length c.args.masks.now = omega arith in
    let before = c.loop-i.invariant in
    record {
      misfit = rw e at before.fits;
      masks_noted = λ u. rw (sym e) (noted_all _ c.args.masks.now c.loop-i.noted c.loop-i.i before.size before.right (λ j l. omega (arith, c.requires.by_index j (omega arith))) u);
      whole = before.size;
    }
