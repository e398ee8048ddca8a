-- `has_byte`: whether any byte passes the test. Assumes nothing.
use Rattle.std.proofs.Common.{◌∙◌, ltb, rules, tests}
use Rattle.std.proofs.lemmas.Iterator.{YieldsList-from_slice}
use Rattle.std.proofs.lemmas.Iterator.Search.{any_from_yields_List}
use Rattle.stream.proofs.ReadingLaws.{any_is}
use Rattle.stream.proofs.elements.has_byte.Goals as goal

pub returns : goal.returns
returns c =
    let bytes = c.args.bytes.now in
    any_from_yields_List (ltb 0) _ _ _ c.any.ensures.ran (YieldsList-from_slice bytes cc) (λ x b q k. search (rules, tests))
    ∙ any_is (ltb 0) bytes
