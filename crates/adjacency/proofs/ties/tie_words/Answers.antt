use Rattle.std.proofs.Common.{max, arith}
use mathlib.Core.Bool.{and-false}
use borrow.Author.Tests.{le-ltb}
use Rattle.adjacency.proofs.ties.tie_words.Goals as goal

pub loop-j-init : goal.loop-j-init
loop-j-init c = λ a b. rw (le-ltb (max a b) 0 (omega arith), and-false) (c.clear.ensures.none a b)
