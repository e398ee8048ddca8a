-- `BitSet::len` meets its contract: each word adds its ones. Assumes nothing.
use Rattle.std.proofs.Common.{◌≡◌, ◌∙◌, ℕ, arith, rules}
use Rattle.std.specs.List.{sum_by}
use Rattle.std.proofs.lemmas.Iterator.{YieldsList-from_slice, YieldsList-from_map}
use Rattle.std.proofs.lemmas.Iterator.Consumers.{YieldsList-at, sum_by_from_yields_List, fits_by_from_yields_list}
use Rattle.bitset.specs.Bits.{bit, member, count_below}
use Rattle.bitset.proofs.Counts.{count_le}
use Rattle.bitset.proofs.Sets.{count_words}
use Rattle.bitset.proofs.set.BitSet.len.Goals as goal

abbrev bits : ℕ → ℕ
bits x = count_below 64 (bit x)

all : (c : goal.After-map) → sum_by bits c.self.inside.words ≡ count_below 512 (member c.self.inside.words)
all c = rw c.self.told at (count_words c.self.inside.words)

pub sum-requires-clause-fits : goal.sum-requires-clause-fits
sum-requires-clause-fits c =
    fits_by_from_yields_list bits c.self.inside.words c.map.result _
    (YieldsList-from_map _ bits (YieldsList-at c.map.ensures.source (YieldsList-from_slice _ c.iter.ensures.rest)) c.map.ensures.closure (λ x r q k. search rules))
    (omega (arith, all c, count_le 512 (member c.self.inside.words)))

pub returns : goal.returns
returns c =
    let count : c.sum.result ≡ count_below 512 (member c.self.inside.words)
    = sum_by_from_yields_List bits c.self.inside.words c.map.result _ c.sum.ensures.ran
    (YieldsList-from_map _ bits (YieldsList-at c.map.ensures.source (YieldsList-from_slice _ c.iter.ensures.rest)) c.map.ensures.closure (λ x r q k. search rules))
    ∙ all c.before
    in
    rw (← c.self.view_is) (record { count = count; within = omega (arith, count, count_le 512 (member c.self.inside.words)) })
