-- `read_stream_elements`: the records before the elements, the elements and the records after them were read, and no byte is left but zeros. Assumes nothing.
use Rattle.std.proofs.Common.{◌≡◌, sym, ap, ◌∙◌, ◌+◌, ◌*◌, length, arith}
use Rattle.rules.specs.Stream.{read_stream_elements}
use Rattle.stream.proofs.elements.read_stream_elements.Goals as goal

pub returns : goal.returns
unfolding read_stream_elements
returns c =
    let e = c.in_ok-elements.ensures.elements in
    let seventh : c.pass.new.self.number ≡ 7 = c.in_ok-pass.ensures.number ∙ ap (λ n. n + 6) c.new-records.ensures.number in
    let next : c.read_elements.new.records.number ≡ 7 + 7 * length e.elements = omega (arith, c.in_ok-elements.ensures.number, seventh, e.counted) in
    let before = rw (c.new-records.ensures.number, c.new-records.ensures.rest) at c.in_ok-pass.ensures.records.read in
    let elements = rw seventh at e.read in
    let after = rw next at c.in_ok-pass-2.ensures.records.read in
    let zeros = sym c.has_byte.ensures ∙ c.if-has_byte.false in
    record {
      elements = e.elements;
      read = rw (before, elements, after, zeros);
      counted = e.counted;
      kept = e.kept;
    }
