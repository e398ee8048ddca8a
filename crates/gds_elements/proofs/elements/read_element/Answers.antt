-- `read_element`: the element of both parts, with its piece. Assumes nothing.
use Rattle.std.proofs.Common.{◌≡◌, ◌+◌, ◌∙◌, arith}
use Rattle.rules.specs.Stream.{element_from, read_element}
use Rattle.gds_elements.proofs.elements.read_element.Goals as goal

pub returns-clause-element : goal.returns-clause-element
unfolding read_element
returns-clause-element c =
    let points = c.in_ok-points.points.now in
    let property = c.in_ok-shape.ensures.property in
    let third : 3 + c.args.records.now.number ≡ c.pass.new.self.number = omega (arith, c.in_ok-pass.ensures.number) in
    let fourth : 4 + c.args.records.now.number ≡ c.read.new.self.number = omega (arith, c.in_ok-pass.ensures.number, c.in_ok-points.ensures.number) in
    record {
      element = element_from points property.digits;
      read = rw (c.in_ok-pass.ensures.records.read, third, c.in_ok-points.ensures.record.read, fourth, property.read);
      piece = c.piece_from.ensures ∙ rw property.number;
      less = omega (arith, c.in_ok-pass.ensures.records.some, c.in_ok-points.ensures.record.parts, property.less);
    }
