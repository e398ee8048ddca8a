-- `read_all_fixed`: what the lines passed have fixed and the lines from here on are all lines. Assumes nothing.
use Rattle.std.proofs.Common.{◌≡◌, ◌+◌, ◌-◌, ◌≤◌, length}
use Rattle.piece_lines.proofs.FixedReading.{Passed}
use Rattle.piece_lines.proofs.fixed.read_all_fixed.Given as goal

abbrev pub invariant-loop-reader : goal.invariant-loop-reader
invariant-loop-reader l =
    record {
      many : length l.pieces ≡ length l.initial.pieces;
      low : l.least ≤ length l.pieces;
      line : l.reader.line ≤ l.initial.reader.line + l.least;
      passed : Passed l.masks l.initial.reader.line l.initial.pieces l.initial.reader.rest.now l.least l.reader.line l.pieces l.reader.rest.now;
    }

abbrev pub decreases-loop-reader : goal.decreases-loop-reader
decreases-loop-reader l = length l.pieces - l.least
