-- The lines before the pieces, by the definitions of the rules.
use Rattle.rules.specs.LayerText.{NumberLine}
use Rattle.rules.specs.Settings.{within}
use Rattle.text.specs.declared.header.Expected.{Expected}

-- the line that is expected
abbrev pub line_of : Expected → NumberLine
line_of e = record { key = e.key.now; range = within e.least e.greatest }
