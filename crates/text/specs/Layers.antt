-- A layer that was read, by the definitions of the rules.
use Rattle.rules.specs.Questions as rules
use Rattle.text.specs.declared.read.Layer.{Layer}

abbrev pub layer_of : Layer → rules.Layer
layer_of l = record { settings = l.settings; pieces = l.pieces }
