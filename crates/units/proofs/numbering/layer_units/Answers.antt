-- `layer_units`: the units of the words of ties are those of the layer. Assumes nothing.
use Rattle.units.proofs.TieUnits.{layer_numbered}
use Rattle.units.proofs.numbering.layer_units.Goals as goal

pub returns : goal.returns
returns c = record {
  adjacency = c.adjacency_words.ensures.adjacency;
  units_of = layer_numbered _ _ c.adjacency_words.ensures.ties (rw c.requires at c.number_units.ensures);
}
