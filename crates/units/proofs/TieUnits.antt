-- The units of a layer, from its words of ties: the words join the pieces that the graph of ties joins, so the components are the units. Assumes nothing.
use mathlib.Core.Bool.{or_self}
use mathlib.Core.List.{List}
use mathlib.Core.Path.{◌≡◌, ap, ◌∙◌}
use Prim.Native.Nat.{ℕ, ◌≤◌, ◌<◌}
use lib.ListN.{length, take, replicate}
use lib.Seq.{length-take-le}
use Rattle.bitset.specs.declared.matrix.Matrix.{Matrix}
use Rattle.rules.specs.declared.layer.Settings.{Settings}
use Rattle.rules.specs.declared.layer.Piece.{Piece}
use Rattle.rules.specs.Basics.{up_to}
use Rattle.rules.specs.Settings.{piece_at}
use Rattle.rules.specs.Edges.{tied}
use Rattle.rules.specs.Components.{components}
use Rattle.rules.specs.Questions.{Valid}
use Rattle.rules.specs.Units.{tie_graph, units_of, unit_of, part_of}
use Rattle.rules.proofs.Lists.{in_up_to}
use Rattle.rules.proofs.Validity.{layer_facts}
use Rattle.adjacency.specs.Adjacency.{Ties, word_graph}
use Rattle.adjacency.specs.UnitGraph.{unit_at}
use Rattle.adjacency.proofs.AdjacencyLaws.{words_edges}
use Rattle.theory.proofs.Merging.{numbers_same}
use Rattle.theory.proofs.Neighbours.{SameJoined, components_same}
use Rattle.units.specs.Numbered.{Numbered, UnitsOf}

-- the front of a new array
front_length : (n : ℕ) → n ≤ 512 → length (take n (replicate {A = ℕ} 512 0)) ≡ n
front_length n few = length-take-le n (replicate 512 0) few

-- the front of a new array has room for a number of each piece of a judged layer
pub new_front : (s : Settings) (ps : List Piece) → Valid s ps → length (take (length ps) (replicate {A = ℕ} 512 0)) ≡ length ps
new_front s ps valid = front_length (length ps) (layer_facts s ps valid).few

module _ (s : Settings) (ps : List Piece) {ties : Matrix} (holds : Ties s ps (length ps) ties) where
  ties_joined : SameJoined (word_graph ties ties) (tie_graph s ps) (up_to (length ps))
  ties_joined = record {
    edge = λ u v m k.
        rw (words_edges (λ a b. tied s (piece_at ps a) (piece_at ps b)) holds u v ((in_up_to (length ps) u).0 m) ((in_up_to (length ps) v).0 k)) (or_self _);
  }

  units_same : components (word_graph ties ties) (up_to (length ps)) ≡ units_of s ps
  units_same = components_same (up_to (length ps)) ties_joined

  pub layer_numbered : {units numbers : List ℕ} → Numbered ties (length ps) units numbers → UnitsOf s ps units numbers
  layer_numbered {units} numbered =
      let unit : (i : ℕ) → i < length ps → unit_at units i ≡ unit_of s ps i = λ i h. numbered.unit i h ∙ ap (λ (cs : List (List ℕ)). part_of cs i) units_same in
      record {
        whole = numbered.whole;
        unit = unit;
        numbers = numbered.numbers ∙ numbers_same (unit_at units) (length ps) unit;
      }

  -- the same where the numbers stand in the front of a new array
  pub front_numbered : {units numbers : List ℕ} → length ps ≤ 512 → Numbered ties (length (take (length ps) (replicate {A = ℕ} 512 0))) units numbers
      → UnitsOf s ps units numbers
  front_numbered few numbered = layer_numbered (rw (front_length (length ps) few) at numbered)
