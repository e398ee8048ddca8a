-- `far`: the call at each index gave the square with its number. Assumes nothing.
use Rattle.std.proofs.Common.{◌≡◌, ◌∙◌, ◌<◌, ℕ, List, get_or, sym, map, arith, rules}
use Rattle.std.specs.Array.{IsFromFnResult}
use denote.Param.Members.{Mut, Called}
use lib.ListN.{length-map}
use lib.Seq.{ext_get_or}
use Rattle.rules.specs.declared.layer.Piece.{Piece}
use Rattle.rules.specs.Basics.{up_to}
use Rattle.rules.specs.Settings.{no_piece}
use Rattle.rules.proofs.Lists.{length_up_to, mapped_up_to}
use Rattle.record_cases.specs.Layers.{far_square}
use Rattle.record_cases.proofs.layers.far.Goals as goal

-- the items, where every call gives h of its index
made : {F : Type 0} (g : Mut F (ℕ × Unit {0}) Piece) (h : ℕ → Piece) (f : F) (ps : List Piece) (n : ℕ) → ((p q : F) (k : ℕ) (r : Piece) → Called g p (k, tt) r q → r ≡ h k) → IsFromFnResult g f ps n → ps ≡ map h (up_to n)
made g h f ps n gives items =
    ext_get_or no_piece ps (map h (up_to n)) (items.long ∙ sym (length-map (up_to n) h ∙ length_up_to n)) λ k l.
    let inside : k < n = omega (arith, items.long) in
    let at = items.at k no_piece inside in
    gives at.0 at.1 k (get_or ps k no_piece) at.2 ∙ sym (mapped_up_to h no_piece n k inside)

pub returns : goal.returns
returns c = made _ far_square _ c.from_fn.result 513 (λ p q k r call. search rules) c.from_fn.ensures.items
