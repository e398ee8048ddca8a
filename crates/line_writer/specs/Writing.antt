-- What the writers leave in a buffer.
use Rattle.std.specs.Prelude.{List, [], ◌∷◌, ◌++◌, ◌≡◌, ℕ, ◌+◌, ◌≤◌, length}
use Rattle.std.proofs.lemmas.List.Edits.{sets}
use Rattle.std.specs.Borrow.{Bor}
use Rattle.rules.specs.Lines.{line}
use Rattle.line_writer.specs.declared.Writer.{Writer}

-- a text was stored from a place on, and the next place is after it
pub record Put (buffer : List ℕ) (at : ℕ) (text : List ℕ) (next : ℕ) (after : List ℕ) : Type 0 where
  pub end : next ≡ at + length text
  pub stored : after ≡ sets buffer at text

-- the buffer has room for a text at the place where the next goes
abbrev pub HasRoom : Writer → List ℕ → Type 0
HasRoom w text = w.at + length text ≤ length w.buffer.now

-- a text was stored where the next went, in the same buffer
pub record Wrote (before : Writer) (text : List ℕ) (after : Writer) : Type 0 where
  pub reference : after.buffer.ghost_name ≡ before.buffer.ghost_name
  pub put : Put before.buffer.now before.at text after.at after.buffer.now

-- texts of a list's members, one after the other
unfoldable pub laid : {A : Type 0} → (A → List ℕ) → List A → List ℕ
laid f [] = []
laid f (x ∷ xs) = f x ++ laid f xs

-- the line of a key and one number
abbrev pub keyed_line : Bor (List ℕ) × ℕ → List ℕ
keyed_line l = line l.0.now (l.1 ∷ [])
