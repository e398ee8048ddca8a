-- Numbers in bytes, as the library reads them and as the rules do. Assumes nothing.
use mathlib.Core.List.{List}
use mathlib.Core.Path.{◌≡◌}
use Prim.Native.Nat.{ℕ, ◌+◌}
use native.Mathlib.Omega.{arith}
use lib.ListN.{drop}
use Rattle.std.proofs.lemmas.List.{get_or-drop}
use Rattle.byteorder.specs.Endian.{big_number}
use Rattle.rules.specs.Stream.{word32}

pub word_read : (bytes : List ℕ) (at : ℕ) → big_number 4 (drop at bytes) ≡ word32 bytes at
word_read bytes at =
    let first : at + 0 ≡ at = omega arith in
    let last : at + 2 + 1 ≡ at + 3 = omega arith in
    rw (get_or-drop at bytes 0 0, get_or-drop at bytes 1 0, get_or-drop at bytes 2 0, get_or-drop at bytes 3 0, first, last) (omega arith)
