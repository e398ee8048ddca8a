-- Whether one of the numbers below a bound passes a test, from what an iterator's `any` or `all` answers. Assumes nothing.
use mathlib.Core.Bool.{Bool, true}
use mathlib.Core.Path.{◌≡◌}
use mathlib.Core.Logic.{◌↔◌}
use Prim.Native.Nat.{ℕ, ◌<◌}
use Rattle.std.specs.Bool.{IsTrue}
use Rattle.rules.specs.Basics.{up_to, any_of}
use Rattle.rules.proofs.Lists.{any_in, any_found, in_up_to}
use Rattle.rules.proofs.Tests.{same}

pub any_where : (f : ℕ → Bool) (n : ℕ) (b : Bool) → (IsTrue b ↔ ((i : ℕ) × (i < n) × (f i ≡ true))) → b ≡ any_of f (up_to n)
any_where f n b h = same b (any_of f (up_to n))
    (λ e. let r = h.0 e in any_found f n r.1 r.2)
    (λ e. let r = any_in f (up_to n) e in h.1 (r.0, (in_up_to n r.0).0 r.1, r.2))
