-- `digits`: the call at each index gave the entry's digit. Assumes nothing.
use Rattle.std.proofs.Common.{◌≡◌, ℕ, zero, suc, ◌+◌, ◌<◌, ◌≤◌, List, get_or, sym, ap, ◌∙◌, subst, arith, rules}
use Rattle.std.specs.Array.{IsFromFnResultFrom}
use denote.Param.Members.{Mut, Called}
use Rattle.rules.proofs.Tests.{lt_or_ge}
use mathlib.Core.Logic.{⊎_elim}
use Rattle.rules.specs.Library.{entry_of}
use Rattle.library_table.proofs.digits.Goals as goal

-- the n items from i on, where each call leaves the closure as it is and gives h of its index
at_each : {F : Type 0} (g : Mut F (ℕ × Unit {0}) ℕ) (h : ℕ → ℕ) (f : F) (ys : List ℕ) → ((j r : ℕ) (q : F) → Called g f (j, tt) r q → (q ≡ f) × (r ≡ h j)) → (n i : ℕ) → IsFromFnResultFrom g f ys i n → (j : ℕ) → i ≤ j → j < i + n → get_or ys j 0 ≡ h j
at_each g h f ys step zero i made j from below = absurd (omega arith)
at_each g h f ys step (suc n) i made j from below =
    let one = step i made.1 made.0 made.3 in
    ⊎_elim
    (λ l. at_each g h f ys step n (i + 1) (subst (λ p. IsFromFnResultFrom g p ys (i + 1) n) one.0 made.4) j (omega arith) (omega arith))
    (λ l.
    let here : j ≡ i = omega arith in
    ap (λ (k : ℕ). get_or ys k 0) here ∙ made.2.1 0 ∙ one.1 ∙ ap h (sym here))
    (lt_or_ge i j)

pub returns : goal.returns
returns c i l = at_each _ (λ j. 48 + entry_of (c.args.first + j)) _ c.from_fn.result (λ j r q k. search rules) 64 0 c.from_fn.ensures.items.each i (omega arith) (omega arith)
