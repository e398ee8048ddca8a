-- Coordinates of four bytes, with and without their sign: two are the same either way, and the one gives the other back. Assumes nothing.
use mathlib.Core.Path.{◌≡◌, sym, ap}
use Prim.Native.Nat.{ℕ, ◌-◌, ◌<◌}
use native.Mathlib.Omega.{arith}
use lib.Dec.{eqb, ltb}
use borrow.Author.Tests.{ltb-true, ltb-false, eq-eqb, ne_eqb, eqb-true}
use Rattle.rules.specs.Stream as rules
use Rattle.rules.specs.Stream.{signed32}
use Rattle.rules.proofs.Tests.{by_test, same}
use Rattle.gds_data.specs.Rectangles.{unsigned32}

pub same_words : (a b : ℕ) → a < 4_294_967_296 → b < 4_294_967_296 → rules.same (signed32 a) (signed32 b) ≡ eqb a b
same_words a b ha hb =
    by_test (ltb a 2_147_483_648)
    (λ low-a. by_test (ltb b 2_147_483_648)
    (λ low-b. rw (low-a, low-b))
    (λ high-b. rw (low-a, high-b) (sym (ne_eqb a b λ e. omega (arith, ltb-true a 2_147_483_648 low-a, ltb-false b 2_147_483_648 high-b)))))
    (λ high-a. by_test (ltb b 2_147_483_648)
    (λ low-b. rw (high-a, low-b) (sym (ne_eqb a b λ e. omega (arith, ltb-false a 2_147_483_648 high-a, ltb-true b 2_147_483_648 low-b))))
    (λ high-b. rw (high-a, high-b) (same (eqb (4_294_967_295 - a) (4_294_967_295 - b)) (eqb a b)
    (λ t. eq-eqb a b (omega (arith, eqb-true (4_294_967_295 - a) (4_294_967_295 - b) t)))
    (λ t. eq-eqb (4_294_967_295 - a) (4_294_967_295 - b) (ap (λ (n : ℕ). 4_294_967_295 - n) (eqb-true a b t))))))

pub word_back : (n : ℕ) → n < 4_294_967_296 → unsigned32 (signed32 n) ≡ n
word_back n h = by_test (ltb n 2_147_483_648) (λ t. rw t) λ f. let high = ltb-false n 2_147_483_648 f in rw f (omega arith)
