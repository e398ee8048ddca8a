-- The definitions at numbers that are written out, so that a reader sees what they say. Each holds by computing.
-- Assumes nothing.
use mathlib.Core.Path.{◌≡◌, refl}
use mathlib.Core.Bool.{true, false}
use mathlib.Core.List.{[], ◌∷◌}
use Prim.Native.Nat.{◌^◌}
use Rattle.bitset.specs.Bits.{bit, member, count_below}

bit_2_of_5 : bit 5 2 ≡ true
unfolding bit
bit_2_of_5 = refl

bit_1_of_5 : bit 5 1 ≡ false
unfolding bit
bit_1_of_5 = refl

top_bit : bit (2 ^ 63) 63 ≡ true
unfolding bit
top_bit = refl

in_second_word : member (0 ∷ 8 ∷ []) 67 ≡ true
unfolding member bit
in_second_word = refl

past_the_end : member (1 ∷ []) 64 ≡ false
unfolding member bit
past_the_end = refl

three_of_11 : count_below 64 (bit 11) ≡ 3
unfolding count_below bit
three_of_11 = refl
