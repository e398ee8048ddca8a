-- Squares of distances fit 64 bits. Assumes nothing.
use Prim.Native.Nat.{ℕ, ◌*◌, ◌≤◌}
use native.Mathlib.Nat.{mul-le-mul}

pub square : {g : ℕ} → g ≤ 1_000_000 → g * g ≤ 1_000_000_000_000
square h = mul-le-mul h h
