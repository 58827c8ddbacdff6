-- Order keys on both sides of one (own).
use Rattle.std.specs.Prelude.{ℕ, ◌<◌, List}
use Rattle.std.specs.List.{Contains}
use Rattle.std.specs.List.Sorted.{IsStrictlyIncreasing}

-- Of some order keys those below one, which ascend.
pub record AreBelow (all : List ℕ) (at : ℕ) (half : List ℕ) : Type 0 where
  pub ascend : IsStrictlyIncreasing half
  pub below : (x : ℕ) → Contains half x → x < at
  pub each : (x : ℕ) → Contains all x → x < at → Contains half x

-- And those above it.
pub record AreAbove (all : List ℕ) (at : ℕ) (half : List ℕ) : Type 0 where
  pub ascend : IsStrictlyIncreasing half
  pub above : (x : ℕ) → Contains half x → at < x
  pub each : (x : ℕ) → Contains all x → at < x → Contains half x
