-- Limits of steps and offsets (own).
use Rattle.std.specs.Prelude.{◌≤◌, ◌&&◌, Bool, nat_le, unsigned_abs}
use Rattle.css_model.specs.declared.position.AnB.{AnB}

-- a step of at most 32 in size, and an offset of at most 1,000
abbrev pub IsInRange : AnB → Type 0
IsInRange x = (unsigned_abs x.a ≤ 32) × (unsigned_abs x.b ≤ 1000)

-- the same as a test
abbrev pub is_in_range : AnB → Bool
is_in_range x = nat_le (unsigned_abs x.a) 32 && nat_le (unsigned_abs x.b) 1000

-- whether the step has a size of 2 or more
abbrev pub is_stepped : AnB → Bool
is_stepped x = nat_le 2 (unsigned_abs x.a)
