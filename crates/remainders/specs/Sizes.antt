-- Remainders that are reckoned with.
use Rattle.std.specs.Prelude.{◌<◌, ◌≤◌}
use Rattle.remainders.specs.declared.remainder.Remainder.{Remainder}

-- a step of at most 32, as positions have it
abbrev pub IsShort : Remainder → Type 0
IsShort r = (0 < r.step) × (r.step ≤ 32) × (r.rest < 32)
