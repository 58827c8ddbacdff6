-- A generator of draws: the example `rand` of the C standard (C11, section 7.22.2.2), whose state
-- here has 31 bits.
use Rattle.std.specs.Prelude.{ℕ, zero, suc, ◌+◌, ◌*◌, ◌/◌, ◌%◌}

abbrev pub next : ℕ → ℕ
next x = (1103515245 * x + 12345) % 2147483648

-- what a state gives
abbrev pub drawn : ℕ → ℕ
drawn x = x / 65536

-- the state after some draws
abbrev pub state_after : ℕ → ℕ
state_after zero = 1
state_after (suc k) = next (state_after k)

-- the k-th draw, from 1 on
abbrev pub draw : ℕ → ℕ
draw k = drawn (state_after k)
