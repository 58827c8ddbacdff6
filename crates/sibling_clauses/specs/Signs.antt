-- Signs of numbers.
use Rattle.std.specs.Prelude.{Bool, false, negsuc, pos, true, ℤ}

-- whether a number is negative
abbrev pub is_negative : ℤ → Bool
is_negative (pos n) = false
is_negative (negsuc n) = true
