-- Examples of remainders, by computation.
use Rattle.std.proofs.Common.{[], refl, ◌∷◌, ◌≡◌}
use Rattle.std.specs.Prelude.{None, Some}
use Rattle.remainders.specs.Divisors.{common_divisor}
use Rattle.remainders.specs.Remainders.{joint_rest, joint_step, moved}

-- 30 n + 1 and 31 n leave 0 and 30 of a number of siblings: 930 positions, of which the 31-st is the first
steps_of_two : joint_step (record { step = 30; rest = 0 } ∷ record { step = 31; rest = 30 } ∷ []) ≡ 930
steps_of_two = refl

rest_of_two : joint_rest (record { step = 30; rest = 0 } ∷ record { step = 31; rest = 30 } ∷ []) ≡ Some 30
rest_of_two = refl

-- no number is even and leaves 3 when divided by 4
none_of_two : joint_rest (record { step = 2; rest = 0 } ∷ record { step = 4; rest = 3 } ∷ []) ≡ None
none_of_two = refl

-- a number leaves 2 when divided by 5; the one that is 4 more leaves 1, and the one that is 4 less leaves 3
moved_up : moved 4 0 (record { step = 5; rest = 2 }) ≡ record { step = 5; rest = 1 }
moved_up = refl

moved_down : moved 0 4 (record { step = 5; rest = 2 }) ≡ record { step = 5; rest = 3 }
moved_down = refl

-- 6 is the greatest number that divides both 12 and 18; 7 divides itself and 0
divisor_of_two : common_divisor 12 18 ≡ 6
divisor_of_two = refl

divisor_of_none : common_divisor 0 7 ≡ 7
divisor_of_none = refl
