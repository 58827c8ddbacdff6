-- What one number leaves.
use Rattle.std.specs.Prelude.{ℕ, ◌%◌, ◌+◌, ◌≡◌, ◌≤◌, List, Some}
use Rattle.std.specs.List.{AllByRecursion}
use Rattle.remainders.specs.Remainders.{Leaves, joint_rest, joint_step, most_joint, moved}
use Rattle.remainders.specs.declared.remainder.Remainder.{Remainder}

-- a number that leaves some remainders leaves their joint one
abbrev pub JointRestsAreLeft : Type 0
JointRestsAreLeft = (n : ℕ) (rs : List Remainder) → AllByRecursion (Leaves n) rs → joint_step rs ≤ most_joint → joint_rest rs ≡ Some (n % joint_step rs)

-- one that is so far from it leaves the moved remainder
abbrev pub MovingKeepsRemainders : Type 0
MovingKeepsRemainders = (n m up down : ℕ) (r : Remainder) → m + down ≡ n + up → Leaves n r → Leaves m (moved up down r)
