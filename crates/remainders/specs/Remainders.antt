-- What numbers leave when they are divided (own).
use Rattle.std.specs.Prelude.{ℕ, ◌%◌, ◌*◌, ◌+◌, ◌-◌, ◌<◌, ◌==◌, ◌≡◌, Bool, if◌then◌else◌, List, [], ◌∷◌, None, Option, Some, nat_lt}
use Rattle.nth_positions.specs.Gaps.{first_passing}
use Rattle.remainders.specs.declared.remainder.Remainder.{Remainder}

-- a number leaves it
abbrev pub Leaves : ℕ → Remainder → Type 0
Leaves n r = (0 < r.step) × (n % r.step ≡ r.rest)

-- what a number leaves then that is `up` more and `down` less
abbrev pub moved : ℕ → ℕ → Remainder → Remainder
moved up down r = record r { rest = (r.rest + up + down * (r.step - 1)) % r.step }

-- the least common multiple: the first of a, 2 a, .. that b divides
abbrev pub common_multiple : ℕ → ℕ → ℕ
common_multiple a b = a * first_passing (λ t. (a * t) % b == 0) 1 (b - 1)

-- no joint step is looked for beyond this
abbrev pub most_joint : ℕ
most_joint = 1048576

-- the least common multiple of the steps, or a number that is too great
abbrev pub joint_step : List Remainder → ℕ
joint_step [] = 1
joint_step (r ∷ rs) = if nat_lt most_joint (joint_step rs) then joint_step rs else common_multiple (joint_step rs) r.step

-- whether the k-th number from c on, in steps of m, leaves the rest
abbrev pub meets : ℕ → ℕ → Remainder → ℕ → Bool
meets c m r k = (c + m * k) % r.step == r.rest

-- what a number leaves, when divided by their least common multiple, that leaves c when divided by m and leaves r
abbrev pub joined_after : ℕ → ℕ → Remainder → ℕ → Option ℕ
joined_after c m r k = if meets c m r k then Some ((c + m * k) % common_multiple m r.step) else None

abbrev pub joined_rest : ℕ → Remainder → Option ℕ → Option ℕ
joined_rest m r None = None
joined_rest m r (Some c) = joined_after c m r (first_passing (meets c m r) 0 r.step)

-- what a number leaves, when divided by the joint step, that leaves all of these; None where no number does
abbrev pub joint_rest : List Remainder → Option ℕ
joint_rest [] = Some 0
joint_rest (r ∷ rs) = joined_rest (joint_step rs) r (joint_rest rs)
