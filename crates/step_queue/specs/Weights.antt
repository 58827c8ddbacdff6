-- How much a candidate weighs: the more, the more priorities may come after its own (own).
use Rattle.std.specs.Prelude.{ℕ, ◌+◌, ◌-◌, ◌*◌, ◌^◌, Bool, true, false, if◌then◌else◌, List, [], ◌∷◌}
use Rattle.pending_laws.specs.Candidates as pending
use Rattle.pending_laws.specs.Scopes.{Scope, Alone}
use Rattle.step_laws.specs.Steps.{rank}

-- by how much the priority saves, the number of its kind, and its two numbers, which the code has in 64 bits
abbrev pub weight_of : ℕ → List ℕ → ℕ
weight_of saving (kind ∷ first ∷ second ∷ []) = ((saving * 7 + (6 - kind)) * 2 ^ 64 + (2 ^ 64 - (first + 1))) * 2 ^ 64 + (2 ^ 64 - second)
weight_of saving numbers = 0

-- how many candidates may stand alone instead of one that is passed, beside the next one that stands for others
abbrev pub room : ℕ
room = 512

-- whether a candidate stands for its own step alone
abbrev pub is_alone : Scope → Bool
is_alone Alone = true
is_alone _ = false

abbrev pub weight : pending.Candidate → ℕ
weight l = if is_alone l.scope then 1 else weight_of l.priority.saving (rank l.priority.step) * (room + 1)

-- all of some candidates together
abbrev pub total : List pending.Candidate → ℕ
total [] = 0
total (l ∷ candidates) = weight l + total candidates
