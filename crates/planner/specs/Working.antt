-- How a plan ends whose work is bounded (own).
use Rattle.std.specs.Prelude.{◌⊎◌, ℕ, ◌+◌, ◌<◌, ◌≤◌, Bool, true, false, List, Option, Some, None, length}
use Rattle.css_model.specs.declared.sheet.Item.{Item}
use Rattle.css_model.specs.Sheets.ComesFrom.{pair_count}
use Rattle.css_model.specs.Sheets.Limits.{max_pairs}
use Rattle.planner.specs.declared.working.Next.{Next}
use Rattle.planner.specs.declared.working.Next.TheVariants as nexts
use Rattle.step_laws.specs.declared.step.Step.{Step}
use Rattle.step_laws.specs.Free.{Answered}
use Rattle.step_laws.specs.Leading.{IsDone, Leads}

-- The work that was spent: that of the bound, if there is one and it was spent.
abbrev pub spent_of : Option ℕ → Bool → Option ℕ
spent_of None spent = None
spent_of (Some work) false = None
spent_of (Some work) true = Some work

-- So much work was spent: the steps that were taken and the answers that are held are together as many, or more. The sheet has no more
-- pairs than one may have that is read.
abbrev pub IsSpent : (work : ℕ) → List Answered → (taken : ℕ) → List Item → Type 0
IsSpent work answers taken items = (work ≤ taken + length answers) × (pair_count items ≤ max_pairs)

-- A plan ends where nothing is left to do; or, if so much work was spent, where it was.
abbrev pub HasEnded : (spent : Option ℕ) → List Answered → List ℕ → (taken : ℕ) → List Item → Type 0
HasEnded None answers source taken items = IsDone answers source items
HasEnded (Some work) answers source taken items = IsSpent work answers taken items

-- it may end by its bound
abbrev pub MayEnd : (work : Option ℕ) → List Answered → (taken : ℕ) → List Item → Type 0
MayEnd None answers taken items = ⊥
MayEnd (Some work) answers taken items = IsSpent work answers taken items

-- It may go on after so many steps: they are fewer than the bound, if there is one, or the sheet has more pairs than one may have that
-- is read.
abbrev pub MayGoOn : (work : Option ℕ) → (taken : ℕ) → List Item → Type 0
MayGoOn None taken items = Unit {0}
MayGoOn (Some work) taken items = (taken < work) ⊎ (max_pairs < pair_count items)

-- fewer than so many steps led from a sheet to one with more pairs than one may have that is read
abbrev pub PassesTheLimit : List Answered → List ℕ → (taken : ℕ) → (start : List Item) → Type 0
PassesTheLimit answers source taken start = (steps : ℕ) × (steps < taken) × (between : List Item) × Leads answers source steps start between × (max_pairs < pair_count between)

-- No more steps were taken than the bound of the work says, if there is one, unless they led to a sheet that cannot be read again.
abbrev pub IsWithin : (work : Option ℕ) → List Answered → List ℕ → (taken : ℕ) → (start : List Item) → Type 0
IsWithin None answers source taken start = Unit {0}
IsWithin (Some work) answers source taken start = (taken ≤ work) ⊎ PassesTheLimit answers source taken start

-- what holds if a plan takes a step next, if nothing is left to do, or if its work was spent
abbrev pub IfTake : Next → (Step → Type 0) → Type 0
IfTake (nexts.Take k) P = P k
IfTake nexts.Done P = Unit {0}
IfTake nexts.Spent P = Unit {0}

abbrev pub IfDone : Next → Type 0 → Type 0
IfDone (nexts.Take k) P = Unit {0}
IfDone nexts.Done P = P
IfDone nexts.Spent P = Unit {0}

abbrev pub IfSpent : Next → Type 0 → Type 0
IfSpent (nexts.Take k) P = Unit {0}
IfSpent nexts.Done P = Unit {0}
IfSpent nexts.Spent P = P
