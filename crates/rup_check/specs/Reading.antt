-- What the reading of a log says of a text.
use Rattle.std.specs.Prelude.{◌≡◌, ◌≢◌, ◌+◌, ◌<◌, ◌≤◌, ◌⊎◌, ◌&&◌, ℕ, Bool, List, [], ◌++◌, length, IsTrue}
use Rattle.std.specs.List.{list_all}
use Rattle.cnf.specs.declared.lit.Lit.{Lit}
use Rattle.cnf.specs.Cnf.{Cnf, is_in_range}
use Rattle.cnf.specs.Lits.{are_below}
use Rattle.cnf.specs.Propagation.{is_distinct}
use Rattle.rup_check.specs.declared.log.LogError.{LogError}
use Rattle.rup_check.specs.declared.log.LogError.TheVariants.{BadLine, NoMemory}
use Rattle.rup_check.specs.Checks.{is_step}
use Rattle.rup_check.specs.Text.{head_text, line_text, lines_text, log_text}

-- the most variables of a log, and the most clauses of its formula
abbrev pub max_vars : ℕ
max_vars = 16777215

abbrev pub max_clauses : ℕ
max_clauses = 4294967295

-- whether a clause can be read as a step: it can be one, and no literal stands twice
abbrev pub is_plain : ℕ → List Lit → Bool
is_plain vars clause = is_step vars clause && is_distinct clause

-- whether each of these clauses can
abbrev pub are_plain : ℕ → List (List Lit) → Bool
are_plain vars steps = list_all (is_plain vars) steps

-- a log as it is read: within the limits, over the variables of the formula, with plain steps
pub record IsLog (f : Cnf) (steps : List (List Lit)) : Type 0 where
  pub vars_bound : f.vars ≤ max_vars
  pub count_bound : length f.clauses ≤ max_clauses
  pub in_range : IsTrue (is_in_range f)
  pub plain : IsTrue (are_plain f.vars steps)

-- a text is that of a log
pub record IsLogText (text : List ℕ) (f : Cnf) (steps : List (List Lit)) : Type 0 where
  pub is_log : IsLog f steps
  pub parts : text ≡ log_text f steps

-- no line of a clause that passes a test stands in front
abbrev pub NoLine : (List Lit → Bool) → List ℕ → Type 0
NoLine test text = (clause : List Lit) (rest : List ℕ) → IsTrue (test clause) → text ≡ line_text clause ++ rest → ⊥

-- the first line is none
pub record IsBadHead (text : List ℕ) (number : ℕ) : Type 0 where
  pub none : (vars count : ℕ) (rest : List ℕ) → vars ≤ max_vars → count ≤ max_clauses → text ≡ head_text vars count ++ rest → ⊥
  pub counted : number ≡ 1

-- of the lines behind the first one, that of the number is to be a clause of the formula, and is none
pub record IsBadClauseLine (vars count : ℕ) (lines : List ℕ) (number : ℕ) : Type 0 where
  pub clauses : List (List Lit)
  pub rest : List ℕ
  pub in_range : IsTrue (list_all (are_below vars) clauses)
  pub parts : lines ≡ lines_text clauses ++ rest
  pub few : length clauses < count
  pub none : NoLine (are_below vars) rest
  pub counted : number ≡ length clauses + 2

pub record IsBadClause (text : List ℕ) (number : ℕ) : Type 0 where
  pub vars : ℕ
  pub count : ℕ
  pub lines : List ℕ
  pub vars_bound : vars ≤ max_vars
  pub count_bound : count ≤ max_clauses
  pub parts : text ≡ head_text vars count ++ lines
  pub bad_line : IsBadClauseLine vars count lines number

-- of the lines behind those of the formula, that of the number is to be a step, and is none
pub record IsBadStepLine (vars before : ℕ) (lines : List ℕ) (number : ℕ) : Type 0 where
  pub steps : List (List Lit)
  pub rest : List ℕ
  pub plain : IsTrue (are_plain vars steps)
  pub parts : lines ≡ lines_text steps ++ rest
  pub some : rest ≢ []
  pub none : NoLine (is_plain vars) rest
  pub counted : number ≡ before + length steps

pub record IsBadStep (text : List ℕ) (number : ℕ) : Type 0 where
  pub formula : Cnf
  pub lines : List ℕ
  pub is_log : IsLog formula []
  pub parts : text ≡ head_text formula.vars (length formula.clauses) ++ (lines_text formula.clauses ++ lines)
  pub bad_line : IsBadStepLine formula.vars (length formula.clauses + 2) lines number

-- what an error says of the lines of the formula's clauses
abbrev pub ClauseFault : ℕ → ℕ → List ℕ → LogError → Type 0
ClauseFault vars count lines (BadLine number) = IsBadClauseLine vars count lines number
ClauseFault vars count lines NoMemory = Unit {0}

-- and of the lines of steps
abbrev pub StepFault : ℕ → ℕ → List ℕ → LogError → Type 0
StepFault vars before lines (BadLine number) = IsBadStepLine vars before lines number
StepFault vars before lines NoMemory = Unit {0}

-- the line of this number is the first that is none of a log
abbrev pub IsBadLine : List ℕ → ℕ → Type 0
IsBadLine text number = IsBadHead text number ⊎ (IsBadClause text number ⊎ IsBadStep text number)

-- and of the whole text
abbrev pub TextFault : List ℕ → LogError → Type 0
TextFault text (BadLine number) = IsBadLine text number
TextFault text NoMemory = Unit {0}
