-- What the check of a log says.
use Rattle.std.specs.Prelude.{◌≡◌, ◌+◌, ◌⊎◌, ◌&&◌, ℕ, Bool, false, List, [], ◌∷◌, ◌++◌, length}
use Rattle.std.specs.List.{list_all}
use Rattle.cnf.specs.declared.lit.Lit.{Lit}
use Rattle.cnf.specs.Cnf.{Cnf, Satisfies}
use Rattle.cnf.specs.Lits.{are_below}
use Rattle.cnf.specs.Propagation.{IsForced, is_consistent}
use Rattle.sat_watch.specs.Nonempty.{are_nonempty}
use Rattle.rup_check.specs.declared.log.Checked.{Checked}
use Rattle.rup_check.specs.declared.log.Checked.TheVariants.{Yes, No}

-- whether a clause can be a step: its variables are those of the formula, and no literal stands beside
-- its negation
abbrev pub is_step : ℕ → List Lit → Bool
is_step vars clause = are_below vars clause && is_consistent clause

-- whether each of these clauses can
abbrev pub are_steps : ℕ → List (List Lit) → Bool
are_steps vars steps = list_all (is_step vars) steps

-- each step is forced by the formula and the steps before it
abbrev pub EachForced : List (List Lit) → List (List Lit) → Type 0
EachForced formula [] = Unit {0}
EachForced formula (step ∷ steps) = IsForced formula step × EachForced (formula ++ step ∷ []) steps

-- the last step is empty
abbrev pub IsLastEmpty : List (List Lit) → Type 0
IsLastEmpty steps = (others : List (List Lit)) × (steps ≡ others ++ [] ∷ [])

-- a clause of the formula is empty, or the last step is
abbrev pub EndsEmpty : List (List Lit) → List (List Lit) → Type 0
EndsEmpty formula steps = (are_nonempty formula ≡ false) ⊎ IsLastEmpty steps

-- each step is forced, and the log shows that the formula cannot be satisfied
pub record IsRefutation (formula steps : List (List Lit)) : Type 0 where
  pub forced : EachForced formula steps
  pub empty : EndsEmpty formula steps

-- the step of a number, counted from 1, is the first that is not forced
pub record IsFault (formula steps : List (List Lit)) (number : ℕ) : Type 0 where
  pub before : List (List Lit)
  pub step : List Lit
  pub after : List (List Lit)
  pub parts : steps ≡ before ++ step ∷ after
  pub counted : number ≡ length before + 1
  pub forced : EachForced formula before
  pub not_forced : IsForced (formula ++ before) step → ⊥

-- each step is forced, but nothing is empty, and the number is one more than that of the steps
pub record IsUnfinished (formula steps : List (List Lit)) (number : ℕ) : Type 0 where
  pub forced : EachForced formula steps
  pub not_empty : EndsEmpty formula steps → ⊥
  pub counted : number ≡ length steps + 1

-- what each answer says
abbrev pub IsChecked : List (List Lit) → List (List Lit) → Checked → Type 0
IsChecked formula steps Yes = IsRefutation formula steps
IsChecked formula steps (No number) = IsFault formula steps number ⊎ IsUnfinished formula steps number

-- the answer where each step is forced, and no clause of the formula is empty
abbrev pub IsAtEnd : List (List Lit) → Checked → Type 0
IsAtEnd steps Yes = IsLastEmpty steps
IsAtEnd steps (No number) = (IsLastEmpty steps → ⊥) × (number ≡ length steps + 1)

-- no values satisfy a formula that a log refutes
abbrev pub RefutationsRefute : Type 0
RefutationsRefute =
    (f : Cnf) (steps : List (List Lit)) → IsRefutation f.clauses steps → (vs : List Bool) → Satisfies vs f → ⊥
