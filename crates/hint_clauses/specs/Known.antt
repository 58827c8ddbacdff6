-- What is known of runs, and what tests of theirs must not hold.
use Rattle.std.specs.Prelude.{IfSome, IsTrue, List, ℕ, ◌<◌}
use Rattle.std.specs.List.{AllByRecursion}
use Rattle.cnf.specs.Lits.{is_below}
use Rattle.formula_laws.specs.declared.joint.Joint.{Joint}
use Rattle.formula_laws.specs.declared.refused.Refused.{Refused}
use Rattle.remainders.specs.Sizes.{IsShort}

-- tests whose remainders are short
abbrev pub AreBrief : List Refused → Type 0
AreBrief tests = AllByRecursion (λ (t : Refused). IsShort t.rest) tests

-- a run that begins few places away
abbrev pub HasPlaces : Joint → Type 0
HasPlaces joint = (joint.right < 12) × (joint.left < 12)

-- the same, known where a literal of so many variables is true
abbrev pub IsNear : ℕ → Joint → Type 0
IsNear vars joint = HasPlaces joint × IfSome joint.given (λ l. IsTrue (is_below vars l))

abbrev pub AreNear : ℕ → List Joint → Type 0
AreNear vars joints = AllByRecursion (IsNear vars) joints
