-- What holds of a trail while it grows: each implied literal has its reason, and nothing is left to
-- propagate below the present level.
use Rattle.std.specs.Prelude.{◌≡◌, ◌<◌, ◌||◌, ℕ, Bool, Option, Some, List, [], ◌∷◌, ◌++◌, IsTrue, MatchOption}
use Rattle.std.specs.List.{list_all}
use Rattle.cnf.specs.declared.lit.Lit.{Lit}
use Rattle.cnf.specs.Lits.{negation, same, is_among}
use Rattle.cnf.specs.Propagation.{is_at_rest}
use Rattle.sat_trail.specs.declared.entry.Entry.{Entry}
use Rattle.sat_trail.specs.Trail.{Assignment, lits, up_to}
use Rattle.sat_watch.specs.Numbered.{Numbered, clauses_of, under}

-- whether the literals of a list make this one false
abbrev pub is_false : List Lit → Lit → Bool
is_false trail l = is_among trail (negation l)

-- under the number is a clause in which the literal stands, and whose others are false before it
pub record Implies (ns : List Numbered) (before : List Lit) (l : Lit) (number : ℕ) : Type 0 where
  pub clause : List Lit
  pub is_under : under ns number ≡ Some clause
  pub holds_it : IsTrue (is_among clause l)
  pub others : IsTrue (list_all (λ x. same x l || is_false before x) clause)

-- each implied entry has such a clause
abbrev pub Reasoned : List Numbered → List Lit → List Entry → Type 0
Reasoned ns before [] = Unit {0}
Reasoned ns before (e ∷ es) =
    MatchOption e.reason (Unit {0}) (λ number. Implies ns before e.lit number)
    × Reasoned ns (before ++ e.lit ∷ []) es

-- at the end of each level below this one nothing is left to propagate
abbrev pub RestsBelow : List (List Lit) → List Entry → ℕ → Type 0
RestsBelow formula es level = (n : ℕ) → n < level → IsTrue (is_at_rest formula (lits (up_to n es)))

-- each implied entry has its reason, and each finished level is at rest
pub record IsSound (ns : List Numbered) (t : Assignment) : Type 0 where
  pub reasons : Reasoned ns [] t.entries
  pub rests : RestsBelow (clauses_of ns) t.entries t.level

-- under the number is a clause all of whose literals are false
pub record IsConflict (ns : List Numbered) (trail : List Lit) (number : ℕ) : Type 0 where
  pub clause : List Lit
  pub is_under : under ns number ≡ Some clause
  pub all_false : IsTrue (list_all (is_false trail) clause)

-- what a propagation that found this leaves: no clause unit or false, or this one false
abbrev pub Propagated : List Numbered → List Lit → Option ℕ → Type 0
Propagated ns trail found =
    MatchOption found (IsTrue (is_at_rest (clauses_of ns) trail)) (λ number. IsConflict ns trail number)
