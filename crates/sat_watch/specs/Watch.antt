-- What a clause is whose watch has become false.
use Rattle.std.specs.Prelude.{◌≡◌, ◌≢◌, ◌||◌, if◌then◌else◌, false, None, List, IsTrue}
use Rattle.std.specs.List.{list_all}
use Rattle.cnf.specs.declared.lit.Lit.{Lit}
use Rattle.cnf.specs.Lits.{negation, same, is_among}
use Rattle.sat_trail.specs.Trail.{value_in}
use Rattle.sat_arena.specs.Arena.{WatchedClause, IsWatching}
use Rattle.sat_watch.specs.declared.watch.Watch.{Watch}
use Rattle.sat_watch.specs.declared.watch.Watch.TheVariants.{Backed, Other, Unit, False}
use Rattle.sat_watch.specs.Soundness.{is_false}

-- the one open literal of a clause whose others are false
pub record IsUnit (clause trail : List Lit) (l : Lit) : Type 0 where
  pub holds_it : IsTrue (is_among clause l)
  pub open_one : value_in trail l ≡ None
  pub others : IsTrue (list_all (λ x. same x l || is_false trail x) clause)

-- the other watch of a clause
abbrev pub partner : WatchedClause → Lit → Lit
partner k lit = if same k.one lit then k.other else k.one

-- a literal of the clause that it does not watch, and that is not false
pub record CanWatch (k : WatchedClause) (trail : List Lit) (to : Lit) : Type 0 where
  pub holds_it : IsTrue (is_among k.lits to)
  pub unwatched : IsWatching k to → ⊥
  pub not_false : is_among trail (negation to) ≡ false

-- all literals but two are false
abbrev pub AreFalseBut : List Lit → List Lit → Lit → Lit → Type 0
AreFalseBut clause trail one other = IsTrue (list_all (λ x. same x one || (same x other || is_false trail x)) clause)

-- a literal of the clause that is none of two, and not false
pub record IsOther (clause trail : List Lit) (one other to : Lit) : Type 0 where
  pub holds_it : IsTrue (is_among clause to)
  pub not_one : to.0 ≢ one.0
  pub not_other : to.0 ≢ other.0
  pub not_false : is_false trail to ≡ false

-- what a look at the watches says
abbrev pub Shows : WatchedClause → List Lit → Lit → Watch → Type 0
Shows k trail lit Backed = IsTrue (is_among trail (partner k lit))
Shows k trail lit (Other to) = CanWatch k trail to
Shows k trail lit (Unit l) = (l ≡ partner k lit) × IsUnit k.lits trail l
Shows k trail lit False = IsTrue (list_all (is_false trail) k.lits)
