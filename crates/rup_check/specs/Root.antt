-- What holds of the clauses and the trail while a step is checked.
use Rattle.std.specs.Prelude.{◌≡◌, ◌≤◌, ℕ, List, [], ◌∷◌, length, IsTrue, MatchOption}
use Rattle.cnf.specs.declared.lit.Lit.{Lit}
use Rattle.cnf.specs.Lits.{negation, is_among}
use Rattle.sat_trail.specs.declared.entry.Entry.{Entry}
use Rattle.sat_trail.specs.Trail.{Assignment}
use Rattle.sat_arena.specs.Arena.{WatchedClauses}
use Rattle.sat_watch.specs.Nonempty.{are_nonempty}
use Rattle.sat_watch.specs.Numbered.{numbered, clauses_of}
use Rattle.sat_watch.specs.Soundness.{IsSound}
use Rattle.sat_watch.specs.Watches.{IsBacked, IsReady, ShortAreTrue}

-- the trail is over these clauses, and propagation can go on
pub record IsKept (a : WatchedClauses) (t : Assignment) (head : ℕ) : Type 0 where
  pub vars : t.vars ≡ a.vars
  pub nonempty : IsTrue (are_nonempty (clauses_of (numbered a)))
  pub sound : IsSound (numbered a) t
  pub ready : IsReady a t head
  pub short : ShortAreTrue a t.entries

-- and all entries were looked at
pub record IsQuiet (a : WatchedClauses) (t : Assignment) (head : ℕ) : Type 0 where
  pub kept : IsKept a t head
  pub looked : head ≡ length t.entries

-- and nothing is decided: so it is between two steps
pub record IsRoot (a : WatchedClauses) (t : Assignment) (head : ℕ) : Type 0 where
  pub level : t.level ≡ 0
  pub quiet : IsQuiet a t head

-- only negations of literals of a clause were decided
abbrev pub DecidedBy : List Lit → List Entry → Type 0
DecidedBy clause [] = Unit {0}
DecidedBy clause (e ∷ es) =
    MatchOption e.reason (IsTrue (is_among clause (negation e.lit))) (λ _. Unit {0}) × DecidedBy clause es

-- a place up to another one, so that no watch of a clause is false before it
abbrev pub IsHeadFor : Assignment → ℕ → Lit → Lit → ℕ → Type 0
IsHeadFor t head one other less = (less ≤ head) × IsBacked t.entries less one other
