-- Trails: which literals are true, since which level, and why.
use Rattle.std.specs.Prelude.{◌≡◌, ◌+◌, ◌≤◌, ◌==◌, ◌^◌, nat_eq, nat_le, ℕ, Bool, true, false, if◌then◌else◌, Option, None, Some, List, [], ◌∷◌, ◌++◌, filter, map, IsTrue, MatchOption}
use Rattle.std.specs.List.{IsDistinct}
use Rattle.cnf.specs.declared.lit.Lit.{Lit}
use Rattle.cnf.specs.Lits.{variable, negation, is_among, are_below}
use Rattle.sat_trail.specs.declared.entry.Entry.{Entry}

-- a trail over so many variables: the number of decisions, and the entries, oldest first
pub record Assignment : Type 0 where
  pub vars : ℕ
  pub level : ℕ
  pub entries : List Entry

-- the literals that are true
abbrev pub lits : List Entry → List Lit
lits es = map (λ (e : Entry). e.lit) es

-- the variables that have a value
abbrev pub variables : List Entry → List ℕ
variables es = map (λ (e : Entry). variable e.lit) es

-- the value of a literal where those of a list are true
abbrev pub value_in : List Lit → Lit → Option Bool
value_in trail l = if is_among trail l then Some true else (if is_among trail (negation l) then Some false else None)

-- the entry of a variable, if it has a value
abbrev pub entry_of : List Entry → ℕ → Option Entry
entry_of [] v = None
entry_of (e ∷ es) v = if variable e.lit == v then Some e else entry_of es v

-- the level of an entry, if there is one
abbrev pub level_in : Option Entry → Option ℕ
level_in None = None
level_in (Some e) = Some e.level

-- the clause that implied an entry, if there is one and a clause did
abbrev pub reason_in : Option Entry → Option ℕ
reason_in None = None
reason_in (Some e) = e.reason

-- whether an entry is of one of the levels up to n
abbrev pub is_up_to : ℕ → Entry → Bool
is_up_to n e = nat_le e.level n

-- the entries of the levels up to n
abbrev pub up_to : ℕ → List Entry → List Entry
up_to n es = filter (is_up_to n) es

-- the trail with one more level, opened by a literal
abbrev pub with_decided : Assignment → Lit → Assignment
with_decided t l = record {
  vars = t.vars;
  level = t.level + 1;
  entries = t.entries ++ record { lit = l; level = t.level + 1; reason = None } ∷ [];
}

-- the trail with one more literal at its level, implied by the clause of a number
abbrev pub with_implied : Assignment → Lit → ℕ → Assignment
with_implied t l clause = record {
  vars = t.vars;
  level = t.level;
  entries = t.entries ++ record { lit = l; level = t.level; reason = Some clause } ∷ [];
}

-- the trail without the levels above one
abbrev pub undone_to : Assignment → ℕ → Assignment
undone_to t n = record { vars = t.vars; level = n; entries = up_to n t.entries }

-- a decided entry opens a level behind the last, and an implied one is of the last
abbrev pub IsNext : ℕ → Entry → Type 0
IsNext last e = MatchOption e.reason (e.level ≡ last + 1) (λ _. e.level ≡ last)

-- the levels of the entries rise so from one to another
abbrev pub RiseTo : ℕ → List Entry → ℕ → Type 0
RiseTo last [] top = last ≡ top
RiseTo last (e ∷ es) top = IsNext last e × RiseTo e.level es top

-- what holds of every trail: each variable has one entry at most, and the levels rise
pub record IsTrail (t : Assignment) : Type 0 where
  pub small : t.vars ≤ 2 ^ 30
  pub in_range : IsTrue (are_below t.vars (lits t.entries))
  pub distinct : IsDistinct nat_eq (variables t.entries)
  pub rise : RiseTo 0 t.entries t.level
