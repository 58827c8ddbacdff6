-- Clauses that watch two of their literals each, and for each literal the list of those that watch it.
--
-- While neither watched literal is false, a clause is neither false nor unit: the scheme of watched
-- literals, as in Chaff and MiniSat.
use Rattle.std.specs.Prelude.{◌≡◌, ◌≢◌, ◌==◌, ◌&&◌, ◌||◌, ◌⊎◌, ◌↔◌, not, if◌then◌else◌, nat_eq, ℕ, Bool, List, [], ◌∷◌, ◌++◌, Option, None, Some, MatchOption, map, slice_index_or, Contains, IsTrue}
use Rattle.std.specs.List.{IsDistinct}
use Rattle.cnf.specs.declared.lit.Lit.{Lit}
use Rattle.cnf.specs.Lits.{same, is_among, are_below}

-- a clause: its index, its literals, and the two that it watches
--
-- The two are one literal where it has fewer than two different ones; then it watches none.
pub record WatchedClause : Type 0 where
  pub index : ℕ
  pub lits : List Lit
  pub one : Lit
  pub other : Lit

-- clauses over so many variables, oldest first, and the lists of watching clauses
--
-- The list of a literal has the indexes of clauses, and stands under the literal's number.
pub record WatchedClauses : Type 0 where
  pub vars : ℕ
  pub clauses : List WatchedClause
  pub lists : List (List ℕ)

-- the indexes of all clauses
abbrev pub indexes : WatchedClauses → List ℕ
indexes a = map (λ (k : WatchedClause). k.index) a.clauses

-- the literals of all clauses
abbrev pub clause_lits : WatchedClauses → List (List Lit)
clause_lits a = map (λ (k : WatchedClause). k.lits) a.clauses

-- the first of these clauses with an index, or an empty one
abbrev pub clause_of : List WatchedClause → ℕ → WatchedClause
clause_of [] c = record { index = c; lits = []; one = record { 0 = 0 }; other = record { 0 = 0 } }
clause_of (k ∷ ks) c = if k.index == c then k else clause_of ks c

-- the clause with an index
abbrev pub clause_at : WatchedClauses → ℕ → WatchedClause
clause_at a c = clause_of a.clauses c

-- the list of a literal
abbrev pub watch_list : WatchedClauses → Lit → List ℕ
watch_list a l = slice_index_or a.lists l.0 []

-- the clause watches the literal
abbrev pub IsWatching : WatchedClause → Lit → Type 0
IsWatching k l = (k.one ≢ k.other) × ((k.one ≡ l) ⊎ (k.other ≡ l))

-- a clause over so many variables whose watches are two different ones of its literals
--
-- Where they are one literal, it has no other.
pub record IsWatched (vars : ℕ) (k : WatchedClause) : Type 0 where
  pub in_range : IsTrue (are_below vars k.lits)
  pub two : k.one ≢ k.other → IsTrue (is_among k.lits k.one) × IsTrue (is_among k.lits k.other)
  pub short : k.one ≡ k.other → (l : Lit) → IsTrue (is_among k.lits l) → l ≡ k.one

-- what every arena keeps: a clause stands once in the lists of its watches, and in no other list
pub record IsArena (a : WatchedClauses) : Type 0 where
  pub distinct : IsDistinct nat_eq (indexes a)
  pub watched : (c : ℕ) → Contains (indexes a) c → IsWatched a.vars (clause_at a c)
  pub once : (l : Lit) → IsDistinct nat_eq (watch_list a l)
  pub listed : (l : Lit) (c : ℕ) → Contains (watch_list a l) c ↔ (Contains (indexes a) c × IsWatching (clause_at a c) l)

-- the first of a list
abbrev pub first_of : List ℕ → Option ℕ
first_of [] = None
first_of (c ∷ cs) = Some c

-- the one behind another in a list
abbrev pub next_in : List ℕ → ℕ → Option ℕ
next_in [] c = None
next_in (d ∷ ds) c = if d == c then first_of ds else next_in ds c

-- the clause is the list's first, or stands right behind another
abbrev pub IsBehind : List ℕ → Option ℕ → ℕ → Type 0
IsBehind cs before c = MatchOption before ((ys : List ℕ) × (cs ≡ c ∷ ys)) (λ p. (xs : List ℕ) × ((ys : List ℕ) × (cs ≡ xs ++ p ∷ c ∷ ys)))

-- a list without a member
abbrev pub without : ℕ → List ℕ → List ℕ
without c [] = []
without c (d ∷ ds) = if d == c then ds else d ∷ without c ds

-- the clause with this index watches `to` in place of a literal, and any other is as it was
abbrev pub with_watch : ℕ → Lit → Lit → WatchedClause → WatchedClause
with_watch c lit to k = if k.index == c then (if same k.one lit then record k { one = to } else record k { other = to }) else k

-- the last of some literals, or another where there is none
abbrev pub last_or : Lit → List Lit → Lit
last_or other [] = other
last_or other (l ∷ ls) = last_or l ls

-- the last of some literals that is different from one, or another where there is none
abbrev pub last_unlike_or : Lit → Lit → List Lit → Lit
last_unlike_or one other [] = other
last_unlike_or one other (l ∷ ls) = last_unlike_or one (if same l one then other else l) ls

-- the last literal of a new clause
abbrev pub last_watch : List Lit → Lit
last_watch ls = last_or (record { 0 = 0 }) ls

-- the last literal of a new clause that is different from its last, where there is one
abbrev pub next_watch : List Lit → Lit
next_watch ls = last_unlike_or (last_watch ls) (last_watch ls) ls

-- a new clause
abbrev pub new_clause : ℕ → List Lit → WatchedClause
new_clause c ls = record { index = c; lits = ls; one = last_watch ls; other = next_watch ls }

-- whether a new clause of these literals watches a literal
abbrev pub is_watching : List Lit → Lit → Bool
is_watching ls l = not (same (last_watch ls) (next_watch ls)) && (same (last_watch ls) l || same (next_watch ls) l)

-- a literal's list with a new clause in front, where that watches the literal
abbrev pub with_new : ℕ → List Lit → Lit → List ℕ → List ℕ
with_new c ls l cs = if is_watching ls l then c ∷ cs else cs
