-- How an arena's clauses lie in its words.
--
-- From its index on a clause has its first watch, the link of that, its second watch, the link of that,
-- the number of its literals, and its literals, each by its number. Word 0 is of no clause, so 0 ends a
-- list.
use Rattle.std.specs.Prelude.{◌≡◌, ◌≢◌, ◌+◌, ◌<◌, ◌≤◌, ◌^◌, ◌==◌, ◌⊎◌, if◌then◌else◌, nat_eq, ℕ, List, [], ◌∷◌, length, map, slice_index, Contains}
use Rattle.std.specs.List.{IsDistinct}
use Rattle.std.proofs.Common.{suc, zero}
use Rattle.cnf.specs.declared.lit.Lit.{Lit}
use Rattle.sat_arena.specs.declared.words.TheConstants.{OTHER, SIZE, LITS}
use Rattle.sat_arena.specs.Arena.{WatchedClause, WatchedClauses}
use Rattle.sat_arena.specs.Links.{Linked, link}

-- the literals whose numbers are so many words from a place on
abbrev pub lits_in : List ℕ → ℕ → ℕ → List Lit
lits_in words i zero = []
lits_in words i (suc n) = record { 0 = slice_index words i } ∷ lits_in words (i + 1) n

-- the clause with an index
abbrev pub clause_in : List ℕ → ℕ → WatchedClause
clause_in words c = record {
  index = c;
  lits = lits_in words (c + LITS) (slice_index words (c + SIZE));
  one = record { 0 = slice_index words c };
  other = record { 0 = slice_index words (c + OTHER) };
}

-- at most so many members of the list of a literal, from `at` on
abbrev pub walk : ℕ → List ℕ → ℕ → ℕ → List ℕ
walk zero words l at = []
walk (suc n) words l at = if at == 0 then [] else at ∷ walk n words l (link words l at)

-- the list of a literal from `at` on
abbrev pub list_from : List ℕ → ℕ → ℕ → List ℕ
list_from words l at = walk (length words) words l at

-- the lists of the literals from a number on, by where they begin
abbrev pub lists_from : List ℕ → ℕ → List ℕ → List (List ℕ)
lists_from words l [] = []
lists_from words l (at ∷ ats) = list_from words l at ∷ lists_from words (l + 1) ats

-- what an arena's fields stand for: `firsts` says where the lists begin, and `starts` where the clauses do
abbrev pub watched_clauses : ℕ → List ℕ → List ℕ → List ℕ → WatchedClauses
watched_clauses vars words firsts starts = record { vars = vars; clauses = map (clause_in words) starts; lists = lists_from words 0 firsts }

-- the clauses lie one behind the other, the first from `at` on
abbrev pub AreInOrder : List ℕ → ℕ → List ℕ → Type 0
AreInOrder words at [] = at ≤ length words
AreInOrder words at (c ∷ cs) = (at ≤ c) × AreInOrder words (c + LITS + slice_index words (c + SIZE)) cs

-- a number is that of one of the clause's literals
abbrev pub IsNumberIn : List ℕ → ℕ → ℕ → Type 0
IsNumberIn words c l = (k : ℕ) × (k < slice_index words (c + SIZE)) × (slice_index words (c + LITS + k) ≡ l)

-- the words of a clause are numbers of literals, and its watches are as `IsWatched` says
pub record IsClause (vars : ℕ) (words : List ℕ) (c : ℕ) : Type 0 where
  pub lits : (k : ℕ) → k < slice_index words (c + SIZE) → slice_index words (c + LITS + k) < vars + vars
  pub one : slice_index words c < 2 ^ 32
  pub other : slice_index words (c + OTHER) < 2 ^ 32
  pub two : slice_index words c ≢ slice_index words (c + OTHER) → IsNumberIn words c (slice_index words c) × IsNumberIn words c (slice_index words (c + OTHER))
  pub short : slice_index words c ≡ slice_index words (c + OTHER) → (k : ℕ) → k < slice_index words (c + SIZE) → slice_index words (c + LITS + k) ≡ slice_index words c

-- the clause watches the literal with a number
abbrev pub Watches : List ℕ → ℕ → ℕ → Type 0
Watches words l c = (slice_index words c ≢ slice_index words (c + OTHER)) × ((slice_index words c ≡ l) ⊎ (slice_index words (c + OTHER) ≡ l))

-- the list of a literal begins at `at`, and its members are the clauses that watch the literal, once each
pub record IsList (words starts : List ℕ) (l at : ℕ) (cs : List ℕ) : Type 0 where
  pub linked : Linked (link words l) 0 at cs
  pub distinct : IsDistinct nat_eq cs
  pub only : (c : ℕ) → Contains cs c → Contains starts c × Watches words l c
  pub all : (c : ℕ) → Contains starts c → Watches words l c → Contains cs c

-- what the fields of every arena keep
pub record IsArenaInside (vars : ℕ) (words firsts starts : List ℕ) : Type 0 where
  pub small : vars ≤ 2 ^ 30
  pub heads : length firsts ≡ vars + vars
  pub in_order : AreInOrder words 1 starts
  pub clauses : (c : ℕ) → Contains starts c → IsClause vars words c
  pub lists : (l : ℕ) → l < vars + vars → IsList words starts l (slice_index firsts l) (list_from words l (slice_index firsts l))

-- the words of a clause
abbrev pub clause_words : List Lit → ℕ → ℕ → ℕ → ℕ → List ℕ
clause_words ls one one_link other other_link = one ∷ one_link ∷ other ∷ other_link ∷ length ls ∷ map (λ (l : Lit). l.0) ls
