-- The watches of the clauses while propagation looks at one entry of the trail after the other.
use Rattle.std.specs.Prelude.{◌≡◌, ◌≢◌, ◌<◌, ◌≤◌, ◌⊎◌, if◌then◌else◌, nat_le, ℕ, List, ◌++◌, take, length, slice_get, Contains, Some, None, IsTrue}
use Rattle.cnf.specs.declared.lit.Lit.{Lit}
use Rattle.cnf.specs.Lits.{negation, is_among}
use Rattle.sat_trail.specs.declared.entry.Entry.{Entry}
use Rattle.sat_trail.specs.Trail.{Assignment, lits, value_in, up_to, with_implied, IsTrail}
use Rattle.sat_arena.specs.Arena.{WatchedClauses, indexes, clause_at, IsArena}

-- at the end of each level at which a is false, as far as the first `head` entries say, b is true
abbrev pub Backs : List Entry → ℕ → Lit → Lit → Type 0
Backs es head a b = (n : ℕ) → IsTrue (is_among (lits (up_to n (take head es))) (negation a)) → IsTrue (is_among (lits (up_to n es)) b)

-- a false watch has a true partner at no higher level, both ways
pub record IsBacked (es : List Entry) (head : ℕ) (a b : Lit) : Type 0 where
  pub first : Backs es head a b
  pub second : Backs es head b a

-- the clauses that watch no literal are true at level 0
abbrev pub ShortAreTrue : WatchedClauses → List Entry → Type 0
ShortAreTrue a es = (c : ℕ) → Contains (indexes a) c → (clause_at a c).one ≡ (clause_at a c).other → IsTrue (is_among (lits (up_to 0 es)) (clause_at a c).one)

-- the entries from `head` on are of the present level
abbrev pub ArePresent : Assignment → ℕ → Type 0
ArePresent t head = (k : ℕ) (e : Entry) → head ≤ k → slice_get t.entries k ≡ Some e → e.level ≡ t.level

-- the first `head` entries were looked at: so far no watch is false beside a partner that is not true
pub record IsReady (a : WatchedClauses) (t : Assignment) (head : ℕ) : Type 0 where
  pub arena : IsArena a
  pub trail : IsTrail t
  pub looked : head ≤ length t.entries
  pub present : ArePresent t head
  pub backed : (c : ℕ) → Contains (indexes a) c → (clause_at a c).one ≢ (clause_at a c).other → IsBacked t.entries head (clause_at a c).one (clause_at a c).other
  pub short : 0 < t.level → ShortAreTrue a t.entries

-- the entries of one trail, and maybe more behind them
abbrev pub IsLonger : Assignment → Assignment → Type 0
IsLonger old new = (more : List Entry) × (new.entries ≡ old.entries ++ more)

-- a literal was true, or was open and is implied now
abbrev pub IsMadeTrue : Assignment → Assignment → Lit → ℕ → Type 0
IsMadeTrue old new l number =
    (IsTrue (is_among (lits old.entries) l) × (new ≡ old))
    ⊎ ((value_in (lits old.entries) l ≡ None) × (new ≡ with_implied old l number))

-- where propagation goes on, if so many entries are left
abbrev pub head_within : ℕ → ℕ → ℕ
head_within head count = if nat_le head count then head else count
