-- Tests of positions, as gates and clauses.
use Rattle.std.specs.Prelude.{Bool, List, [], false, map, negsuc, pos, suc, true, unsigned_abs, zero, ℕ, ℤ, ◌%◌, ◌*◌, ◌++◌, ◌+◌, ◌-◌, ◌<◌, ◌^◌, ◌∷◌}
use Rattle.cnf.specs.Cnf.{Cnf}
use Rattle.cnf.specs.Gates.{with_and_gate, with_clauses, with_false}
use Rattle.cnf.specs.Lits.{negation}
use Rattle.cnf.specs.Numbers.{with_at_least, with_division}
use Rattle.cnf.specs.declared.lit.Lit.{Lit}
use Rattle.css_model.specs.declared.selector.Simple.{Simple}
use Rattle.css_model.specs.declared.selector.Test.{Test}
use Rattle.css_model.specs.declared.selector.Test.TheVariants.{Nth, NthLast, OnlyChild, Root}

-- the number leaves `rest` when divided by `step`, and is at least `low`
unfoldable pub with_rising : ℕ → ℕ → ℕ → List Lit → Cnf → Cnf × Lit
with_rising step rest low n f =
    let d = with_division f n step in
    let a = with_at_least d.formula n low in
    let b = with_at_least a.0 d.remainder rest in
    let c = with_at_least b.0 d.remainder (rest + 1) in
    with_and_gate c.0 (a.1 ∷ b.1 ∷ negation c.1 ∷ [])

-- the number leaves `rest` when divided by `step`, and is below `high`
unfoldable pub with_falling : ℕ → ℕ → ℕ → List Lit → Cnf → Cnf × Lit
with_falling step rest high n f =
    let d = with_division f n step in
    let a = with_at_least d.formula n high in
    let b = with_at_least a.0 d.remainder rest in
    let c = with_at_least b.0 d.remainder (rest + 1) in
    with_and_gate c.0 (negation a.1 ∷ b.1 ∷ negation c.1 ∷ [])

-- the number is c
unfoldable pub with_exact : ℕ → List Lit → Cnf → Cnf × Lit
with_exact c n f =
    let a = with_at_least f n c in
    let b = with_at_least a.0 n (c + 1) in
    with_and_gate b.0 (a.1 ∷ negation b.1 ∷ [])

-- both numbers are 0
abbrev pub with_zeros : List Lit → List Lit → Cnf → Cnf × Lit
with_zeros b a f = with_and_gate f (map negation b ++ map negation a)

-- a n + b is the number + 1, for some n
abbrev pub with_nth : ℤ → ℤ → List Lit → Cnf → Cnf × Lit
with_nth (pos zero) (pos zero) n f = with_false f
with_nth (pos zero) (pos (suc c)) n f = with_exact c n f
with_nth (pos zero) (negsuc k) n f = with_false f
with_nth (pos (suc s)) (pos k) n f = with_rising (suc s) ((k + s) % suc s) (k - 1) n f
with_nth (pos (suc s)) (negsuc k) n f = with_rising (suc s) (((k + 2) * s) % suc s) 0 n f
with_nth (negsuc s) (pos k) n f = with_falling (suc s) ((k + s) % suc s) k n f
with_nth (negsuc s) (negsuc k) n f = with_false f

-- A test by its gate: asked or not, of the last compound or of another one; `r` says that the last one is the root.
abbrev pub test_clauses : Bool → Bool → Lit → Lit → Lit → List (List Lit)
test_clauses true false r child g = (g ∷ []) ∷ (negation r ∷ child ∷ []) ∷ []
test_clauses true true r child g = (negation g ∷ r ∷ []) ∷ (negation g ∷ negation child ∷ []) ∷ []
test_clauses false false r child g = (g ∷ []) ∷ []
test_clauses false true r child g = (negation g ∷ []) ∷ []

-- a gate, and what a test says of it
abbrev pub with_tested : Bool → Bool → Lit → Lit → (Cnf → Cnf × Lit) → Cnf → Cnf
with_tested last negated r child gate f = let g = gate f in with_clauses g.0 (test_clauses last negated r child g.1)

-- the test `:root`
abbrev pub is_root_clauses : Bool → Bool → Lit → List (List Lit)
is_root_clauses true false r = (r ∷ []) ∷ []
is_root_clauses true true r = (negation r ∷ []) ∷ []
is_root_clauses false false r = [] ∷ []
is_root_clauses false true r = []

-- one test
abbrev pub with_test : Bool → Bool → Lit → Lit → List Lit → List Lit → Test → Cnf → Cnf
with_test last negated r child b a (Nth x) f = with_tested last negated r child (with_nth x.a x.b b) f
with_test last negated r child b a (NthLast x) f = with_tested last negated r child (with_nth x.a x.b a) f
with_test last negated r child b a OnlyChild f = with_tested last negated r child (with_zeros b a) f
with_test last negated r child b a Root f = with_clauses f (is_root_clauses last negated r)
with_test last negated r child b a _ f = f

-- all tests of a compound
abbrev pub with_positions : Bool → Lit → Lit → List Lit → List Lit → List Simple → Cnf → Cnf
with_positions last r child b a [] f = f
with_positions last r child b a (s ∷ ss) f = with_positions last r child b a ss (with_test last s.negated r child b a s.test f)

-- steps that the division takes
abbrev pub IsSmallTest : Test → Type 0
IsSmallTest (Nth x) = unsigned_abs x.a < 2 ^ 32
IsSmallTest (NthLast x) = unsigned_abs x.a < 2 ^ 32
IsSmallTest _ = Unit {0}

-- all tests of a compound
abbrev pub AreSmallTests : List Simple → Type 0
AreSmallTests [] = Unit {0}
AreSmallTests (s ∷ ss) = IsSmallTest s.test × AreSmallTests ss
