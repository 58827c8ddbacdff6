-- How a formula's clauses lie in one list of literals.
use Rattle.std.specs.Prelude.{◌≡◌, ◌≤◌, ℕ, List, [], ◌∷◌, slice_index}
use Rattle.std.specs.List.{slice_range}
use Rattle.std.proofs.Common.{zero, suc}
use Rattle.cnf.specs.declared.lit.Lit.{Lit}
use Rattle.cnf.specs.Cnf.{Cnf}

-- the pieces of a list of literals that end at these places, the first of which begins at `start`
abbrev pub pieces : ℕ → List ℕ → List Lit → List (List Lit)
pieces start [] lits = []
pieces start (end ∷ ends) lits = slice_range lits start end ∷ pieces end ends lits

-- the ends do not fall, and the last is the length
abbrev pub RiseTo : ℕ → List ℕ → ℕ → Type 0
RiseTo start [] n = start ≡ n
RiseTo start (end ∷ ends) n = (start ≤ end) × RiseTo end ends n

-- where the k-th piece begins
abbrev pub start_of : ℕ → List ℕ → ℕ → ℕ
start_of start ends zero = start
start_of start ends (suc k) = slice_index ends k

-- the formula of so many variables whose clauses are these pieces
abbrev pub cnf_of : ℕ → List ℕ → List Lit → Cnf
cnf_of vars ends lits = record { vars = vars; clauses = pieces 0 ends lits }
