-- Small trails, with the answers that a body with a wrong line would not give: each theorem is by
-- computation.
use Rattle.std.proofs.Common.{◌≡◌, ℕ, true, false, [], Some, None, refl}
use Rattle.cnf.specs.declared.lit.Lit.{Lit}
use Rattle.cnf.specs.Lits.{negation}
use Rattle.sat_trail.specs.Trail.{Assignment, value_in, entry_of, level_in, reason_in, with_decided, with_implied, undone_to, lits}

abbrev lit : ℕ → Lit
lit n = record { 0 = n }

-- two variables without values
abbrev nothing : Assignment
nothing = record { vars = 2; level = 0; entries = [] }

-- the first one is false by decision, so the second is true by the clause of number 7
abbrev decided : Assignment
decided = with_decided nothing (lit 1)

abbrev implied : Assignment
implied = with_implied decided (lit 2) 7

-- ---- A value, and that of the negation

decided_is_true : value_in (lits decided.entries) (lit 1) ≡ Some true
decided_is_true = refl

negation_is_false : value_in (lits decided.entries) (lit 0) ≡ Some false
unfolding negation
negation_is_false = refl

-- ---- The reason of an implied value, and the level

reason_is_the_clause : reason_in (entry_of implied.entries 1) ≡ Some 7
reason_is_the_clause = refl

decided_has_no_reason : reason_in (entry_of implied.entries 0) ≡ None
decided_has_no_reason = refl

-- ---- A variable that is false has an entry

false_variable_is_found : level_in (entry_of implied.entries 0) ≡ Some 1
false_variable_is_found = refl

-- ---- Taking a level back takes its values and the level

level_is_taken_back : undone_to implied 0 ≡ nothing
level_is_taken_back = refl
