-- The definitions on small examples.
use Rattle.std.proofs.Common.{◌≡◌, ℕ, true, false, [], ◌∷◌, refl}
use Rattle.cnf.specs.declared.lit.Lit.{Lit}
use Rattle.cnf.specs.Cnf.{Cnf, Satisfies}
use Rattle.cnf.specs.Lits.{negation, positive}
use Rattle.cnf.specs.Gates.{with_exactly_one, with_and_gate, with_false}
use Rattle.cnf.specs.Numbers.{with_at_least, with_reduced, remainder_digits, with_next_digit, with_division}
use Rattle.cnf.specs.Sums.{number}
use lib.Count.{count_leading_zeros}
use Rattle.cnf.specs.Propagation.{IsForced, Adds, IsLedger}
use Rattle.cnf.specs.Values.{value, holds}

-- the variables 0, 1 and 2, and their negations
abbrev lit : ℕ → Lit
lit n = record { 0 = n }

abbrev x : Lit
x = lit 0

abbrev not_x : Lit
not_x = lit 1

abbrev y : Lit
y = lit 2

abbrev not_y : Lit
not_y = lit 3

negations : (negation x ∷ negation not_y ∷ []) ≡ (not_x ∷ y ∷ [])
unfolding negation
negations = refl

-- "x or not y" under three lists of values
holds_by_x : holds (true ∷ true ∷ []) (x ∷ not_y ∷ []) ≡ true
unfolding value
holds_by_x = refl

holds_by_not_y : holds (false ∷ false ∷ []) (x ∷ not_y ∷ []) ≡ true
unfolding value
holds_by_not_y = refl

fails : holds (false ∷ true ∷ []) (x ∷ not_y ∷ []) ≡ false
unfolding value
fails = refl

-- "exactly one of x and y"
abbrev one_of_two : Cnf
one_of_two = record { vars = 2; clauses = (x ∷ y ∷ []) ∷ (not_x ∷ not_y ∷ []) ∷ [] }

satisfied : Satisfies (true ∷ false ∷ []) one_of_two
unfolding value
satisfied = record { one_each = refl; each_holds = refl }

-- the four clauses of two literals over x and y
abbrev all_pairs : Cnf
all_pairs = record {
  vars = 2;
  clauses = (x ∷ y ∷ []) ∷ (x ∷ not_y ∷ []) ∷ (not_x ∷ y ∷ []) ∷ (not_x ∷ not_y ∷ []) ∷ [];
}

-- "x" is forced: without it, the first clause gives y, and the second is false
x_forced : IsForced all_pairs.clauses (x ∷ [])
unfolding negation
x_forced = record { found = y ∷ []; each_found = refl; conflict = refl }

-- nothing is to be propagated before "x" is there
x_adds : Adds all_pairs.clauses (x ∷ [])
unfolding negation
x_adds = record {
  lit = x;
  trail = [];
  of_clause = refl;
  others_denied = refl;
  lit_open = refl;
  consistent = refl;
  at_rest = refl;
}

-- with "x", the third clause gives y, and the last is false
nothing_forced : IsForced ((x ∷ y ∷ []) ∷ (x ∷ not_y ∷ []) ∷ (not_x ∷ y ∷ []) ∷ (not_x ∷ not_y ∷ []) ∷ (x ∷ []) ∷ []) []
unfolding negation
nothing_forced = record { found = x ∷ y ∷ []; each_found = refl; conflict = refl }

-- a log that refutes the four clauses
refuted : IsLedger all_pairs ((x ∷ []) ∷ [] ∷ [])
unfolding negation
refuted = (
  record {
    forced = x_forced;
    adds = λ _. x_adds;
    in_range = refl;
    distinct = refl;
    consistent = refl;
    not_subsumed = refl;
  },
  (
    record {
      forced = nothing_forced;
      adds = λ h. absurd (h refl);
      in_range = refl;
      distinct = refl;
      consistent = refl;
      not_subsumed = refl;
    },
    tt,
  ),
)

-- the gates' clauses over x and y
one_of_two_made : with_exactly_one (record { vars = 2; clauses = [] }) (x ∷ y ∷ []) ≡ one_of_two
unfolding with_exactly_one negation
one_of_two_made = refl

and_gate_made : with_and_gate (record { vars = 2; clauses = [] }) (x ∷ not_y ∷ []) ≡ (record { vars = 3; clauses = (lit 5 ∷ x ∷ []) ∷ (lit 5 ∷ not_y ∷ []) ∷ (lit 4 ∷ not_x ∷ y ∷ []) ∷ [] }, lit 4)
unfolding with_and_gate negation positive
and_gate_made = refl

-- the number of "true, true, false", the least digit first
three : number (true ∷ true ∷ false ∷ []) (x ∷ y ∷ lit 4 ∷ []) ≡ 3
unfolding value
three = refl

-- at least 2, in two digits: the higher one
at_least_two : with_at_least (record { vars = 2; clauses = [] }) (x ∷ y ∷ []) 2 ≡ (record { vars = 2; clauses = [] }, y)
unfolding with_at_least
at_least_two = refl

-- by 2: the higher digit, and the lower one
halved : with_division (record { vars = 2; clauses = [] }) (x ∷ y ∷ []) 2 ≡ record { formula = record { vars = 3; clauses = (lit 5 ∷ []) ∷ [] }; quotient = y ∷ lit 4 ∷ []; remainder = x ∷ [] }
unfolding with_next_digit with_at_least with_reduced with_false remainder_digits count_leading_zeros negation positive
halved = refl

-- how many digits the remainders by 1, 3, 4 and 5 have
digit_counts : (remainder_digits 1 ∷ remainder_digits 3 ∷ remainder_digits 4 ∷ remainder_digits 5 ∷ []) ≡ (0 ∷ 2 ∷ 2 ∷ 3 ∷ [])
unfolding remainder_digits count_leading_zeros
digit_counts = refl
