-- Clauses on the digits of a remainder.
use Rattle.std.proofs.Common.{Bool, IsTrue, [], false, refl, subst, sym, true, ℕ, ◌%◌, ◌≡◌}
use Rattle.std.specs.Prelude.{if◌then◌else◌, ◌==◌}
use Rattle.cnf.proofs.ForCallers.{is_below-negation, one_below, pair_below}
use Rattle.cnf.specs.Lits.{are_below, is_below, negation}
use Rattle.cnf.specs.declared.lit.Lit.{Lit}
use Rattle.sibling_clauses.proofs.ForCallers.{added_none, added_twice, first_in_range, negation_in_range, rest_in_range}

pub no_literals : (n : ℕ) → IsTrue (are_below n [])
no_literals n = refl

-- a digit is the literal or its negation
pub digit_in_range : (v number : ℕ) (lit found : Lit) → IsTrue (is_below v lit) → found ≡ (if number % 2 == 1 then lit else negation lit) → IsTrue (is_below v found)
digit_in_range v number lit found h e = subst (λ l. IsTrue (is_below v l)) (sym e) (by (number % 2 == 1))
  where
    by : (b : Bool) → IsTrue (is_below v (if b then lit else negation lit))
    by true = h
    by false = is_below-negation v lit h

pub ruleset digits_added = (added_none, added_twice, one_below, pair_below, first_in_range, rest_in_range, negation_in_range, digit_in_range, no_literals)
