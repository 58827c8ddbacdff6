use Rattle.std.proofs.Common.{ℕ, length}
use Rattle.std.specs.Prelude.{IsTrue}
use Rattle.std.specs.BTreeSet.{BTreeSet, contains}
use Rattle.std.specs.List.Sorted.{IsNonDecreasingBy}
use Rattle.std.specs.Ordering.{nat_cmp}
use Rattle.next_step.specs.Repeated.{HasTwice}
use Rattle.next_step.proofs.cuts.doubles.put_twice.Given as goal

-- what has what was found, and what is twice among those that are left, has all
abbrev pub invariant-rest : goal.invariant-rest
invariant-rest l = record {
  ascends : IsNonDecreasingBy (λ (n : ℕ). n) l.rest;
  done : (set : BTreeSet ℕ) → ((n : ℕ) → IsTrue (contains nat_cmp l.found n) → IsTrue (contains nat_cmp set n)) → HasTwice l.rest set → HasTwice l.initial.rest set;
}

abbrev pub decreases-rest : goal.decreases-rest
decreases-rest l = length l.rest
