use Rattle.std.proofs.Common.{ℕ, List, ◌∷◌, subst, ◌∙◌}
use Rattle.std.specs.List.{Contains}
use Rattle.std.specs.List.Sorted.{IsNonDecreasingBy}
use Rattle.std.proofs.lemmas.List.{nil_from_length}
use Rattle.list_facts.proofs.Members.{Contains-nil}
use Rattle.next_step.proofs.Repeats.{either_true, next_is}
use Rattle.next_step.proofs.cuts.doubles.put_if_twice.Goals as goal

pub returns-in_default-clause-twice : goal.returns-in_default-clause-twice
returns-in_default-clause-twice c = λ again. absurd (Contains-nil c.args.first (subst (λ (xs : List ℕ). Contains xs c.args.first) (nil_from_length c.args.behind.now (rw c.in_default.is at c.split_first.ensures.cases)) again))

pub returns-then-next-first-clause-twice : goal.returns-then-next-first-clause-twice
returns-then-next-first-clause-twice c = λ again.
    absurd (c.if-next-first.true (next_is c.args.first c.in-Some.next.now c.in-Some._rest.now
    (subst (λ (xs : List ℕ). IsNonDecreasingBy (λ (n : ℕ). n) (c.args.first ∷ xs)) c.in-Some.ensures.cases.0 c.requires) (subst (λ (xs : List ℕ). Contains xs c.args.first) c.in-Some.ensures.cases.0 again)))

pub returns-clause-keeps : goal.returns-clause-keeps
returns-clause-keeps c = λ n has. c.in_ok-insert.ensures.updates.0 n ∙ either_true _ _ has

pub returns-clause-twice : goal.returns-clause-twice
returns-clause-twice c = λ again. c.in_ok-insert.ensures.updates.1
