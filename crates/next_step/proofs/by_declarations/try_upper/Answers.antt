use Rattle.std.proofs.Common.{inl, refl}
use Rattle.next_step.proofs.by_declarations.try_upper.Goals as goal

pub is_passed-requires-clause-both : goal.is_passed-requires-clause-both
is_passed-requires-clause-both c = inl (refl, refl)

pub returns-then-is_passed-clause-covers : goal.returns-then-is_passed-clause-covers
returns-then-is_passed-clause-covers c = c.is_passed.ensures c.if-is_passed.true

pub is_poor-requires-clause-both : goal.is_poor-requires-clause-both
is_poor-requires-clause-both c = inl (refl, refl)

pub returns-then-is_poor-clause-covers : goal.returns-then-is_poor-clause-covers
returns-then-is_poor-clause-covers c = c.is_poor.ensures c.if-is_poor.true
