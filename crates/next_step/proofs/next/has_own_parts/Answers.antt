use Rattle.std.proofs.Common.{inl, inr}
use Rattle.next_step.proofs.next.has_own_parts.Goals as goal

pub returns-then-own_selectors : goal.returns-then-own_selectors
returns-then-own_selectors c = λ known. inl c.if-own_selectors.true

pub returns : goal.returns
returns c = λ known. inr known
