use Rattle.std.proofs.Common.{Some, ap, inl, inr}
use Rattle.step_queue.specs.declared.candidate.Candidate.{Candidate}
use Rattle.next_step.proofs.queue.found.put_among.Goals as goal

pub returns-clause-stay : goal.returns-clause-stay
returns-clause-stay c = λ l among. elim (c.put_sooner.ensures.stay l among) [
  | inl h ↦ inl h
  | inr e ↦ inr (ap (λ (x : Candidate). Some x) e)
]
