use Rattle.std.proofs.Common.{◌≡◌, ◌⊎◌, subst, inl}
use Rattle.step_queue.specs.declared.candidate.Candidate.{Candidate}
use Rattle.next_step.specs.Looking.{FoundParts, IsAmong, Keeps}
use Rattle.next_step.proofs.Finding.{found_of, found_keeps, found_only, last_only, none_goes, one_goes}
use Rattle.next_step.proofs.queue.found.Found.put.Goals as goal

pub returns-in-Some-clause-keeps : goal.returns-in-Some-clause-keeps
returns-in-Some-clause-keeps c = subst (λ (f : FoundParts). Keeps f (found_of c.put_among.new.candidates.items c.sooner_of-self-inside.result)) c.self.view_is
    (found_keeps c.self.inside.candidates.items c.put_among.new.candidates.items c.self.inside.others c.sooner_of-self-inside.result c.in_ok-late.field-0 c.in_ok-late.ensures.stay c.sooner_of-self-inside.ensures.keeps
    (one_goes c.in_ok-late.field-0 c.sooner_of-self-inside.result c.in-Some.late c.in-Some.is c.sooner_of-self-inside.ensures.reaches))

pub returns-in-Some-clause-only : goal.returns-in-Some-clause-only
returns-in-Some-clause-only c = subst (λ (f : FoundParts). (l : Candidate) → IsAmong (found_of c.put_among.new.candidates.items c.sooner_of-self-inside.result) l → IsAmong f l ⊎ (l ≡ c.args.candidate)) c.self.view_is
    (found_only c.self.inside.candidates.items c.put_among.new.candidates.items c.self.inside.others c.sooner_of-self-inside.result c.in_ok-late.field-0 c.args.candidate c.in_ok-late.ensures.only
    (last_only c.self.inside.candidates.items c.self.inside.others c.sooner_of-self-inside.result c.in-Some.late c.args.candidate c.sooner_of-self-inside.ensures.is (rw c.in-Some.is at c.in_ok-late.ensures.was)))

pub returns-in_default-clause-keeps : goal.returns-in_default-clause-keeps
returns-in_default-clause-keeps c = subst (λ (f : FoundParts). Keeps f (found_of c.put_among.new.candidates.items c.self.inside.others)) c.self.view_is
    (found_keeps c.self.inside.candidates.items c.put_among.new.candidates.items c.self.inside.others c.self.inside.others c.in_ok-late.field-0 c.in_ok-late.ensures.stay (λ t h. h)
    (none_goes c.in_ok-late.field-0 c.self.inside.others c.in_default.is))

pub returns-in_default-clause-only : goal.returns-in_default-clause-only
returns-in_default-clause-only c = subst (λ (f : FoundParts). (l : Candidate) → IsAmong (found_of c.put_among.new.candidates.items c.self.inside.others) l → IsAmong f l ⊎ (l ≡ c.args.candidate)) c.self.view_is
    (found_only c.self.inside.candidates.items c.put_among.new.candidates.items c.self.inside.others c.self.inside.others c.in_ok-late.field-0 c.args.candidate c.in_ok-late.ensures.only (λ l is. inl is))
