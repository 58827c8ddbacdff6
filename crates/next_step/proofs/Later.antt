-- Steps whose priorities come too late.
use Rattle.std.proofs.Common.{◌≡◌, Option, inr, subst}
use Rattle.step_queue.specs.declared.candidate.Candidate.{Candidate}
use Rattle.plan_laws.specs.Cover.{Priority}
use Rattle.step_laws.specs.declared.step.Step.{Step}
use Rattle.next_step.specs.Late.{IsLate}
use Rattle.next_step.specs.Looking.{FoundParts, ReachesLast}
use Rattle.next_step.specs.Viewed.{CoversIn}
use Rattle.next_step.specs.declared.view.View.{View}

-- a step that does not come before the first of the others is covered
pub late_covers : (v : View) (found : FoundParts) (k : Step) → IsLate v.source.now v.indexed.now found k → CoversIn v found k
late_covers v found k late e n is saves some looked later = inr (late e n is saves)

-- what is reached by the others is reached by those that were found
pub found_late : (others : Option Candidate) (found : FoundParts) → others ≡ found.others → (t : Priority) → ReachesLast others t → ReachesLast found.others t
found_late others found same t reached = subst (λ (o : Option Candidate). ReachesLast o t) same reached
