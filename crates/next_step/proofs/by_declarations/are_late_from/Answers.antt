use Rattle.std.proofs.Common.{Option, ap, arith, subst}
use Rattle.step_kinds.specs.declared.kind.Kind.TheVariants.{DeclJoinUp}
use Rattle.step_queue.specs.declared.candidate.Candidate.{Candidate}
use Rattle.next_step.specs.LaterOrderKeys.{AreLateFrom}
use Rattle.next_step.specs.Looking.{FoundParts}
use Rattle.next_step.proofs.by_declarations.are_late_from.Goals as goal

pub returns-clause-late : goal.returns-clause-late
returns-clause-late c = λ known. (
  c.in-Some.most,
  c.in-Some.is,
  subst (λ (o : Option Candidate). AreLateFrom o DeclJoinUp c.args.at c.args.order_key c.in-Some.most) (ap (λ (f : FoundParts). f.others) c.found.view_is)
      (λ n later k few least side from. c.in-Some-most_beside.ensures n later k (omega (arith, few, c.if-limit-most.false)) least side from),
)
