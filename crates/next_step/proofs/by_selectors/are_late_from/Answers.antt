use Rattle.std.proofs.Common.{◌≤◌, Option, ap, arith, subst}
use Rattle.std.proofs.lemmas.Bool.{leb-true}
use Rattle.step_kinds.specs.declared.kind.Kind.TheVariants.{SelJoinUp}
use Rattle.step_queue.specs.declared.candidate.Candidate.{Candidate}
use Rattle.next_step.specs.LaterOrderKeys.{AreLateFrom}
use Rattle.next_step.specs.Looking.{FoundParts}
use Rattle.next_step.proofs.by_selectors.are_late_from.Goals as goal

pub returns-in-Some : goal.returns-in-Some
returns-in-Some c = λ known.
    let fits : c.args.heaviest.selectors ≤ c.in-Some.most = leb-true c.args.heaviest.selectors c.in-Some.most known in
    subst (λ (o : Option Candidate). AreLateFrom o SelJoinUp c.args.at c.args.order_key c.args.heaviest.selectors) (ap (λ (f : FoundParts). f.others) c.found.view_is)
    (λ n later k few least side from. c.in-Some.ensures n later k (omega (arith, few, fits)) least side from)
