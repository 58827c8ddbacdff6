use Rattle.std.proofs.Common.{ap, arith, inl, refl}
use Rattle.std.specs.Prelude.{slice_index}
use Rattle.std.proofs.lemmas.Bool.{leb-true}
use Rattle.indexed_sheet.specs.MarkList.{order_keys_of}
use Rattle.plan_laws.specs.Barrier.Hindering.{priority_of}
use Rattle.step_laws.specs.declared.step.Step.TheVariants.{Share}
use Rattle.next_step.specs.Looking.{FoundParts}
use Rattle.next_step.proofs.Later.{found_late}
use Rattle.next_step.proofs.too_late.by_common.is_share_late.Goals as goal

pub returns-then-most-eq0 : goal.returns-then-most-eq0
returns-then-most-eq0 c = λ known n some few. absurd (omega (arith, some, few, c.if-most-eq0.true))

pub returns-in-Some : goal.returns-in-Some
returns-in-Some c = λ known n some few.
    found_late c.found.inside.others c.args.found.now (ap (λ (f : FoundParts). f.others) c.found.view_is)
    (priority_of n (Share (slice_index (order_keys_of c.args.view.now.indexed.now.marks) c.args.partners.now.upper) (slice_index (order_keys_of c.args.view.now.indexed.now.marks) c.args.partners.now.lower)))
    (c.in-Some.ensures n (Share (slice_index (order_keys_of c.args.view.now.indexed.now.marks) c.args.partners.now.upper) (slice_index (order_keys_of c.args.view.now.indexed.now.marks) c.args.partners.now.lower))
    (omega (arith, few, leb-true c.args.most c.in-Some.limit known)) (inl refl))
