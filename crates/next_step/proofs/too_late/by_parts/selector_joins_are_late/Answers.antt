use Rattle.std.proofs.Common.{ap, inl, inr, refl}
use Rattle.std.specs.Prelude.{slice_index}
use Rattle.indexed_sheet.specs.MarkList.{order_keys_of}
use Rattle.step_laws.specs.declared.step.Step.TheVariants.{JoinSelDown, JoinSelUp}
use Rattle.next_step.specs.Looking.{FoundParts}
use Rattle.next_step.proofs.Later.{found_late}
use Rattle.next_step.proofs.Weights.{selectors_down, selectors_up}
use Rattle.plan_laws.specs.Barrier.Hindering.{priority_of}
use Rattle.next_step.proofs.too_late.by_parts.selector_joins_are_late.Goals as goal

pub returns-then-selectors_fit-clause-up : goal.returns-then-selectors_fit-clause-up
returns-then-selectors_fit-clause-up c = λ known e n is saves.
    found_late c.found.inside.others c.args.found.now (ap (λ (f : FoundParts). f.others) c.found.view_is)
    (priority_of n (JoinSelUp (slice_index (order_keys_of c.args.view.now.indexed.now.marks) c.args.partners.now.upper) (slice_index (order_keys_of c.args.view.now.indexed.now.marks) c.args.partners.now.lower)))
    (c.in-Some.ensures n (JoinSelUp (slice_index (order_keys_of c.args.view.now.indexed.now.marks) c.args.partners.now.upper) (slice_index (order_keys_of c.args.view.now.indexed.now.marks) c.args.partners.now.lower))
    (selectors_up c.args.view.now.source.now c.args.view.now.indexed.now.items c.requires.view.plannable.sound c.args.partners.now.upper c.args.partners.now.lower e n saves c.in-Some.most (c.selectors_fit-then-selectors_fit.ensures known) is) (inl refl))

pub returns-then-selectors_fit-clause-down : goal.returns-then-selectors_fit-clause-down
returns-then-selectors_fit-clause-down c = λ known e n is saves.
    found_late c.found.inside.others c.args.found.now (ap (λ (f : FoundParts). f.others) c.found.view_is)
    (priority_of n (JoinSelDown (slice_index (order_keys_of c.args.view.now.indexed.now.marks) c.args.partners.now.upper) (slice_index (order_keys_of c.args.view.now.indexed.now.marks) c.args.partners.now.lower)))
    (c.in-Some.ensures n (JoinSelDown (slice_index (order_keys_of c.args.view.now.indexed.now.marks) c.args.partners.now.upper) (slice_index (order_keys_of c.args.view.now.indexed.now.marks) c.args.partners.now.lower))
    (selectors_down c.args.view.now.source.now c.args.view.now.indexed.now.items c.requires.view.plannable.sound c.args.partners.now.upper c.args.partners.now.lower e n saves c.in-Some.most (c.selectors_fit.ensures c.if-selectors_fit.true) is) (inr refl))
