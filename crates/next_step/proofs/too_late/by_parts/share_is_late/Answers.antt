use Rattle.std.proofs.Common.{◌≡◌, ap, inl, refl, rules, true}
use Rattle.std.specs.Prelude.{slice_index}
use Rattle.indexed_sheet.specs.MarkList.{order_keys_of}
use Rattle.step_laws.specs.declared.step.Step.TheVariants.{Share}
use Rattle.next_step.specs.Looking.{FoundParts}
use Rattle.next_step.proofs.DeclWeights.{share_once_most}
use Rattle.next_step.proofs.Later.{found_late}
use Rattle.plan_laws.specs.Barrier.Hindering.{priority_of}
use Rattle.next_step.proofs.too_late.by_parts.share_is_late.Goals as goal

pub returns : goal.returns
returns c = λ known e n is saves.
    let once : c.args.partners.now.lower_once ≡ true = search rules in
    found_late c.found.inside.others c.args.found.now (ap (λ (f : FoundParts). f.others) c.found.view_is)
    (priority_of n (Share (slice_index (order_keys_of c.args.view.now.indexed.now.marks) c.args.partners.now.upper) (slice_index (order_keys_of c.args.view.now.indexed.now.marks) c.args.partners.now.lower)))
    (c.in-Some.ensures n (Share (slice_index (order_keys_of c.args.view.now.indexed.now.marks) c.args.partners.now.upper) (slice_index (order_keys_of c.args.view.now.indexed.now.marks) c.args.partners.now.lower))
    (share_once_most c.args.view.now.source.now c.args.view.now.indexed.now.items c.requires.view.plannable.sound c.args.partners.now.upper c.args.partners.now.lower c.in-Some-without_common.left c.in-Some.most e n saves
    (c.requires.partners.once once) (c.decls_fit.ensures known) c.in-Some-without_common.ensures is) (inl refl))
