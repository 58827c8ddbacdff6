use Rattle.std.proofs.Common.{◌≡◌, true, ap, rules}
use Rattle.std.proofs.lemmas.Bool.{leb-true}
use Rattle.next_step.specs.Looking.{FoundParts}
use Rattle.next_step.proofs.Later.{found_late}
use Rattle.next_step.proofs.LightRules.{light_late}
use Rattle.next_step.proofs.too_late.by_weights.is_light.Goals as goal
use Rattle.plan_laws.specs.Barrier.Hindering.{priority_of}

pub returns-in-Some : goal.returns-in-Some
returns-in-Some c = λ known.
    let once : c.weight_at-below.result.once ≡ true = search rules in
    light_late c.args.view.now.source.now c.args.view.now.indexed.now c.args.found.now c.args.partners.now.upper c.args.partners.now.lower c.weight_at-above.result c.weight_at-below.result c.first_by_decls-kind.result.0 c.first_by_decls-kind.result.1 c.with_common-most.result c.in-Some.limit
    c.requires.view.plannable.sound c.weight_at-above.ensures c.weight_at-below.ensures once c.first_by_decls-kind.ensures c.with_common-most.ensures (leb-true c.with_common-most.result c.in-Some.limit known)
    c.order_key_of.result c.order_key_of-2.result c.order_key_of.ensures c.order_key_of-2.ensures
    (λ n j few from. found_late c.found.inside.others c.args.found.now (ap (λ (f : FoundParts). f.others) c.found.view_is) (priority_of n j) (c.in-Some.ensures n j few from))
