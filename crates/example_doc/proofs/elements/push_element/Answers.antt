use Rattle.std.proofs.lemmas.Result.{on_ok_weaker}
use Rattle.example_doc.proofs.Choices.{gets_from}
use Rattle.example_doc.proofs.elements.push_element.Goals as goal
use Rattle.slot_plan.specs.Steps.{is_parent}
use Rattle.slot_plan.specs.ValidShape.{simples_at}

pub returns : goal.returns
returns c =
    on_ok_weaker c.push_chosen.result
    (gets_from (is_parent c.args.shape.now.steps c.args.slot) (simples_at c.args.plan.now.left.chain c.args.shape.now.left c.args.slot) (simples_at c.args.plan.now.right.chain c.args.shape.now.right c.args.slot)
    c.left_in-left.result.now c.right_in-right.result.now c.fit_in-fit.result.now c.has_text-text.result c.args.elements.now.items c.push_chosen.new.elements.items c.args.taken.now.items c.push_chosen.new.taken.items
    c.left_in-left.ensures c.right_in-right.ensures c.fit_in-fit.ensures c.has_text-text.ensures)
    c.push_chosen.ensures
