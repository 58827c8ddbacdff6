use Rattle.std.proofs.Common.{[], ap, arith, length, ◌∷◌}
use Rattle.std.proofs.lemmas.List.{length-append}
use Rattle.element_laws.specs.Ids.{ids_of_pair}
use Rattle.example_doc.proofs.Choices.{chosen_more}
use Rattle.example_doc.proofs.elements.elements.Goals as goal

pub loop-slot-preserved : goal.loop-slot-preserved
loop-slot-preserved c =
    let gets = c.in_ok-push_element.ensures in
    let before = c.loop-slot.invariant.1 in
    let longer = ap length gets.added in
    let added = length-append c.loop-slot.elements.items (gets.element ∷ []) in (
      chosen_more c.args.plan.now.left c.args.plan.now.right c.args.shape.now 0 c.loop-slot.slot (ids_of_pair c.args.plan.now.left c.args.plan.now.right) c.loop-slot.elements.items c.push_element.new.elements.items
          c.loop-slot.taken.items c.push_element.new.taken.items (omega arith) c.loop-slot.invariant.0 gets,
      omega arith,
    )
