use Rattle.std.proofs.Common.{◌≡◌, List, Some, subst}
use Rattle.std.specs.Prelude.{slice_get}
use Rattle.css_model.specs.declared.sheet.Item.{Item}
use Rattle.css_model.specs.declared.sheet.Item.TheVariants.{Rule}
use Rattle.next_step.proofs.RulesApart.{apart_there}
use Rattle.next_step.proofs.apart.are_apart.Goals as goal

pub are_apart_by_tables-requires-clause-rule : goal.are_apart_by_tables-requires-clause-rule
are_apart_by_tables-requires-clause-rule c = subst (λ (xs : List Item). slice_get xs c.args.other ≡ Some (Rule c.in-Some.rule.now)) c.items.ensures c.in-Some.ensures.some

pub returns-in-Some : goal.returns-in-Some
returns-in-Some c = λ known.
    let at : slice_get c.args.view.now.indexed.now.items c.args.other ≡ Some (Rule c.in-Some.rule.now) = subst (λ (xs : List Item). slice_get xs c.args.other ≡ Some (Rule c.in-Some.rule.now)) c.items.ensures c.in-Some.ensures.some in
    apart_there c.args.view.now.indexed.now.items c.args.focus.now.number c.args.other c.args.focus.now.rule.now c.in-Some.rule.now c.requires.focus.rule at (c.are_apart_by_tables.ensures known)
