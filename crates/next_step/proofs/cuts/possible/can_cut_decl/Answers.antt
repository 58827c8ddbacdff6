use Rattle.std.proofs.Common.{◌≡◌, List, Some, subst}
use Rattle.std.specs.Prelude.{slice_get}
use Rattle.css_model.specs.declared.sheet.Item.{Item}
use Rattle.css_model.specs.declared.sheet.Item.TheVariants.{Rule}
use Rattle.indexed_sheet.specs.MarkList.{order_keys_of}
use Rattle.next_step.proofs.Telling.{there_of, told}
use Rattle.next_step.proofs.cuts.possible.can_cut_decl.Goals as goal

pub can_lose_decl-requires-clause-once : goal.can_lose_decl-requires-clause-once
can_lose_decl-requires-clause-once c = λ once.
    c.requires.once once c.in-Some.rule.now (subst (λ (xs : List Item). slice_get xs c.args.number ≡ Some (Rule c.in-Some.rule.now)) c.items.ensures c.in-Some.ensures.some)

pub returns : goal.returns
returns c =
    let at : slice_get c.args.indexed.now.items c.args.number ≡ Some (Rule c.in-Some.rule.now) =
    subst (λ (xs : List Item). slice_get xs c.args.number ≡ Some (Rule c.in-Some.rule.now)) c.items.ensures c.in-Some.ensures.some in
    let law = c.decl_cuts_are_told.ensures c.args.indexed.now.items (order_keys_of c.args.indexed.now.marks) c.args.number c.mark-own.result.order_key c.args.decl c.in-Some.rule.now
    (told c.args.indexed.now.items c.args.indexed.now.marks c.args.indexed.now.next c.marks-marks.ensures.are_marks c.marks-marks.ensures.as_many) at
    (there_of (λ x. x.order_key) c.args.indexed.now.marks c.args.number c.mark-own.result c.mark-own.ensures) in
    (λ yes. law.1 (c.can_lose_decl.ensures.0 yes), λ has. c.can_lose_decl.ensures.1 (law.0 has))
