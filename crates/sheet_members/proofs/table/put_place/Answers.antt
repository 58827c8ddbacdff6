use Rattle.std.proofs.Common.{cond, is_some, Some, sym, ap, ◌∙◌}
use Rattle.std.specs.HashMap.{get}
use Rattle.sheet_members.specs.Labels.{Label, same_label}
use Rattle.sheet_members.specs.Members.{Member}
use Rattle.sheet_members.proofs.Placing.{places_with, places_with_old}
use Rattle.sheet_members.proofs.table.put_place.Goals as goal

pub returns-in_ok-insert : goal.returns-in_ok-insert
returns-in_ok-insert c = λ before at are.
    let old = get same_label c.args.firsts.now in
    let label = ap (λ (m : Member). m.label) c.m.view_is in
    places_with before old (get same_label c.insert.new.self) c.args.m.now c.args.place at are
    (ap (λ (l : Label). is_some (old l)) (sym label) ∙ sym c.contains_key.ensures ∙ c.if-not-contains_key.true)
    (λ q. c.in_ok-insert.ensures.updates.0 q ∙ ap (λ (l : Label). cond (same_label l q) (Some c.args.place) (old q)) (c.copy.ensures ∙ label))

pub returns-else-not-contains_key : goal.returns-else-not-contains_key
returns-else-not-contains_key c = λ before at are.
    places_with_old before (get same_label c.args.firsts.now) c.args.m.now are
    (ap (λ (l : Label). is_some (get same_label c.args.firsts.now l)) (sym (ap (λ (m : Member). m.label) c.m.view_is)) ∙ sym c.contains_key.ensures ∙ c.if-not-contains_key.false)
