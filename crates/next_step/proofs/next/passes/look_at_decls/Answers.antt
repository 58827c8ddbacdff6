use Rattle.std.proofs.Common.{◌+◌, ◌≤◌, List, length, map, ap, sym, subst, ◌∙◌}
use Rattle.css_model.specs.declared.sheet.DeclItem.{DeclItem}
use Rattle.css_model.specs.Sheets.Limits.{max_bytes}
use Rattle.css_model.specs.Sheets.Printed.{printed_declaration}
use Rattle.css_model.specs.Sheets.RuleParts.{RuleParts}
use Rattle.step_laws.specs.Sizes.{weight}
use Rattle.next_step.proofs.Sharing.{weighable}
use Rattle.rule_tables.specs.SharedKeys.{IsShared}
use Rattle.next_step.specs.Kinds.{IsByDecls}
use Rattle.next_step.proofs.ByOrderKeys.{decls_two, order_key_by_decl, none_by_decls, own_by_order_key, pass_covers}
use Rattle.next_step.proofs.InCommon.{tells_common}
use Rattle.next_step.proofs.next.passes.look_at_decls.Goals as goal

pub returns-then-is_known_alone-clause-covers : goal.returns-then-is_known_alone-clause-covers
returns-then-is_known_alone-clause-covers c = none_by_decls c.args.view.now c.requires.view c.args.focus.now c.requires.focus c.args.found.now c.marks-marks.ensures.as_many (c.is_known_alone.ensures c.if-is_known_alone.true)

pub decl_weights-requires-clause-small : goal.decl_weights-requires-clause-small
decl_weights-requires-clause-small c =
    subst (λ (ds : List DeclItem). weight (printed_declaration c.args.view.now.source.now) ds ≤ max_bytes) (sym (c.deref.ensures.value ∙ ap (λ (r : RuleParts). r.decls) c.rule.view_is))
    (weighable c.args.view.now.source.now c.args.view.now.indexed.now.items c.args.focus.now.number c.args.focus.now.rule.now c.requires.view.plannable c.requires.focus.rule).small_decls

pub returns-then-has_no_other-clause-alone : goal.returns-then-has_no_other-clause-alone
returns-then-has_no_other-clause-alone c = λ known.
    own_by_order_key c.args.view.now c.requires.view c.args.focus.now c.requires.focus c.marks-marks.ensures.are_marks c.marks-marks.ensures.as_many c.rules_are_order_keyed.ensures (IsShared c.in_ok-order_keys.order_keys)
    c.in_ok-order_keys.ensures.all (c.has_no_other.ensures c.if-has_no_other.true)

pub returns-then-has_no_other-clause-covers : goal.returns-then-has_no_other-clause-covers
returns-then-has_no_other-clause-covers c =
    none_by_decls c.args.view.now c.requires.view c.args.focus.now c.requires.focus c.args.found.now c.marks-marks.ensures.as_many
    (own_by_order_key c.args.view.now c.requires.view c.args.focus.now c.requires.focus c.marks-marks.ensures.are_marks c.marks-marks.ensures.as_many c.rules_are_order_keyed.ensures (IsShared c.in_ok-order_keys.order_keys)
    c.in_ok-order_keys.ensures.all (c.has_no_other.ensures c.if-has_no_other.true))

pub try_decl_partners-requires-clause-common : goal.try_decl_partners-requires-clause-common
try_decl_partners-requires-clause-common c =
    tells_common c.args.view.now c.requires.view c.args.focus.now c.requires.focus c.marks-marks.ensures.as_many c.rules_are_order_keyed.ensures c.in_ok-order_keys.order_keys c.deref-2.result.now
    (c.deref-2.ensures.value ∙ c.in_ok-weights.ensures ∙ ap (map (λ (d : DeclItem). length (printed_declaration c.args.view.now.source.now d) + 1)) (c.deref.ensures.value ∙ ap (λ (r : RuleParts). r.decls) c.rule.view_is))
    c.in_ok-order_keys.ensures.count c.in_ok-order_keys.ensures.weight

pub returns-clause-covers : goal.returns-clause-covers
returns-clause-covers c =
    pass_covers c.args.view.now c.args.focus.now c.requires.focus c.marks-marks.ensures.as_many c.try_decl_partners.new.found IsByDecls decls_two (IsShared c.in_ok-order_keys.order_keys)
    c.in_ok-try_decl_partners.ensures.covers
    (order_key_by_decl c.args.view.now c.requires.view c.args.focus.now c.requires.focus c.marks-marks.ensures.are_marks c.marks-marks.ensures.as_many c.rules_are_order_keyed.ensures (IsShared c.in_ok-order_keys.order_keys) c.in_ok-order_keys.ensures.all)
