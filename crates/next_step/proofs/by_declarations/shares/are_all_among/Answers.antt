use Rattle.std.proofs.Common.{◌≡◌, ◌↔◌, Bool, true, List, ap, ap₂, subst, sym, ◌∙◌}
use Rattle.std.specs.List.{list_all}
use Rattle.css_model.specs.declared.sheet.DeclItem.{DeclItem}
use Rattle.css_model.specs.Sheets.RuleParts.{RuleParts}
use Rattle.order_laws.specs.Members.{has_decl}
use Rattle.step_laws.specs.Steps.{AreDeclsAmong}
use Rattle.next_step.proofs.Sharing.{among_all}
use Rattle.next_step.proofs.by_declarations.shares.are_all_among.Goals as goal

pub returns : goal.returns
returns c =
    let ours : c.deref.result.now ≡ c.args.rule.now.decls = c.deref.ensures.value ∙ ap (λ (r : RuleParts). r.decls) c.rule.view_is in
    let others : c.deref-2.result.now ≡ c.args.theirs.now.decls = c.deref-2.ensures.value ∙ ap (λ (r : RuleParts). r.decls) c.theirs.view_is in
    let is : c.are_decls_among.result ≡ list_all (λ d. has_decl c.args.theirs.now.decls d.decl) c.args.rule.now.decls =
    c.are_decls_among.ensures ∙ ap₂ (λ (os ds : List DeclItem). list_all (λ d. has_decl os d.decl) ds) others ours in
    subst (λ (b : Bool). (b ≡ true) ↔ AreDeclsAmong c.args.rule.now c.args.theirs.now) (sym is) (among_all c.args.rule.now c.args.theirs.now)
