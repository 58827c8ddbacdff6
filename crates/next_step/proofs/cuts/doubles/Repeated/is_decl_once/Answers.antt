use Rattle.std.proofs.Common.{ap, get_or, subst, ◌∙◌}
use Rattle.std.proofs.lemmas.Option.{get_or_from_slice_get}
use Rattle.css_model.specs.Sheets.RuleParts.{RuleParts}
use Rattle.css_model.specs.declared.sheet.DeclItem.{DeclItem}
use Rattle.rule_tables.specs.Digests.{decl_digest}
use Rattle.next_step.specs.Repeated.{Lacks}
use Rattle.next_step.proofs.Repeats.{lacked_once}
use Rattle.next_step.proofs.cuts.doubles.Repeated.is_decl_once.Goals as goal

pub returns-then-are_none : goal.returns-then-are_none
returns-then-are_none c = λ known x at.
    lacked_once (λ (y : DeclItem). y.decl) decl_digest c.args.rule.now.decls c.args.self.now.digests c.requires.repeated c.args.number x at (c.are_none.ensures c.if-are_none.true (decl_digest x.decl))

pub returns : goal.returns
returns c = λ known x at.
    lacked_once (λ (y : DeclItem). y.decl) decl_digest c.args.rule.now.decls c.args.self.now.digests c.requires.repeated c.args.number x at
    (subst (Lacks c.args.self.now) (c.decl_digest.ensures ∙ ap (λ (y : DeclItem). decl_digest y.decl)
    (c.index.ensures ∙ ap (λ (r : RuleParts). get_or r.decls c.args.number c.index.result.now) c.rule.view_is ∙ get_or_from_slice_get c.args.rule.now.decls c.args.number x c.index.result.now at)) (c.lacks.ensures known))
