use Rattle.std.proofs.Common.{subst}
use Rattle.css_model.specs.declared.sheet.DeclItem.{DeclItem}
use Rattle.css_model.specs.declared.sheet.SelItem.{SelItem}
use Rattle.css_model.specs.Sheets.RuleParts.{RuleParts}
use Rattle.rule_tables.specs.Digests.{decl_digest, selector_digest}
use Rattle.next_step.specs.Once.{StandOnce}
use Rattle.next_step.proofs.Repeats.{none_once}
use Rattle.next_step.proofs.Rules.{one_rule}
use Rattle.next_step.proofs.cuts.look_at_cuts.Goals as goal

pub returns-clause-once : goal.returns-clause-once
returns-clause-once c = λ known r at.
    subst (λ (q : RuleParts). StandOnce (λ (x : DeclItem). x.decl) q.decls) (one_rule c.args.view.now.indexed.now.items c.args.focus.now.number c.args.focus.now.rule.now r c.requires.focus.rule at)
    (none_once (λ (x : DeclItem). x.decl) decl_digest c.args.focus.now.rule.now.decls c.in_ok-decls.decls.digests c.in_ok-decls.ensures (c.are_none.ensures known))

pub returns-clause-selectors_once : goal.returns-clause-selectors_once
returns-clause-selectors_once c = λ known r at.
    subst (λ (q : RuleParts). StandOnce (λ (x : SelItem). x.selector) q.selectors) (one_rule c.args.view.now.indexed.now.items c.args.focus.now.number c.args.focus.now.rule.now r c.requires.focus.rule at)
    (none_once (λ (x : SelItem). x.selector) selector_digest c.args.focus.now.rule.now.selectors c.in_ok-selectors.selectors.digests c.in_ok-selectors.ensures (c.are_none-2.ensures known))
