use Rattle.std.proofs.Common.{◌≡◌, ap, ◌∙◌, subst}
use Rattle.css_model.specs.declared.sheet.DeclItem.{DeclItem}
use Rattle.css_model.specs.Sheets.RuleParts.{RuleParts}
use Rattle.rule_tables.specs.Digests.{decl_digest}
use Rattle.rule_tables.specs.Tables.{decl_digests}
use Rattle.rule_tables.proofs.ForCallers.{some_then}
use Rattle.next_step.specs.Once.{StandOnce}
use Rattle.next_step.proofs.Repeats.{by_digests, by_once}
use Rattle.next_step.proofs.cuts.doubles.repeated_decls.Goals as goal

pub returns-then-len-lt-FEW : goal.returns-then-len-lt-FEW
returns-then-len-lt-FEW c =
    some_then c.of_few.result.digests _ _ (λ set different. by_once (λ (x : DeclItem). x.decl) decl_digest c.args.rule.now.decls set
    (subst (StandOnce (λ (x : DeclItem). x.decl)) (c.deref.ensures.value ∙ ap (λ (r : RuleParts). r.decls) c.rule.view_is) (c.are_decls_different.ensures.0 different))) c.of_few.ensures

pub returns : goal.returns
returns c =
    let are : c.in_ok-digests.digests.items ≡ decl_digests c.args.rule.now.decls = c.in_ok-digests.ensures ∙ ap decl_digests (c.deref-2.ensures.value ∙ ap (λ (r : RuleParts). r.decls) c.rule.view_is) in
    by_digests (λ (x : DeclItem). x.decl) decl_digest c.args.rule.now.decls c.in_ok-digests.digests.items c.in_ok-set.set are c.in_ok-set.ensures
