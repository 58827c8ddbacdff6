use Rattle.std.proofs.Common.{ℕ, sym, ◌∙◌, subst, List}
use Rattle.std.specs.List.{Contains}
use Rattle.css_model.specs.declared.sheet.DeclItem.{DeclItem}
use Rattle.css_model.specs.declared.sheet.SelItem.{SelItem}
use Rattle.planner_state.proofs.Members.{made_among}
use Rattle.rule_tables.specs.Digests.{selector_digest, decl_digest}
use Rattle.planner_state.proofs.reactivating.reactivate_parts.Goals as goal

pub returns-clause-active : goal.returns-clause-active
returns-clause-active c = λ s d in_s in_d. c.in_ok-reactivate_pairs.ensures.active (selector_digest s) (decl_digest d)
    (subst (λ (xs : List ℕ). Contains xs (selector_digest s)) (sym (c.deref.ensures.value ∙ c.in_ok-selectors.ensures)) (made_among (λ (x : SelItem). x.selector) selector_digest c.args.selectors.now s in_s))
    (subst (λ (xs : List ℕ). Contains xs (decl_digest d)) (sym (c.deref-2.ensures.value ∙ c.in_ok-decls.ensures)) (made_among (λ (x : DeclItem). x.decl) decl_digest c.args.decls.now d in_d))
