use Rattle.std.proofs.Common.{◌≢◌, inl, inr, ℕ, refl, subst, sym, true, ◌∙◌}
use Rattle.std.proofs.lemmas.Bool.{false≢true}
use Rattle.std.proofs.lemmas.List.{nil_from_length}
use Rattle.std.specs.List.{Contains}
use Rattle.css_model.specs.declared.sheet.SelItem.{SelItem}
use Rattle.rule_tables.proofs.Sharing.{IsUnder, all_done, digest_done, is_under_as}
use Rattle.rule_tables.proofs.partners.is_under_none.Goals as goal
use Rattle.rule_tables.specs.Digests.{selector_digest}

pub rest-init : goal.rest-init
rest-init c = λ h. h

pub rest-preserved : goal.rest-preserved
rest-preserved c =
    let under : IsUnder c.args.entries.now (selector_digest c.in-Some.first.now.selector) c.under.result.now = is_under_as c.args.entries.now c.under.result.now c.selector_digest.ensures c.under.ensures.same in
    let lacks : Contains c.under.result.now c.args.order_key → ⊥ = λ h. false≢true (sym c.if-has_order_key.false ∙ c.has_order_key.ensures.1 h) in
    λ h. elim (digest_done (λ (s : SelItem). selector_digest s.selector) c.args.entries.now (λ (n : ℕ). n ≢ c.args.order_key) c.rest.rest.now c.in-Some.behind.now c.in-Some.first.now c.in-Some.ensures.cases.0
    (λ m there same. lacks (subst (Contains c.under.result.now) same ((under m).1 there))) c.args.order_key (c.rest.invariant h)) [
      | inl other ↦ absurd (other refl)
      | inr rest ↦ rest
    ]

pub returns : goal.returns
returns c = λ _ h.
    all_done (λ (s : SelItem). selector_digest s.selector) c.args.entries.now (λ (n : ℕ). ⊥) c.rest.rest.now (nil_from_length c.rest.rest.now c.in_default.ensures.cases) c.args.order_key (inr (c.rest.invariant h))
