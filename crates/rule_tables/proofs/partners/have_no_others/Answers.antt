use Rattle.std.proofs.Common.{◌≡◌, inl, inr, ℕ}
use Rattle.std.proofs.lemmas.List.{nil_from_length}
use Rattle.css_model.specs.declared.sheet.SelItem.{SelItem}
use Rattle.rule_tables.specs.Digests.{selector_digest}
use Rattle.rule_tables.proofs.Sharing.{IsUnder, all_done, digest_done, is_under_as, only_own}
use Rattle.rule_tables.proofs.partners.have_no_others.Goals as goal

pub rest-preserved : goal.rest-preserved
rest-preserved c =
    let under : IsUnder c.args.entries.now (selector_digest c.in-Some.first.now.selector) c.under.result.now = is_under_as c.args.entries.now c.under.result.now c.selector_digest.ensures c.under.ensures.same in
    λ order_key h. elim (c.rest.invariant order_key h) [
      | inl own ↦ inl own
      | inr k ↦ digest_done (λ (s : SelItem). selector_digest s.selector) c.args.entries.now (λ (n : ℕ). n ≡ c.args.own) c.rest.rest.now c.in-Some.behind.now c.in-Some.first.now c.in-Some.ensures.cases.0
          (λ m there. only_own c.under.result.now c.args.own (c.has_no_other.ensures.0 c.if-not-has_no_other.false) m ((under m).1 there)) order_key k
    ]

pub returns : goal.returns
returns c = λ _ order_key h.
    all_done (λ (s : SelItem). selector_digest s.selector) c.args.entries.now (λ (n : ℕ). n ≡ c.args.own) c.rest.rest.now (nil_from_length c.rest.rest.now c.in_default.ensures.cases) order_key (c.rest.invariant order_key h)
