-- The rules of a step can be partners.
use Rattle.std.proofs.Common.{◌≡◌, ℕ, zero, suc, ◌<◌, List, [], ◌∷◌, Option, Some, length, sym, subst, arith}
use Rattle.std.specs.Prelude.{slice_get}
use Rattle.std.specs.List.{Contains}
use Rattle.css_model.specs.declared.sheet.Decl.{Decl}
use Rattle.css_model.specs.declared.sheet.DeclItem.{DeclItem}
use Rattle.css_model.specs.declared.sheet.Item.{Item}
use Rattle.css_model.specs.declared.sheet.Item.TheVariants.{Rule, KeptRule, KeptBlock}
use Rattle.css_model.specs.declared.sheet.SelItem.{SelItem}
use Rattle.css_model.specs.Sheets.RuleParts.{RuleParts}
use Rattle.css_model.specs.Sheets.StyleRule.{HaveSameSelectors, selectors_of}
use Rattle.list_facts.proofs.Members.{Contains-here, Contains-there}
use Rattle.order_laws.specs.Edits.{Edit}
use Rattle.rule_tables.specs.StepPartners.{HasParts, RulesAreOrderKeyed, StepsHavePartners}
use Rattle.rule_tables.specs.Tables.{CanBePartners, OrderKeyed, by_selectors, by_decl, order_keyed, with_order_key}
use Rattle.rule_tables.proofs.EntrySets.{mapped}
use Rattle.step_laws.specs.declared.step.Step.TheVariants.{CutDecl, CutSel, JoinSelUp, JoinSelDown, JoinDeclUp, JoinDeclDown, Share}
use Rattle.step_laws.specs.Steps.{HaveSameDecls, IsJoin, MayShare, decls_of}

some_of : {X : Type 0} (xs : List X) → 0 < length xs → (x : X) × Contains xs x
some_of [] h = absurd (omega arith)
some_of (x ∷ xs) h = (x, Contains-here x xs)

abbrev Both : RuleParts → RuleParts → Type 0
Both upper lower = CanBePartners upper lower × CanBePartners lower upper

by_same_selectors : (upper lower : RuleParts) → HasParts upper → HaveSameSelectors upper lower → Both upper lower
by_same_selectors upper lower has same =
    let s : (i : SelItem) × Contains upper.selectors i = some_of upper.selectors has.0 in
    let h : Contains (selectors_of upper) s.0.selector = mapped (λ (i : SelItem). i.selector) upper.selectors s.0 s.1 in
    (by_selectors s.0.selector h same, by_selectors s.0.selector ((same s.0.selector).0 h) (λ t. ((same t).1, (same t).0)))

by_same_decls : (upper lower : RuleParts) → HasParts upper → HaveSameDecls upper lower → Both upper lower
by_same_decls upper lower has same =
    let d : (i : DeclItem) × Contains upper.decls i = some_of upper.decls has.1 in
    let h : Contains (decls_of upper) d.0.decl = mapped (λ (i : DeclItem). i.decl) upper.decls d.0 d.1 in
    let k : Contains (decls_of lower) d.0.decl = subst (λ (ds : List Decl). Contains ds d.0.decl) same h in
    (by_decl d.0.decl h k, by_decl d.0.decl k h)

by_common : (items : List Item) (upper lower : RuleParts) → MayShare items upper lower → Both upper lower
by_common items upper lower may =
    let (d, above, below) = may.common in
    (by_decl d above below, by_decl d below above)

same_rule : (o : Option Item) (a b : RuleParts) → o ≡ Some (Rule a) → o ≡ Some (Rule b) → a ≡ b
same_rule o a b e f = cc

module _ (items : List Item) (x y : ℕ) (upper lower : RuleParts) (upper_at : slice_get items x ≡ Some (Rule upper)) (lower_at : slice_get items y ≡ Some (Rule lower)) where
  of_join : (May : RuleParts → RuleParts → Type 0) (edit : RuleParts → RuleParts → Edit) (e : Edit) → (May upper lower → Both upper lower) → IsJoin items x y May edit e → Both upper lower
  of_join May edit e both is =
      both (subst (λ (r : RuleParts). May r lower) (same_rule (slice_get items x) is.upper upper is.rules.upper_at upper_at)
      (subst (λ (r : RuleParts). May is.upper r) (same_rule (slice_get items y) is.lower lower is.rules.lower_at lower_at) is.may))

pub steps_have_partners : StepsHavePartners
steps_have_partners items (CutDecl n i) e upper lower is order upper_at lower_at has = absurd (omega arith)
steps_have_partners items (CutSel n i) e upper lower is order upper_at lower_at has = absurd (omega arith)
steps_have_partners items (JoinSelUp x y) e upper lower is order upper_at lower_at has = of_join items x y upper lower upper_at lower_at _ _ e (by_same_selectors upper lower has) is
steps_have_partners items (JoinSelDown x y) e upper lower is order upper_at lower_at has = of_join items x y upper lower upper_at lower_at _ _ e (by_same_selectors upper lower has) is
steps_have_partners items (JoinDeclUp x y) e upper lower is order upper_at lower_at has = of_join items x y upper lower upper_at lower_at _ _ e (by_same_decls upper lower has) is
steps_have_partners items (JoinDeclDown x y) e upper lower is order upper_at lower_at has = of_join items x y upper lower upper_at lower_at _ _ e (by_same_decls upper lower has) is
steps_have_partners items (Share x y) e upper lower is order upper_at lower_at has = of_join items x y upper lower upper_at lower_at _ _ e (by_common items upper lower) is

further : (x : Item) (m : ℕ) (items : List Item) (order_keys : List ℕ) (y : OrderKeyed) → Contains (order_keyed items order_keys) y → Contains (order_keyed (x ∷ items) (m ∷ order_keys)) y
further (Rule q) m items order_keys y h = Contains-there (with_order_key q m) (order_keyed items order_keys) y h
further (KeptRule k) m items order_keys y h = h
further (KeptBlock piece) m items order_keys y h = h

at_first : (x : Item) (m : ℕ) (items : List Item) (order_keys : List ℕ) (r : RuleParts) (order_key : ℕ) → x ≡ Rule r → m ≡ order_key → Contains (order_keyed (x ∷ items) (m ∷ order_keys)) (with_order_key r order_key)
at_first x m items order_keys r order_key e f =
    subst (λ (y : Item). Contains (order_keyed (y ∷ items) (m ∷ order_keys)) (with_order_key r order_key)) (sym e)
    (subst (λ (n : ℕ). Contains (with_order_key r n ∷ order_keyed items order_keys) (with_order_key r order_key)) (sym f) (Contains-here (with_order_key r order_key) (order_keyed items order_keys)))

pub rules_are_order_keyed : RulesAreOrderKeyed
rules_are_order_keyed [] order_keys n r order_key at is = cc
rules_are_order_keyed (x ∷ items) [] n r order_key at is = cc
rules_are_order_keyed (x ∷ items) (m ∷ order_keys) zero r order_key at is = at_first x m items order_keys r order_key (let e : x ≡ Rule r = cc in e) (let f : m ≡ order_key = cc in f)
rules_are_order_keyed (x ∷ items) (m ∷ order_keys) (suc n) r order_key at is = further x m items order_keys (with_order_key r order_key) (rules_are_order_keyed items order_keys n r order_key at is)
