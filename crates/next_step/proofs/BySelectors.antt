-- Other rules with the selectors of a rule, by their order keys.
use Rattle.std.proofs.Common.{◌≡◌, ◌≢◌, ◌⊎◌, ℕ, ◌<◌, List, [], ◌∷◌, Some, length, map, refl, sym, ap, subst, inl, inr, ◌∙◌, arith}
use Rattle.std.specs.Prelude.{slice_get}
use Rattle.std.specs.List.{Contains}
use Rattle.std.proofs.lemmas.Option.{slice_get_within}
use Rattle.css_model.specs.declared.sheet.Item.{Item}
use Rattle.css_model.specs.declared.sheet.Item.TheVariants.{Rule}
use Rattle.css_model.specs.declared.sheet.SelItem.{SelItem}
use Rattle.css_model.specs.Documents.SelectorParts.{SelectorParts}
use Rattle.css_model.specs.Sheets.RuleParts.{RuleParts}
use Rattle.css_model.specs.Sheets.StyleRule.{HaveSameSelectors, selectors_of}
use Rattle.list_facts.proofs.Members.{Contains-here}
use Rattle.order_laws.specs.Edits.{Edit}
use Rattle.indexed_sheet.specs.declared.marks.Mark.{Mark}
use Rattle.indexed_sheet.specs.Facts.{HasOwnSelectors}
use Rattle.indexed_sheet.specs.MarkList.{AreMarks}
use Rattle.plan_laws.specs.Plannable.{IsPlannable}
use Rattle.rule_tables.specs.StepPartners.{RulesAreOrderKeyed}
use Rattle.rule_tables.specs.Tables.{Cover, OrderKeyed, with_order_key}
use Rattle.step_laws.proofs.ForCallers.{rule_sound}
use Rattle.step_laws.specs.declared.step.Step.{Step}
use Rattle.step_laws.specs.declared.step.Step.TheVariants.{CutDecl, CutSel, JoinSelUp, JoinSelDown, JoinDeclUp, JoinDeclDown, Share}
use Rattle.step_laws.specs.Steps.{IsStep, first_item, last_item}
use Rattle.next_step.specs.Kinds.{IsSelectorJoin}
use Rattle.next_step.specs.Looking.{FoundParts}
use Rattle.next_step.specs.Marked.{rules_of}
use Rattle.next_step.specs.Viewed.{CoversIn, IsFocus, IsView}
use Rattle.next_step.specs.declared.view.Focus.{Focus}
use Rattle.next_step.specs.declared.view.View.{View}
use Rattle.next_step.proofs.ByOrderKeys.{AreOfStep, HasOther, is_order_keyed, other_order_key, other_of}
use Rattle.next_step.proofs.Owned.{order_of}
use Rattle.next_step.proofs.Rules.{one_rule}
use Rattle.next_step.proofs.SelectorJoins.{joins_two}
use Rattle.next_step.proofs.Telling.{mark_there}

-- ---- Rules with the same selectors, of which there are some

record AreSame (r q : RuleParts) : Type 0 where
  selector : SelectorParts
  first : Contains (selectors_of r) selector
  second : Contains (selectors_of q) selector
  same : HaveSameSelectors r q

of_same : (r q : RuleParts) → (r.selectors ≡ [] → ⊥) → HaveSameSelectors r q → AreSame r q
of_same r q some same = which r.selectors some refl
  where
    which : (ss : List SelItem) → (ss ≡ [] → ⊥) → r.selectors ≡ ss → AreSame r q
    which [] none is = absurd (none refl)
    which (s ∷ ss) none is =
        let here : Contains (selectors_of r) s.selector = subst (λ (xs : List SelItem). Contains (map (λ x. x.selector) xs) s.selector) (sym is) (Contains-here s.selector (map (λ (x : SelItem). x.selector) ss)) in
        record { selector = s.selector; first = here; second = (same s.selector).0 here; same = same }

turned : (r q : RuleParts) → AreSame r q → AreSame q r
turned r q w = record { selector = w.selector; first = w.second; second = w.first; same = λ s. ((w.same s).1, (w.same s).0) }

-- ---- Joins by selectors

module _ (source : List ℕ) (items : List Item) (plannable : IsPlannable source items) where
  joined : (x y : ℕ) (u l r q : RuleParts) → slice_get items x ≡ Some (Rule u) → slice_get items y ≡ Some (Rule l) → slice_get items x ≡ Some (Rule r) → slice_get items y ≡ Some (Rule q) → HaveSameSelectors u l → AreSame r q
  joined x y u l r q u_at l_at r_at q_at same =
      subst (λ (p : RuleParts). AreSame p q) (one_rule items x u r u_at r_at)
      (subst (λ (p : RuleParts). AreSame u p) (one_rule items y l q l_at q_at) (of_same u l (rule_sound source items x u plannable.sound u_at).has_selectors same))

  first_same : (k : Step) (e : Edit) (r q : RuleParts) → IsSelectorJoin k → IsStep items k e → slice_get items (first_item k) ≡ Some (Rule r) → slice_get items (last_item k) ≡ Some (Rule q) → AreSame r q
  first_same (CutDecl n i) e r q join is r_at q_at = absurd join
  first_same (CutSel n i) e r q join is r_at q_at = absurd join
  first_same (JoinSelUp x y) e r q join is r_at q_at = joined x y is.upper is.lower r q is.rules.upper_at is.rules.lower_at r_at q_at is.may
  first_same (JoinSelDown x y) e r q join is r_at q_at = joined x y is.upper is.lower r q is.rules.upper_at is.rules.lower_at r_at q_at is.may
  first_same (JoinDeclUp x y) e r q join is r_at q_at = absurd join
  first_same (JoinDeclDown x y) e r q join is r_at q_at = absurd join
  first_same (Share x y) e r q join is r_at q_at = absurd join

module _ (v : View) (is_view : IsView v) (focus : Focus) (is_focus : IsFocus v focus) where
  same_selectors : (k : Step) (e : Edit) → IsSelectorJoin k → IsStep v.indexed.now.items k e → (o : HasOther v.indexed.now k focus.number) → AreSame focus.rule.now o.rule
  same_selectors k e join is o = which o.items_are
    where
      which : AreOfStep k focus.number o.other → AreSame focus.rule.now o.rule
      which (inl (first, last)) = first_same v.source.now v.indexed.now.items is_view.plannable k e focus.rule.now o.rule join is (ap (slice_get v.indexed.now.items) first ∙ is_focus.rule) (ap (slice_get v.indexed.now.items) last ∙ o.rule_at)
      which (inr (first, last)) = turned o.rule focus.rule.now (first_same v.source.now v.indexed.now.items is_view.plannable k e o.rule focus.rule.now join is (ap (slice_get v.indexed.now.items) first ∙ o.rule_at) (ap (slice_get v.indexed.now.items) last ∙ is_focus.rule))

  differ : (k : Step) (e : Edit) → IsSelectorJoin k → IsStep v.indexed.now.items k e → (o : HasOther v.indexed.now k focus.number) → o.other ≢ focus.number
  differ k e join is o same = which o.items_are
    where
      which : AreOfStep k focus.number o.other → ⊥
      which (inl (first, last)) = let less : first_item k < last_item k = order_of v.indexed.now.items k e (joins_two k join) is in omega (arith, less, first, last, same)
      which (inr (first, last)) = let less : first_item k < last_item k = order_of v.indexed.now.items k e (joins_two k join) is in omega (arith, less, first, last, same)

  -- where no other rule has one of its selectors, there is none
  pub none_by_selectors : (best : FoundParts) → length v.indexed.now.marks ≡ length v.indexed.now.items → HasOwnSelectors v.indexed.now.items focus.number →
      (k : Step) → IsSelectorJoin k → (first_item k ≡ focus.number) ⊎ (last_item k ≡ focus.number) → CoversIn v best k
  none_by_selectors best beside own k join here e n is saves some looked later =
      let o : HasOther v.indexed.now k focus.number = other_of v.indexed.now beside k e focus.number is here in
      let w : AreSame focus.rule.now o.rule = same_selectors k e join is o in
      absurd (own o.other focus.rule.now o.rule w.selector (differ k e join is o) is_focus.rule o.rule_at w.first w.second)

  module _ (beside : length v.indexed.now.marks ≡ length v.indexed.now.items) (order_keyed_are : RulesAreOrderKeyed) where
    pub order_key_by_selectors : (order_keys : List ℕ) → ((rules : List OrderKeyed) (x : OrderKeyed) (s : SelectorParts) → Cover v.tables.now rules → Contains rules x → Contains (selectors_of focus.rule.now) s → HaveSameSelectors focus.rule.now x.rule → Contains order_keys x.order_key) →
        (k : Step) (e : Edit) → IsSelectorJoin k → IsStep v.indexed.now.items k e → (o : HasOther v.indexed.now k focus.number) → Contains order_keys o.mark.order_key
    order_key_by_selectors order_keys all k e join is o =
        let w : AreSame focus.rule.now o.rule = same_selectors k e join is o in
        all (rules_of v.indexed.now) (with_order_key o.rule o.mark.order_key) w.selector is_view.cover (is_order_keyed v.indexed.now beside order_keyed_are o.other o.rule o.mark o.rule_at o.mark_at) w.first w.same

  -- no other rule has one of its selectors, where tables know of none
  pub own_selectors : length v.indexed.now.marks ≡ length v.indexed.now.items → AreMarks v.indexed.now.marks v.indexed.now.next → RulesAreOrderKeyed →
      ((rules : List OrderKeyed) (x : OrderKeyed) (s : SelectorParts) → Cover v.tables.now rules → Contains rules x → x.order_key ≢ focus.order_key → Contains (selectors_of focus.rule.now) s → Contains (selectors_of x.rule) s → ⊥) → HasOwnSelectors v.indexed.now.items focus.number
  own_selectors beside are order_keyed_are none m r q s other r_at q_at in_r in_q =
      let mark : (z : Mark) × (slice_get v.indexed.now.marks m ≡ Some z) = mark_there v.indexed.now.marks m (subst (λ (c : ℕ). m < c) (sym beside) (slice_get_within v.indexed.now.items m (Rule q) q_at)) in
      none (rules_of v.indexed.now) (with_order_key q mark.0.order_key) s is_view.cover (is_order_keyed v.indexed.now beside order_keyed_are m q mark.0 q_at mark.1) (other_order_key v.indexed.now beside are focus.number focus.order_key is_focus.order_key m mark.0 mark.1 other)
      (subst (λ (p : RuleParts). Contains (selectors_of p) s) (one_rule v.indexed.now.items focus.number r focus.rule.now r_at is_focus.rule) in_r) in_q
