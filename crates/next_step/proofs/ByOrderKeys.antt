-- The steps of a rule with others that tables find by their order keys.
use Rattle.std.proofs.Common.{◌≡◌, ◌≢◌, ◌⊎◌, ℕ, ◌<◌, ◌≤◌, List, [], ◌∷◌, Option, Some, length, map, refl, sym, ap, subst, inl, inr, ◌∙◌, arith}
use Rattle.std.specs.Prelude.{slice_get}
use Rattle.std.specs.List.{Contains}
use Rattle.std.proofs.lemmas.Bool.{cases_lt}
use Rattle.std.proofs.lemmas.Option.{slice_get_within}
use Rattle.css_model.specs.declared.sheet.Decl.{Decl}
use Rattle.css_model.specs.declared.sheet.DeclItem.{DeclItem}
use Rattle.css_model.specs.declared.sheet.Item.{Item}
use Rattle.css_model.specs.declared.sheet.Item.TheVariants.{Rule}
use Rattle.css_model.specs.Sheets.RuleParts.{RuleParts}
use Rattle.list_facts.proofs.Members.{Contains-here}
use Rattle.order_laws.specs.Edits.{Edit}
use Rattle.indexed_sheet.specs.IndexedParts.{IndexedParts}
use Rattle.indexed_sheet.specs.declared.marks.Mark.{Mark}
use Rattle.indexed_sheet.specs.Facts.{HasOwnDecls}
use Rattle.indexed_sheet.specs.MarkList.{AreMarks, IsOrderKeyAt, order_keys_of}
use Rattle.plan_laws.specs.Plannable.{IsPlannable}
use Rattle.rule_tables.specs.StepPartners.{RulesAreOrderKeyed}
use Rattle.rule_tables.specs.Tables.{Cover, OrderKeyed, with_order_key}
use Rattle.step_laws.proofs.ForCallers.{rule_sound}
use Rattle.step_laws.specs.declared.step.Step.{Step}
use Rattle.step_laws.specs.declared.step.Step.TheVariants.{CutDecl, CutSel, JoinSelUp, JoinSelDown, JoinDeclUp, JoinDeclDown, Share}
use Rattle.step_laws.specs.Steps.{HaveSameDecls, IsStep, decls_of, first_item, last_item}
use Rattle.step_savings.proofs.ForCallers.{first_rule, last_rule}
use Rattle.next_step.specs.Halves.{AreAbove, AreBelow}
use Rattle.next_step.specs.Kinds.{IsByDecls}
use Rattle.next_step.specs.Looking.{FoundParts, IsWith}
use Rattle.next_step.specs.Marked.{rules_of}
use Rattle.next_step.specs.Viewed.{CoversIn, IsFocus, IsView}
use Rattle.next_step.specs.declared.view.Focus.{Focus}
use Rattle.next_step.specs.declared.view.View.{View}
use Rattle.next_step.proofs.Owned.{order_of, partner_above, partner_below, partner_itself}
use Rattle.next_step.proofs.Telling.{mark_there, same_order_key, there_of}
use Rattle.plan_laws.specs.Barrier.Renumbering.{IsOfTwo}

-- ---- The other item of a step

-- the items of a step are these two, in either order
abbrev pub AreOfStep : Step → ℕ → ℕ → Type 0
AreOfStep k number other = ((first_item k ≡ number) × (last_item k ≡ other)) ⊎ ((first_item k ≡ other) × (last_item k ≡ number))

-- an item with this rule and this mark
pub record HasOther (indexed : IndexedParts) (k : Step) (number : ℕ) : Type 0 where
  pub other : ℕ
  pub rule : RuleParts
  pub mark : Mark
  pub rule_at : slice_get indexed.items other ≡ Some (Rule rule)
  pub mark_at : slice_get indexed.marks other ≡ Some mark
  pub items_are : AreOfStep k number other

module _ (indexed : IndexedParts) (beside : length indexed.marks ≡ length indexed.items) where
  pub other_of : (k : Step) (e : Edit) (number : ℕ) → IsStep indexed.items k e → (first_item k ≡ number) ⊎ (last_item k ≡ number) → HasOther indexed k number
  other_of k e number is here = which here
    where
      mark_of_item : (n : ℕ) (r : RuleParts) → slice_get indexed.items n ≡ Some (Rule r) → (m : Mark) × (slice_get indexed.marks n ≡ Some m)
      mark_of_item n r at = mark_there indexed.marks n (subst (λ (c : ℕ). n < c) (sym beside) (slice_get_within indexed.items n (Rule r) at))

      which : (first_item k ≡ number) ⊎ (last_item k ≡ number) → HasOther indexed k number
      which (inl first) =
          let r : (r : RuleParts) × (slice_get indexed.items (last_item k) ≡ Some (Rule r)) = last_rule indexed.items k (e, is) in
          let m : (m : Mark) × (slice_get indexed.marks (last_item k) ≡ Some m) = mark_of_item (last_item k) r.0 r.1 in
          record { other = last_item k; rule = r.0; mark = m.0; rule_at = r.1; mark_at = m.1; items_are = inl (first, refl) }
      which (inr last) =
          let r : (r : RuleParts) × (slice_get indexed.items (first_item k) ≡ Some (Rule r)) = first_rule indexed.items k (e, is) in
          let m : (m : Mark) × (slice_get indexed.marks (first_item k) ≡ Some m) = mark_of_item (first_item k) r.0 r.1 in
          record { other = first_item k; rule = r.0; mark = m.0; rule_at = r.1; mark_at = m.1; items_are = inr (refl, last) }

  -- the order key of an item is that of its rule with its order key
  pub is_order_keyed : RulesAreOrderKeyed → (n : ℕ) (r : RuleParts) (m : Mark) → slice_get indexed.items n ≡ Some (Rule r) → slice_get indexed.marks n ≡ Some m → Contains (rules_of indexed) (with_order_key r m.order_key)
  is_order_keyed order_keyed_are n r m rule_at mark_at = order_keyed_are indexed.items (order_keys_of indexed.marks) n r m.order_key rule_at (there_of (λ x. x.order_key) indexed.marks n m mark_at)

  -- an item with the order key of another one is that one
  pub other_order_key : AreMarks indexed.marks indexed.next → (number at : ℕ) → IsOrderKeyAt indexed.marks at number → (m : ℕ) (mark : Mark) → slice_get indexed.marks m ≡ Some mark → m ≢ number → mark.order_key ≢ at
  other_order_key are number at own m mark mark_at differ same = differ (same_order_key indexed.marks indexed.next are m number mark own.0 mark_at own.1 (same ∙ sym own.2))

-- ---- A pass over order keys

-- the steps of a kind are covered, if those with these order keys are, and the order key of each other item is among them
pub pass_covers : (v : View) (focus : Focus) → IsFocus v focus → length v.indexed.now.marks ≡ length v.indexed.now.items → (best : FoundParts) (P : Step → Type 0) → ((k : Step) → P k → IsOfTwo k) → (Among : ℕ → Type 0) →
    ((x : ℕ) (k : Step) → Among x → IsWith v.indexed.now focus.number x k → P k → CoversIn v best k) →
    ((k : Step) (e : Edit) → P k → IsStep v.indexed.now.items k e → (o : HasOther v.indexed.now k focus.number) → Among o.mark.order_key) →
    (k : Step) → P k → (first_item k ≡ focus.number) ⊎ (last_item k ≡ focus.number) → CoversIn v best k
pass_covers v focus is_focus beside best P two Among withs there k p here e n is saves some looked later =
    let o : HasOther v.indexed.now k focus.number = other_of v.indexed.now beside k e focus.number is here in
    withs o.mark.order_key k (there k e p is o)
    (record { other = o.other; mark = o.mark; own = is_focus.order_key.0; mark_at = o.mark_at; own_at = is_focus.order_key.1; order_key_is = refl; of_two = two k p; items_are = turned o.other o.items_are }) p e n is saves some looked later
  where
    turned : (other : ℕ) → AreOfStep k focus.number other → ((first_item k ≡ other) × (last_item k ≡ focus.number)) ⊎ ((first_item k ≡ focus.number) × (last_item k ≡ other))
    turned other (inl h) = inr h
    turned other (inr h) = inl h

-- ---- Steps by declarations

pub decls_two : (k : Step) → IsByDecls k → IsOfTwo k
decls_two (CutDecl n i) by = by
decls_two (CutSel n i) by = by
decls_two (JoinSelUp x y) by = absurd by
decls_two (JoinSelDown x y) by = absurd by
decls_two (JoinDeclUp x y) by = tt
decls_two (JoinDeclDown x y) by = tt
decls_two (Share x y) by = tt

-- their rules have a declaration in common
abbrev HaveCommon : RuleParts → RuleParts → Type 0
HaveCommon r q = (d : Decl) × Contains (decls_of r) d × Contains (decls_of q) d

turned_common : (r q : RuleParts) → HaveCommon r q → HaveCommon q r
turned_common r q (d, a, b) = (d, b, a)

of_same : (r q : RuleParts) → (r.decls ≡ [] → ⊥) → HaveSameDecls r q → HaveCommon r q
of_same r q some same = which r.decls some refl
  where
    which : (ds : List DeclItem) → (ds ≡ [] → ⊥) → r.decls ≡ ds → HaveCommon r q
    which [] none is = absurd (none refl)
    which (d ∷ ds) none is =
        let here : Contains (decls_of r) d.decl = subst (λ (xs : List DeclItem). Contains (map (λ x. x.decl) xs) d.decl) (sym is) (Contains-here d.decl (map (λ (x : DeclItem). x.decl) ds)) in
        (d.decl, here, subst (λ (xs : List Decl). Contains xs d.decl) same here)

module _ (source : List ℕ) (items : List Item) (plannable : IsPlannable source items) where
  one : (n : ℕ) (r q : RuleParts) → slice_get items n ≡ Some (Rule r) → slice_get items n ≡ Some (Rule q) → r ≡ q
  one n r q at at' = same (slice_get items n) at at'
    where
      same : (o : Option Item) → o ≡ Some (Rule r) → o ≡ Some (Rule q) → r ≡ q
      same o e f = cc

  joined : (x y : ℕ) (u l r q : RuleParts) → slice_get items x ≡ Some (Rule u) → slice_get items y ≡ Some (Rule l) → slice_get items x ≡ Some (Rule r) → slice_get items y ≡ Some (Rule q) → HaveCommon u l → HaveCommon r q
  joined x y u l r q u_at l_at r_at q_at common = subst (λ (p : RuleParts). HaveCommon p q) (one x u r u_at r_at) (subst (λ (p : RuleParts). HaveCommon u p) (one y l q l_at q_at) common)

  first_common : (k : Step) (e : Edit) (r q : RuleParts) → IsByDecls k → IsStep items k e → slice_get items (first_item k) ≡ Some (Rule r) → slice_get items (last_item k) ≡ Some (Rule q) → HaveCommon r q
  first_common (CutDecl n i) e r q by is r_at q_at = absurd by
  first_common (CutSel n i) e r q by is r_at q_at = absurd by
  first_common (JoinSelUp x y) e r q by is r_at q_at = absurd by
  first_common (JoinSelDown x y) e r q by is r_at q_at = absurd by
  first_common (JoinDeclUp x y) e r q by is r_at q_at =
      joined x y is.upper is.lower r q is.rules.upper_at is.rules.lower_at r_at q_at (of_same is.upper is.lower (rule_sound source items x is.upper plannable.sound is.rules.upper_at).has_declarations is.may)
  first_common (JoinDeclDown x y) e r q by is r_at q_at =
      joined x y is.upper is.lower r q is.rules.upper_at is.rules.lower_at r_at q_at (of_same is.upper is.lower (rule_sound source items x is.upper plannable.sound is.rules.upper_at).has_declarations is.may)
  first_common (Share x y) e r q by is r_at q_at = joined x y is.upper is.lower r q is.rules.upper_at is.rules.lower_at r_at q_at is.may.common

module _ (v : View) (is_view : IsView v) (focus : Focus) (is_focus : IsFocus v focus) where
  pub common_decl : (k : Step) (e : Edit) → IsByDecls k → IsStep v.indexed.now.items k e → (o : HasOther v.indexed.now k focus.number) → HaveCommon focus.rule.now o.rule
  common_decl k e by is o = which o.items_are
    where
      which : AreOfStep k focus.number o.other → HaveCommon focus.rule.now o.rule
      which (inl (first, last)) = first_common v.source.now v.indexed.now.items is_view.plannable k e focus.rule.now o.rule by is (ap (slice_get v.indexed.now.items) first ∙ is_focus.rule) (ap (slice_get v.indexed.now.items) last ∙ o.rule_at)
      which (inr (first, last)) = turned_common o.rule focus.rule.now (first_common v.source.now v.indexed.now.items is_view.plannable k e o.rule focus.rule.now by is (ap (slice_get v.indexed.now.items) first ∙ o.rule_at) (ap (slice_get v.indexed.now.items) last ∙ is_focus.rule))

  differ : (k : Step) (e : Edit) → IsOfTwo k → IsStep v.indexed.now.items k e → (o : HasOther v.indexed.now k focus.number) → o.other ≢ focus.number
  differ k e two is o same = which o.items_are
    where
      which : AreOfStep k focus.number o.other → ⊥
      which (inl (first, last)) = let less : first_item k < last_item k = order_of v.indexed.now.items k e two is in omega (arith, less, first, last, same)
      which (inr (first, last)) = let less : first_item k < last_item k = order_of v.indexed.now.items k e two is in omega (arith, less, first, last, same)

  -- where no other rule has one of its declarations, there is none
  pub none_by_decls : (best : FoundParts) → length v.indexed.now.marks ≡ length v.indexed.now.items → HasOwnDecls v.indexed.now.items focus.number →
      (k : Step) → IsByDecls k → (first_item k ≡ focus.number) ⊎ (last_item k ≡ focus.number) → CoversIn v best k
  none_by_decls best beside own k by here e n is saves some looked later =
      let o : HasOther v.indexed.now k focus.number = other_of v.indexed.now beside k e focus.number is here in
      let c : HaveCommon focus.rule.now o.rule = common_decl k e by is o in
      absurd (own o.other focus.rule.now o.rule c.0 (differ k e (decls_two k by) is o) is_focus.rule o.rule_at c.1 c.2)

  module _ (are : AreMarks v.indexed.now.marks v.indexed.now.next) (beside : length v.indexed.now.marks ≡ length v.indexed.now.items) (order_keyed_are : RulesAreOrderKeyed) (Among : ℕ → Type 0)
      (all : (rules : List OrderKeyed) (x : OrderKeyed) (d : Decl) → Cover v.tables.now rules → Contains rules x → Contains (decls_of focus.rule.now) d → Contains (decls_of x.rule) d → Among x.order_key) where
    pub order_key_by_decl : (k : Step) (e : Edit) → IsByDecls k → IsStep v.indexed.now.items k e → (o : HasOther v.indexed.now k focus.number) → Among o.mark.order_key
    order_key_by_decl k e by is o =
        let c : HaveCommon focus.rule.now o.rule = common_decl k e by is o in
        all (rules_of v.indexed.now) (with_order_key o.rule o.mark.order_key) c.0 is_view.cover (is_order_keyed v.indexed.now beside order_keyed_are o.other o.rule o.mark o.rule_at o.mark_at) c.1 c.2

    -- no other rule has one, if there is no other order key
    pub own_by_order_key : ((order_key : ℕ) → Among order_key → order_key ≡ focus.order_key) → HasOwnDecls v.indexed.now.items focus.number
    own_by_order_key alone m r q d other r_at q_at in_r in_q =
        let mark : (z : Mark) × (slice_get v.indexed.now.marks m ≡ Some z) = mark_there v.indexed.now.marks m (subst (λ (c : ℕ). m < c) (sym beside) (slice_get_within v.indexed.now.items m (Rule q) q_at)) in
        let same : r ≡ focus.rule.now = one v.source.now v.indexed.now.items is_view.plannable focus.number r focus.rule.now r_at is_focus.rule in
        let among : Among mark.0.order_key = all (rules_of v.indexed.now) (with_order_key q mark.0.order_key) d is_view.cover (is_order_keyed v.indexed.now beside order_keyed_are m q mark.0 q_at mark.1) (subst (λ (p : RuleParts). Contains (decls_of p) d) same in_r) in_q in
        other_order_key v.indexed.now beside are focus.number focus.order_key is_focus.order_key m mark.0 mark.1 other (alone mark.0.order_key among)

-- ---- The item with an order key

module _ (v : View) (focus : Focus) (is_focus : IsFocus v focus) (are : AreMarks v.indexed.now.marks v.indexed.now.next) (best : FoundParts) (order_key other : ℕ) (other_at : IsOrderKeyAt v.indexed.now.marks order_key other) where
  pub with_above : other < focus.number → (k : Step) → (first_item k ≡ other → last_item k ≡ focus.number → CoversIn v best k) → IsWith v.indexed.now focus.number order_key k → CoversIn v best k
  with_above less k covers w = partner_above v best focus.number order_key other other_at.0 is_focus.order_key.0 other_at.1 is_focus.order_key.1 are other_at.2 less k covers w

  pub with_below : focus.number ≤ other → (k : Step) → (first_item k ≡ focus.number → last_item k ≡ other → CoversIn v best k) → IsWith v.indexed.now focus.number order_key k → CoversIn v best k
  with_below more k covers w = partner_below v best focus.number order_key other other_at.0 is_focus.order_key.0 other_at.1 is_focus.order_key.1 are other_at.2 more k covers w

  pub with_itself : focus.number ≤ other → other ≤ focus.number → (k : Step) → IsWith v.indexed.now focus.number order_key k → CoversIn v best k
  with_itself least most k w = partner_itself v best focus.number order_key other other_at.0 is_focus.order_key.0 other_at.1 is_focus.order_key.1 are other_at.2 least most k w

-- what is covered on both sides of the item's own order key is covered
pub by_halves : (v : View) (focus : Focus) → IsFocus v focus → AreMarks v.indexed.now.marks v.indexed.now.next → (best : FoundParts) (P : Step → Type 0) → (order_keys above below : List ℕ) →
    AreBelow order_keys focus.order_key above → AreAbove order_keys focus.order_key below →
    ((x : ℕ) (k : Step) → Contains above x → IsWith v.indexed.now focus.number x k → P k → CoversIn v best k) →
    ((x : ℕ) (k : Step) → Contains below x → IsWith v.indexed.now focus.number x k → P k → CoversIn v best k) →
    (x : ℕ) (k : Step) → Contains order_keys x → IsWith v.indexed.now focus.number x k → P k → CoversIn v best k
by_halves v focus is_focus are best P order_keys above below is_above is_below over under x k among w p = elim (cases_lt x focus.order_key) [
  | inl less ↦ over x k (is_above.each x among less) w p
  | inr least ↦ elim (cases_lt focus.order_key x) [
    | inl more ↦ under x k (is_below.each x among more) w p
    | inr most ↦ (
        let same : x ≡ focus.order_key = omega (arith, least, most) in
        with_itself v focus is_focus are best focus.order_key focus.number is_focus.order_key (omega arith) (omega arith) k (subst (λ (y : ℕ). IsWith v.indexed.now focus.number y k) same w))
  ]
]
