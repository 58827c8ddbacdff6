-- Which rules' pairs a step moves.
use Rattle.std.proofs.Common.{◌≡◌, ◌↔◌, ◌⊎◌, ℕ, Bool, true, false, not, List, [], ◌∷◌, ◌++◌, map, Some, refl, sym, ap, ap₂, ◌∙◌, subst, inl, inr}
use Rattle.std.specs.Prelude.{Option, slice_get}
use Rattle.std.specs.Borrow.{Bor}
use Rattle.std.specs.List.{Contains, filter}
use Rattle.std.proofs.lemmas.List.Elements.{Contains-append_left, Contains-append_right, Contains-append_cases}
use Rattle.cascade_laws.proofs.ForCallers.{some-same, rule-same}
use Rattle.css_model.specs.Cascade.Order.{Pair}
use Rattle.css_model.specs.declared.sheet.Decl.{Decl}
use Rattle.css_model.specs.declared.sheet.Item.{Item}
use Rattle.css_model.specs.declared.sheet.Item.TheVariants.{Rule}
use Rattle.css_model.specs.declared.sheet.SelItem.{SelItem}
use Rattle.css_model.specs.Documents.SelectorParts.{SelectorParts}
use Rattle.css_model.specs.Sheets.RuleParts.{RuleParts}
use Rattle.css_model.specs.Sheets.StyleRule.{selectors_of}
use Rattle.list_facts.proofs.Members.{Contains-here, Contains-there, Contains-nil, Contains-cons_cases, Contains-filter, Contains-filtered}
use Rattle.order_laws.proofs.ForCallers.{has_decl_is, has_selector_is, map_from, map_has, moved_is}
use Rattle.order_laws.specs.Edits.{Edit, Moved, is_moved, whole_rule}
use Rattle.order_laws.specs.Members.{has_selector}
use Rattle.sheet_order.specs.declared.places.Moved as code
use Rattle.sheet_order.specs.declared.places.Moved.TheVariants as moved
use Rattle.sheet_order.specs.Taking.{common_of, rule_in, moved_rule, moved_common, moved_in, moved_of}
use Rattle.step_laws.proofs.ForCallers.{in_common, is_common}
use Rattle.step_laws.specs.declared.step.Step.{Step}
use Rattle.step_laws.specs.declared.step.Step.TheVariants.{CutDecl, CutSel, JoinSelUp, JoinSelDown, JoinDeclUp, JoinDeclDown, Share}
use Rattle.step_laws.specs.RuleParting.{both_selectors, common_decls}
use Rattle.step_laws.specs.Steps.{HasStep, IsStep, decls_of}
use Rattle.step_obstacles.specs.declared.facing.Source.{Source}
use Rattle.step_obstacles.specs.StepWindow.{AreCommon, AreMoving, AreOf, AreThere, AreWhole, IsOfSource}
use Rattle.step_obstacles.specs.Turns as turns

-- what a step moves
moves : (items : List Item) (k : Step) (e : Edit) → IsStep items k e → moved_in items (moved_of k) ≡ e.moved
moves items (CutDecl n i) e is = ap (λ item. moved_rule n (rule_in item)) is.rule_at ∙ ap (λ (d : Edit). d.moved) (sym is.is)
moves items (CutSel n i) e is = ap (λ item. moved_rule n (rule_in item)) is.rule_at ∙ ap (λ (d : Edit). d.moved) (sym is.is)
moves items (JoinSelUp x y) e is = ap (λ item. moved_rule y (rule_in item)) is.rules.lower_at ∙ ap (λ (d : Edit). d.moved) (sym is.is)
moves items (JoinSelDown x y) e is = ap (λ item. moved_rule x (rule_in item)) is.rules.upper_at ∙ ap (λ (d : Edit). d.moved) (sym is.is)
moves items (JoinDeclUp x y) e is = ap (λ item. moved_rule y (rule_in item)) is.rules.lower_at ∙ ap (λ (d : Edit). d.moved) (sym is.is)
moves items (JoinDeclDown x y) e is = ap (λ item. moved_rule x (rule_in item)) is.rules.upper_at ∙ ap (λ (d : Edit). d.moved) (sym is.is)
moves items (Share x y) e is = ap₂ (λ item another. moved_common x y (rule_in item) (rule_in another)) is.rules.upper_at is.rules.lower_at ∙ ap (λ (d : Edit). d.moved) (sym is.is)

-- what is moved is there
pub are_there : (items : List Item) (k : Step) → HasStep items k → AreThere items (moved_of k)
are_there items (CutDecl n i) (e, is) = (is.rule, is.rule_at)
are_there items (CutSel n i) (e, is) = (is.rule, is.rule_at)
are_there items (JoinSelUp x y) (e, is) = (is.lower, is.rules.lower_at)
are_there items (JoinSelDown x y) (e, is) = (is.upper, is.rules.upper_at)
are_there items (JoinDeclUp x y) (e, is) = (is.lower, is.rules.lower_at)
are_there items (JoinDeclDown x y) (e, is) = (is.upper, is.rules.upper_at)
are_there items (Share x y) (e, is) = ((is.upper, is.rules.upper_at), (is.lower, is.rules.lower_at))

-- ---- All pairs of a rule

abbrev IsOfSome : List Source → Pair → Type 0
IsOfSome sources p = (s : Source) × Contains sources s × IsOfSource s p

only : (s t : Source) → Contains (s ∷ []) t → s ≡ t
only s t h = which (Contains-cons_cases s [] t h)
  where
    which : (s ≡ t) ⊎ Contains [] t → s ≡ t
    which (inl e) = e
    which (inr g) = absurd (Contains-nil t g)

whole_moves : (items : List Item) (n : ℕ) (sources : List Source) → AreWhole items n sources → (p : Pair) → (is_moved (moved_rule n (rule_in (slice_get items n))) p ≡ true) ↔ IsOfSome sources p
whole_moves items n sources are p =
    subst (λ item. (is_moved (moved_rule n (rule_in item)) p ≡ true) ↔ IsOfSome sources p) (sym are.rule_at)
    (subst (λ ss. (is_moved (whole_rule n are.source.rule.now) p ≡ true) ↔ IsOfSome ss p) (sym are.are) (there, back))
  where
    common : (d : Decl) → turns.is_common are.source.with d ≡ true
    common d = subst (λ (o : Option (Bor RuleParts)). turns.is_common o d ≡ true) (sym are.with) refl

    there : is_moved (whole_rule n are.source.rule.now) p ≡ true → IsOfSome (are.source ∷ []) p
    there h =
        let w = (moved_is (whole_rule n are.source.rule.now) p).0 h in
        (are.source, Contains-here are.source [], record { selector = w.0; decl = w.1; common = common p.decl })

    back : IsOfSome (are.source ∷ []) p → is_moved (whole_rule n are.source.rule.now) p ≡ true
    back (s, inside, is) = let is' : IsOfSource are.source p = subst (λ (t : Source). IsOfSource t p) (sym (only are.source s inside)) is in (moved_is (whole_rule n are.source.rule.now) p).1 (is'.selector, is'.decl)

-- ---- The common pairs of two rules

abbrev sels : List SelItem → List SelectorParts
sels ss = map (λ x. x.selector) ss

module _ (u l : RuleParts) where
  abbrev new_ones : List SelItem
  new_ones = filter (λ s. not (has_selector u.selectors s.selector)) l.selectors

  from_both : (s : SelectorParts) → Contains (sels (both_selectors u l)) s → Contains (selectors_of u) s ⊎ Contains (selectors_of l) s
  from_both s h = let w = map_from (λ (x : SelItem). x.selector) (u.selectors ++ new_ones) s h in which w.0 w.2 (Contains-append_cases u.selectors new_ones w.0 w.1)
    where
      which : (x : SelItem) → x.selector ≡ s → Contains u.selectors x ⊎ Contains new_ones x → Contains (selectors_of u) s ⊎ Contains (selectors_of l) s
      which x e (inl g) = inl (subst (λ (t : SelectorParts). Contains (selectors_of u) t) e (map_has (λ (y : SelItem). y.selector) u.selectors x g))
      which x e (inr g) = inr (subst (λ (t : SelectorParts). Contains (selectors_of l) t) e (map_has (λ (y : SelItem). y.selector) l.selectors x (Contains-filter (λ t. not (has_selector u.selectors t.selector)) l.selectors x g).0))

  of_upper : (s : SelectorParts) → Contains (selectors_of u) s → Contains (sels (both_selectors u l)) s
  of_upper s h =
      let w = map_from (λ (x : SelItem). x.selector) u.selectors s h in
      subst (λ (t : SelectorParts). Contains (sels (both_selectors u l)) t) w.2 (map_has (λ (y : SelItem). y.selector) (u.selectors ++ new_ones) w.0 (Contains-append_left u.selectors new_ones w.0 w.1))

  of_lower : (s : SelectorParts) → Contains (selectors_of l) s → Contains (sels (both_selectors u l)) s
  of_lower s h = let w = map_from (λ (x : SelItem). x.selector) l.selectors s h in which w.0 w.1 w.2 (has_selector u.selectors w.0.selector) refl
    where
      which : (x : SelItem) → Contains l.selectors x → x.selector ≡ s → (b : Bool) → has_selector u.selectors x.selector ≡ b → Contains (sels (both_selectors u l)) s
      which x g e true has = of_upper s (subst (λ (t : SelectorParts). Contains (selectors_of u) t) e ((has_selector_is u.selectors x.selector).0 has))
      which x g e false has =
          subst (λ (t : SelectorParts). Contains (sels (both_selectors u l)) t) e (map_has (λ (y : SelItem). y.selector) (u.selectors ++ new_ones) x
          (Contains-append_right u.selectors new_ones x (Contains-filtered (λ t. not (has_selector u.selectors t.selector)) l.selectors x g (ap not has))))

-- a pair of a rule whose declarations another rule has
made : (s : Source) (o : Bor RuleParts) (p : Pair) → s.with ≡ Some o → Contains (selectors_of s.rule.now) p.selector → Contains (decls_of s.rule.now) p.decl → Contains (decls_of o.now) p.decl → IsOfSource s p
made s o p with a b c = record { selector = a; decl = b; common = subst (λ (w : Option (Bor RuleParts)). turns.is_common w p.decl ≡ true) (sym with) ((has_decl_is o.now.decls p.decl).1 c) }

other_has : (s : Source) (o : Bor RuleParts) (p : Pair) → s.with ≡ Some o → IsOfSource s p → Contains (decls_of o.now) p.decl
other_has s o p with is = (has_decl_is o.now.decls p.decl).0 (subst (λ (w : Option (Bor RuleParts)). turns.is_common w p.decl ≡ true) with is.common)

one_of : (s t r : Source) → Contains (s ∷ t ∷ []) r → (s ≡ r) ⊎ (t ≡ r)
one_of s t r h = which (Contains-cons_cases s (t ∷ []) r h)
  where
    which : (s ≡ r) ⊎ Contains (t ∷ []) r → (s ≡ r) ⊎ (t ≡ r)
    which (inl e) = inl e
    which (inr g) = inr (only t r g)

same_rule : (items : List Item) (n : ℕ) (r q : RuleParts) → slice_get items n ≡ Some (Rule r) → slice_get items n ≡ Some (Rule q) → r ≡ q
same_rule items n r q a b = rule-same (some-same (sym a ∙ b))

common_moves : (items : List Item) (x y : ℕ) (sources : List Source) → AreCommon items x y sources → (p : Pair) →
    (is_moved (moved_common x y (rule_in (slice_get items x)) (rule_in (slice_get items y))) p ≡ true) ↔ IsOfSome sources p
common_moves items x y sources are p =
    subst (λ item. (is_moved (moved_common x y (rule_in item) (rule_in (slice_get items y))) p ≡ true) ↔ IsOfSome sources p) (sym are.upper_at)
    (subst (λ item. (is_moved (moved_common x y (Some are.upper.rule.now) (rule_in item)) p ≡ true) ↔ IsOfSome sources p) (sym are.lower_at)
    (subst (λ ss. (is_moved (common_of x y are.upper.rule.now are.lower.rule.now) p ≡ true) ↔ IsOfSome ss p) (sym are.are) (there, back)))
  where
    below : Bor RuleParts
    below = are.upper_with.0

    above : Bor RuleParts
    above = are.lower_with.0

    below_is : below.now ≡ are.lower.rule.now
    below_is = same_rule items y below.now are.lower.rule.now are.upper_with.2 are.lower_at

    above_is : above.now ≡ are.upper.rule.now
    above_is = same_rule items x above.now are.upper.rule.now are.lower_with.2 are.upper_at

    there : is_moved (common_of x y are.upper.rule.now are.lower.rule.now) p ≡ true → IsOfSome (are.upper ∷ are.lower ∷ []) p
    there h =
        let w = (moved_is (common_of x y are.upper.rule.now are.lower.rule.now) p).0 h in
        let d = in_common are.upper.rule.now are.lower.rule.now p.decl w.1 in
        which d.0 d.1 (from_both are.upper.rule.now are.lower.rule.now p.selector w.0)
      where
        which : Contains (decls_of are.upper.rule.now) p.decl → Contains (decls_of are.lower.rule.now) p.decl →
            Contains (selectors_of are.upper.rule.now) p.selector ⊎ Contains (selectors_of are.lower.rule.now) p.selector → IsOfSome (are.upper ∷ are.lower ∷ []) p
        which a b (inl g) = (are.upper, Contains-here are.upper (are.lower ∷ []), made are.upper below p are.upper_with.1 g a (subst (λ (r : RuleParts). Contains (decls_of r) p.decl) (sym below_is) b))
        which a b (inr g) = (are.lower, Contains-there are.upper (are.lower ∷ []) are.lower (Contains-here are.lower []), made are.lower above p are.lower_with.1 g b (subst (λ (r : RuleParts). Contains (decls_of r) p.decl) (sym above_is) a))

    back : IsOfSome (are.upper ∷ are.lower ∷ []) p → is_moved (common_of x y are.upper.rule.now are.lower.rule.now) p ≡ true
    back (s, inside, is) = which (one_of are.upper are.lower s inside)
      where
        in_upper : IsOfSource are.upper p → is_moved (common_of x y are.upper.rule.now are.lower.rule.now) p ≡ true
        in_upper g = (moved_is (common_of x y are.upper.rule.now are.lower.rule.now) p).1 (
          of_upper are.upper.rule.now are.lower.rule.now p.selector g.selector,
          (has_decl_is (common_decls are.upper.rule.now are.lower.rule.now) p.decl).0 (is_common are.upper.rule.now are.lower.rule.now p.decl g.decl (subst (λ (r : RuleParts). Contains (decls_of r) p.decl) below_is (other_has are.upper below p are.upper_with.1 g))),
        )

        in_lower : IsOfSource are.lower p → is_moved (common_of x y are.upper.rule.now are.lower.rule.now) p ≡ true
        in_lower g = (moved_is (common_of x y are.upper.rule.now are.lower.rule.now) p).1 (
          of_lower are.upper.rule.now are.lower.rule.now p.selector g.selector,
          (has_decl_is (common_decls are.upper.rule.now are.lower.rule.now) p.decl).0 (is_common are.upper.rule.now are.lower.rule.now p.decl (subst (λ (r : RuleParts). Contains (decls_of r) p.decl) above_is (other_has are.lower above p are.lower_with.1 g)) g.decl),
        )

        which : (are.upper ≡ s) ⊎ (are.lower ≡ s) → is_moved (common_of x y are.upper.rule.now are.lower.rule.now) p ≡ true
        which (inl e) = in_upper (subst (λ (t : Source). IsOfSource t p) (sym e) is)
        which (inr e) = in_lower (subst (λ (t : Source). IsOfSource t p) (sym e) is)

-- ---- What a step moves

of_moved : (items : List Item) (m : code.Moved) (sources : List Source) → AreOf items m sources → (p : Pair) → (is_moved (moved_in items m) p ≡ true) ↔ IsOfSome sources p
of_moved items (moved.Rule n) sources are p = whole_moves items n sources are p
of_moved items (moved.Common x y) sources are p = common_moves items x y sources are p

pub are_moving : (items : List Item) (k : Step) (sources : List Source) → AreOf items (moved_of k) sources → AreMoving items k sources
are_moving items k sources are e is p = subst (λ (m : Moved). (is_moved m p ≡ true) ↔ IsOfSome sources p) (moves items k e is) (of_moved items (moved_of k) sources are p)
