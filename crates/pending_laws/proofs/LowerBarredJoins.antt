-- What a lower barrier hinders.
use Rattle.std.proofs.Common.{◌≡◌, ◌⊎◌, ℕ, ◌+◌, true, List, ◌++◌, length, map, Some, sym, ap, ◌∙◌, subst, inl, inr}
use Rattle.std.specs.Prelude.{slice_get}
use Rattle.std.specs.List.{Contains, filter}
use Rattle.std.proofs.lemmas.List.Elements.{Contains-append_cases, Contains-append_left}
use Rattle.std.proofs.lemmas.Option.{slice_get_within}
use Rattle.css_model.specs.declared.sheet.Decl.{Decl}
use Rattle.css_model.specs.declared.sheet.DeclItem.{DeclItem}
use Rattle.css_model.specs.declared.sheet.Item.{Item}
use Rattle.css_model.specs.declared.sheet.Item.TheVariants.{Rule}
use Rattle.css_model.specs.declared.sheet.SelItem.{SelItem}
use Rattle.css_model.specs.Cascade.Order.{Pair}
use Rattle.css_model.specs.Documents.SelectorParts.{SelectorParts}
use Rattle.css_model.specs.Sheets.RuleParts.{RuleParts}
use Rattle.css_model.specs.Sheets.StyleRule.{HaveSameSelectors, selectors_of}
use Rattle.list_facts.proofs.Members.{Contains-filter}
use Rattle.order_laws.specs.Edits.{Edit, edited}
use Rattle.order_laws.specs.Reversing.{ReversesPair}
use Rattle.order_laws.proofs.ForCallers.{has_at, map_from, map_has}
use Rattle.step_laws.specs.declared.step.Step.{Step}
use Rattle.step_laws.specs.declared.step.Step.TheVariants.{CutDecl, CutSel, JoinSelUp, JoinSelDown, JoinDeclUp, JoinDeclDown, Share}
use Rattle.step_laws.specs.Free.{Answered, AreNotApart}
use Rattle.step_laws.specs.RuleParting.{both_selectors}
use Rattle.step_laws.specs.StepEdits.{join_selectors_down, join_decls_down}
use Rattle.step_laws.specs.Steps.{HaveSameDecls, IsJoin, IsStep, first_item, last_item, decls_of}
use Rattle.plan_laws.specs.Barrier.Hindering.{OfPair, Hinders}
use Rattle.plan_laws.specs.Barrier.Barriers.{IsLowerBarrier, LowerBarriersHinder, moving_down}
use Rattle.pending_laws.specs.Scopes.{IsDown}
use Rattle.pending_laws.proofs.BarredJoins.{in_front, in_back, one_rule, is_new, IsOfBoth}

-- ---- What is made of two rules

-- the declarations of both are of one or of the other
either_decl : (above below : List DeclItem) (d : Decl) → Contains (map (λ x. x.decl) (above ++ below)) d → Contains (map (λ x. x.decl) above) d ⊎ Contains (map (λ x. x.decl) below) d
either_decl above below d has = at (map_from (λ (x : DeclItem). x.decl) (above ++ below) d has)
  where
    at : (x : DeclItem) × Contains (above ++ below) x × (x.decl ≡ d) → Contains (map (λ x. x.decl) above) d ⊎ Contains (map (λ x. x.decl) below) d
    at (x, among, is) = which (Contains-append_cases above below x among)
      where
        which : Contains above x ⊎ Contains below x → Contains (map (λ x. x.decl) above) d ⊎ Contains (map (λ x. x.decl) below) d
        which (inl h) = inl (subst (λ (z : Decl). Contains (map (λ x. x.decl) above) z) is (map_has (λ (x : DeclItem). x.decl) above x h))
        which (inr h) = inr (subst (λ (z : Decl). Contains (map (λ x. x.decl) below) z) is (map_has (λ (x : DeclItem). x.decl) below x h))

first_decl : (above below : List DeclItem) (d : Decl) → Contains (map (λ x. x.decl) above) d → Contains (map (λ x. x.decl) (above ++ below)) d
first_decl above below d has =
    let w : (x : DeclItem) × Contains above x × (x.decl ≡ d) = map_from (λ (x : DeclItem). x.decl) above d has in
    subst (λ (z : Decl). Contains (map (λ x. x.decl) (above ++ below)) z) w.2 (map_has (λ (x : DeclItem). x.decl) (above ++ below) w.0 (Contains-append_left above below w.0 w.1))

-- the selectors of both are of one or of the other
pub either_selector : (upper lower : RuleParts) (s : SelectorParts) → IsOfBoth upper lower s → Contains (selectors_of upper) s ⊎ Contains (selectors_of lower) s
either_selector upper lower s has = at (map_from (λ (x : SelItem). x.selector) (both_selectors upper lower) s has)
  where
    at : (x : SelItem) × Contains (both_selectors upper lower) x × (x.selector ≡ s) → Contains (selectors_of upper) s ⊎ Contains (selectors_of lower) s
    at (x, among, is) = which (Contains-append_cases upper.selectors (filter (is_new upper) lower.selectors) x among)
      where
        which : Contains upper.selectors x ⊎ Contains (filter (is_new upper) lower.selectors) x → Contains (selectors_of upper) s ⊎ Contains (selectors_of lower) s
        which (inl h) = inl (subst (λ (z : SelectorParts). Contains (selectors_of upper) z) is (map_has (λ (x : SelItem). x.selector) upper.selectors x h))
        which (inr h) =
            let w : Contains lower.selectors x × (is_new upper x ≡ true) = Contains-filter (is_new upper) lower.selectors x h in
            inr (subst (λ (z : SelectorParts). Contains (selectors_of lower) z) is (map_has (λ (x : SelItem). x.selector) lower.selectors x w.0))

pub first_selector : (upper lower : RuleParts) (s : SelectorParts) → Contains (selectors_of upper) s → IsOfBoth upper lower s
first_selector upper lower s has =
    let w : (x : SelItem) × Contains upper.selectors x × (x.selector ≡ s) = map_from (λ (x : SelItem). x.selector) upper.selectors s has in
    subst (IsOfBoth upper lower) w.2
    (map_has (λ (x : SelItem). x.selector) (both_selectors upper lower) w.0 (Contains-append_left upper.selectors (filter (is_new upper) lower.selectors) w.0 w.1))

-- ---- Joins down

module _ (hinder : LowerBarriersHinder) (answers : List Answered) (above below : List Item) (x : ℕ) (upper : RuleParts) (p q : Pair) (f : IsLowerBarrier above below x upper p q) (apart : AreNotApart answers p.selector q.selector)
    (lacks : Contains (selectors_of upper) q.selector → Contains (decls_of upper) q.decl → ⊥) where
  same_upper : (r : RuleParts) (n : ℕ) → slice_get (above ++ below) n ≡ Some (Rule r) → n ≡ x → r ≡ upper
  same_upper r n at is = one_rule (slice_get above x) r upper (in_front above below x (Rule r) (slice_get_within above x (Rule upper) f.pair.rule_at) (subst (λ (m : ℕ). slice_get (above ++ below) m ≡ Some (Rule r)) is at)) f.pair.rule_at

  -- a rule of the lower part lacks the other pair
  lower_lacks : (y : ℕ) (lower : RuleParts) → slice_get below y ≡ Some (Rule lower) → Contains (selectors_of lower) q.selector → Contains (decls_of lower) q.decl → ⊥
  lower_lacks y lower at selector decl = f.not_below (has_at below y lower q at (selector, decl))

  hindered : (y : ℕ) (lower made : RuleParts) (e : Edit) → e ≡ moving_down above x y upper made → slice_get below y ≡ Some (Rule lower) →
      Contains (selectors_of made) p.selector → Contains (decls_of made) p.decl → (Contains (selectors_of made) q.selector → Contains (decls_of made) q.decl → ⊥) → Hinders answers (above ++ below) e (OfPair p q)
  hindered y lower made e is at selector decl none =
      (subst (λ (d : Edit). ReversesPair (above ++ below) (edited d (above ++ below)) d.moved p q) (sym is) (hinder above below x upper p q f y lower made at selector decl none), apart)

  by_selectors : (n l y : ℕ) (e : Edit) → IsJoin (above ++ below) n l HaveSameSelectors (join_selectors_down n l) e → n ≡ x → l ≡ length above + y → Hinders answers (above ++ below) e (OfPair p q)
  by_selectors n l y e j is_x is_y = hindered y j.lower (record { selectors = j.lower.selectors; decls = upper.decls ++ j.lower.decls }) e
      (j.is ∙ ap (λ (u : RuleParts). join_selectors_down n l u j.lower) same ∙ ap (λ (m : ℕ). join_selectors_down m l upper j.lower) is_x ∙ ap (λ (m : ℕ). join_selectors_down x m upper j.lower) is_y) below_at
      ((j.may p.selector).0 (subst (λ (r : RuleParts). Contains (selectors_of r) p.selector) (sym same) f.pair.selector_in))
      (first_decl upper.decls j.lower.decls p.decl f.pair.decl_in)
      (λ selector decl. which selector (either_decl upper.decls j.lower.decls q.decl decl))
    where
      same : j.upper ≡ upper
      same = same_upper j.upper n j.rules.upper_at is_x

      below_at : slice_get below y ≡ Some (Rule j.lower)
      below_at = sym (in_back above below y) ∙ subst (λ (m : ℕ). slice_get (above ++ below) m ≡ Some (Rule j.lower)) is_y j.rules.lower_at

      which : Contains (selectors_of j.lower) q.selector → Contains (decls_of upper) q.decl ⊎ Contains (decls_of j.lower) q.decl → ⊥
      which selector (inl decl) = lacks (subst (λ (r : RuleParts). Contains (selectors_of r) q.selector) same ((j.may q.selector).1 selector)) decl
      which selector (inr decl) = lower_lacks y j.lower below_at selector decl

  by_decls : (n l y : ℕ) (e : Edit) → IsJoin (above ++ below) n l HaveSameDecls (join_decls_down n l) e → n ≡ x → l ≡ length above + y → Hinders answers (above ++ below) e (OfPair p q)
  by_decls n l y e j is_x is_y = hindered y j.lower (record { selectors = both_selectors upper j.lower; decls = j.lower.decls }) e
      (j.is ∙ ap (λ (u : RuleParts). join_decls_down n l u j.lower) same ∙ ap (λ (m : ℕ). join_decls_down m l upper j.lower) is_x ∙ ap (λ (m : ℕ). join_decls_down x m upper j.lower) is_y) below_at
      (first_selector upper j.lower p.selector f.pair.selector_in)
      (subst (λ (ds : List Decl). Contains ds p.decl) decls_are f.pair.decl_in)
      (λ selector decl. which (either_selector upper j.lower q.selector selector) decl)
    where
      same : j.upper ≡ upper
      same = same_upper j.upper n j.rules.upper_at is_x

      decls_are : decls_of upper ≡ decls_of j.lower
      decls_are = sym (ap decls_of same) ∙ j.may

      below_at : slice_get below y ≡ Some (Rule j.lower)
      below_at = sym (in_back above below y) ∙ subst (λ (m : ℕ). slice_get (above ++ below) m ≡ Some (Rule j.lower)) is_y j.rules.lower_at

      which : Contains (selectors_of upper) q.selector ⊎ Contains (selectors_of j.lower) q.selector → Contains (decls_of j.lower) q.decl → ⊥
      which (inl selector) decl = lacks selector (subst (λ (ds : List Decl). Contains ds q.decl) (sym decls_are) decl)
      which (inr selector) decl = lower_lacks y j.lower below_at selector decl

  pub joins_hindered : (k : Step) (e : Edit) (y : ℕ) → IsStep (above ++ below) k e → IsDown k → first_item k ≡ x → last_item k ≡ length above + y → Hinders answers (above ++ below) e (OfPair p q)
  joins_hindered (JoinSelDown n l) e y j down is_x is_y = by_selectors n l y e j is_x is_y
  joins_hindered (JoinDeclDown n l) e y j down is_x is_y = by_decls n l y e j is_x is_y
  joins_hindered (CutDecl n i) e y c down is_x is_y = absurd down
  joins_hindered (CutSel n i) e y c down is_x is_y = absurd down
  joins_hindered (JoinSelUp n l) e y j down is_x is_y = absurd down
  joins_hindered (JoinDeclUp n l) e y j down is_x is_y = absurd down
  joins_hindered (Share n l) e y j down is_x is_y = absurd down
