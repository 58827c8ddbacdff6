-- What a barrier hinders.
use Rattle.std.proofs.Common.{◌≡◌, ℕ, zero, suc, ◌+◌, ◌<◌, Bool, true, false, List, [], ◌∷◌, ◌++◌, length, map, not, Option, Some, refl, sym, ap, ◌∙◌, subst, arith}
use Rattle.std.specs.Prelude.{slice_get}
use Rattle.std.specs.List.{Contains, filter}
use Rattle.std.proofs.lemmas.List.Elements.{Contains-append_left, Contains-append_right}
use Rattle.css_model.specs.declared.sheet.Decl.{Decl}
use Rattle.css_model.specs.declared.sheet.DeclItem.{DeclItem}
use Rattle.css_model.specs.declared.sheet.Item.{Item}
use Rattle.css_model.specs.declared.sheet.Item.TheVariants.{Rule}
use Rattle.css_model.specs.declared.sheet.SelItem.{SelItem}
use Rattle.css_model.specs.Cascade.Order.{Pair}
use Rattle.css_model.specs.Documents.SelectorParts.{SelectorParts}
use Rattle.css_model.specs.Sheets.RuleParts.{RuleParts}
use Rattle.css_model.specs.Sheets.StyleRule.{HaveSameSelectors, joined, selectors_of}
use Rattle.list_facts.proofs.Members.{Contains-filtered}
use Rattle.order_laws.specs.Edits.{Edit, edited}
use Rattle.order_laws.specs.Members.{has_selector}
use Rattle.order_laws.specs.Reversing.{ReversesPair}
use Rattle.order_laws.proofs.ForCallers.{has_selector_is, map_from, map_has}
use Rattle.step_laws.specs.declared.step.Step.{Step}
use Rattle.step_laws.specs.declared.step.Step.TheVariants.{CutDecl, CutSel, JoinSelUp, JoinSelDown, JoinDeclUp, JoinDeclDown, Share}
use Rattle.step_laws.specs.Free.{Answered, AreNotApart}
use Rattle.step_laws.specs.RuleParting.{both_selectors}
use Rattle.step_laws.specs.StepEdits.{join_selectors_up, join_decls_up}
use Rattle.step_laws.specs.Steps.{HaveSameDecls, IsJoin, IsStep, first_item, last_item, decls_of}
use Rattle.plan_laws.specs.Barrier.Hindering.{OfPair, Hinders}
use Rattle.plan_laws.specs.Barrier.Barriers.{IsBarrier, BarriersHinder, moving_up}
use Rattle.pending_laws.specs.Scopes.{IsUp}

-- ---- Items of a sheet in two parts

pub in_front : (above below : List Item) (x : ℕ) (item : Item) → x < length above → slice_get (above ++ below) x ≡ Some item → slice_get above x ≡ Some item
in_front [] below x item less at = absurd (omega (arith, less))
in_front (z ∷ above) below zero item less at = at
in_front (z ∷ above) below (suc x) item less at = in_front above below x item (omega (arith, less)) at

pub in_back : (above below : List Item) (y : ℕ) → slice_get (above ++ below) (length above + y) ≡ slice_get below y
in_back [] below y = let e : 0 + y ≡ y = omega arith in ap (slice_get below) e
in_back (z ∷ above) below y = let e : length (z ∷ above) + y ≡ suc (length above + y) = omega arith in ap (slice_get (z ∷ above ++ below)) e ∙ in_back above below y

pub one_rule : (o : Option Item) (a b : RuleParts) → o ≡ Some (Rule a) → o ≡ Some (Rule b) → a ≡ b
one_rule o a b e f = cc

-- ---- What is made of two rules has what the lower one has

-- the declarations of both
last_decl : (above below : List DeclItem) (d : Decl) → Contains (map (λ x. x.decl) below) d → Contains (map (λ x. x.decl) (above ++ below)) d
last_decl above below d has =
    let w : (x : DeclItem) × Contains below x × (x.decl ≡ d) = map_from (λ (x : DeclItem). x.decl) below d has in
    subst (λ (z : Decl). Contains (map (λ x. x.decl) (above ++ below)) z) w.2 (map_has (λ (x : DeclItem). x.decl) (above ++ below) w.0 (Contains-append_right above below w.0 w.1))

-- the selectors of both, each once
abbrev pub is_new : RuleParts → SelItem → Bool
is_new upper x = not (has_selector upper.selectors x.selector)

abbrev pub IsOfBoth : RuleParts → RuleParts → SelectorParts → Type 0
IsOfBoth upper lower s = Contains (map (λ x. x.selector) (both_selectors upper lower)) s

pub last_selector : (upper lower : RuleParts) (s : SelectorParts) → Contains (selectors_of lower) s → IsOfBoth upper lower s
last_selector upper lower s has = which (has_selector upper.selectors s) refl
  where
    which : (b : Bool) → has_selector upper.selectors s ≡ b → IsOfBoth upper lower s
    which true is =
        let w : (x : SelItem) × Contains upper.selectors x × (x.selector ≡ s) = map_from (λ (x : SelItem). x.selector) upper.selectors s ((has_selector_is upper.selectors s).0 is) in
        subst (IsOfBoth upper lower) w.2 (map_has (λ (x : SelItem). x.selector) (both_selectors upper lower) w.0 (Contains-append_left upper.selectors (filter (is_new upper) lower.selectors) w.0 w.1))
    which false is =
        let w : (x : SelItem) × Contains lower.selectors x × (x.selector ≡ s) = map_from (λ (x : SelItem). x.selector) lower.selectors s has in
        let lacks : is_new upper w.0 ≡ true = ap (λ (z : SelectorParts). not (has_selector upper.selectors z)) w.2 ∙ ap not is in
        subst (IsOfBoth upper lower) w.2 (map_has (λ (x : SelItem). x.selector) (both_selectors upper lower) w.0
        (Contains-append_right upper.selectors (filter (is_new upper) lower.selectors) w.0 (Contains-filtered (is_new upper) lower.selectors w.0 w.1 lacks)))

-- ---- Joins up

module _ (hinder : BarriersHinder) (answers : List Answered) (above below : List Item) (y : ℕ) (lower : RuleParts) (p q : Pair) (w : IsBarrier above below y lower p q) (apart : AreNotApart answers p.selector q.selector) where
  same_lower : (r : RuleParts) (l : ℕ) → slice_get (above ++ below) l ≡ Some (Rule r) → l ≡ length above + y → r ≡ lower
  same_lower r l at is = one_rule (slice_get (above ++ below) l) r lower at (ap (slice_get (above ++ below)) is ∙ in_back above below y ∙ w.pair.rule_at)

  hindered : (x : ℕ) (upper made : RuleParts) (e : Edit) → e ≡ moving_up above x y lower made → slice_get (above ++ below) x ≡ Some (Rule upper) → x < length above →
      Contains (selectors_of made) p.selector → Contains (decls_of made) p.decl → Hinders answers (above ++ below) e (OfPair p q)
  hindered x upper made e is at less selector decl =
      (subst (λ (d : Edit). ReversesPair (above ++ below) (edited d (above ++ below)) d.moved p q) (sym is) (hinder above below y lower p q w x upper made (in_front above below x (Rule upper) less at) selector decl), apart)

  by_selectors : (x l : ℕ) (e : Edit) → IsJoin (above ++ below) x l HaveSameSelectors (join_selectors_up x l) e → x < length above → l ≡ length above + y → Hinders answers (above ++ below) e (OfPair p q)
  by_selectors x l e j less is =
      let same : j.lower ≡ lower = same_lower j.lower l j.rules.lower_at is in
      hindered x j.upper (joined j.upper lower) e (j.is ∙ ap (join_selectors_up x l j.upper) same ∙ ap (λ (n : ℕ). join_selectors_up x n j.upper lower) is) j.rules.upper_at less
      ((j.may p.selector).1 (subst (λ (r : RuleParts). Contains (selectors_of r) p.selector) (sym same) w.pair.selector_in))
      (last_decl j.upper.decls lower.decls p.decl w.pair.decl_in)

  by_decls : (x l : ℕ) (e : Edit) → IsJoin (above ++ below) x l HaveSameDecls (join_decls_up x l) e → x < length above → l ≡ length above + y → Hinders answers (above ++ below) e (OfPair p q)
  by_decls x l e j less is =
      let same : j.lower ≡ lower = same_lower j.lower l j.rules.lower_at is in
      hindered x j.upper (record { selectors = both_selectors j.upper lower; decls = j.upper.decls }) e (j.is ∙ ap (join_decls_up x l j.upper) same ∙ ap (λ (n : ℕ). join_decls_up x n j.upper lower) is) j.rules.upper_at less
      (last_selector j.upper lower p.selector w.pair.selector_in)
      (subst (λ (ds : List Decl). Contains ds p.decl) (sym (j.may ∙ ap decls_of same)) w.pair.decl_in)

  pub joins_hindered : (k : Step) (e : Edit) → IsStep (above ++ below) k e → IsUp k → first_item k < length above → last_item k ≡ length above + y → Hinders answers (above ++ below) e (OfPair p q)
  joins_hindered (JoinSelUp x l) e j up less is = by_selectors x l e j less is
  joins_hindered (JoinDeclUp x l) e j up less is = by_decls x l e j less is
  joins_hindered (CutDecl n i) e c up less is = absurd up
  joins_hindered (CutSel n i) e c up less is = absurd up
  joins_hindered (JoinSelDown x l) e j up less is = absurd up
  joins_hindered (JoinDeclDown x l) e j up less is = absurd up
  joins_hindered (Share x l) e j up less is = absurd up
