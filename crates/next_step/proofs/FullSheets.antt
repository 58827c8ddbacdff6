-- Steps by declarations that a sheet without room for one more item has not.
use Rattle.std.proofs.Common.{◌≡◌, ◌⊎◌, ℕ, ◌<◌, ◌≤◌, List, Some, length, ap, ap₂, subst, inl, inr, ◌∙◌, arith}
use Rattle.std.specs.Prelude.{slice_get}
use Rattle.std.specs.List.{Contains}
use Rattle.css_model.specs.declared.sheet.Decl.{Decl}
use Rattle.css_model.specs.declared.sheet.DeclItem.{DeclItem}
use Rattle.css_model.specs.declared.sheet.Item.{Item}
use Rattle.css_model.specs.declared.sheet.Item.TheVariants.{Rule}
use Rattle.css_model.specs.Sheets.Limits.{max_items}
use Rattle.css_model.specs.Sheets.RuleParts.{RuleParts}
use Rattle.order_laws.specs.Edits.{Edit}
use Rattle.step_laws.specs.declared.step.Step.{Step}
use Rattle.step_laws.specs.declared.step.Step.TheVariants.{JoinDeclUp, Share}
use Rattle.step_laws.specs.Steps.{AreDeclsAmong, HasStep, HaveSameDecls, IsStep, first_item, last_item}
use Rattle.next_step.specs.Common.{AreFocusAnd}
use Rattle.next_step.specs.Kinds.{IsByDecls}
use Rattle.next_step.specs.Once.{StandOnce}
use Rattle.next_step.specs.declared.view.Focus.{Focus}
use Rattle.next_step.specs.declared.view.Partners.{Partners}
use Rattle.next_step.proofs.LightRules.{only_share}
use Rattle.next_step.proofs.PoorShares.{both, few_exchanged, keeps_some}
use Rattle.next_step.proofs.Rules.{one_rule}

-- each of two rules has more declarations than they have in common
module _ (items : List Item) (full : max_items ≤ length items) (x y : ℕ) (u l : RuleParts) (at : slice_get items x ≡ Some (Rule u)) (at' : slice_get items y ≡ Some (Rule l))
    (count : ℕ) (few_above : length (both l.decls u.decls) ≤ count) (few_below : length (both u.decls l.decls) ≤ count) (more_above : count < length u.decls) (more_below : count < length l.decls) where
  not_same : HaveSameDecls u l → ⊥
  not_same same = keeps_some u l count few_above more_above (λ d h. subst (λ (ds : List Decl). Contains ds d) same h)

  no_join : HasStep items (JoinDeclUp x y) → ⊥
  no_join (e, is) =
      not_same (subst (λ (p : RuleParts). HaveSameDecls p l) (one_rule items x is.upper u is.rules.upper_at at) (subst (λ (p : RuleParts). HaveSameDecls is.upper p) (one_rule items y is.lower l is.rules.lower_at at') is.may))

  no_room : AreDeclsAmong u l ⊎ AreDeclsAmong l u ⊎ (length items < max_items) → ⊥
  no_room (inl among) = keeps_some u l count few_above more_above among
  no_room (inr (inl among)) = keeps_some l u count few_below more_below among
  no_room (inr (inr less)) = omega (arith, less, full)

  no_share : (e : Edit) → IsStep items (Share x y) e → ⊥
  no_share e is =
      no_room (subst (λ (p : RuleParts). AreDeclsAmong p l ⊎ AreDeclsAmong l p ⊎ (length items < max_items)) (one_rule items x is.upper u is.rules.upper_at at)
      (subst (λ (p : RuleParts). AreDeclsAmong is.upper p ⊎ AreDeclsAmong p is.upper ⊎ (length items < max_items)) (one_rule items y is.lower l is.rules.lower_at at') is.may.room))

  none_by_decls : (k : Step) (e : Edit) → IsByDecls k → first_item k ≡ x → last_item k ≡ y → IsStep items k e → ⊥
  none_by_decls k e by first last is =
      no_share e (subst (λ (j : Step). IsStep items j e)
      (only_share items k e by is (λ has. no_join (subst (λ (m : ℕ). HasStep items (JoinDeclUp m y)) first (subst (λ (m : ℕ). HasStep items (JoinDeclUp (first_item k) m)) last has)))
      ∙ ap₂ Share first last) is)

-- as the code tests it: the declarations of the partner are in it once
pub none_without_room : (items : List Item) → max_items ≤ length items → (o : Focus) (other : ℕ) (theirs : RuleParts) (p : Partners) (count : ℕ) → slice_get items o.number ≡ Some (Rule o.rule.now) → slice_get items other ≡ Some (Rule theirs) →
    AreFocusAnd o other p → StandOnce (λ (d : DeclItem). d.decl) theirs.decls → length (both theirs.decls o.rule.now.decls) ≤ count → count < length o.rule.now.decls → count < length theirs.decls →
    (k : Step) (e : Edit) → IsByDecls k → first_item k ≡ p.upper → last_item k ≡ p.lower → IsStep items k e → ⊥
none_without_room items full o other theirs p count at at' sides once few more more' = which sides
  where
    few' : length (both o.rule.now.decls theirs.decls) ≤ count
    few' = let e = few_exchanged theirs.decls o.rule.now.decls once in omega (arith, e, few)

    which : AreFocusAnd o other p → (k : Step) (e : Edit) → IsByDecls k → first_item k ≡ p.upper → last_item k ≡ p.lower → IsStep items k e → ⊥
    which (inl (upper, lower)) k e by first last is =
        none_by_decls items full p.upper p.lower theirs o.rule.now (ap (slice_get items) upper ∙ at') (ap (slice_get items) lower ∙ at) count few' few more' more k e by first last is
    which (inr (upper, lower)) k e by first last is =
        none_by_decls items full p.upper p.lower o.rule.now theirs (ap (slice_get items) upper ∙ at) (ap (slice_get items) lower ∙ at') count few few' more more' k e by first last is
