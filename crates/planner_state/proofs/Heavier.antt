-- The rules behind a step can be weighed.
use Rattle.std.proofs.Common.{◌≡◌, ◌⊎◌, ℕ, zero, suc, ◌+◌, ◌≤◌, not, List, [], ◌∷◌, ◌++◌, length, Some, None, sym, subst, inl, inr, arith}
use Rattle.std.specs.Prelude.{slice_get}
use Rattle.std.specs.List.{AllByRecursion, filter, flat_map, remove}
use Rattle.std.proofs.lemmas.Bool.{cond_both}
use Rattle.std.proofs.lemmas.List.{length-append}
use Rattle.css_model.specs.declared.sheet.DeclItem.{DeclItem}
use Rattle.css_model.specs.declared.sheet.Item.{Item}
use Rattle.css_model.specs.declared.sheet.Item.TheVariants.{Rule, KeptRule, KeptBlock}
use Rattle.css_model.specs.declared.sheet.SelItem.{SelItem}
use Rattle.css_model.specs.Sheets.Limits.{max_bytes}
use Rattle.css_model.specs.Sheets.Printed.{printed_declaration, printed_item, printed_selector}
use Rattle.css_model.specs.Sheets.RuleParts.{RuleParts}
use Rattle.css_model.specs.Sheets.Sound.{IsSound}
use Rattle.step_queue.specs.declared.heaviest.Heaviest.{Heaviest}
use Rattle.order_laws.specs.Edits.{Edit, edited}
use Rattle.order_laws.specs.Members.{has_decl, has_selector}
use Rattle.plan_laws.specs.Plannable.{IsPlannable}
use Rattle.planner_state.specs.Weighing.{AreWeighable, IsNotHeavier}
use Rattle.planner_state.proofs.Behind.{Bring, HasStood, brought_or_left}
use Rattle.planner_state.proofs.Plannable.{sound_after}
use Rattle.step_laws.proofs.ForCallers.{rule_is_light, rule_sound}
use Rattle.step_laws.specs.declared.step.Step.{Step}
use Rattle.step_laws.specs.declared.step.Step.TheVariants.{CutDecl, CutSel, JoinSelUp, JoinSelDown, JoinDeclUp, JoinDeclDown, Share}
use Rattle.step_laws.specs.Left.{EachIsMadeOfItself, StepsMakeOf}
use Rattle.step_laws.specs.RuleParting.{both_selectors, common_decls, each_last, item_if_any, rule_or_none, without_decls}
use Rattle.step_laws.specs.Sizes.{rule_weight, size, weight}
use Rattle.step_laws.specs.StepEdits.{AreRules}
use Rattle.step_laws.specs.Steps.{IsStep}
use Rattle.rule_parts.proofs.ForCallers.{weight-append, weight-filter}

-- ---- Parts of lists

weight_removed : {A : Type 0} (text : A → List ℕ) (xs : List A) (i : ℕ) → weight text (remove xs i) ≤ weight text xs
weight_removed text [] zero = omega arith
weight_removed text [] (suc i) = omega arith
weight_removed text (x ∷ xs) zero = omega arith
weight_removed text (x ∷ xs) (suc i) =
    let ih : weight text (remove xs i) ≤ weight text xs = weight_removed text xs i in
    let e : length (text x) + 1 + weight text (remove xs i) ≤ length (text x) + 1 + weight text xs = omega (arith, ih) in e

weight_last : (text : DeclItem → List ℕ) (ds : List DeclItem) → weight text (each_last ds) ≤ weight text ds
weight_last text [] = omega arith
weight_last text (d ∷ ds) =
    let ih : weight text (each_last ds) ≤ weight text ds = weight_last text ds in
    cond_both (has_decl ds d.decl) (each_last ds) (d ∷ each_last ds) (λ ys. weight text ys ≤ length (text d) + 1 + weight text ds)
    (λ again. omega (arith, ih))
    (λ last. (let e : length (text d) + 1 + weight text (each_last ds) ≤ length (text d) + 1 + weight text ds = omega (arith, ih) in e))

pub weight_both : (source : List ℕ) (u l : RuleParts) → weight (printed_selector source) (both_selectors u l) ≤ weight (printed_selector source) u.selectors + weight (printed_selector source) l.selectors
weight_both source u l =
    let new : List SelItem = filter (λ s. not (has_selector u.selectors s.selector)) l.selectors in
    let both : weight (printed_selector source) (u.selectors ++ new) ≡ weight (printed_selector source) u.selectors + weight (printed_selector source) new = weight-append (printed_selector source) u.selectors new in
    let part : weight (printed_selector source) new ≤ weight (printed_selector source) l.selectors = weight-filter (printed_selector source) (λ s. not (has_selector u.selectors s.selector)) l.selectors in
    omega (arith, both, part)

weight_common : (source : List ℕ) (u l : RuleParts) → weight (printed_declaration source) (common_decls u l) ≤ weight (printed_declaration source) l.decls
weight_common source u l =
    let last : weight (printed_declaration source) (each_last (filter (λ d. has_decl u.decls d.decl) l.decls)) ≤ weight (printed_declaration source) (filter (λ d. has_decl u.decls d.decl) l.decls) = weight_last (printed_declaration source) (filter (λ d. has_decl u.decls d.decl) l.decls) in
    let part : weight (printed_declaration source) (filter (λ d. has_decl u.decls d.decl) l.decls) ≤ weight (printed_declaration source) l.decls = weight-filter (printed_declaration source) (λ d. has_decl u.decls d.decl) l.decls in
    omega (arith, last, part)

-- ---- Items

abbrev LightItem : List ℕ → Heaviest → Item → Type 0
LightItem source h (Rule r) = IsNotHeavier source h r
LightItem source h (KeptRule k) = Unit {0}
LightItem source h (KeptBlock piece) = Unit {0}

abbrev AreLight : List ℕ → Heaviest → List Item → Type 0
AreLight source h items = AllByRecursion (LightItem source h) items

any_light : (source : List ℕ) (h : Heaviest) (ss : List SelItem) (ds : List DeclItem) (r : RuleParts) → IsNotHeavier source h r → AreLight source h (item_if_any ss ds r)
any_light source h [] ds r light = tt
any_light source h (s ∷ ss) [] r light = tt
any_light source h (s ∷ ss) (d ∷ ds) r light = (light, tt)

left_light : (source : List ℕ) (h : Heaviest) (r : RuleParts) → IsNotHeavier source h r → AreLight source h (rule_or_none r)
left_light source h r light = any_light source h r.selectors r.decls r light

-- ---- Steps

module _ (source : List ℕ) (h : Heaviest) where
  -- each two rules together
  abbrev FitTogether : List Item → Type 0
  FitTogether items = (x y : ℕ) (u l : RuleParts) → AreRules items x y u l →
      (weight (printed_selector source) u.selectors + weight (printed_selector source) l.selectors ≤ h.selectors) × (weight (printed_declaration source) u.decls + weight (printed_declaration source) l.decls ≤ h.decls)

  -- a rule that has less
  fewer_decls : (r : RuleParts) (ds : List DeclItem) → weight (printed_declaration source) ds ≤ weight (printed_declaration source) r.decls → IsNotHeavier source h r → IsNotHeavier source h (record { selectors = r.selectors; decls = ds })
  fewer_decls r ds less light = (light.0, let l = light.1 in omega (arith, l, less))

  fewer_selectors : (r : RuleParts) (ss : List SelItem) → weight (printed_selector source) ss ≤ weight (printed_selector source) r.selectors → IsNotHeavier source h r → IsNotHeavier source h (record { selectors = ss; decls = r.decls })
  fewer_selectors r ss less light = (let l = light.0 in omega (arith, l, less), light.1)

  less_decls : (common : List DeclItem) (r : RuleParts) → IsNotHeavier source h r → AreLight source h (rule_or_none (without_decls common r))
  less_decls common r light = left_light source h (without_decls common r) (fewer_decls r (filter (λ d. not (has_decl common d.decl)) r.decls) (weight-filter (printed_declaration source) (λ d. not (has_decl common d.decl)) r.decls) light)

  -- one that has what two have
  with_decls : (r u l : RuleParts) → IsNotHeavier source h r → weight (printed_declaration source) u.decls + weight (printed_declaration source) l.decls ≤ h.decls → IsNotHeavier source h (record { selectors = r.selectors; decls = u.decls ++ l.decls })
  with_decls r u l light fits = (light.0, let both = weight-append (printed_declaration source) u.decls l.decls in omega (arith, both, fits))

  with_both : (u l : RuleParts) (ds : List DeclItem) → weight (printed_declaration source) ds ≤ h.decls → weight (printed_selector source) u.selectors + weight (printed_selector source) l.selectors ≤ h.selectors →
      IsNotHeavier source h (record { selectors = both_selectors u l; decls = ds })
  with_both u l ds light fits = (let both = weight_both source u l in omega (arith, both, fits), light)

  brings_light : (items : List Item) (k : Step) (e : Edit) → IsStep items k e → ((n : ℕ) (r : RuleParts) → slice_get items n ≡ Some (Rule r) → IsNotHeavier source h r) → FitTogether items → Bring (LightItem source h) e.changes
  brings_light items (CutDecl n i) e is light fits =
      subst (λ (d : Edit). Bring (LightItem source h) d.changes) (sym is.is)
      (left_light source h (record { selectors = is.rule.selectors; decls = remove is.rule.decls i }) (fewer_decls is.rule (remove is.rule.decls i) (weight_removed (printed_declaration source) is.rule.decls i) (light n is.rule is.rule_at)), tt)
  brings_light items (CutSel n i) e is light fits =
      subst (λ (d : Edit). Bring (LightItem source h) d.changes) (sym is.is)
      (left_light source h (record { selectors = remove is.rule.selectors i; decls = is.rule.decls }) (fewer_selectors is.rule (remove is.rule.selectors i) (weight_removed (printed_selector source) is.rule.selectors i) (light n is.rule is.rule_at)), tt)
  brings_light items (JoinSelUp x y) e is light fits =
      subst (λ (d : Edit). Bring (LightItem source h) d.changes) (sym is.is)
      ((with_decls is.upper is.upper is.lower (light x is.upper is.rules.upper_at) (fits x y is.upper is.lower is.rules).1, tt), (tt, tt))
  brings_light items (JoinSelDown x y) e is light fits =
      subst (λ (d : Edit). Bring (LightItem source h) d.changes) (sym is.is)
      (tt, ((with_decls is.lower is.upper is.lower (light y is.lower is.rules.lower_at) (fits x y is.upper is.lower is.rules).1, tt), tt))
  brings_light items (JoinDeclUp x y) e is light fits =
      subst (λ (d : Edit). Bring (LightItem source h) d.changes) (sym is.is)
      ((with_both is.upper is.lower is.upper.decls (light x is.upper is.rules.upper_at).1 (fits x y is.upper is.lower is.rules).0, tt), (tt, tt))
  brings_light items (JoinDeclDown x y) e is light fits =
      subst (λ (d : Edit). Bring (LightItem source h) d.changes) (sym is.is)
      (tt, ((with_both is.upper is.lower is.lower.decls (light y is.lower is.rules.lower_at).1 (fits x y is.upper is.lower is.rules).0, tt), tt))
  brings_light items (Share x y) e is light fits =
      let below : weight (printed_declaration source) is.lower.decls ≤ h.decls = (light y is.lower is.rules.lower_at).1 in
      let part : weight (printed_declaration source) (common_decls is.upper is.lower) ≤ weight (printed_declaration source) is.lower.decls = weight_common source is.upper is.lower in
      let common : weight (printed_declaration source) (common_decls is.upper is.lower) ≤ h.decls = omega (arith, below, part) in
      subst (λ (d : Edit). Bring (LightItem source h) d.changes) (sym is.is) (
        less_decls (common_decls is.upper is.lower) is.upper (light x is.upper is.rules.upper_at),
        (
          (
            with_both is.upper is.lower (common_decls is.upper is.lower) common (fits x y is.upper is.lower is.rules).0,
            less_decls (common_decls is.upper is.lower) is.lower (light y is.lower is.rules.lower_at),
          ),
          tt,
        ),
      )

  -- no rule behind a step weighs more
  not_heavier : (items : List Item) (k : Step) (e : Edit) → IsStep items k e → ((n : ℕ) (r : RuleParts) → slice_get items n ≡ Some (Rule r) → IsNotHeavier source h r) → FitTogether items →
      (n : ℕ) (r : RuleParts) → slice_get (edited e items) n ≡ Some (Rule r) → IsNotHeavier source h r
  not_heavier items k e is light fits n r at = which (brought_or_left (LightItem source h) e items n (Rule r) (brings_light items k e is light fits) at)
    where
      which : IsNotHeavier source h r ⊎ HasStood e items n (Rule r) → IsNotHeavier source h r
      which (inl new) = new
      which (inr old) = light old.number r old.at

-- ---- Sheets

-- two rules of a sheet weigh no more than all of it
two_are_light : (source : List ℕ) (items : List Item) (x y : ℕ) (u l : RuleParts) → IsSound source items → AreRules items x y u l → rule_weight source u + rule_weight source l ≤ size source items
two_are_light source [] x y u l sound rules = absurd (let e : None ≡ Some (Rule u) = rules.upper_at in cc)
two_are_light source (z ∷ items) zero zero u l sound rules = absurd (let less = rules.in_order in omega (arith, less))
two_are_light source (z ∷ items) zero (suc y) u l sound rules =
    let here : rule_weight source u ≤ length (printed_item source z ++ []) = rule_is_light source (z ∷ []) 0 u (sound.0, tt) rules.upper_at in
    let only : length (printed_item source z ++ []) ≡ length (printed_item source z) + 0 = length-append (printed_item source z) [] in
    let behind : rule_weight source l ≤ size source items = rule_is_light source items y l sound.1 rules.lower_at in
    let whole : length (printed_item source z ++ flat_map (printed_item source) items) ≡ length (printed_item source z) + size source items = length-append (printed_item source z) (flat_map (printed_item source) items) in
    let e : rule_weight source u + rule_weight source l ≤ length (printed_item source z ++ flat_map (printed_item source) items) = omega (arith, here, only, behind, whole) in e
two_are_light source (z ∷ items) (suc x) zero u l sound rules = absurd (let less = rules.in_order in omega (arith, less))
two_are_light source (z ∷ items) (suc x) (suc y) u l sound rules =
    let ih : rule_weight source u + rule_weight source l ≤ size source items = two_are_light source items x y u l sound.1 (record { upper_at = rules.upper_at; lower_at = rules.lower_at; in_order = (let less = rules.in_order in omega (arith, less)) }) in
    let whole : length (printed_item source z ++ flat_map (printed_item source) items) ≡ length (printed_item source z) + size source items = length-append (printed_item source z) (flat_map (printed_item source) items) in
    let e : rule_weight source u + rule_weight source l ≤ length (printed_item source z ++ flat_map (printed_item source) items) = omega (arith, ih, whole) in e

abbrev most : Heaviest
most = record { selectors = max_bytes; decls = max_bytes }

-- the rules behind a step of a sheet that can be planned can be weighed
pub weighable_after : StepsMakeOf → EachIsMadeOfItself → (source : List ℕ) (items : List Item) → IsPlannable source items → (k : Step) (e : Edit) → IsStep items k e → AreWeighable source (edited e items)
weighable_after make itself source items plannable k e is n r at =
    let whole = rule_sound source (edited e items) n r (sound_after make itself source items plannable k e is) at in
    let small : IsNotHeavier source most r = not_heavier source most items k e is light fits n r at in
    record { selectors = whole.selectors; decls = whole.decls; small_selectors = small.0; small_decls = small.1 }
  where
    light : (m : ℕ) (q : RuleParts) → slice_get items m ≡ Some (Rule q) → (weight (printed_selector source) q.selectors ≤ max_bytes) × (weight (printed_declaration source) q.decls ≤ max_bytes)
    light m q there =
        let all : weight (printed_selector source) q.selectors + weight (printed_declaration source) q.decls ≤ size source items = rule_is_light source items m q plannable.sound there in
        let short = plannable.short in
        (omega (arith, all, short), omega (arith, all, short))

    fits : (x y : ℕ) (u l : RuleParts) → AreRules items x y u l →
        (weight (printed_selector source) u.selectors + weight (printed_selector source) l.selectors ≤ max_bytes) × (weight (printed_declaration source) u.decls + weight (printed_declaration source) l.decls ≤ max_bytes)
    fits x y u l rules =
        let all : weight (printed_selector source) u.selectors + weight (printed_declaration source) u.decls + (weight (printed_selector source) l.selectors + weight (printed_declaration source) l.decls) ≤ size source items =
        two_are_light source items x y u l plannable.sound rules in
        let short = plannable.short in
        (omega (arith, all, short), omega (arith, all, short))
