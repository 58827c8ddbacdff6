-- What steps of two rules save at most.
use Rattle.std.proofs.Common.{◌≡◌, ℕ, ◌+◌, ◌≤◌, Bool, true, false, not, cond, List, [], ◌∷◌, ◌++◌, Some, length, refl, ap, subst, ◌∙◌, arith}
use Rattle.std.specs.Prelude.{slice_get}
use Rattle.std.specs.List.{Contains, filter}
use Rattle.std.proofs.lemmas.Bool.{false_from_ne_true}
use Rattle.list_facts.proofs.Members.{Contains-here, Contains-there}
use Rattle.css_model.specs.declared.sheet.Item.{Item}
use Rattle.css_model.specs.declared.sheet.Item.TheVariants.{Rule}
use Rattle.css_model.specs.declared.sheet.SelItem.{SelItem}
use Rattle.css_model.specs.Documents.SelectorParts.{SelectorParts}
use Rattle.css_model.specs.Sheets.Limits.{max_bytes}
use Rattle.css_model.specs.Sheets.Printed.{printed_declaration, printed_selector}
use Rattle.css_model.specs.Sheets.RuleParts.{RuleParts}
use Rattle.css_model.specs.Sheets.Sound.{IsSound}
use Rattle.order_laws.proofs.ForCallers.{has_selector_is, sels}
use Rattle.order_laws.specs.Edits.{Edit, edited}
use Rattle.order_laws.specs.Members.{has_selector}
use Rattle.step_laws.proofs.ForCallers.{rule_is_light, steps_weigh}
use Rattle.step_laws.specs.declared.step.Step.{Step}
use Rattle.step_laws.specs.declared.step.Step.TheVariants.{JoinDeclDown, JoinDeclUp, JoinSelDown, JoinSelUp}
use Rattle.step_laws.specs.RuleParting.{both_selectors}
use Rattle.step_laws.specs.Sizes.{Saves, brought_weight, rule_weight, size, taken_weight, weight}
use Rattle.step_laws.specs.StepEdits.{join_decls_down, join_decls_up, join_selectors_down, join_selectors_up}
use Rattle.step_laws.specs.Steps.{IsStep, first_item, last_item}
use Rattle.step_savings.specs.Apart.{RulesApart}
use Rattle.next_step.specs.Late.{CommonWeighsAtMost, DeclsWeighAtMost, LeavesOfSelectors, SelectorsWeighAtMost}

-- ---- Parts of lists

weight_of_both : {A : Type 0} (text : A → List ℕ) (xs ys : List A) → weight text (xs ++ ys) ≡ weight text xs + weight text ys
weight_of_both text [] ys = let e : weight text ys ≡ 0 + weight text ys = omega arith in e
weight_of_both text (x ∷ xs) ys =
    let ih : weight text (xs ++ ys) ≡ weight text xs + weight text ys = weight_of_both text xs ys in
    let e : length (text x) + 1 + weight text (xs ++ ys) ≡ length (text x) + 1 + weight text xs + weight text ys = omega (arith, ih) in e

-- what passes a test and what does not weigh as much as the whole
pub weight_parted : {A : Type 0} (text : A → List ℕ) (p : A → Bool) (xs : List A) → weight text (filter p xs) + weight text (filter (λ x. not (p x)) xs) ≡ weight text xs
weight_parted text p [] = omega arith
weight_parted text p (x ∷ xs) = which (p x) (weight_parted text p xs)
  where
    which : (b : Bool) → weight text (filter p xs) + weight text (filter (λ x. not (p x)) xs) ≡ weight text xs →
        weight text (cond b (x ∷ filter p xs) (filter p xs)) + weight text (cond (not b) (x ∷ filter (λ x. not (p x)) xs) (filter (λ x. not (p x)) xs)) ≡ length (text x) + 1 + weight text xs
    which true ih = let e : length (text x) + 1 + weight text (filter p xs) + weight text (filter (λ x. not (p x)) xs) ≡ length (text x) + 1 + weight text xs = omega (arith, ih) in e
    which false ih = let e : weight text (filter p xs) + (length (text x) + 1 + weight text (filter (λ x. not (p x)) xs)) ≡ length (text x) + 1 + weight text xs = omega (arith, ih) in e

none_among : (others xs : List SelItem) → ((s : SelectorParts) → Contains (sels others) s → Contains (sels xs) s → ⊥) → filter (λ x. has_selector others x.selector) xs ≡ []
none_among others [] apart = refl
none_among others (x ∷ xs) apart =
    let lacks : has_selector others x.selector ≡ false = false_from_ne_true (has_selector others x.selector) (λ has. apart x.selector ((has_selector_is others x.selector).0 has) (Contains-here x.selector (sels xs))) in
    ap (λ (b : Bool). cond b (x ∷ filter (λ x. has_selector others x.selector) xs) (filter (λ x. has_selector others x.selector) xs)) lacks
    ∙ none_among others xs (λ s a b. apart s a (Contains-there x.selector (sels xs) s b))

module _ (source : List ℕ) where
  -- the weight of the selectors of the lower rule that the upper one has
  abbrev pub common : RuleParts → RuleParts → ℕ
  common u l = weight (printed_selector source) (filter (λ s. has_selector u.selectors s.selector) l.selectors)

  pub common_is_part : (u l : RuleParts) → common u l ≤ weight (printed_selector source) l.selectors
  common_is_part u l =
      let parted : common u l + weight (printed_selector source) (filter (λ s. not (has_selector u.selectors s.selector)) l.selectors) ≡ weight (printed_selector source) l.selectors
      = weight_parted (printed_selector source) (λ s. has_selector u.selectors s.selector) l.selectors in
      omega (arith, parted)

  pub apart_weigh : (items : List Item) (x y most : ℕ) → RulesApart items x y → CommonWeighsAtMost source items x y most most
  apart_weigh items x y most apart u l above below =
      let none : common u l ≡ 0 = ap (weight (printed_selector source)) (none_among u.selectors l.selectors (apart u l above below)) in
      omega (arith, none)

  pub all_weigh : (items : List Item) (x y left most : ℕ) → LeavesOfSelectors source items y most left → CommonWeighsAtMost source items x y left most
  all_weigh items x y left most leaves u l above below =
      let all : left + weight (printed_selector source) l.selectors ≡ most = leaves l below in
      omega (arith, all, common_is_part u l)

  selectors_weigh : (u l : RuleParts) → common u l + weight (printed_selector source) (both_selectors u l) ≡ weight (printed_selector source) u.selectors + weight (printed_selector source) l.selectors
  selectors_weigh u l =
      let both : weight (printed_selector source) (both_selectors u l) ≡ weight (printed_selector source) u.selectors + weight (printed_selector source) (filter (λ s. not (has_selector u.selectors s.selector)) l.selectors)
      = weight_of_both (printed_selector source) u.selectors (filter (λ s. not (has_selector u.selectors s.selector)) l.selectors) in
      let parted : common u l + weight (printed_selector source) (filter (λ s. not (has_selector u.selectors s.selector)) l.selectors) ≡ weight (printed_selector source) l.selectors
      = weight_parted (printed_selector source) (λ s. has_selector u.selectors s.selector) l.selectors in
      omega (arith, both, parted)

-- ---- Steps

module _ (source : List ℕ) (items : List Item) (sound : IsSound source items) where
  pub light_selectors : (n : ℕ) (r : RuleParts) → size source items ≤ max_bytes → slice_get items n ≡ Some (Rule r) → weight (printed_selector source) r.selectors ≤ max_bytes
  light_selectors n r short at = let light : rule_weight source r ≤ size source items = rule_is_light source items n r sound at in omega (arith, light, short)

  pub light_decls : (n : ℕ) (r : RuleParts) → size source items ≤ max_bytes → slice_get items n ≡ Some (Rule r) → weight (printed_declaration source) r.decls ≤ max_bytes
  light_decls n r short at = let light : rule_weight source r ≤ size source items = rule_is_light source items n r sound at in omega (arith, light, short)

  saved_is : (k : Step) (e : Edit) (n : ℕ) (u l : RuleParts) → IsStep items k e → Saves source items e n → slice_get items (first_item k) ≡ Some (Rule u) → slice_get items (last_item k) ≡ Some (Rule l) →
      n + brought_weight source e.changes ≡ taken_weight source k u l
  saved_is k e n u l is saves above below =
      let law : size source (edited e items) + taken_weight source k u l ≡ size source items + brought_weight source e.changes = steps_weigh source items k e is sound u l above below in
      let less : size source items ≡ size source (edited e items) + n = saves in
      omega (arith, law, less)

  module _ (x y : ℕ) (e : Edit) (n : ℕ) (saves : Saves source items e n) where
    pub selectors_up : (most : ℕ) → SelectorsWeighAtMost source items y most → IsStep items (JoinSelUp x y) e → n ≤ most
    selectors_up most weigh j =
        let law : n + brought_weight source (join_selectors_up x y j.upper j.lower).changes ≡ rule_weight source j.upper + rule_weight source j.lower
        = subst (λ (f : Edit). n + brought_weight source f.changes ≡ rule_weight source j.upper + rule_weight source j.lower) j.is (saved_is (JoinSelUp x y) e n j.upper j.lower j saves j.rules.upper_at j.rules.lower_at) in
        let both : weight (printed_declaration source) (j.upper.decls ++ j.lower.decls) ≡ weight (printed_declaration source) j.upper.decls + weight (printed_declaration source) j.lower.decls
        = weight_of_both (printed_declaration source) j.upper.decls j.lower.decls in
        let fits : weight (printed_selector source) j.lower.selectors ≤ most = weigh j.lower j.rules.lower_at in
        omega (arith, law, both, fits)

    pub selectors_down : (most : ℕ) → SelectorsWeighAtMost source items x most → IsStep items (JoinSelDown x y) e → n ≤ most
    selectors_down most weigh j =
        let law : n + brought_weight source (join_selectors_down x y j.upper j.lower).changes ≡ rule_weight source j.upper + rule_weight source j.lower
        = subst (λ (f : Edit). n + brought_weight source f.changes ≡ rule_weight source j.upper + rule_weight source j.lower) j.is (saved_is (JoinSelDown x y) e n j.upper j.lower j saves j.rules.upper_at j.rules.lower_at) in
        let both : weight (printed_declaration source) (j.upper.decls ++ j.lower.decls) ≡ weight (printed_declaration source) j.upper.decls + weight (printed_declaration source) j.lower.decls
        = weight_of_both (printed_declaration source) j.upper.decls j.lower.decls in
        let fits : weight (printed_selector source) j.upper.selectors ≤ most = weigh j.upper j.rules.upper_at in
        omega (arith, law, both, fits)

    pub decls_up : (left most : ℕ) → DeclsWeighAtMost source items y left → CommonWeighsAtMost source items x y left most → IsStep items (JoinDeclUp x y) e → n ≤ most
    decls_up left most weigh in_common j =
        let law : n + brought_weight source (join_decls_up x y j.upper j.lower).changes ≡ rule_weight source j.upper + rule_weight source j.lower
        = subst (λ (f : Edit). n + brought_weight source f.changes ≡ rule_weight source j.upper + rule_weight source j.lower) j.is (saved_is (JoinDeclUp x y) e n j.upper j.lower j saves j.rules.upper_at j.rules.lower_at) in
        let few : left + common source j.upper j.lower ≤ most = in_common j.upper j.lower j.rules.upper_at j.rules.lower_at in
        let fits : weight (printed_declaration source) j.lower.decls ≤ left = weigh j.lower j.rules.lower_at in
        omega (arith, law, few, fits, selectors_weigh source j.upper j.lower)

    pub decls_down : (left most : ℕ) → DeclsWeighAtMost source items x left → CommonWeighsAtMost source items x y left most → IsStep items (JoinDeclDown x y) e → n ≤ most
    decls_down left most weigh in_common j =
        let law : n + brought_weight source (join_decls_down x y j.upper j.lower).changes ≡ rule_weight source j.upper + rule_weight source j.lower
        = subst (λ (f : Edit). n + brought_weight source f.changes ≡ rule_weight source j.upper + rule_weight source j.lower) j.is (saved_is (JoinDeclDown x y) e n j.upper j.lower j saves j.rules.upper_at j.rules.lower_at) in
        let few : left + common source j.upper j.lower ≤ most = in_common j.upper j.lower j.rules.upper_at j.rules.lower_at in
        let fits : weight (printed_declaration source) j.upper.decls ≤ left = weigh j.upper j.rules.upper_at in
        omega (arith, law, few, fits, selectors_weigh source j.upper j.lower)
