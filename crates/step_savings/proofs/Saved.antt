-- What a step saves, by what is weighed of it.
use Rattle.std.proofs.Common.{◌≡◌, ℕ, ◌+◌, ◌≤◌, List, Some, pos, ◌-ℤ◌, sym, ap, ap₂, subst, ◌∙◌, arith}
use Rattle.std.proofs.lemmas.Int.{ints}
use Rattle.std.specs.Prelude.{slice_get}
use Rattle.css_model.specs.declared.sheet.Item.{Item}
use Rattle.css_model.specs.declared.sheet.Item.TheVariants.{Rule}
use Rattle.css_model.specs.Sheets.Limits.{max_bytes}
use Rattle.css_model.specs.Sheets.Printed.{printed_selector, printed_declaration}
use Rattle.css_model.specs.Sheets.RuleParts.{RuleParts}
use Rattle.css_model.specs.Sheets.Sound.{IsSound}
use Rattle.step_savings.proofs.StepRules.{edit_is}
use Rattle.step_savings.specs.Weighing.{IsWeighable, stays_weight}
use Rattle.order_laws.specs.Edits.{Edit, edited}
use Rattle.step_laws.proofs.ForCallers.{rule_is_light, rule_sound, steps_weigh}
use Rattle.step_laws.specs.declared.step.Step.{Step}
use Rattle.step_laws.specs.Sizes.{size, weight, taken_weight, brought_weight}
use Rattle.step_laws.specs.Steps.{IsStep, edit_of, first_item, last_item}

pub weighable : (source : List ℕ) (items : List Item) (n : ℕ) (r q : RuleParts) → IsSound source items → size source items ≤ max_bytes → slice_get items n ≡ Some (Rule r) → q ≡ r → IsWeighable source q
weighable source items n r q sound short at same =
    let light : weight (printed_selector source) r.selectors + weight (printed_declaration source) r.decls ≤ size source items = rule_is_light source items n r sound at in
    let whole = rule_sound source items n r sound at in
    subst (IsWeighable source) (sym same) (record {
      selectors = whole.selectors;
      decls = whole.decls;
      small_selectors = omega (arith, light, short);
      small_decls = omega (arith, light, short);
    })

across : (a b c d : ℕ) → a + b ≡ c + d → pos b -ℤ pos d ≡ pos c -ℤ pos a
across a b c d h = omega (arith, ints, h)

pub saves : (source : List ℕ) (items : List Item) (k : Step) (u l u' l' : RuleParts) (x y taken brought : ℕ) → x ≡ first_item k → y ≡ last_item k → IsSound source items →
    slice_get items x ≡ Some (Rule u) → slice_get items y ≡ Some (Rule l) → u' ≡ u → l' ≡ l →
    taken + stays_weight source k u' l' ≡ taken_weight source k u' l' → brought + stays_weight source k u' l' ≡ brought_weight source (edit_of k u' l').changes →
    (e : Edit) → IsStep items k e → pos taken -ℤ pos brought ≡ pos (size source items) -ℤ pos (size source (edited e items))
saves source items k u l u' l' x y taken brought first last sound at at' same same' t b e is =
    let above : slice_get items (first_item k) ≡ Some (Rule u) = subst (λ (n : ℕ). slice_get items n ≡ Some (Rule u)) first at in
    let below : slice_get items (last_item k) ≡ Some (Rule l) = subst (λ (n : ℕ). slice_get items n ≡ Some (Rule l)) last at' in
    let is_taken : taken + stays_weight source k u' l' ≡ taken_weight source k u l = t ∙ ap₂ (taken_weight source k) same same' in
    let is_brought : brought + stays_weight source k u' l' ≡ brought_weight source e.changes =
    b ∙ ap₂ (λ (r q : RuleParts). brought_weight source (edit_of k r q).changes) same same' ∙ ap (λ (d : Edit). brought_weight source d.changes) (edit_is items k u l above below e is) in
    let law : size source (edited e items) + taken_weight source k u l ≡ size source items + brought_weight source e.changes = steps_weigh source items k e is sound u l above below in
    across (size source (edited e items)) taken (size source items) brought (omega (arith, is_taken, is_brought, law))
