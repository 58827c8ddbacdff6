-- How many items a step adds.
use Rattle.std.proofs.Common.{◌≡◌, ℕ, suc, ◌+◌, ◌<◌, ◌≤◌, List, [], ◌∷◌, ◌++◌, length, Some, sym, ap, ◌∙◌, subst, arith}
use Rattle.std.specs.Prelude.{slice_get}
use Rattle.std.specs.List.{remove}
use Rattle.std.proofs.lemmas.List.{length-append}
use Rattle.css_model.specs.declared.sheet.DeclItem.{DeclItem}
use Rattle.css_model.specs.declared.sheet.Item.{Item}
use Rattle.css_model.specs.declared.sheet.Item.TheVariants.{Rule}
use Rattle.css_model.specs.declared.sheet.SelItem.{SelItem}
use Rattle.css_model.specs.Sheets.Limits.{max_items}
use Rattle.css_model.specs.Sheets.RuleParts.{RuleParts}
use Rattle.css_model.specs.Sheets.StyleRule.{joined}
use Rattle.order_laws.specs.Edits.{Edit, edited, Moved, whole_rule}
use Rattle.step_laws.proofs.ForCallers.{OneInParts, TwoInParts, one_in_parts, two_in_parts}
use Rattle.step_laws.specs.declared.step.Step.{Step}
use Rattle.step_laws.specs.declared.step.Step.TheVariants.{CutDecl, CutSel, JoinSelUp, JoinSelDown, JoinDeclUp, JoinDeclDown, Share}
use Rattle.step_laws.specs.RuleParting.{both_selectors, common_decls, without_decls, item_if_any, rule_or_none}
use Rattle.step_laws.specs.StepEdits.{AreRules, one_change, two_changes, shared}
use Rattle.step_laws.specs.Steps.{IsStep}
use Rattle.plan_laws.specs.Barrier.Hindering.{HasRoom}

one_at_most : (ss : List SelItem) (ds : List DeclItem) (r : RuleParts) → length (item_if_any ss ds r) ≤ 1
one_at_most [] ds r = omega arith
one_at_most (s ∷ ss) [] r = omega arith
one_at_most (s ∷ ss) (d ∷ ds) r = omega arith

-- what is left of a rule is one item at most
pub left_at_most : (r : RuleParts) → length (rule_or_none r) ≤ 1
left_at_most r = one_at_most r.selectors r.decls r

-- an edit of one rule
pub one_longer : (items : List Item) (n : ℕ) (by : List Item) (m : Moved) (r : RuleParts) → slice_get items n ≡ Some (Rule r) → length (edited (one_change n by m) items) + 1 ≡ length items + length by
one_longer items n by m r at =
    let p : OneInParts items (edited (one_change n by m) items) r by = one_in_parts items n by m r at in
    let a : length (edited (one_change n by m) items) ≡ length p.before + (length by + length p.after) = ap length p.new_is ∙ length-append p.before (by ++ p.after) ∙ ap (λ n. length p.before + n) (length-append by p.after) in
    let b : length items ≡ length p.before + suc (length p.after) = ap length p.old_is ∙ length-append p.before (Rule r ∷ p.after) in
    omega (arith, a, b)

-- an edit of two rules
pub two_longer : (items : List Item) (x y : ℕ) (above below : List Item) (m : Moved) (u l : RuleParts) → AreRules items x y u l →
    length (edited (two_changes x above y below m) items) + 2 ≡ length items + (length above + length below)
two_longer items x y above below m u l are =
    let new : List Item = edited (two_changes x above y below m) items in
    let p : TwoInParts items new u l above below = two_in_parts items x y above below m u l are.upper_at are.lower_at are.in_order in
    let a : length new ≡ length p.before + (length above + (length p.between + (length below + length p.after))) =
    ap length p.new_is ∙ length-append p.before (above ++ (p.between ++ (below ++ p.after)))
    ∙ ap (λ n. length p.before + n) (length-append above (p.between ++ (below ++ p.after))
    ∙ ap (λ n. length above + n) (length-append p.between (below ++ p.after) ∙ ap (λ n. length p.between + n) (length-append below p.after))) in
    let b : length items ≡ length p.before + suc (length p.between + suc (length p.after)) =
    ap length p.old_is ∙ length-append p.before (Rule u ∷ (p.between ++ (Rule l ∷ p.after)))
    ∙ ap (λ n. length p.before + suc n) (length-append p.between (Rule l ∷ p.after)) in
    omega (arith, a, b)

abbrev Longer : List Item → Edit → Type 0
Longer items e = length (edited e items) ≤ length items + 1

at_one : (items : List Item) (n : ℕ) (left : RuleParts) (m : Moved) (r : RuleParts) → slice_get items n ≡ Some (Rule r) → Longer items (one_change n (rule_or_none left) m)
at_one items n left m r at = omega (arith, one_longer items n (rule_or_none left) m r at, left_at_most left)

at_two : (items : List Item) (x y : ℕ) (above below : List Item) (m : Moved) (u l : RuleParts) → AreRules items x y u l → length above + length below ≤ 3 → Longer items (two_changes x above y below m)
at_two items x y above below m u l are few = omega (arith, two_longer items x y above below m u l are, few)

pub one_more : (items : List Item) (k : Step) (e : Edit) → IsStep items k e → length (edited e items) ≤ length items + 1
one_more items (CutDecl n i) e c = subst (Longer items) (sym c.is) (at_one items n (record { selectors = c.rule.selectors; decls = remove c.rule.decls i }) (whole_rule n c.rule) c.rule c.rule_at)
one_more items (CutSel n i) e c = subst (Longer items) (sym c.is) (at_one items n (record { selectors = remove c.rule.selectors i; decls = c.rule.decls }) (whole_rule n c.rule) c.rule c.rule_at)
one_more items (JoinSelUp x y) e j = subst (Longer items) (sym j.is) (at_two items x y (Rule (joined j.upper j.lower) ∷ []) [] (whole_rule y j.lower) j.upper j.lower j.rules (omega arith))
one_more items (JoinSelDown x y) e j =
    let made : RuleParts = record { selectors = j.lower.selectors; decls = j.upper.decls ++ j.lower.decls } in
    subst (Longer items) (sym j.is) (at_two items x y [] (Rule made ∷ []) (whole_rule x j.upper) j.upper j.lower j.rules (omega arith))
one_more items (JoinDeclUp x y) e j =
    let made : RuleParts = record { selectors = both_selectors j.upper j.lower; decls = j.upper.decls } in
    subst (Longer items) (sym j.is) (at_two items x y (Rule made ∷ []) [] (whole_rule y j.lower) j.upper j.lower j.rules (omega arith))
one_more items (JoinDeclDown x y) e j =
    let made : RuleParts = record { selectors = both_selectors j.upper j.lower; decls = j.lower.decls } in
    subst (Longer items) (sym j.is) (at_two items x y [] (Rule made ∷ []) (whole_rule x j.upper) j.upper j.lower j.rules (omega arith))
one_more items (Share x y) e j =
    let u = j.upper in let l = j.lower in let common = common_decls u l in
    subst (Longer items) (sym j.is)
    (at_two items x y (rule_or_none (without_decls common u)) (Rule (shared u l) ∷ rule_or_none (without_decls common l)) (record { out_of = x ∷ y ∷ []; selectors = both_selectors u l; decls = common }) u l j.rules
    (omega (arith, left_at_most (without_decls common u), left_at_most (without_decls common l))))

pub have_room : (items : List Item) → length items + 1 < max_items → HasRoom items
have_room items few = (omega (arith, few), λ k e is. omega (arith, one_more items k e is, few))
