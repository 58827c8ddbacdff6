-- No step makes the pairs of a sheet more, where a selector that a rule repeats counts once.
use Rattle.std.proofs.Common.{◌≡◌, ℕ, ◌+◌, ◌*◌, ◌≤◌, List, [], ◌∷◌, ◌++◌, length, refl, sym, ap, subst, ◌∙◌, arith}
use Rattle.std.specs.List.{remove}
use Rattle.std.proofs.lemmas.List.{length-append, length-map}
use Rattle.css_model.specs.declared.sheet.DeclItem.{DeclItem}
use Rattle.css_model.specs.declared.sheet.Item.{Item}
use Rattle.css_model.specs.declared.sheet.Item.TheVariants.{Rule, KeptRule, KeptBlock}
use Rattle.css_model.specs.declared.sheet.SelItem.{SelItem}
use Rattle.css_model.specs.Sheets.RuleParts.{RuleParts}
use Rattle.css_model.specs.Sheets.StyleRule.{joined}
use Rattle.order_laws.specs.Edits.{Moved, Edit, edited, whole_rule}
use Rattle.step_laws.proofs.ForCallers.{OneInParts, TwoInParts, one_in_parts, two_in_parts}
use Rattle.step_laws.specs.declared.step.Step.{Step}
use Rattle.step_laws.specs.declared.step.Step.TheVariants.{CutDecl, CutSel, JoinSelUp, JoinSelDown, JoinDeclUp, JoinDeclDown, Share}
use Rattle.step_laws.specs.RuleParting.{both_selectors, common_decls, without_decls, item_if_any, rule_or_none}
use Rattle.step_laws.specs.StepEdits.{AreRules, one_change, two_changes, shared}
use Rattle.step_laws.specs.Steps.{HaveSameDecls, IsStep}
use Rattle.plan_laws.proofs.Limit.PairCounts.{count, among_counts, both_count, removed_count, removed_length, upper_fits, lower_fits, times_sum, more_times, shared_sum}
use Rattle.plan_laws.specs.Limit.PairLimit.{rule_pairs, pairs_once}

-- ---- Items

pairs-cons : (x : Item) (xs : List Item) → pairs_once (x ∷ xs) ≡ pairs_once (x ∷ []) + pairs_once xs
pairs-cons (Rule r) xs = let e : rule_pairs r + pairs_once xs ≡ (rule_pairs r + 0) + pairs_once xs = omega arith in e
pairs-cons (KeptRule k) xs = let e : pairs_once xs ≡ 0 + pairs_once xs = omega arith in e
pairs-cons (KeptBlock piece) xs = let e : pairs_once xs ≡ 0 + pairs_once xs = omega arith in e

pairs-append : (xs ys : List Item) → pairs_once (xs ++ ys) ≡ pairs_once xs + pairs_once ys
pairs-append [] ys = let e : pairs_once ys ≡ 0 + pairs_once ys = omega arith in e
pairs-append (x ∷ xs) ys =
    let ih : pairs_once (xs ++ ys) ≡ pairs_once xs + pairs_once ys = pairs-append xs ys in
    omega (arith, ih, pairs-cons x (xs ++ ys), pairs-cons x xs)

any_pairs : (ss : List SelItem) (ds : List DeclItem) (r : RuleParts) → pairs_once (item_if_any ss ds r) ≤ rule_pairs r
any_pairs [] ds r = omega arith
any_pairs (s ∷ ss) [] r = omega arith
any_pairs (s ∷ ss) (d ∷ ds) r = let e : rule_pairs r + 0 ≤ rule_pairs r = omega arith in e

-- what is left of a rule has no more pairs than it
left_pairs : (r : RuleParts) → pairs_once (rule_or_none r) ≤ rule_pairs r
left_pairs r = any_pairs r.selectors r.decls r

-- ---- Edits

one_fewer : (items : List Item) (n : ℕ) (by : List Item) (m : Moved) (r : RuleParts) → OneInParts items (edited (one_change n by m) items) r by →
    pairs_once by ≤ rule_pairs r → pairs_once (edited (one_change n by m) items) ≤ pairs_once items
one_fewer items n by m r p few =
    let a : pairs_once (edited (one_change n by m) items) ≡ pairs_once p.before + (pairs_once by + pairs_once p.after) =
    ap pairs_once p.new_is ∙ pairs-append p.before (by ++ p.after) ∙ ap (λ (k : ℕ). pairs_once p.before + k) (pairs-append by p.after) in
    let b : pairs_once items ≡ pairs_once p.before + (rule_pairs r + pairs_once p.after) = ap pairs_once p.old_is ∙ pairs-append p.before (Rule r ∷ p.after) in
    omega (arith, a, b, few)

two_fewer : (items new : List Item) (u l : RuleParts) (above below : List Item) → TwoInParts items new u l above below →
    pairs_once above + pairs_once below ≤ rule_pairs u + rule_pairs l → pairs_once new ≤ pairs_once items
two_fewer items new u l above below p few =
    let a : pairs_once new ≡ pairs_once p.before + (pairs_once above + (pairs_once p.between + (pairs_once below + pairs_once p.after))) =
    ap pairs_once p.new_is ∙ pairs-append p.before (above ++ (p.between ++ (below ++ p.after)))
    ∙ ap (λ (k : ℕ). pairs_once p.before + k) (pairs-append above (p.between ++ (below ++ p.after))
    ∙ ap (λ (k : ℕ). pairs_once above + k) (pairs-append p.between (below ++ p.after) ∙ ap (λ (k : ℕ). pairs_once p.between + k) (pairs-append below p.after))) in
    let b : pairs_once items ≡ pairs_once p.before + (rule_pairs u + (pairs_once p.between + (rule_pairs l + pairs_once p.after))) =
    ap pairs_once p.old_is ∙ pairs-append p.before (Rule u ∷ (p.between ++ (Rule l ∷ p.after)))
    ∙ ap (λ (k : ℕ). pairs_once p.before + (rule_pairs u + k)) (pairs-append p.between (Rule l ∷ p.after)) in
    omega (arith, a, b, few)

-- ---- Rules

-- a rule with the selectors of one and the declarations of two, where the selectors of one are among the other's
joined_pairs : (c u l us ls : ℕ) → c ≤ u → c ≤ l → c * (us + ls) ≤ u * us + l * ls
joined_pairs c u l us ls h k =
    omega (arith, times_sum c us ls, more_times c u us us h (omega arith), more_times c l ls ls k (omega arith))

same_length : (u l : RuleParts) → HaveSameDecls u l → length u.decls ≡ length l.decls
same_length u l same = sym (length-map u.decls (λ d. d.decl)) ∙ ap length same ∙ length-map l.decls (λ d. d.decl)

selectors_joined : (u l r : RuleParts) → count r.selectors ≤ count u.selectors → count r.selectors ≤ count l.selectors →
    rule_pairs (record { selectors = r.selectors; decls = u.decls ++ l.decls }) ≤ rule_pairs u + rule_pairs l
selectors_joined u l r h k =
    let a : count r.selectors * length (u.decls ++ l.decls) ≡ count r.selectors * (length u.decls + length l.decls) = ap (λ (n : ℕ). count r.selectors * n) (length-append u.decls l.decls) in
    let b : count r.selectors * (length u.decls + length l.decls) ≤ rule_pairs u + rule_pairs l = joined_pairs (count r.selectors) (count u.selectors) (count l.selectors) (length u.decls) (length l.decls) h k in
    let e : count r.selectors * length (u.decls ++ l.decls) ≤ rule_pairs u + rule_pairs l = omega (arith, a, b) in
    e

decls_joined : (u l : RuleParts) (ds : List DeclItem) → length ds ≡ length u.decls → length ds ≡ length l.decls →
    rule_pairs (record { selectors = both_selectors u l; decls = ds }) ≤ rule_pairs u + rule_pairs l
decls_joined u l ds a b =
    let c : count (both_selectors u l) * length ds ≤ (count u.selectors + count l.selectors) * length ds = more_times (count (both_selectors u l)) (count u.selectors + count l.selectors) (length ds) (length ds) (both_count u l) (omega arith) in
    let d : (count u.selectors + count l.selectors) * length ds ≡ count u.selectors * length ds + count l.selectors * length ds = omega arith in
    let f : count u.selectors * length ds ≡ rule_pairs u = ap (λ (n : ℕ). count u.selectors * n) a in
    let g : count l.selectors * length ds ≡ rule_pairs l = ap (λ (n : ℕ). count l.selectors * n) b in
    let e : count (both_selectors u l) * length ds ≤ rule_pairs u + rule_pairs l = omega (arith, c, d, f, g) in
    e

-- ---- Steps

one_rule : (r : RuleParts) → pairs_once (Rule r ∷ []) ≡ rule_pairs r
one_rule r = let e : rule_pairs r + 0 ≡ rule_pairs r = omega arith in e

-- a step of two rules
two_step : (items : List Item) (x y : ℕ) (above below : List Item) (m : Moved) (u l : RuleParts) → AreRules items x y u l →
    pairs_once above + pairs_once below ≤ rule_pairs u + rule_pairs l → pairs_once (edited (two_changes x above y below m) items) ≤ pairs_once items
two_step items x y above below m u l rules few =
    two_fewer items (edited (two_changes x above y below m) items) u l above below (two_in_parts items x y above below m u l rules.upper_at rules.lower_at rules.in_order) few

share_fewer : (u l : RuleParts) →
    pairs_once (rule_or_none (without_decls (common_decls u l) u)) + pairs_once (Rule (shared u l) ∷ rule_or_none (without_decls (common_decls u l) l)) ≤ rule_pairs u + rule_pairs l
share_fewer u l =
    let above : RuleParts = without_decls (common_decls u l) u in
    let below : RuleParts = without_decls (common_decls u l) l in
    let a : rule_pairs above + (rule_pairs (shared u l) + rule_pairs below) ≤ rule_pairs u + rule_pairs l =
    shared_sum (count u.selectors) (count l.selectors) (count (both_selectors u l)) (length above.decls) (length below.decls) (length (common_decls u l)) (length u.decls) (length l.decls) (both_count u l) (upper_fits u l) (lower_fits u l) in
    let e : pairs_once (rule_or_none above) + (rule_pairs (shared u l) + pairs_once (rule_or_none below)) ≤ rule_pairs u + rule_pairs l = omega (arith, a, left_pairs above, left_pairs below) in
    e

abbrev Fewer : List Item → Edit → Type 0
Fewer items e = pairs_once (edited e items) ≤ pairs_once items

-- what is joined up stands alone above, and what is joined down alone below
alone_above : (r : RuleParts) (n : ℕ) → rule_pairs r ≤ n → pairs_once (Rule r ∷ []) + pairs_once [] ≤ n
alone_above r n h = let e : (rule_pairs r + 0) + 0 ≤ n = omega (arith, h) in e

alone_below : (r : RuleParts) (n : ℕ) → rule_pairs r ≤ n → pairs_once [] + pairs_once (Rule r ∷ []) ≤ n
alone_below r n h = let e : 0 + (rule_pairs r + 0) ≤ n = omega (arith, h) in e

pub pairs_stay_few : (items : List Item) (k : Step) (e : Edit) → IsStep items k e → pairs_once (edited e items) ≤ pairs_once items
pairs_stay_few items (CutDecl n i) e is =
    let r : RuleParts = is.rule in
    let left : RuleParts = record { selectors = r.selectors; decls = remove r.decls i } in
    let few : rule_pairs left ≤ rule_pairs r = more_times (count r.selectors) (count r.selectors) (length (remove r.decls i)) (length r.decls) (omega arith) (removed_length r.decls i) in
    subst (Fewer items) (sym is.is)
    (one_fewer items n (rule_or_none left) (whole_rule n r) r (one_in_parts items n (rule_or_none left) (whole_rule n r) r is.rule_at) (omega (arith, few, left_pairs left)))
pairs_stay_few items (CutSel n i) e is =
    let r : RuleParts = is.rule in
    let left : RuleParts = record { selectors = remove r.selectors i; decls = r.decls } in
    let few : rule_pairs left ≤ rule_pairs r = more_times (count (remove r.selectors i)) (count r.selectors) (length r.decls) (length r.decls) (removed_count r.selectors i) (omega arith) in
    subst (Fewer items) (sym is.is)
    (one_fewer items n (rule_or_none left) (whole_rule n r) r (one_in_parts items n (rule_or_none left) (whole_rule n r) r is.rule_at) (omega (arith, few, left_pairs left)))
pairs_stay_few items (JoinSelUp x y) e is =
    let u : RuleParts = is.upper in let l : RuleParts = is.lower in
    subst (Fewer items) (sym is.is)
    (two_step items x y (Rule (joined u l) ∷ []) [] (whole_rule y l) u l is.rules
    (alone_above (joined u l) (rule_pairs u + rule_pairs l) (selectors_joined u l u (omega arith) (among_counts u.selectors l.selectors (λ s. (is.may s).0)))))
pairs_stay_few items (JoinSelDown x y) e is =
    let u : RuleParts = is.upper in let l : RuleParts = is.lower in
    let made : RuleParts = record { selectors = l.selectors; decls = u.decls ++ l.decls } in
    subst (Fewer items) (sym is.is)
    (two_step items x y [] (Rule made ∷ []) (whole_rule x u) u l is.rules
    (alone_below made (rule_pairs u + rule_pairs l) (selectors_joined u l l (among_counts l.selectors u.selectors (λ s. (is.may s).1)) (omega arith))))
pairs_stay_few items (JoinDeclUp x y) e is =
    let u : RuleParts = is.upper in let l : RuleParts = is.lower in
    let made : RuleParts = record { selectors = both_selectors u l; decls = u.decls } in
    subst (Fewer items) (sym is.is)
    (two_step items x y (Rule made ∷ []) [] (whole_rule y l) u l is.rules
    (alone_above made (rule_pairs u + rule_pairs l) (decls_joined u l u.decls refl (same_length u l is.may))))
pairs_stay_few items (JoinDeclDown x y) e is =
    let u : RuleParts = is.upper in let l : RuleParts = is.lower in
    let made : RuleParts = record { selectors = both_selectors u l; decls = l.decls } in
    subst (Fewer items) (sym is.is)
    (two_step items x y [] (Rule made ∷ []) (whole_rule x u) u l is.rules
    (alone_below made (rule_pairs u + rule_pairs l) (decls_joined u l l.decls (sym (same_length u l is.may)) refl)))
pairs_stay_few items (Share x y) e is =
    let u : RuleParts = is.upper in let l : RuleParts = is.lower in
    subst (Fewer items) (sym is.is)
    (two_step items x y (rule_or_none (without_decls (common_decls u l) u)) (Rule (shared u l) ∷ rule_or_none (without_decls (common_decls u l) l))
    (record { out_of = x ∷ y ∷ []; selectors = both_selectors u l; decls = common_decls u l }) u l is.rules (share_fewer u l))
