-- Runs of cuts that were taken.
use Rattle.std.proofs.Common.{◌≡◌, ℕ, ◌+◌, ◌-◌, ◌≤◌, Bool, List, [], Some, length, set, sym, ap, ap₂, subst, ◌∙◌, arith, ◌⊎◌, ◌<◌, zero, suc, refl, inl, inr, ◌∷◌}
use Rattle.std.specs.Prelude.{slice_get}
use Rattle.cascade_laws.proofs.ForCallers.{rule-same, some-same}
use Rattle.css_model.specs.declared.sheet.DeclItem.{DeclItem}
use Rattle.css_model.specs.declared.sheet.Item.{Item}
use Rattle.css_model.specs.declared.sheet.Item.TheVariants.{Rule}
use Rattle.css_model.specs.declared.sheet.SelItem.{SelItem}
use Rattle.css_model.specs.Sheets.Limits.{max_bytes, max_items}
use Rattle.css_model.specs.Sheets.RuleParts.{RuleParts}
use Rattle.css_model.specs.Sheets.Sound.{IsSound}
use Rattle.order_laws.proofs.ForCallers.{has_decl_is, has_selector_is}
use Rattle.order_laws.specs.Members.{has_decl, has_selector}
use Rattle.plan_laws.specs.Plannable.{IsPlannable}
use Rattle.repeat_runs.proofs.Led.{led_plannable, led_shorter}
use Rattle.repeat_runs.proofs.OneRule.{one_split, rule_put, rule_there}
use Rattle.repeat_runs.specs.OneRule.{IsOnlyRule}
use Rattle.repeat_runs.specs.Running.{AreMarks, CutsAll, HasEachOnce, IsChoice, IsOnce, IsRunOf, left_of}
use Rattle.run_laws.proofs.ForCallers.{Compared, NoneAgain, above_below, all_go, all_of_one_go, compared, few_go, few_of_one, is_less, is_more, is_same, marks_length, none_as_heavy}
use Rattle.run_laws.specs.Marks.{count_above, count_of, goes}
use Rattle.run_laws.specs.Runs.{RunsLead, after_run, decl_marks, decl_weight, parts, selector_marks, selector_weight, with_rule}
use Rattle.step_laws.proofs.ForCallers.{rule_is_light}
use Rattle.step_laws.specs.Free.{Answered}
use Rattle.step_laws.specs.Leading.{Leads}
use Rattle.step_laws.specs.Sizes.{rule_weight, size}

-- a rule of a sheet that can be planned weighs no more than a sheet may
pub light_rule : (source : List ℕ) (items : List Item) (number : ℕ) (r : RuleParts) → IsPlannable source items → slice_get items number ≡ Some (Rule r) → rule_weight source r ≤ max_bytes
light_rule source items number r plannable at =
    let light = rule_is_light source items number r plannable.sound at in
    let short = plannable.short in
    omega (arith, light, short)

-- the marks of a rule, and a choice by them
pub run_of : (source : List ℕ) (items : List Item) (number most : ℕ) (r : RuleParts) (dm sm : List ℕ) (dg sg : List Bool) → slice_get items number ≡ Some (Rule r) → AreMarks source r dm sm → IsChoice dm sm most dg sg →
    IsRunOf source items number most dg sg
run_of source items number most r dm sm dg sg at marks choice = record {
  rule = r;
  rule_at = at;
  descend = marks.descend;
  choice = subst (λ (ds : List ℕ). IsChoice ds (selector_marks source r.selectors) most dg sg) marks.decls_are (subst (λ (ss : List ℕ). IsChoice dm ss most dg sg) marks.selectors_are choice);
}

-- a rule with so many parts fewer: no more are gone than may, and so many steps lead there
pub record IsRan (source : List ℕ) (items new : List Item) (most old left : ℕ) : Type 0 where
  pub fewer : left ≤ old
  pub few : old - left ≤ most
  pub leads : (answers : List Answered) → Leads answers source (old - left) items new
  pub plannable : IsPlannable source new
  pub shorter : (old - left) + size source new ≤ size source items
  pub cuts : CutsAll source items most (old - left) new

first_or : {P Q R : Type 0} → P ⊎ R → (P → Q) → Q ⊎ R
first_or (inl p) f = inl (f p)
first_or (inr r) f = inr r

-- no more parts go than may
few_gone : (dm sm : List ℕ) (least count most : ℕ) (r : RuleParts) → count_above least dm + count_above least sm + count ≡ most →
    parts r ≤ parts (left_of (goes least count dm) (goes least (count - count_of least dm) sm) r) + most
few_gone dm sm least count most r all =
    let a = few_go least count dm r.decls in
    let b = few_of_one least count dm r.decls in
    let c = few_go least (count - count_of least dm) sm r.selectors in
    omega (arith, a, b, c, all)

-- as many go as may, if there are so many
all_gone : (dm sm : List ℕ) (least count most : ℕ) (r : RuleParts) → length dm ≡ length r.decls → length sm ≡ length r.selectors → count_above least dm + count_above least sm + count ≡ most → count ≤ count_of least dm + count_of least sm →
    parts (left_of (goes least count dm) (goes least (count - count_of least dm) sm) r) + most ≤ parts r
all_gone dm sm least count most r long long' all many = which (compared count (count_of least dm))
  where
    less : count ≤ count_of least dm → parts (left_of (goes least count dm) (goes least (count - count_of least dm) sm) r) + most ≤ parts r
    less few =
        let a = all_go least count dm r.decls long few in
        let b = all_go least (count - count_of least dm) sm r.selectors long' (omega (arith, few)) in
        omega (arith, a, b, all, few)

    which : Compared count (count_of least dm) → parts (left_of (goes least count dm) (goes least (count - count_of least dm) sm) r) + most ≤ parts r
    which (is_more below) = less (omega (arith, below))
    which (is_same e) = less (omega (arith, e))
    which (is_less above) =
        let a = all_of_one_go least count dm r.decls long (omega (arith, above)) in
        let b = all_go least (count - count_of least dm) sm r.selectors long' (omega (arith, many)) in
        omega (arith, a, b, all, above)

-- a list in which nothing that weighs a byte is again has each part once
once : {X Y : Type 0} (part : X → Y) (weigh : X → ℕ) (xs : List X) → ((x : X) → 1 ≤ weigh x) → NoneAgain part weigh 1 xs → IsOnce part xs
once part weigh [] some none = tt
once part weigh (x ∷ xs) some none = (none.0 (some x), once part weigh xs some none.1)

-- as many parts are gone as may, or each is left once
all_or_once : (source : List ℕ) (r : RuleParts) (most : ℕ) (dg sg : List Bool) (c : IsChoice (decl_marks source r.decls) (selector_marks source r.selectors) most dg sg) →
    (parts (left_of dg sg r) + most ≤ parts r) ⊎ HasEachOnce (left_of dg sg r)
all_or_once source r most dg sg c =
    subst (λ (q : RuleParts). (parts q + most ≤ parts r) ⊎ HasEachOnce q) (sym (ap₂ (λ (ds ss : List Bool). left_of ds ss r) c.decls_are c.selectors_are))
    (which (compared c.count (count_of c.least (decl_marks source r.decls) + count_of c.least (selector_marks source r.selectors))))
  where
    left : RuleParts
    left = left_of (goes c.least c.count (decl_marks source r.decls)) (goes c.least (c.count - count_of c.least (decl_marks source r.decls)) (selector_marks source r.selectors)) r

    gone : c.count ≤ count_of c.least (decl_marks source r.decls) + count_of c.least (selector_marks source r.selectors) → (parts left + most ≤ parts r) ⊎ HasEachOnce left
    gone many = inl (all_gone (decl_marks source r.decls) (selector_marks source r.selectors) c.least c.count most r
        (marks_length (λ d later. has_decl later d.decl) (decl_weight source) r.decls) (marks_length (λ s later. has_selector later s.selector) (selector_weight source) r.selectors) c.all many)

    each_once : c.least ≡ 1 → count_of c.least (decl_marks source r.decls) + count_of c.least (selector_marks source r.selectors) ≤ c.count → HasEachOnce left
    each_once one few = (
      once (λ (d : DeclItem). d.decl) (decl_weight source) left.decls (λ d. omega arith)
          (subst (λ (l : ℕ). NoneAgain (λ (d : DeclItem). d.decl) (decl_weight source) l left.decls) one
          (none_as_heavy (λ (d : DeclItem). d.decl) (λ d later. has_decl later d.decl) (decl_weight source) (λ d later. has_decl_is later d.decl) c.least c.count r.decls (omega (arith, few)))),
      once (λ (s : SelItem). s.selector) (selector_weight source) left.selectors (λ s. omega arith)
          (subst (λ (l : ℕ). NoneAgain (λ (s : SelItem). s.selector) (selector_weight source) l left.selectors) one
          (none_as_heavy (λ (s : SelItem). s.selector) (λ s later. has_selector later s.selector) (selector_weight source) (λ s later. has_selector_is later s.selector)
          c.least (c.count - count_of c.least (decl_marks source r.decls)) r.selectors (omega (arith, few)))),
    )

    smaller : (l : ℕ) → c.least ≡ suc l → most < count_above (c.least - 1) (decl_marks source r.decls) + count_above (c.least - 1) (selector_marks source r.selectors) →
        count_of c.least (decl_marks source r.decls) + count_of c.least (selector_marks source r.selectors) ≤ c.count → ⊥
    smaller l is more few =
        let e : c.least - 1 ≡ l = omega (arith, is) in
        let more' : most < count_above l (decl_marks source r.decls) + count_above l (selector_marks source r.selectors) =
        subst (λ (k : ℕ). most < count_above k (decl_marks source r.decls) + count_above k (selector_marks source r.selectors)) e more in
        let a = above_below l (decl_marks source r.decls) in
        let b = above_below l (selector_marks source r.selectors) in
        let few' : count_of (suc l) (decl_marks source r.decls) + count_of (suc l) (selector_marks source r.selectors) ≤ c.count =
        subst (λ (k : ℕ). count_of k (decl_marks source r.decls) + count_of k (selector_marks source r.selectors) ≤ c.count) is few in
        let all : count_above (suc l) (decl_marks source r.decls) + count_above (suc l) (selector_marks source r.selectors) + c.count ≡ most =
        subst (λ (k : ℕ). count_above k (decl_marks source r.decls) + count_above k (selector_marks source r.selectors) + c.count ≡ most) is c.all in
        omega (arith, more', a, b, few', all)

    before : (k : ℕ) → 0 < k → (l : ℕ) × (k ≡ suc l)
    before zero some = absurd (omega (arith, some))
    before (suc l) some = (l, refl)

    none_left : (c.least ≡ 1) ⊎ (most < count_above (c.least - 1) (decl_marks source r.decls) + count_above (c.least - 1) (selector_marks source r.selectors)) →
        count_of c.least (decl_marks source r.decls) + count_of c.least (selector_marks source r.selectors) ≤ c.count → (parts left + most ≤ parts r) ⊎ HasEachOnce left
    none_left (inl one) few = inr (each_once one few)
    none_left (inr more) few = let w = before c.least c.some in absurd (smaller w.0 w.1 more few)

    which : Compared c.count (count_of c.least (decl_marks source r.decls) + count_of c.least (selector_marks source r.selectors)) → (parts left + most ≤ parts r) ⊎ HasEachOnce left
    which (is_more below) = gone (omega (arith, below))
    which (is_same e) = gone (omega (arith, e))
    which (is_less above) = none_left c.smallest (omega (arith, above))

module _ (lead : RunsLead) (source : List ℕ) (items : List Item) (number most : ℕ) (dg sg : List Bool) (plannable : IsPlannable source items)
    (only : IsOnlyRule items number) (run : IsRunOf source items number most dg sg) where
  abbrev choice : IsChoice (decl_marks source run.rule.decls) (selector_marks source run.rule.selectors) most dg sg
  choice = run.choice

  abbrev left : RuleParts
  left = left_of dg sg run.rule

  -- the one rule is that of the run
  rule_is : only.rule ≡ run.rule
  rule_is = rule-same (some-same (sym (rule_there only.before only.after (Rule only.rule))
      ∙ subst (λ (k : ℕ). slice_get (with_rule only.before only.after only.rule) k ≡ Some (Rule run.rule)) (sym only.place)
      (subst (λ (xs : List Item). slice_get xs number ≡ Some (Rule run.rule)) only.split run.rule_at)))

  old_is : items ≡ with_rule only.before only.after run.rule
  old_is = only.split ∙ ap (with_rule only.before only.after) rule_is

  new_is : set items number (Rule left) ≡ with_rule only.before only.after left
  new_is =
      ap (λ (xs : List Item). set xs number (Rule left)) old_is
      ∙ ap (λ (k : ℕ). set (with_rule only.before only.after run.rule) k (Rule left)) (sym only.place)
      ∙ rule_put only.before only.after (Rule run.rule) (Rule left)

  left_is : left ≡ after_run source choice.least choice.count run.rule
  left_is = ap₂ (λ (ds ss : List Bool). left_of ds ss run.rule) choice.decls_are choice.selectors_are

  abbrev Led : List Answered → Type 0
  Led answers = (steps : ℕ) × (steps + parts left ≡ parts run.rule) × Leads answers source steps (with_rule only.before only.after run.rule) (with_rule only.before only.after left)

  led : (answers : List Answered) → Led answers
  led answers = subst (λ (q : RuleParts). (steps : ℕ) × (steps + parts q ≡ parts run.rule) × Leads answers source steps (with_rule only.before only.after run.rule) (with_rule only.before only.after q)) (sym left_is)
      (lead answers source only.before only.after run.rule choice.least choice.count
      (subst (IsSound source) old_is plannable.sound)
      (subst (λ (xs : List Item). length xs ≤ max_items) old_is plannable.few_items)
      only.kept_before only.kept_after run.descend choice.some)

  pub ran : (new : List Item) (many fewer : ℕ) → ((r : RuleParts) → slice_get items number ≡ Some (Rule r) → new ≡ set items number (Rule (left_of dg sg r))) →
      ((r : RuleParts) → slice_get items number ≡ Some (Rule r) → many ≡ parts r) → ((r : RuleParts) → slice_get new number ≡ Some (Rule r) → fewer ≡ parts r) →
      IsRan source items new most many fewer
  ran new many fewer made many_is fewer_is =
      let new_at : new ≡ with_rule only.before only.after left = made run.rule run.rule_at ∙ new_is in
      let a : many ≡ parts run.rule = many_is run.rule run.rule_at in
      let there : slice_get new number ≡ Some (Rule left) =
      subst (λ (k : ℕ). slice_get new k ≡ Some (Rule left)) only.place
      (subst (λ (xs : List Item). slice_get xs (length only.before) ≡ Some (Rule left)) (sym new_at) (rule_there only.before only.after (Rule left))) in
      let b : fewer ≡ parts left = fewer_is left there in
      let count = (led []).1 in
      let few : parts run.rule ≤ parts left + most =
      subst (λ (q : RuleParts). parts run.rule ≤ parts q + most) (sym left_is)
      (few_gone (decl_marks source run.rule.decls) (selector_marks source run.rule.selectors) choice.least choice.count most run.rule choice.all) in
      let leads : (answers : List Answered) → Leads answers source (many - fewer) items new =
      λ answers. (let w = led answers in let sum = w.1 in let steps : w.0 ≡ many - fewer = omega (arith, a, b, sum) in
      subst (λ (xs : List Item). Leads answers source (many - fewer) items xs) (sym new_at)
      (subst (λ (xs : List Item). Leads answers source (many - fewer) xs (with_rule only.before only.after left)) (sym old_is)
      (subst (λ (k : ℕ). Leads answers source k (with_rule only.before only.after run.rule) (with_rule only.before only.after left)) steps w.2))) in
      let enough : (parts left + most ≤ parts run.rule) ⊎ HasEachOnce left → (many - fewer ≡ most) ⊎ HasEachOnce left =
      λ w. first_or w (λ all. omega (arith, a, b, few, all)) in
      record {
        fewer = omega (arith, a, b, count);
        few = omega (arith, a, b, few);
        leads = leads;
        plannable = led_plannable [] source (many - fewer) items new plannable (leads []);
        shorter = led_shorter [] source (many - fewer) items new (leads []);
        cuts = λ before after r split kept_before kept_after descend. (let u = one_split only.before before only.after after run.rule r (sym old_is ∙ split) only.kept_before kept_before in
            (left, new_at ∙ ap₂ (λ (xs ys : List Item). with_rule xs ys left) u.0 u.2, enough (all_or_once source run.rule most dg sg choice)));
      }
