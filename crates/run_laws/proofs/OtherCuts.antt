-- What any cut in the one rule of a sheet takes, and what it saves.
use Rattle.std.proofs.Common.{◌≡◌, ◌≢◌, ◌⊎◌, ℕ, ◌+◌, ◌<◌, List, [], ◌∷◌, ◌++◌, map, length, Some, refl, ap, subst, inl, inr, ◌∙◌, arith}
use Rattle.std.specs.Prelude.{slice_get}
use Rattle.std.specs.List.{Contains, remove}
use Rattle.css_model.specs.declared.sheet.DeclItem.{DeclItem}
use Rattle.css_model.specs.declared.sheet.Item.{Item}
use Rattle.css_model.specs.declared.sheet.Item.TheVariants.{Rule}
use Rattle.css_model.specs.declared.sheet.SelItem.{SelItem}
use Rattle.css_model.specs.Cascade.Order.{HasPair, Pair}
use Rattle.css_model.specs.Sheets.Printed.{printed_declaration, printed_selector}
use Rattle.css_model.specs.Sheets.RuleParts.{RuleParts}
use Rattle.css_model.specs.Sheets.Sound.{IsSound, IsSoundRule}
use Rattle.order_laws.specs.Edits.{Edit, edited, whole_rule}
use Rattle.repeat_laws.proofs.ForCallers.{Shifts, found, removed_back}
use Rattle.run_laws.proofs.Edited.{at_here, edited_here}
use Rattle.run_laws.proofs.Numbered.{Cut, has_part, there, weight_without}
use Rattle.run_laws.proofs.OneRule.{both_kept, no_rule, only_rule}
use Rattle.run_laws.specs.Runs.{AreKept, decl_weight, selector_weight, with_rule}
use Rattle.step_laws.proofs.ForCallers.{rule_sound, steps_weigh}
use Rattle.step_laws.specs.declared.step.Step.TheVariants.{CutDecl, CutSel}
use Rattle.step_laws.specs.RuleParting.{item_if_any, rule_or_none}
use Rattle.step_laws.specs.Sizes.{Saves, rule_weight, rules_weight, size, weight}
use Rattle.step_laws.specs.StepEdits.{cut_decl, cut_selector}
use Rattle.step_laws.specs.Steps.{IsStep}

some_or_none : (ss : List SelItem) (ds : List DeclItem) (r : RuleParts) → (item_if_any ss ds r ≡ []) ⊎ (item_if_any ss ds r ≡ Rule r ∷ [])
some_or_none [] ds r = inl refl
some_or_none (s ∷ ss) [] r = inl refl
some_or_none (s ∷ ss) (d ∷ ds) r = inr refl

shifted_elsewhere : (i p q : ℕ) → Shifts i p q → p ≢ i
shifted_elsewhere i p q (inl (less, is)) e = omega (arith, less, e)
shifted_elsewhere i p q (inr (more, is)) e = omega (arith, more, e)

first_of_some : {X : Type 0} (xs : List X) → xs ≢ [] → (x : X) × (slice_get xs 0 ≡ Some x)
first_of_some [] some = absurd (some refl)
first_of_some (x ∷ xs) some = (x, refl)

-- ---- In a sheet with one rule

module _ (source : List ℕ) (before after : List Item) (kept_before : AreKept before) (kept_after : AreKept after) (r : RuleParts) (sound : IsSound source (with_rule before after r)) where
  abbrev items : List Item
  items = with_rule before after r

  abbrev n : ℕ
  n = length before

  rule : IsSoundRule source r
  rule = rule_sound source items n r sound (at_here before (Rule r) after)

  -- what becomes of the sheet, where a pair stays
  one_left : (q : RuleParts) (new : List Item) (p : Pair) → new ≡ before ++ (rule_or_none q ++ after) → HasPair new p → rule_or_none q ≡ Rule q ∷ []
  one_left q new p new_is has = which (some_or_none q.selectors q.decls q)
    where
      which : (rule_or_none q ≡ []) ⊎ (rule_or_none q ≡ Rule q ∷ []) → rule_or_none q ≡ Rule q ∷ []
      which (inr one) = one
      which (inl none) =
          let gone : HasPair (before ++ after) p = subst (λ (xs : List Item). HasPair xs p) (new_is ∙ ap (λ (xs : List Item). before ++ (xs ++ after)) none) has in
          absurd (no_rule (before ++ after) (both_kept before after kept_before kept_after) gone.0.item gone.1.rule gone.1.rule_at)

  there_still : (q : RuleParts) (new : List Item) (p : Pair) → new ≡ before ++ (rule_or_none q ++ after) → HasPair new p → HasPair (with_rule before after q) p
  there_still q new p new_is has = subst (λ (xs : List Item). HasPair xs p) (new_is ∙ ap (λ (xs : List Item). before ++ (xs ++ after)) (one_left q new p new_is has)) has

  -- ---- A declaration

  abbrev without_decl : ℕ → RuleParts
  without_decl i = record { selectors = r.selectors; decls = remove r.decls i }

  abbrev KeepsPairs : Edit → Type 0
  KeepsPairs e = (p : Pair) → HasPair items p → HasPair (edited e items) p

  decl_cut_here : (i m : ℕ) → i < length r.decls → KeepsPairs (cut_decl n i r) → Saves source items (cut_decl n i r) m → Cut (λ (d : DeclItem). d.decl) (decl_weight source) r.decls i m
  decl_cut_here i m below stay saves =
      let s = first_of_some r.selectors rule.has_selectors in
      let one = there r.decls i below in
      let p : Pair = record { selector = s.0.selector; decl = one.0.decl } in
      let has : HasPair items p = (
        record { item = n; position = i },
        record {
          rule = r;
          decl = one.0;
          rule_at = at_here before (Rule r) after;
          selector_in = has_part (λ (x : SelItem). x.selector) r.selectors 0 s.0 s.0.selector s.1 refl;
          decl_at = one.1;
          decl_is = refl;
        },
      ) in
      let q : RuleParts = without_decl i in
      let new_is : edited (cut_decl n i r) items ≡ before ++ (rule_or_none q ++ after) = edited_here (rule_or_none q) (whole_rule n r) before (Rule r) after in
      let new : HasPair (with_rule before after q) p = there_still q (edited (cut_decl n i r) items) p new_is (stay p has) in
      let is = only_rule before after q kept_before kept_after new.0.item new.1.rule new.1.rule_at in
      let at : slice_get (remove r.decls i) new.0.position ≡ Some new.1.decl = subst (λ (x : RuleParts). slice_get x.decls new.0.position ≡ Some new.1.decl) is.1 new.1.decl_at in
      let w = removed_back r.decls i new.0.position new.1.decl at in
      let by : rule_or_none q ≡ Rule q ∷ [] = one_left q (edited (cut_decl n i r) items) p new_is (stay p has) in
      let weighs : size source (edited (cut_decl n i r) items) + rule_weight source r ≡ size source items + (rules_weight source (rule_or_none q) + 0) =
      steps_weigh source items (CutDecl n i) (cut_decl n i r) (record { rule = r; rule_at = at_here before (Rule r) after; part = below; no_pair_goes = stay; is = refl }) sound r r (at_here before (Rule r) after) (at_here before (Rule r) after) in
      let left : rules_weight source (rule_or_none q) ≡ rule_weight source q + 0 = ap (rules_weight source) by in
      let decls : weight (printed_declaration source) r.decls ≡ weight (printed_declaration source) (remove r.decls i) + (length (printed_declaration source one.0) + 1) = weight_without (printed_declaration source) r.decls i one.0 one.1 in
      let old : rule_weight source r ≡ weight (printed_selector source) r.selectors + weight (printed_declaration source) r.decls = refl in
      let less : rule_weight source q ≡ weight (printed_selector source) r.selectors + weight (printed_declaration source) (remove r.decls i) = refl in
      let saved : size source items ≡ size source (edited (cut_decl n i r) items) + m = saves in
      record {
        one = one.0;
        place = w.0;
        other = new.1.decl;
        one_at = one.1;
        other_at = w.2;
        elsewhere = shifted_elsewhere i w.0 new.0.position w.1;
        same_part = new.1.decl_is;
        weighs = omega (arith, weighs, left, decls, old, less, saved);
      }

  pub decl_cut : (k i : ℕ) (d : Edit) (m : ℕ) → IsStep items (CutDecl k i) d → Saves source items d m → (k ≡ n) × Cut (λ (x : DeclItem). x.decl) (decl_weight source) r.decls i m
  decl_cut k i d m is saves =
      let w = only_rule before after r kept_before kept_after k is.rule is.rule_at in
      let e : cut_decl k i is.rule ≡ cut_decl n i r = ap (λ (z : ℕ). cut_decl z i is.rule) w.0 ∙ ap (cut_decl n i) w.1 in (
        w.0,
        decl_cut_here i m (subst (λ (q : RuleParts). i < length q.decls) w.1 is.part)
            (λ p has. subst (λ (x : Edit). HasPair (edited x items) p) e (is.no_pair_goes p has))
            (subst (λ (x : Edit). Saves source items x m) (is.is ∙ e) saves),
      )

  -- ---- A selector

  abbrev without_selector : ℕ → RuleParts
  without_selector i = record { selectors = remove r.selectors i; decls = r.decls }

  sel_cut_here : (i m : ℕ) → i < length r.selectors → KeepsPairs (cut_selector n i r) → Saves source items (cut_selector n i r) m → Cut (λ (s : SelItem). s.selector) (selector_weight source) r.selectors i m
  sel_cut_here i m below stay saves =
      let d = first_of_some r.decls rule.has_declarations in
      let one = there r.selectors i below in
      let p : Pair = record { selector = one.0.selector; decl = d.0.decl } in
      let has : HasPair items p = (
        record { item = n; position = 0 },
        record {
          rule = r;
          decl = d.0;
          rule_at = at_here before (Rule r) after;
          selector_in = has_part (λ (x : SelItem). x.selector) r.selectors i one.0 one.0.selector one.1 refl;
          decl_at = d.1;
          decl_is = refl;
        },
      ) in
      let q : RuleParts = without_selector i in
      let new_is : edited (cut_selector n i r) items ≡ before ++ (rule_or_none q ++ after) = edited_here (rule_or_none q) (whole_rule n r) before (Rule r) after in
      let new : HasPair (with_rule before after q) p = there_still q (edited (cut_selector n i r) items) p new_is (stay p has) in
      let is = only_rule before after q kept_before kept_after new.0.item new.1.rule new.1.rule_at in
      let other = found (λ (x : SelItem). x.selector) (remove r.selectors i) p.selector (subst (λ (x : RuleParts). Contains (map (λ (s : SelItem). s.selector) x.selectors) p.selector) is.1 new.1.selector_in) in
      let w = removed_back r.selectors i other.number other.item other.at in
      let by : rule_or_none q ≡ Rule q ∷ [] = one_left q (edited (cut_selector n i r) items) p new_is (stay p has) in
      let weighs : size source (edited (cut_selector n i r) items) + rule_weight source r ≡ size source items + (rules_weight source (rule_or_none q) + 0) =
      steps_weigh source items (CutSel n i) (cut_selector n i r) (record { rule = r; rule_at = at_here before (Rule r) after; part = below; no_pair_goes = stay; is = refl }) sound r r (at_here before (Rule r) after) (at_here before (Rule r) after) in
      let left : rules_weight source (rule_or_none q) ≡ rule_weight source q + 0 = ap (rules_weight source) by in
      let selectors : weight (printed_selector source) r.selectors ≡ weight (printed_selector source) (remove r.selectors i) + (length (printed_selector source one.0) + 1) = weight_without (printed_selector source) r.selectors i one.0 one.1 in
      let old : rule_weight source r ≡ weight (printed_selector source) r.selectors + weight (printed_declaration source) r.decls = refl in
      let less : rule_weight source q ≡ weight (printed_selector source) (remove r.selectors i) + weight (printed_declaration source) r.decls = refl in
      let saved : size source items ≡ size source (edited (cut_selector n i r) items) + m = saves in
      record {
        one = one.0;
        place = w.0;
        other = other.item;
        one_at = one.1;
        other_at = w.2;
        elsewhere = shifted_elsewhere i w.0 other.number w.1;
        same_part = other.is;
        weighs = omega (arith, weighs, left, selectors, old, less, saved);
      }

  pub sel_cut : (k i : ℕ) (d : Edit) (m : ℕ) → IsStep items (CutSel k i) d → Saves source items d m → (k ≡ n) × Cut (λ (x : SelItem). x.selector) (selector_weight source) r.selectors i m
  sel_cut k i d m is saves =
      let w = only_rule before after r kept_before kept_after k is.rule is.rule_at in
      let e : cut_selector k i is.rule ≡ cut_selector n i r = ap (λ (z : ℕ). cut_selector z i is.rule) w.0 ∙ ap (cut_selector n i) w.1 in (
        w.0,
        sel_cut_here i m (subst (λ (q : RuleParts). i < length q.selectors) w.1 is.part)
            (λ p has. subst (λ (x : Edit). HasPair (edited x items) p) e (is.no_pair_goes p has))
            (subst (λ (x : Edit). Saves source items x m) (is.is ∙ e) saves),
      )
