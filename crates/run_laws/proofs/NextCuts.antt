-- The cut that goes next in the one rule of a sheet is the next step.
use Rattle.std.proofs.Common.{◌≡◌, ℕ, suc, ◌+◌, ◌<◌, ◌≤◌, Bool, true, false, List, [], ◌∷◌, ◌++◌, length, Some, refl, sym, ap, subst, inl, inr, ◌∙◌, arith}
use Rattle.std.specs.Prelude.{nat_lt, slice_get}
use Rattle.std.specs.List.{remove}
use Rattle.std.proofs.lemmas.Bool.{false≢true}
use Rattle.css_model.specs.declared.sheet.DeclItem.{DeclItem}
use Rattle.css_model.specs.declared.sheet.Item.{Item}
use Rattle.css_model.specs.declared.sheet.Item.TheVariants.{Rule}
use Rattle.css_model.specs.declared.sheet.SelItem.{SelItem}
use Rattle.css_model.specs.Cascade.Winner.{exceeds}
use Rattle.css_model.specs.Sheets.Printed.{printed_declaration, printed_selector}
use Rattle.css_model.specs.Sheets.RuleParts.{RuleParts}
use Rattle.css_model.specs.Sheets.Sound.{IsSound, IsSoundRule}
use Rattle.order_laws.specs.Edits.{Edit, edited, whole_rule}
use Rattle.repeat_laws.proofs.ForCallers.{decl_cut_is_step, left_is, repeats_free, sel_cut_is_step, some_left}
use Rattle.repeat_laws.specs.Repeats.{IsDeclAgain, IsSelAgain}
use Rattle.run_laws.proofs.Edited.{at_here, edited_here}
use Rattle.run_laws.proofs.Listed.{NoneAgain, Next}
use Rattle.run_laws.proofs.Numbered.{IsNextAt, next_at, no_earlier_cut, no_heavy_cut, weight_without}
use Rattle.run_laws.proofs.OneRule.{only_rule}
use Rattle.run_laws.proofs.OtherCuts.{decl_cut, sel_cut}
use Rattle.run_laws.specs.Runs.{AreKept, Descend, decl_weight, selector_weight, with_rule}
use Rattle.step_laws.proofs.ForCallers.{rule_sound, steps_weigh}
use Rattle.step_laws.specs.declared.step.Step.{Step}
use Rattle.step_laws.specs.declared.step.Step.TheVariants.{CutDecl, CutSel, JoinSelUp, JoinSelDown, JoinDeclUp, JoinDeclDown, Share}
use Rattle.step_laws.specs.Free.{Answered}
use Rattle.step_laws.specs.Leading.{ComesFirst, Takes}
use Rattle.step_laws.specs.RuleParting.{rule_or_none}
use Rattle.step_laws.specs.Sizes.{Saves, rule_weight, rules_weight, size, weight}
use Rattle.step_laws.specs.StepEdits.{AreRules, cut_decl, cut_selector}
use Rattle.step_laws.specs.Steps.{IsStep}

-- ---- The order of cuts of one rule

first_by_number : (n i k : ℕ) → exceeds (n ∷ i ∷ []) (n ∷ k ∷ []) ≡ true → k < i
first_by_number n i k h = by_less (nat_lt k i) refl
  where
    by_less : (b : Bool) → nat_lt k i ≡ b → k < i
    by_less true e = lt_from k i e
      where
        lt_from : (k i : ℕ) → nat_lt k i ≡ true → k < i
        lt_from k i e = grind (arith, e)
    by_less false e = absurd (false≢true (sym (never e) ∙ h))
      where
        never : nat_lt k i ≡ false → exceeds (n ∷ i ∷ []) (n ∷ k ∷ []) ≡ false
        never e = grind (arith, e)

-- ---- In a sheet with one rule

module _ (answers : List Answered) (source : List ℕ) (before after : List Item) (kept_before : AreKept before) (kept_after : AreKept after)
    (r : RuleParts) (sound : IsSound source (with_rule before after r)) (descend : Descend source r) (l i : ℕ) (some : 0 < l) where
  abbrev items : List Item
  items = with_rule before after r

  abbrev n : ℕ
  n = length before

  at : slice_get items n ≡ Some (Rule r)
  at = at_here before (Rule r) after

  rule : IsSoundRule source r
  rule = rule_sound source items n r sound at

  abbrev NoDecl : ℕ → Type 0
  NoDecl t = NoneAgain (λ (d : DeclItem). d.decl) (decl_weight source) t r.decls

  abbrev NoSelector : ℕ → Type 0
  NoSelector t = NoneAgain (λ (s : SelItem). s.selector) (selector_weight source) t r.selectors

  -- two rules are not there
  not_two : (x y : ℕ) (upper lower : RuleParts) → AreRules items x y upper lower → ⊥
  not_two x y upper lower rules =
      let a : x ≡ length before = (only_rule before after r kept_before kept_after x upper rules.upper_at).0 in
      let b : y ≡ length before = (only_rule before after r kept_before kept_after y lower rules.lower_at).0 in
      let order = rules.in_order in
      omega (arith, a, b, order)

  -- ---- A declaration

  module _ (ds : List DeclItem) (next : Next (λ (d : DeclItem). d.decl) (decl_weight source) l i r.decls ds) (no_decl : NoDecl (suc l)) (no_selector : NoSelector (suc l)) where
    decl_next : IsNextAt (λ (d : DeclItem). d.decl) (decl_weight source) l i r.decls ds
    decl_next = next_at (λ (d : DeclItem). d.decl) (decl_weight source) l i r.decls ds next

    decl_again : IsDeclAgain r.decls i
    decl_again = record { later = decl_next.later; one = decl_next.one; other = decl_next.other; one_at = decl_next.one_at; other_at = decl_next.other_at; after = decl_next.after; same = decl_next.same_part }

    abbrev decl_left : RuleParts
    decl_left = record { selectors = r.selectors; decls = remove r.decls i }

    decl_step : IsStep items (CutDecl n i) (cut_decl n i r)
    decl_step = decl_cut_is_step source items n i r sound at decl_again

    decl_by : rule_or_none decl_left ≡ Rule decl_left ∷ []
    decl_by = left_is r.selectors (remove r.decls i) decl_left rule.has_selectors
        (let after = decl_next.after in some_left r.decls i decl_next.later decl_next.other decl_next.other_at (λ e. omega (arith, e, after)))

    decl_new : with_rule before after (record { selectors = r.selectors; decls = ds }) ≡ edited (cut_decl n i r) items
    decl_new =
        ap (λ (zs : List DeclItem). with_rule before after (record { selectors = r.selectors; decls = zs })) decl_next.left
        ∙ sym (edited_here (rule_or_none decl_left) (whole_rule n r) before (Rule r) after ∙ ap (λ (xs : List Item). before ++ (xs ++ after)) decl_by)

    decl_saves : Saves source items (cut_decl n i r) l
    decl_saves =
        let weighs : size source (edited (cut_decl n i r) items) + rule_weight source r ≡ size source items + (rules_weight source (rule_or_none decl_left) + 0) =
        steps_weigh source items (CutDecl n i) (cut_decl n i r) decl_step sound r r at at in
        let left : rules_weight source (rule_or_none decl_left) ≡ rule_weight source decl_left + 0 = ap (rules_weight source) decl_by in
        let decls : weight (printed_declaration source) r.decls ≡ weight (printed_declaration source) (remove r.decls i) + (length (printed_declaration source decl_next.one) + 1) =
        weight_without (printed_declaration source) r.decls i decl_next.one decl_next.one_at in
        let old : rule_weight source r ≡ weight (printed_selector source) r.selectors + weight (printed_declaration source) r.decls = refl in
        let less : rule_weight source decl_left ≡ weight (printed_selector source) r.selectors + weight (printed_declaration source) (remove r.decls i) = refl in
        let one : length (printed_declaration source decl_next.one) + 1 ≡ l = decl_next.weighs in
        omega (arith, weighs, left, decls, old, less, one)

    -- no step comes before it
    decl_first : (j : Step) (d : Edit) (m : ℕ) → IsStep items j d → Saves source items d m → ComesFirst m j l (CutDecl n i) → ⊥
    decl_first (CutDecl k u) d m is saves (inl more) = no_heavy_cut (λ (x : DeclItem). x.decl) (decl_weight source) (suc l) r.decls u m descend.0 no_decl
        (decl_cut source before after kept_before kept_after r sound k u d m is saves).1 (omega (arith, more))
    decl_first (CutDecl k u) d m is saves (inr (e, sooner)) =
        let w = decl_cut source before after kept_before kept_after r sound k u d m is saves in
        let number : u < i = first_by_number n i u (subst (λ (z : ℕ). exceeds (n ∷ i ∷ []) (z ∷ u ∷ []) ≡ true) w.0 sooner) in
        no_earlier_cut (λ (x : DeclItem). x.decl) (decl_weight source) l i r.decls ds u m descend.0 next w.1 number (omega (arith, e))
    decl_first (CutSel k u) d m is saves (inl more) = no_heavy_cut (λ (x : SelItem). x.selector) (selector_weight source) (suc l) r.selectors u m descend.1 no_selector
        (sel_cut source before after kept_before kept_after r sound k u d m is saves).1 (omega (arith, more))
    decl_first (CutSel k u) d m is saves (inr (e, sooner)) = false≢true sooner
    decl_first (JoinSelUp x y) d m is saves sooner = not_two x y is.upper is.lower is.rules
    decl_first (JoinSelDown x y) d m is saves sooner = not_two x y is.upper is.lower is.rules
    decl_first (JoinDeclUp x y) d m is saves sooner = not_two x y is.upper is.lower is.rules
    decl_first (JoinDeclDown x y) d m is saves sooner = not_two x y is.upper is.lower is.rules
    decl_first (Share x y) d m is saves sooner = not_two x y is.upper is.lower is.rules

    pub takes_decl : Takes answers source items (with_rule before after (record { selectors = r.selectors; decls = ds }))
    takes_decl = (
      CutDecl n i,
      cut_decl n i r,
      record {
        saving = l;
        step = decl_step;
        free = repeats_free answers source items (CutDecl n i) (cut_decl n i r) sound (r, at, decl_again) decl_step;
        some = some;
        saves = decl_saves;
        best = λ j d m is saves sooner. absurd (decl_first j d m is saves sooner);
      },
      decl_new,
    )

  -- ---- A selector

  module _ (ss : List SelItem) (next : Next (λ (s : SelItem). s.selector) (selector_weight source) l i r.selectors ss) (no_decl : NoDecl l) (no_selector : NoSelector (suc l)) where
    sel_next : IsNextAt (λ (s : SelItem). s.selector) (selector_weight source) l i r.selectors ss
    sel_next = next_at (λ (s : SelItem). s.selector) (selector_weight source) l i r.selectors ss next

    sel_again : IsSelAgain r.selectors i
    sel_again = record {
      place = sel_next.later;
      one = sel_next.one;
      other = sel_next.other;
      one_at = sel_next.one_at;
      other_at = sel_next.other_at;
      elsewhere = (let after = sel_next.after in λ e. omega (arith, e, after));
      same = sel_next.same_part;
    }

    abbrev sel_left : RuleParts
    sel_left = record { selectors = remove r.selectors i; decls = r.decls }

    sel_step : IsStep items (CutSel n i) (cut_selector n i r)
    sel_step = sel_cut_is_step source items n i r sound at sel_again

    sel_by : rule_or_none sel_left ≡ Rule sel_left ∷ []
    sel_by = left_is (remove r.selectors i) r.decls sel_left
        (let after = sel_next.after in some_left r.selectors i sel_next.later sel_next.other sel_next.other_at (λ e. omega (arith, e, after))) rule.has_declarations

    sel_new : with_rule before after (record { selectors = ss; decls = r.decls }) ≡ edited (cut_selector n i r) items
    sel_new =
        ap (λ (zs : List SelItem). with_rule before after (record { selectors = zs; decls = r.decls })) sel_next.left
        ∙ sym (edited_here (rule_or_none sel_left) (whole_rule n r) before (Rule r) after ∙ ap (λ (xs : List Item). before ++ (xs ++ after)) sel_by)

    sel_saves : Saves source items (cut_selector n i r) l
    sel_saves =
        let weighs : size source (edited (cut_selector n i r) items) + rule_weight source r ≡ size source items + (rules_weight source (rule_or_none sel_left) + 0) =
        steps_weigh source items (CutSel n i) (cut_selector n i r) sel_step sound r r at at in
        let left : rules_weight source (rule_or_none sel_left) ≡ rule_weight source sel_left + 0 = ap (rules_weight source) sel_by in
        let selectors : weight (printed_selector source) r.selectors ≡ weight (printed_selector source) (remove r.selectors i) + (length (printed_selector source sel_next.one) + 1) =
        weight_without (printed_selector source) r.selectors i sel_next.one sel_next.one_at in
        let old : rule_weight source r ≡ weight (printed_selector source) r.selectors + weight (printed_declaration source) r.decls = refl in
        let less : rule_weight source sel_left ≡ weight (printed_selector source) (remove r.selectors i) + weight (printed_declaration source) r.decls = refl in
        let one : length (printed_selector source sel_next.one) + 1 ≡ l = sel_next.weighs in
        omega (arith, weighs, left, selectors, old, less, one)

    sel_first : (j : Step) (d : Edit) (m : ℕ) → IsStep items j d → Saves source items d m → ComesFirst m j l (CutSel n i) → ⊥
    sel_first (CutDecl k u) d m is saves sooner = no_heavy_cut (λ (x : DeclItem). x.decl) (decl_weight source) l r.decls u m descend.0 no_decl
        (decl_cut source before after kept_before kept_after r sound k u d m is saves).1 (as_heavy sooner)
      where
        as_heavy : ComesFirst m (CutDecl k u) l (CutSel n i) → l ≤ m
        as_heavy (inl more) = omega (arith, more)
        as_heavy (inr (e, sooner)) = omega (arith, e)
    sel_first (CutSel k u) d m is saves (inl more) = no_heavy_cut (λ (x : SelItem). x.selector) (selector_weight source) (suc l) r.selectors u m descend.1 no_selector
        (sel_cut source before after kept_before kept_after r sound k u d m is saves).1 (omega (arith, more))
    sel_first (CutSel k u) d m is saves (inr (e, sooner)) =
        let w = sel_cut source before after kept_before kept_after r sound k u d m is saves in
        let number : u < i = first_by_number n i u (subst (λ (z : ℕ). exceeds (n ∷ i ∷ []) (z ∷ u ∷ []) ≡ true) w.0 sooner) in
        no_earlier_cut (λ (x : SelItem). x.selector) (selector_weight source) l i r.selectors ss u m descend.1 next w.1 number (omega (arith, e))
    sel_first (JoinSelUp x y) d m is saves sooner = not_two x y is.upper is.lower is.rules
    sel_first (JoinSelDown x y) d m is saves sooner = not_two x y is.upper is.lower is.rules
    sel_first (JoinDeclUp x y) d m is saves sooner = not_two x y is.upper is.lower is.rules
    sel_first (JoinDeclDown x y) d m is saves sooner = not_two x y is.upper is.lower is.rules
    sel_first (Share x y) d m is saves sooner = not_two x y is.upper is.lower is.rules

    pub takes_sel : Takes answers source items (with_rule before after (record { selectors = ss; decls = r.decls }))
    takes_sel = (
      CutSel n i,
      cut_selector n i r,
      record {
        saving = l;
        step = sel_step;
        free = repeats_free answers source items (CutSel n i) (cut_selector n i r) sound (r, at, sel_again) sel_step;
        some = some;
        saves = sel_saves;
        best = λ j d m is saves sooner. absurd (sel_first j d m is saves sooner);
      },
      sel_new,
    )
