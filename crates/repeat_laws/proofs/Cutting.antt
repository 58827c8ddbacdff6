-- Cuts of repeated parts keep the places of a sheet.
use Rattle.std.proofs.Common.{◌≡◌, ◌≢◌, ◌⊎◌, ℕ, zero, suc, ◌<◌, List, [], ◌∷◌, ◌++◌, length, map, Some, None, refl, sym, ap, subst, inl, inr, ◌∙◌, arith}
use Rattle.std.specs.Prelude.{slice_get}
use Rattle.std.specs.List.{Contains, remove}
use Rattle.cascade_laws.proofs.ForCallers.{rule-same, some-same}
use Rattle.css_model.specs.declared.sheet.DeclItem.{DeclItem}
use Rattle.css_model.specs.declared.sheet.Item.{Item}
use Rattle.css_model.specs.declared.sheet.Item.TheVariants.{KeptBlock, KeptRule, Rule}
use Rattle.css_model.specs.declared.sheet.SelItem.{SelItem}
use Rattle.css_model.specs.Cascade.Order.{IsPairAt, Pair}
use Rattle.css_model.specs.Cascade.Winner.{IsLater, Place}
use Rattle.css_model.specs.Documents.SelectorParts.{SelectorParts}
use Rattle.css_model.specs.Sheets.KeptItems.{kept_before}
use Rattle.css_model.specs.Sheets.RuleParts.{RuleParts}
use Rattle.css_model.specs.Sheets.Sound.{IsSound, IsSoundRule}
use Rattle.list_facts.proofs.Members.{Contains-cons_cases, Contains-here, Contains-nil, Contains-there}
use Rattle.order_laws.specs.Edits.{edited, whole_rule}
use Rattle.repeat_laws.proofs.Places.{KeepsPlaces, Stays, StaysLater, Stood, free_by_places, pairs_stay}
use Rattle.repeat_laws.proofs.Removing.{Shifts, inside, removed_back, removed_there, same_or_not, shifts_back, shifts_there, some_left}
use Rattle.repeat_laws.specs.Repeats.{IsDeclAgain, IsSelAgain, RepeatsAreFree}
use Rattle.step_laws.proofs.ForCallers.{OneInParts, one_in_parts, rule_sound}
use Rattle.step_laws.specs.declared.step.Step.TheVariants.{CutDecl, CutSel, JoinDeclDown, JoinDeclUp, JoinSelDown, JoinSelUp, Share}
use Rattle.step_laws.specs.Free.{Answered, IsFree}
use Rattle.step_laws.specs.RuleParting.{item_if_any, rule_or_none}
use Rattle.step_laws.specs.StepEdits.{cut_decl, cut_selector}
use Rattle.step_laws.specs.Steps.{IsStep}

-- ---- One rule in the place of another

-- a rule of the one sheet is at this number in the other one too, or it is the rule that was replaced
record IsThere (before after : List Item) (q : RuleParts) (n : ℕ) (rule : RuleParts) : Type 0 where
  other : n ≢ length before
  at : slice_get (before ++ (Rule q ∷ after)) n ≡ Some (Rule rule)

record IsReplaced (before after : List Item) (r q : RuleParts) (n : ℕ) (rule : RuleParts) : Type 0 where
  here : n ≡ length before
  is : rule ≡ r
  at : slice_get (before ++ (Rule q ∷ after)) n ≡ Some (Rule q)

rule_there : (before after : List Item) (r q : RuleParts) (n : ℕ) (rule : RuleParts) → slice_get (before ++ (Rule r ∷ after)) n ≡ Some (Rule rule) →
    IsThere before after q n rule ⊎ IsReplaced before after r q n rule
rule_there [] after r q zero rule at = inr (record { here = refl; is = sym (rule-same (some-same at)); at = refl })
rule_there [] after r q (suc n) rule at = inl (record { other = λ e. omega (arith, e); at = at })
rule_there (x ∷ before) after r q zero rule at = inl (record { other = λ e. omega (arith, e); at = at })
rule_there (x ∷ before) after r q (suc n) rule at = which (rule_there before after r q n rule at)
  where
    which : IsThere before after q n rule ⊎ IsReplaced before after r q n rule → IsThere (x ∷ before) after q (suc n) rule ⊎ IsReplaced (x ∷ before) after r q (suc n) rule
    which (inl w) = inl (record { other = λ e. w.other (omega (arith, e)); at = w.at })
    which (inr w) = inr (record { here = ap suc w.here; is = w.is; at = w.at })

kept_alike : (before after : List Item) (r q : RuleParts) (n : ℕ) → kept_before n (before ++ (Rule r ∷ after)) ≡ kept_before n (before ++ (Rule q ∷ after))
kept_alike [] after r q zero = refl
kept_alike [] after r q (suc n) = refl
kept_alike (Rule x ∷ before) after r q zero = refl
kept_alike (KeptRule x ∷ before) after r q zero = refl
kept_alike (KeptBlock x ∷ before) after r q zero = refl
kept_alike (Rule x ∷ before) after r q (suc n) = kept_alike before after r q n
kept_alike (KeptRule x ∷ before) after r q (suc n) = ap suc (kept_alike before after r q n)
kept_alike (KeptBlock x ∷ before) after r q (suc n) = ap suc (kept_alike before after r q n)

pub left_is : (ss : List SelItem) (ds : List DeclItem) (r : RuleParts) → ss ≢ [] → ds ≢ [] → item_if_any ss ds r ≡ Rule r ∷ []
left_is [] ds r some some' = absurd (some refl)
left_is (s ∷ ss) [] r some some' = absurd (some' refl)
left_is (s ∷ ss) (d ∷ ds) r some some' = refl

-- ---- A declaration

abbrev without_decl : RuleParts → ℕ → RuleParts
without_decl r i = record { selectors = r.selectors; decls = remove r.decls i }

-- what places become: in the rule of this number those after the cut declaration move up by one
abbrev MovesUp : (m i : ℕ) → Place → Place → Type 0
MovesUp m i x y = (y.item ≡ x.item) × (((x.item ≢ m) × (y.position ≡ x.position)) ⊎ ((x.item ≡ m) × Shifts i x.position y.position))

module _ (m i : ℕ) where
  up_later : (x y x' y' : Place) → MovesUp m i x y → MovesUp m i x' y' → IsLater x' x → IsLater y' y
  up_later x y x' y' (e, one) (e', other) (inl less) = inl (omega (arith, e, e', less))
  up_later x y x' y' (e, one) (e', other) (inr (same, less)) = inr (e' ∙ same ∙ sym e, which one other)
    where
      which : ((x.item ≢ m) × (y.position ≡ x.position)) ⊎ ((x.item ≡ m) × Shifts i x.position y.position) → ((x'.item ≢ m) × (y'.position ≡ x'.position)) ⊎ ((x'.item ≡ m) × Shifts i x'.position y'.position) → y.position < y'.position
      which (inl (a, b)) (inl (c, d)) = omega (arith, b, d, less)
      which (inl (a, b)) (inr (c, d)) = absurd (a (sym same ∙ c))
      which (inr (a, b)) (inl (c, d)) = absurd (c (same ∙ a))
      which (inr (a, b)) (inr (c, d)) = shifts_there i x.position y.position x'.position y'.position b d less

  up_earlier : (x y x' y' : Place) → MovesUp m i x y → MovesUp m i x' y' → IsLater y' y → IsLater x' x
  up_earlier x y x' y' (e, one) (e', other) (inl less) = inl (omega (arith, e, e', less))
  up_earlier x y x' y' (e, one) (e', other) (inr (same, less)) = inr (sym e' ∙ same ∙ e, which one other)
    where
      alike : x'.item ≡ x.item
      alike = sym e' ∙ same ∙ e

      which : ((x.item ≢ m) × (y.position ≡ x.position)) ⊎ ((x.item ≡ m) × Shifts i x.position y.position) → ((x'.item ≢ m) × (y'.position ≡ x'.position)) ⊎ ((x'.item ≡ m) × Shifts i x'.position y'.position) → x.position < x'.position
      which (inl (a, b)) (inl (c, d)) = omega (arith, b, d, less)
      which (inl (a, b)) (inr (c, d)) = absurd (a (sym alike ∙ c))
      which (inr (a, b)) (inl (c, d)) = absurd (c (alike ∙ a))
      which (inr (a, b)) (inr (c, d)) = shifts_back i x.position y.position x'.position y'.position b d less

module _ (before after : List Item) (r : RuleParts) (i : ℕ) (again : IsDeclAgain r.decls i) where
  abbrev old : List Item
  old = before ++ (Rule r ∷ after)

  abbrev cut : List Item
  cut = before ++ (Rule (without_decl r i) ∷ after)

  abbrev T : Place → Place → Type 0
  T = MovesUp (length before) i

  -- a pair of the rule at another position than the cut one
  decl_stays : (p : Pair) (x : Place) (d : DeclItem) → x.item ≡ length before → slice_get cut x.item ≡ Some (Rule (without_decl r i)) → Contains (map (λ s. s.selector) r.selectors) p.selector →
      slice_get r.decls x.position ≡ Some d → d.decl ≡ p.decl → x.position ≢ i → Stays cut T p x
  decl_stays p x d here at selector_in decl_at decl_is other =
      let w = removed_there r.decls i x.position d decl_at other in
      record {
        place = record { item = x.item; position = w.0 };
        became = (refl, inr (here, w.1));
        stands = record { rule = without_decl r i; decl = d; rule_at = at; selector_in = selector_in; decl_at = w.2; decl_is = decl_is };
      }

  decl_there : (p : Pair) (x : Place) → IsPairAt old p x → Stays cut T p x ⊎ StaysLater old cut T p x
  decl_there p x at = which (rule_there before after r (without_decl r i) x.item at.rule at.rule_at)
    where
      which : IsThere before after (without_decl r i) x.item at.rule ⊎ IsReplaced before after r (without_decl r i) x.item at.rule → Stays cut T p x ⊎ StaysLater old cut T p x
      which (inl w) = inl (record {
        place = x;
        became = (refl, inl (w.other, refl));
        stands = record { rule = at.rule; decl = at.decl; rule_at = w.at; selector_in = at.selector_in; decl_at = at.decl_at; decl_is = at.decl_is };
      })
      which (inr w) = here (same_or_not x.position i)
        where
          selector_in : Contains (map (λ s. s.selector) r.selectors) p.selector
          selector_in = subst (λ (q : RuleParts). Contains (map (λ s. s.selector) q.selectors) p.selector) w.is at.selector_in

          decl_at : slice_get r.decls x.position ≡ Some at.decl
          decl_at = subst (λ (q : RuleParts). slice_get q.decls x.position ≡ Some at.decl) w.is at.decl_at

          here : (x.position ≡ i) ⊎ (x.position ≢ i) → Stays cut T p x ⊎ StaysLater old cut T p x
          here (inr other) = inl (decl_stays p x at.decl w.here w.at selector_in decl_at at.decl_is other)
          here (inl is) =
              let one : Some again.one ≡ Some at.decl = sym again.one_at ∙ subst (λ (n : ℕ). slice_get r.decls n ≡ Some at.decl) is decl_at in
              let same : again.other.decl ≡ p.decl = again.same ∙ ap (λ (d : DeclItem). d.decl) (some-same one) ∙ at.decl_is in
              let z : Place = record { item = x.item; position = again.later } in
              let later = again.after in
              inr (record {
                later = z;
                stands = record { rule = at.rule; decl = again.other; rule_at = at.rule_at; selector_in = at.selector_in; decl_at = subst (λ (q : RuleParts). slice_get q.decls again.later ≡ Some again.other) (sym w.is) again.other_at; decl_is = same };
                behind = inr (refl, omega (arith, later, is));
                stays = decl_stays p z again.other w.here w.at selector_in again.other_at same (λ e. omega (arith, e, later));
              })

  decl_back : (p : Pair) (y : Place) → IsPairAt cut p y → Stood old T p y
  decl_back p y at = which (rule_there before after (without_decl r i) r y.item at.rule at.rule_at)
    where
      which : IsThere before after r y.item at.rule ⊎ IsReplaced before after (without_decl r i) r y.item at.rule → Stood old T p y
      which (inl w) = record {
        place = y;
        became = (refl, inl (w.other, refl));
        stands = record { rule = at.rule; decl = at.decl; rule_at = w.at; selector_in = at.selector_in; decl_at = at.decl_at; decl_is = at.decl_is };
      }
      which (inr w) =
          let selector_in : Contains (map (λ s. s.selector) r.selectors) p.selector = subst (λ (q : RuleParts). Contains (map (λ s. s.selector) q.selectors) p.selector) w.is at.selector_in in
          let decl_at : slice_get (remove r.decls i) y.position ≡ Some at.decl = subst (λ (q : RuleParts). slice_get q.decls y.position ≡ Some at.decl) w.is at.decl_at in
          let v = removed_back r.decls i y.position at.decl decl_at in
          record {
            place = record { item = y.item; position = v.0 };
            became = (refl, inr (w.here, v.1));
            stands = record { rule = r; decl = at.decl; rule_at = w.at; selector_in = selector_in; decl_at = v.2; decl_is = at.decl_is };
          }

  decl_keeps : KeepsPlaces old cut T
  decl_keeps = record {
    there = decl_there;
    back = decl_back;
    later = up_later (length before) i;
    earlier = up_earlier (length before) i;
    kept = λ x y became. kept_alike before after r (without_decl r i) x.item ∙ ap (λ (n : ℕ). kept_before n cut) (sym became.0);
  }

-- the places that are kept by a cut of a declaration
decl_places : (source : List ℕ) (items : List Item) (n i : ℕ) (r : RuleParts) → IsSound source items → slice_get items n ≡ Some (Rule r) → IsDeclAgain r.decls i →
    (m : ℕ) × KeepsPlaces items (edited (cut_decl n i r) items) (MovesUp m i)
decl_places source items n i r sound at again =
    let rule : IsSoundRule source r = rule_sound source items n r sound at in
    let later = again.after in
    let left : remove r.decls i ≢ [] = some_left r.decls i again.later again.other again.other_at (λ e. omega (arith, e, later)) in
    let by : rule_or_none (without_decl r i) ≡ Rule (without_decl r i) ∷ [] = left_is r.selectors (remove r.decls i) (without_decl r i) rule.has_selectors left in
    let p : OneInParts items (edited (cut_decl n i r) items) r (rule_or_none (without_decl r i)) = one_in_parts items n (rule_or_none (without_decl r i)) (whole_rule n r) r at in
    let new_is : edited (cut_decl n i r) items ≡ p.before ++ (Rule (without_decl r i) ∷ p.after) = p.new_is ∙ ap (λ (xs : List Item). p.before ++ (xs ++ p.after)) by in (
      length p.before,
      subst (λ (xs : List Item). KeepsPlaces xs (edited (cut_decl n i r) items) (MovesUp (length p.before) i)) (sym p.old_is)
          (subst (λ (xs : List Item). KeepsPlaces (p.before ++ (Rule r ∷ p.after)) xs (MovesUp (length p.before) i)) (sym new_is) (decl_keeps p.before p.after r i again)),
    )

decl_free : (answers : List Answered) (source : List ℕ) (items : List Item) (n i : ℕ) (r : RuleParts) → IsSound source items → slice_get items n ≡ Some (Rule r) → IsDeclAgain r.decls i → IsFree answers items (cut_decl n i r)
decl_free answers source items n i r sound at again =
    let w = decl_places source items n i r sound at again in
    free_by_places answers items (cut_decl n i r) (MovesUp w.0 i) w.1

-- it is a step
pub decl_cut_is_step : (source : List ℕ) (items : List Item) (n i : ℕ) (r : RuleParts) → IsSound source items → slice_get items n ≡ Some (Rule r) → IsDeclAgain r.decls i → IsStep items (CutDecl n i) (cut_decl n i r)
decl_cut_is_step source items n i r sound at again =
    let w = decl_places source items n i r sound at again in
    record {
      rule = r;
      rule_at = at;
      part = inside r.decls i again.one again.one_at;
      no_pair_goes = pairs_stay items (edited (cut_decl n i r) items) (MovesUp w.0 i) w.1;
      is = refl;
    }

-- ---- A selector

abbrev without_sel : RuleParts → ℕ → RuleParts
without_sel r i = record { selectors = remove r.selectors i; decls = r.decls }

abbrev sels : List SelItem → List SelectorParts
sels ss = map (λ s. s.selector) ss

sel_in : (ss : List SelItem) (k : ℕ) (c : SelItem) → slice_get ss k ≡ Some c → Contains (sels ss) c.selector
sel_in [] k c at = absurd (let e : None ≡ Some c = at in cc)
sel_in (s ∷ ss) zero c at = subst (λ (x : SelItem). Contains (sels (s ∷ ss)) x.selector) (some-same at) (Contains-here s.selector (sels ss))
sel_in (s ∷ ss) (suc k) c at = Contains-there s.selector (sels ss) c.selector (sel_in ss k c at)

record IsSelAt (ss : List SelItem) (x : SelectorParts) : Type 0 where
  number : ℕ
  item : SelItem
  at : slice_get ss number ≡ Some item
  is : item.selector ≡ x

sel_at : (ss : List SelItem) (x : SelectorParts) → Contains (sels ss) x → IsSelAt ss x
sel_at [] x h = absurd (Contains-nil x h)
sel_at (s ∷ ss) x h = which (sel_at ss x) (Contains-cons_cases s.selector (sels ss) x h)
  where
    which : (Contains (sels ss) x → IsSelAt ss x) → (s.selector ≡ x) ⊎ Contains (sels ss) x → IsSelAt (s ∷ ss) x
    which rest (inl e) = record { number = 0; item = s; at = refl; is = e }
    which rest (inr g) = let w = rest g in record { number = suc w.number; item = w.item; at = w.at; is = w.is }

sel_stays : (ss : List SelItem) (i : ℕ) → IsSelAgain ss i → (x : SelectorParts) → Contains (sels ss) x → Contains (sels (remove ss i)) x
sel_stays ss i again x h = which (sel_at ss x h)
  where
    which : IsSelAt ss x → Contains (sels (remove ss i)) x
    which w = here (same_or_not w.number i)
      where
        here : (w.number ≡ i) ⊎ (w.number ≢ i) → Contains (sels (remove ss i)) x
        here (inr other) = let v = removed_there ss i w.number w.item w.at other in subst (Contains (sels (remove ss i))) w.is (sel_in (remove ss i) v.0 w.item v.2)
        here (inl is) =
            let one : Some again.one ≡ Some w.item = sym again.one_at ∙ subst (λ (n : ℕ). slice_get ss n ≡ Some w.item) is w.at in
            let same : again.other.selector ≡ x = again.same ∙ ap (λ (s : SelItem). s.selector) (some-same one) ∙ w.is in
            let v = removed_there ss i again.place again.other again.other_at again.elsewhere in
            subst (Contains (sels (remove ss i))) same (sel_in (remove ss i) v.0 again.other v.2)

sel_was : (ss : List SelItem) (i : ℕ) (x : SelectorParts) → Contains (sels (remove ss i)) x → Contains (sels ss) x
sel_was ss i x h =
    let w = sel_at (remove ss i) x h in
    let v = removed_back ss i w.number w.item w.at in
    subst (Contains (sels ss)) w.is (sel_in ss v.0 w.item v.2)

module _ (before after : List Item) (r : RuleParts) (i : ℕ) (again : IsSelAgain r.selectors i) where
  abbrev whole : List Item
  whole = before ++ (Rule r ∷ after)

  abbrev fewer : List Item
  fewer = before ++ (Rule (without_sel r i) ∷ after)

  pair_stays : (p : Pair) (x : Place) → IsPairAt whole p x → IsPairAt fewer p x
  pair_stays p x at = which (rule_there before after r (without_sel r i) x.item at.rule at.rule_at)
    where
      which : IsThere before after (without_sel r i) x.item at.rule ⊎ IsReplaced before after r (without_sel r i) x.item at.rule → IsPairAt fewer p x
      which (inl w) = record { rule = at.rule; decl = at.decl; rule_at = w.at; selector_in = at.selector_in; decl_at = at.decl_at; decl_is = at.decl_is }
      which (inr w) = record {
        rule = without_sel r i;
        decl = at.decl;
        rule_at = w.at;
        selector_in = sel_stays r.selectors i again p.selector (subst (λ (q : RuleParts). Contains (sels q.selectors) p.selector) w.is at.selector_in);
        decl_at = subst (λ (q : RuleParts). slice_get q.decls x.position ≡ Some at.decl) w.is at.decl_at;
        decl_is = at.decl_is;
      }

  pair_was : (p : Pair) (x : Place) → IsPairAt fewer p x → IsPairAt whole p x
  pair_was p x at = which (rule_there before after (without_sel r i) r x.item at.rule at.rule_at)
    where
      which : IsThere before after r x.item at.rule ⊎ IsReplaced before after (without_sel r i) r x.item at.rule → IsPairAt whole p x
      which (inl w) = record { rule = at.rule; decl = at.decl; rule_at = w.at; selector_in = at.selector_in; decl_at = at.decl_at; decl_is = at.decl_is }
      which (inr w) = record {
        rule = r;
        decl = at.decl;
        rule_at = w.at;
        selector_in = sel_was r.selectors i p.selector (subst (λ (q : RuleParts). Contains (sels q.selectors) p.selector) w.is at.selector_in);
        decl_at = subst (λ (q : RuleParts). slice_get q.decls x.position ≡ Some at.decl) w.is at.decl_at;
        decl_is = at.decl_is;
      }

  sel_keeps : KeepsPlaces whole fewer (λ x y. x ≡ y)
  sel_keeps = record {
    there = λ p x at. inl (record { place = x; became = refl; stands = pair_stays p x at });
    back = λ p y at. record { place = y; became = refl; stands = pair_was p y at };
    later = λ x y x' y' e e' later. subst (λ (z : Place). IsLater z y) e' (subst (λ (z : Place). IsLater x' z) e later);
    earlier = λ x y x' y' e e' later. subst (λ (z : Place). IsLater z x) (sym e') (subst (λ (z : Place). IsLater y' z) (sym e) later);
    kept = λ x y e. kept_alike before after r (without_sel r i) x.item ∙ ap (λ (z : Place). kept_before z.item fewer) e;
  }

-- the places that are kept by a cut of a selector
sel_places : (source : List ℕ) (items : List Item) (n i : ℕ) (r : RuleParts) → IsSound source items → slice_get items n ≡ Some (Rule r) → IsSelAgain r.selectors i →
    KeepsPlaces items (edited (cut_selector n i r) items) (λ x y. x ≡ y)
sel_places source items n i r sound at again =
    let rule : IsSoundRule source r = rule_sound source items n r sound at in
    let left : remove r.selectors i ≢ [] = some_left r.selectors i again.place again.other again.other_at again.elsewhere in
    let by : rule_or_none (without_sel r i) ≡ Rule (without_sel r i) ∷ [] = left_is (remove r.selectors i) r.decls (without_sel r i) left rule.has_declarations in
    let p : OneInParts items (edited (cut_selector n i r) items) r (rule_or_none (without_sel r i)) = one_in_parts items n (rule_or_none (without_sel r i)) (whole_rule n r) r at in
    let new_is : edited (cut_selector n i r) items ≡ p.before ++ (Rule (without_sel r i) ∷ p.after) = p.new_is ∙ ap (λ (xs : List Item). p.before ++ (xs ++ p.after)) by in
    subst (λ (xs : List Item). KeepsPlaces xs (edited (cut_selector n i r) items) (λ x y. x ≡ y)) (sym p.old_is)
    (subst (λ (xs : List Item). KeepsPlaces (p.before ++ (Rule r ∷ p.after)) xs (λ x y. x ≡ y)) (sym new_is) (sel_keeps p.before p.after r i again))

sel_free : (answers : List Answered) (source : List ℕ) (items : List Item) (n i : ℕ) (r : RuleParts) → IsSound source items → slice_get items n ≡ Some (Rule r) → IsSelAgain r.selectors i → IsFree answers items (cut_selector n i r)
sel_free answers source items n i r sound at again = free_by_places answers items (cut_selector n i r) (λ x y. x ≡ y) (sel_places source items n i r sound at again)

-- it is a step
pub sel_cut_is_step : (source : List ℕ) (items : List Item) (n i : ℕ) (r : RuleParts) → IsSound source items → slice_get items n ≡ Some (Rule r) → IsSelAgain r.selectors i → IsStep items (CutSel n i) (cut_selector n i r)
sel_cut_is_step source items n i r sound at again = record {
  rule = r;
  rule_at = at;
  part = inside r.selectors i again.one again.one_at;
  no_pair_goes = pairs_stay items (edited (cut_selector n i r) items) (λ x y. x ≡ y) (sel_places source items n i r sound at again);
  is = refl;
}

-- ---- Both

pub repeats_free : RepeatsAreFree
repeats_free answers source items (CutDecl n i) e sound (r, at, again) is =
    let same : is.rule ≡ r = rule-same (some-same (sym is.rule_at ∙ at)) in
    subst (IsFree answers items) (sym is.is) (subst (λ (q : RuleParts). IsFree answers items (cut_decl n i q)) (sym same) (decl_free answers source items n i r sound at again))
repeats_free answers source items (CutSel n i) e sound (r, at, again) is =
    let same : is.rule ≡ r = rule-same (some-same (sym is.rule_at ∙ at)) in
    subst (IsFree answers items) (sym is.is) (subst (λ (q : RuleParts). IsFree answers items (cut_selector n i q)) (sym same) (sel_free answers source items n i r sound at again))
repeats_free answers source items (JoinSelUp x y) e sound cuts is = absurd cuts
repeats_free answers source items (JoinSelDown x y) e sound cuts is = absurd cuts
repeats_free answers source items (JoinDeclUp x y) e sound cuts is = absurd cuts
repeats_free answers source items (JoinDeclDown x y) e sound cuts is = absurd cuts
repeats_free answers source items (Share x y) e sound cuts is = absurd cuts
