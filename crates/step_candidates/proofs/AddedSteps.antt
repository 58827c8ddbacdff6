-- Steps that save something are found, while the rules of a sheet are walked over.
use Rattle.std.proofs.Common.{◌≡◌, ◌⊎◌, ℕ, zero, suc, ◌+◌, ◌<◌, ◌≤◌, List, [], ◌∷◌, ◌++◌, Option, Some, length, refl, sym, ap, subst, inl, inr, ◌∙◌, arith}
use Rattle.std.specs.Prelude.{Result, Ok, Err, IfOk, slice_get}
use Rattle.std.specs.List.{AllPairs, Contains}
use Rattle.std.proofs.lemmas.Bool.{cases_lt}
use Rattle.std.proofs.lemmas.List.{append-nil, append_assoc}
use Rattle.std.proofs.lemmas.List.Elements.{Contains-append_cases}
use Rattle.std.proofs.lemmas.Option.{slice_get_within}
use Rattle.list_facts.proofs.Members.{Contains-cons_cases, Contains-here, Contains-nil}
use Rattle.css_model.specs.declared.sheet.Item.{Item}
use Rattle.css_model.specs.declared.sheet.Item.TheVariants.{Rule, KeptRule, KeptBlock}
use Rattle.css_model.specs.Sheets.Limits.{max_bytes, max_items}
use Rattle.css_model.specs.Sheets.RuleParts.{RuleParts}
use Rattle.css_model.specs.Sheets.Sound.{IsSound, IsSoundRule}
use Rattle.order_laws.specs.Edits.{Edit}
use Rattle.rule_tables.specs.Entries.{Puts}
use Rattle.rule_tables.specs.StepPartners.{HasParts, RulesAreOrderKeyed, StepsHavePartners}
use Rattle.rule_tables.specs.Tables.{CanBePartners, Cover, OrderKeyed, TableParts, order_keyed, with_order_key}
use Rattle.step_candidates.specs.Numbered.{IsReady, numbered, numbers}
use Rattle.step_candidates.specs.Saving.{AreSavingSteps, IsSavingStep}
use Rattle.step_candidates.specs.Walking.{Adds, IsBelow, IsDeclCut, IsOf, IsSelectorCut, IsWithOne}
use Rattle.step_candidates.proofs.RuleNumbers.{number_there}
use Rattle.step_laws.proofs.ForCallers.{rule_sound}
use Rattle.step_laws.specs.declared.step.Step.{Step}
use Rattle.step_laws.specs.declared.step.Step.TheVariants.{CutDecl, CutSel, JoinSelUp, JoinSelDown, JoinDeclUp, JoinDeclDown, Share}
use Rattle.step_laws.specs.Left.{PartsAreFew}
use Rattle.step_laws.specs.Sizes.{part_count, size}
use Rattle.step_laws.specs.Steps.{HasStep, IsStep, StandsBefore, first_item, last_item}
use Rattle.step_savings.proofs.ForCallers.{first_rule, last_rule}

one_rule : (o : Option Item) (r q : RuleParts) → o ≡ Some (Rule r) → o ≡ Some (Rule q) → r ≡ q
one_rule o r q e f = cc

-- ---- The parts of a rule are few

decls_few : (items : List Item) (n : ℕ) (r : RuleParts) → slice_get items n ≡ Some (Rule r) → length r.decls + length r.selectors ≤ part_count items
decls_few [] n r at = absurd (cc)
decls_few (x ∷ items) zero r at = here x at
  where
    here : (x : Item) → Some x ≡ Some (Rule r) → length r.decls + length r.selectors ≤ part_count (x ∷ items)
    here (Rule q) e = let s : length q.decls ≡ length r.decls = ap (λ (p : RuleParts). length p.decls) (one_rule (Some (Rule q)) q r refl e) in
        let t : length q.selectors ≡ length r.selectors = ap (λ (p : RuleParts). length p.selectors) (one_rule (Some (Rule q)) q r refl e) in
        omega (arith, s, t)
    here (KeptRule k) e = absurd (cc)
    here (KeptBlock piece) e = absurd (cc)
decls_few (Rule q ∷ items) (suc n) r at = let ih : length r.decls + length r.selectors ≤ part_count items = decls_few items n r at in omega (arith, ih)
decls_few (KeptRule k ∷ items) (suc n) r at = decls_few items n r at
decls_few (KeptBlock piece ∷ items) (suc n) r at = decls_few items n r at

pub parts_small : PartsAreFew → (tables : TableParts) (source : List ℕ) (items : List Item) → IsReady tables source items → (n : ℕ) (r : RuleParts) → slice_get items n ≡ Some (Rule r) →
    length r.decls + length r.selectors ≤ max_bytes
parts_small few tables source items ready n r at =
    let parts : part_count items ≤ size source items = few source items ready.sound in
    let short : size source items ≤ max_bytes = ready.short in
    let both : length r.decls + length r.selectors ≤ part_count items = decls_few items n r at in
    omega (arith, parts, short, both)

-- the tables of a sheet's items and their numbers
pub made_ready : (tables : TableParts) (source told : List ℕ) (items given given' : List Item) (list list' : List ℕ) → told ≡ source → given ≡ items → given' ≡ items → list ≡ numbers given → list' ≡ list →
    Cover tables (order_keyed given' list') → IsSound source items → length items ≤ max_items → size source items ≤ max_bytes → IsReady tables told items
made_ready tables source told items given given' list list' same is is' are are' cover sound few short = record {
  cover = subst (λ (xs : List Item). Cover tables (order_keyed xs (numbers items))) is'
      (subst (λ (ns : List ℕ). Cover tables (order_keyed given' ns)) (are' ∙ are ∙ ap numbers is) cover);
  sound = subst (λ (s : List ℕ). IsSound s items) (sym same) sound;
  few_items = few;
  short = subst (λ (s : List ℕ). size s items ≤ max_bytes) (sym same) short;
}

-- ---- Steps that come

module _ (source : List ℕ) (items : List Item) where
  pub adds_none : (P : Step → Type 0) (a : List Step) → ((k : Step) → P k → IsSavingStep source items k → ⊥) → Adds source items P a a
  adds_none P a none = record {
    stay = λ k h. h;
    all = λ k these saving. absurd (none k these saving);
    only = λ k h. inl h;
  }

  pub adds_as : (P R : Step → Type 0) (a b : List Step) → ((k : Step) → R k → IsSavingStep source items k → P k) → Adds source items P a b → Adds source items R a b
  adds_as P R a b which w = record {
    stay = w.stay;
    all = λ k these saving. w.all k (which k these saving) saving;
    only = w.only;
  }

  pub adds_both : (P Q R : Step → Type 0) (a b c : List Step) → ((k : Step) → R k → IsSavingStep source items k → P k ⊎ Q k) → Adds source items P a b → Adds source items Q b c → Adds source items R a c
  adds_both P Q R a b c by v w = record {
    stay = λ k h. w.stay k (v.stay k h);
    all = λ k these saving. elim (by k these saving) [ inl p ↦ w.stay k (v.all k p saving) | inr q ↦ w.all k q saving ];
    only = λ k h. elim (w.only k h) [ inl g ↦ v.only k g | inr s ↦ inr s ];
  }

  pub adds_one : (k : Step) (a b : List Step) → IsSavingStep source items k → Puts a (k ∷ []) b → Adds source items (λ j. j ≡ k) a b
  adds_one k a b saving puts = record {
    stay = λ j h. (puts j).1 (inl h);
    all = λ j e s. (puts j).1 (inr (subst (λ (x : Step). Contains (x ∷ []) j) e (Contains-here j [])));
    only = λ j h. elim ((puts j).0 h) [
      | inl g ↦ inl g
      | inr g ↦ elim (Contains-cons_cases k [] j g) [ inl e ↦ inr (subst (IsSavingStep source items) e saving) | inr n ↦ absurd (Contains-nil j n) ]
    ];
  }

  -- ---- Cuts, one after the other

  last_or : (i n : ℕ) → i < n + 1 → (i < n) ⊎ (i ≡ n)
  last_or i n l = elim (cases_lt i n) [ inl m ↦ inl m | inr m ↦ inr (let e : i ≡ n = omega arith in e) ]

  pub no_decl_cuts : (number : ℕ) (a : List Step) → Adds source items (IsDeclCut number 0) a a
  no_decl_cuts number a = adds_none (IsDeclCut number 0) a (λ k these s. let l : these.0 < 0 = these.1 in omega (arith, l))

  pub decl_cut_more : (number n : ℕ) (a b c : List Step) → Adds source items (IsDeclCut number n) a b → Adds source items (λ k. k ≡ CutDecl number n) b c → Adds source items (IsDeclCut number (n + 1)) a c
  decl_cut_more number n a b c = adds_both (IsDeclCut number n) (λ k. k ≡ CutDecl number n) (IsDeclCut number (n + 1)) a b c
      (λ k (i, less, is) s. elim (last_or i n less) [ inl l ↦ inl (i, l, is) | inr e ↦ inr (is ∙ ap (CutDecl number) e) ])

  pub no_selector_cuts : (number : ℕ) (a : List Step) → Adds source items (IsSelectorCut number 0) a a
  no_selector_cuts number a = adds_none (IsSelectorCut number 0) a (λ k these s. let l : these.0 < 0 = these.1 in omega (arith, l))

  pub selector_cut_more : (number n : ℕ) (a b c : List Step) → Adds source items (IsSelectorCut number n) a b → Adds source items (λ k. k ≡ CutSel number n) b c → Adds source items (IsSelectorCut number (n + 1)) a c
  selector_cut_more number n a b c = adds_both (IsSelectorCut number n) (λ k. k ≡ CutSel number n) (IsSelectorCut number (n + 1)) a b c
      (λ k (i, less, is) s. elim (last_or i n less) [ inl l ↦ inl (i, l, is) | inr e ↦ inr (is ∙ ap (CutSel number) e) ])

  -- the cuts of a rule are those of its declarations and of its selectors
  pub all_cuts : (number decls selectors : ℕ) (r : RuleParts) (a b c : List Step) → slice_get items number ≡ Some (Rule r) → decls ≡ length r.decls → selectors ≡ length r.selectors →
      Adds source items (IsDeclCut number decls) a b → Adds source items (IsSelectorCut number selectors) b c → Adds source items (IsOf number number) a c
  all_cuts number decls selectors r a b c at is_decls is_selectors = adds_both (IsDeclCut number decls) (IsSelectorCut number selectors) (IsOf number number) a b c
      (λ k of s. which k of s.edit s.step)
    where
      which : (k : Step) → IsOf number number k → (e : Edit) → IsStep items k e → IsDeclCut number decls k ⊎ IsSelectorCut number selectors k
      which (CutDecl n i) (first, last) e is = inl (
        i,
        subst (λ (m : ℕ). i < m) (ap (λ (q : RuleParts). length q.decls) (one_rule (slice_get items number) is.rule r (ap (slice_get items) (sym first) ∙ is.rule_at) at) ∙ sym is_decls) is.part,
        ap (λ (m : ℕ). CutDecl m i) first,
      )
      which (CutSel n i) (first, last) e is = inr (
        i,
        subst (λ (m : ℕ). i < m) (ap (λ (q : RuleParts). length q.selectors) (one_rule (slice_get items number) is.rule r (ap (slice_get items) (sym first) ∙ is.rule_at) at) ∙ sym is_selectors) is.part,
        ap (λ (m : ℕ). CutSel m i) first,
      )
      which (JoinSelUp x y) (first, last) e is = absurd (let o : x < y = is.rules.in_order in let f : x ≡ number = first in let l : y ≡ number = last in omega (arith, o, f, l))
      which (JoinSelDown x y) (first, last) e is = absurd (let o : x < y = is.rules.in_order in let f : x ≡ number = first in let l : y ≡ number = last in omega (arith, o, f, l))
      which (JoinDeclUp x y) (first, last) e is = absurd (let o : x < y = is.rules.in_order in let f : x ≡ number = first in let l : y ≡ number = last in omega (arith, o, f, l))
      which (JoinDeclDown x y) (first, last) e is = absurd (let o : x < y = is.rules.in_order in let f : x ≡ number = first in let l : y ≡ number = last in omega (arith, o, f, l))
      which (Share x y) (first, last) e is = absurd (let o : x < y = is.rules.in_order in let f : x ≡ number = first in let l : y ≡ number = last in omega (arith, o, f, l))

  -- ---- The steps of two rules

  pub all_joins : (x y : ℕ) (a b c d e f : List Step) → x < y →
      Adds source items (λ k. k ≡ JoinSelUp x y) a b → Adds source items (λ k. k ≡ JoinSelDown x y) b c → Adds source items (λ k. k ≡ JoinDeclUp x y) c d →
      Adds source items (λ k. k ≡ JoinDeclDown x y) d e → Adds source items (λ k. k ≡ Share x y) e f → Adds source items (IsOf x y) a f
  all_joins x y a b c d e f order one two three four five =
      adds_both (λ k. k ≡ JoinSelUp x y) (λ k. (k ≡ JoinSelDown x y) ⊎ ((k ≡ JoinDeclUp x y) ⊎ ((k ≡ JoinDeclDown x y) ⊎ (k ≡ Share x y)))) (IsOf x y) a b f (λ k of s. which k of) one
      (adds_both (λ k. k ≡ JoinSelDown x y) (λ k. (k ≡ JoinDeclUp x y) ⊎ ((k ≡ JoinDeclDown x y) ⊎ (k ≡ Share x y))) _ b c f (λ k h s. h) two
      (adds_both (λ k. k ≡ JoinDeclUp x y) (λ k. (k ≡ JoinDeclDown x y) ⊎ (k ≡ Share x y)) _ c d f (λ k h s. h) three
      (adds_both (λ k. k ≡ JoinDeclDown x y) (λ k. k ≡ Share x y) _ d e f (λ k h s. h) four five)))
    where
      both : (join : ℕ → ℕ → Step) (m n : ℕ) → m ≡ x → n ≡ y → join m n ≡ join x y
      both join m n first last = ap (λ (i : ℕ). join i n) first ∙ ap (join x) last

      which : (k : Step) → IsOf x y k → (k ≡ JoinSelUp x y) ⊎ ((k ≡ JoinSelDown x y) ⊎ ((k ≡ JoinDeclUp x y) ⊎ ((k ≡ JoinDeclDown x y) ⊎ (k ≡ Share x y))))
      which (CutDecl n i) (first, last) = absurd (let f : n ≡ x = first in let l : n ≡ y = last in omega (arith, order, f, l))
      which (CutSel n i) (first, last) = absurd (let f : n ≡ x = first in let l : n ≡ y = last in omega (arith, order, f, l))
      which (JoinSelUp m n) (first, last) = inl (both JoinSelUp m n first last)
      which (JoinSelDown m n) (first, last) = inr (inl (both JoinSelDown m n first last))
      which (JoinDeclUp m n) (first, last) = inr (inr (inl (both JoinDeclUp m n first last)))
      which (JoinDeclDown m n) (first, last) = inr (inr (inr (inl (both JoinDeclDown m n first last))))
      which (Share m n) (first, last) = inr (inr (inr (inr (both Share m n first last))))

  -- ---- Partners, one after the other

  -- those of the others that were looked at
  abbrev pub Walked : ℕ → List ℕ → List ℕ → List Step → List Step → Type 0
  Walked number others rest a b = (done : List ℕ) × (others ≡ done ++ rest) × Adds source items (IsWithOne number done) a b

  pub none_walked : (number : ℕ) (others : List ℕ) (a : List Step) → Walked number others others a a
  none_walked number others a = ([], refl, adds_none (IsWithOne number []) a (λ k these s. Contains-nil (last_item k) these.2))

  pub one_walked : (number : ℕ) (others rest behind : List ℕ) (other : ℕ) (a b c : List Step) → rest ≡ other ∷ behind → Walked number others rest a b → Adds source items (IsBelow number other) b c →
      Walked number others behind a c
  one_walked number others rest behind other a b c is (done, split, adds) more = (
    done ++ other ∷ [],
    split ∙ ap (λ (xs : List ℕ). done ++ xs) is ∙ sym (append_assoc done (other ∷ []) behind),
    adds_both (IsWithOne number done) (IsBelow number other) (IsWithOne number (done ++ other ∷ [])) a b c (λ k (first, below, among) s. which k first below (Contains-append_cases done (other ∷ []) (last_item k) among)) adds more,
  )
    where
      which : (k : Step) → first_item k ≡ number → number < last_item k → Contains done (last_item k) ⊎ Contains (other ∷ []) (last_item k) → IsWithOne number done k ⊎ IsBelow number other k
      which k first below (inl h) = inl (first, below, h)
      which k first below (inr h) = elim (Contains-cons_cases other [] (last_item k) h) [
        | inl e ↦ inr ((first, sym e), subst (λ (m : ℕ). number < m) (sym e) below)
        | inr n ↦ absurd (Contains-nil (last_item k) n)
      ]

  pub all_walked : (number : ℕ) (others rest : List ℕ) (a b : List Step) → rest ≡ [] → Walked number others rest a b → Adds source items (IsWithOne number others) a b
  all_walked number others rest a b is (done, split, adds) = adds_as (IsWithOne number done) (IsWithOne number others) a b
      (λ k (first, below, among) s. (first, below, subst (λ (xs : List ℕ). Contains xs (last_item k)) (split ∙ ap (λ (xs : List ℕ). done ++ xs) is ∙ append-nil done) among)) adds

  -- ---- The steps of a rule

  cut_or_two : (k : Step) (e : Edit) → IsStep items k e → (last_item k ≡ first_item k) ⊎ (first_item k < last_item k)
  cut_or_two (CutDecl n i) e is = inl refl
  cut_or_two (CutSel n i) e is = inl refl
  cut_or_two (JoinSelUp x y) e is = inr is.rules.in_order
  cut_or_two (JoinSelDown x y) e is = inr is.rules.in_order
  cut_or_two (JoinDeclUp x y) e is = inr is.rules.in_order
  cut_or_two (JoinDeclDown x y) e is = inr is.rules.in_order
  cut_or_two (Share x y) e is = inr is.rules.in_order

  nonempty : {X : Type 0} (xs : List X) → (xs ≡ [] → ⊥) → 0 < length xs
  nonempty [] some = absurd (some refl)
  nonempty (x ∷ xs) some = omega arith

  has_parts : IsSound source items → (n : ℕ) (r : RuleParts) → slice_get items n ≡ Some (Rule r) → HasParts r
  has_parts sound n r at =
      let is : IsSoundRule source r = rule_sound source items n r sound at in
      (nonempty r.selectors is.has_selectors, nonempty r.decls is.has_declarations)

  pub whole_rule : (tables : TableParts) → IsReady tables source items → (number : ℕ) (r : RuleParts) → slice_get items number ≡ Some (Rule r) → (others : List ℕ) → StepsHavePartners → RulesAreOrderKeyed →
      ((rules : List OrderKeyed) (x : OrderKeyed) → Cover tables rules → Contains rules x → CanBePartners r x.rule → Contains others x.order_key) →
      (a b c : List Step) → Adds source items (IsOf number number) a b → Adds source items (IsWithOne number others) b c → Adds source items (λ k. first_item k ≡ number) a c
  whole_rule tables ready number r at others partners order_keyed_are all a b c =
      adds_both (IsOf number number) (IsWithOne number others) (λ k. first_item k ≡ number) a b c (λ k first s. which k first s.edit s.step (cut_or_two k s.edit s.step))
    where
      which : (k : Step) → first_item k ≡ number → (e : Edit) → IsStep items k e → (last_item k ≡ first_item k) ⊎ (first_item k < last_item k) → IsOf number number k ⊎ IsWithOne number others k
      which k first e is (inl same) = inl (first, same ∙ first)
      which k first e is (inr order) =
          let lower : (q : RuleParts) × (slice_get items (last_item k) ≡ Some (Rule q)) = last_rule items k (e, is) in
          let upper_at : slice_get items (first_item k) ≡ Some (Rule r) = ap (slice_get items) first ∙ at in
          let can : CanBePartners r lower.0 = (partners items k e r lower.0 is order upper_at lower.1 (has_parts ready.sound (first_item k) r upper_at)).0 in
          inr (
            first,
            subst (λ (m : ℕ). m < last_item k) first order,
            all (numbered items) (with_order_key lower.0 (last_item k)) ready.cover
                (order_keyed_are items (numbers items) (last_item k) lower.0 (last_item k) lower.1 (number_there items (last_item k) (Rule lower.0) lower.1)) can,
          )

  -- ---- All rules

  abbrev pub IsUpTo : ℕ → Step → Type 0
  IsUpTo n k = first_item k < n

  pub no_rules : (a : List Step) → Adds source items (IsUpTo 0) a a
  no_rules a = adds_none (IsUpTo 0) a (λ k these s. let l : first_item k < 0 = these in omega (arith, l))

  pub rule_more : (n : ℕ) (a b c : List Step) → Adds source items (IsUpTo n) a b → Adds source items (λ k. first_item k ≡ n) b c → Adds source items (IsUpTo (n + 1)) a c
  rule_more n a b c = adds_both (IsUpTo n) (λ k. first_item k ≡ n) (IsUpTo (n + 1)) a b c (λ k less s. last_or (first_item k) n less)

  pub all_rules : (n : ℕ) (a b : List Step) → length items ≤ n → Adds source items (IsUpTo n) a b → Adds source items (λ k. Unit {0}) a b
  all_rules n a b most = adds_as (IsUpTo n) (λ k. Unit {0}) a b (λ k these s.
      let r : (r : RuleParts) × (slice_get items (first_item k) ≡ Some (Rule r)) = first_rule items k (s.edit, s.step) in
      let l : first_item k < length items = slice_get_within items (first_item k) (Rule r.0) r.1 in
      let m : first_item k < n = omega (arith, l, most) in m)

  all_found : (found list : List Step) → list ≡ found → AllPairs StandsBefore list → Adds source items (λ k. Unit {0}) [] found → AreSavingSteps source items list
  all_found found list is ascends adds = record {
    exact = λ k. (
      λ h. elim (adds.only k (subst (λ (xs : List Step). Contains xs k) is h)) [ inl n ↦ absurd (Contains-nil k n) | inr s ↦ s ],
      λ s. subst (λ (xs : List Step). Contains xs k) (sym is) (adds.all k tt s),
    );
    ascends = ascends;
  }

  pub found_in_order : {A E : Type 0} (r : Result A E) (of : A → List Step) (none found : List Step) → none ≡ [] → Adds source items (λ k. Unit {0}) none found →
      IfOk r (λ list. of list ≡ found) → IfOk r (λ list. AllPairs StandsBefore (of list)) → IfOk r (λ list. AreSavingSteps source items (of list))
  found_in_order (Ok list) of none found start adds same ascends = all_found found (of list) same ascends (subst (λ (xs : List Step). Adds source items (λ k. Unit {0}) xs found) start adds)
  found_in_order (Err e) of none found start adds same ascends = tt
