-- Steps behind a step, of rules that it left, were steps before.
use Rattle.std.proofs.Common.{◌≡◌, ◌≢◌, ◌↔◌, ◌⊎◌, ℕ, ◌+◌, ◌<◌, ◌==◌, Bool, true, false, List, [], ◌∷◌, length, Some, refl, sym, ◌∙◌, subst, inl, inr, arith}
use Rattle.std.specs.Prelude.{get_or, slice_get, IsTrue}
use Rattle.std.specs.List.{AllByRecursion, Contains, remove}
use Rattle.std.proofs.lemmas.Bool.{false≢true, or_cases}
use Rattle.std.proofs.lemmas.Bool.Decides.{Decides-eqb}
use Rattle.std.proofs.lemmas.Option.{slice_get-get_or}
use Rattle.css_model.specs.declared.sheet.Decl.{Decl}
use Rattle.css_model.specs.declared.sheet.Item.{Item}
use Rattle.css_model.specs.declared.sheet.Item.TheVariants.{Rule}
use Rattle.css_model.specs.Cascade.Order.{Pair, HasPair}
use Rattle.css_model.specs.Sheets.RuleParts.{RuleParts}
use Rattle.css_model.specs.Sheets.Sound.{IsSound}
use Rattle.order_laws.specs.Edits.{Change, Moved, is_moved, whole_rule, Edit, edited, StandsIn}
use Rattle.order_laws.specs.Members.{has_number}
use Rattle.order_laws.proofs.ForCallers.{InRule, decls, decl_in, has_at, has_rule}
use Rattle.step_laws.specs.declared.step.Step.{Step}
use Rattle.step_laws.specs.declared.step.Step.TheVariants.{CutDecl, CutSel, JoinSelUp, JoinSelDown, JoinDeclUp, JoinDeclDown, Share}
use Rattle.step_laws.specs.Left.{StepsRearrange, StepsStaySound}
use Rattle.step_laws.specs.RuleParting.{rule_or_none}
use Rattle.step_laws.specs.Sizes.{Saves}
use Rattle.step_laws.specs.StepEdits.{one_change, cut_decl, cut_selector}
use Rattle.step_laws.specs.Steps.{IsStep, first_item, last_item}
use Rattle.plan_laws.specs.Barrier.Hindering.{HasRoom}
use Rattle.plan_laws.specs.Barrier.Renumbering.{Leaves, new_number, renumbered, renumbered_edit, IsOfTwo, ItemsStay}
use Rattle.plan_laws.specs.Barrier.SideBySide.{HasCome, StepsComeBack, SavingsGoOn}
use Rattle.pending_laws.specs.Before.{HasBeen, CutsHaveBeen}
use Rattle.pending_laws.specs.Facts.{HasNoCut}
use Rattle.pending_laws.proofs.Elsewhere.{here_or_elsewhere, stands_elsewhere, replaced, stood_elsewhere}

-- ---- What a step moves stands in the items that it takes

not_one : (x n : ℕ) → x ≢ n → IsTrue (has_number (x ∷ []) n) → ⊥
not_one x n apart h = which (or_cases (x == n) false h)
  where
    which : ((x == n) ≡ true) ⊎ (false ≡ true) → ⊥
    which (inl e) = apart ((Decides-eqb x n).0 e)
    which (inr e) = false≢true e

not_two : (x y n : ℕ) → x ≢ n → y ≢ n → IsTrue (has_number (x ∷ y ∷ []) n) → ⊥
not_two x y n apart other h = which (or_cases (x == n) (has_number (y ∷ []) n) h)
  where
    which : ((x == n) ≡ true) ⊎ (has_number (y ∷ []) n ≡ true) → ⊥
    which (inl e) = apart ((Decides-eqb x n).0 e)
    which (inr e) = not_one y n other e

-- none of it is moved out of an item that the step leaves
abbrev NotOutOf : ℕ → Edit → Type 0
NotOutOf n d = Leaves d n → IsTrue (has_number d.moved.out_of n) → ⊥

not_out_of : (items : List Item) (j : Step) (d : Edit) (n : ℕ) → IsStep items j d → NotOutOf n d
not_out_of items (CutDecl x i) d n c = subst (NotOutOf n) (sym c.is) (λ leaves. not_one x n leaves.0)
not_out_of items (CutSel x i) d n c = subst (NotOutOf n) (sym c.is) (λ leaves. not_one x n leaves.0)
not_out_of items (JoinSelUp x y) d n j = subst (NotOutOf n) (sym j.is) (λ leaves. not_one y n leaves.1.0)
not_out_of items (JoinSelDown x y) d n j = subst (NotOutOf n) (sym j.is) (λ leaves. not_one x n leaves.0)
not_out_of items (JoinDeclUp x y) d n j = subst (NotOutOf n) (sym j.is) (λ leaves. not_one y n leaves.1.0)
not_out_of items (JoinDeclDown x y) d n j = subst (NotOutOf n) (sym j.is) (λ leaves. not_one x n leaves.0)
not_out_of items (Share x y) d n j = subst (NotOutOf n) (sym j.is) (λ leaves. not_two x y n leaves.0 leaves.1.0)

-- ---- No step adds pairs

item_at : (items : List Item) (n : ℕ) → n < length items → (x : Item) × (slice_get items n ≡ Some x)
item_at [] n less = absurd (omega arith)
item_at (x ∷ items) n less = (get_or (x ∷ items) n x, slice_get-get_or (x ∷ items) n x less)

pub no_step_adds_pairs : StepsRearrange → (items : List Item) (j : Step) (d : Edit) → IsStep items j d → (n : ℕ) → Leaves d n → n < length items → (p : Pair) →
    HasPair (remove (edited d items) (new_number d items n)) p → HasPair (remove items n) p
no_step_adds_pairs rearrange items j d is n leaves less p h = which (is_moved d.moved p) refl
  where
    which : (b : Bool) → is_moved d.moved p ≡ b → HasPair (remove items n) p
    which true e =
        let w : StandsIn d.moved.out_of items p = (rearrange items j d is).from p e in
        let r : RuleParts = w.1.rule in
        let there : InRule r p = (w.1.selector_in, subst (λ (x : Decl). Contains (decls r.decls) x) w.1.decl_is (decl_in r.decls w.0.position w.1.decl w.1.decl_at)) in
        stands_elsewhere items w.0.item n r p w.1.rule_at there (λ same. not_out_of items j d n is leaves (subst (λ (m : ℕ). IsTrue (has_number d.moved.out_of m)) same w.2))
    which false e =
        let x : (x : Item) × (slice_get items n ≡ Some x) = item_at items n less in
        let z : n ≡ 0 + n = omega arith in
        stood_elsewhere (is_moved d.moved) p e d.changes 0 n items x.0 (rearrange items j d is).fair (subst (λ (m : ℕ). AllByRecursion (λ (c : Change). c.at ≢ m) d.changes) z leaves) x.1 h

-- ---- Cuts

-- what stands at a new number stood at the old one
pub stood : ItemsStay → (d : Edit) (items : List Item) (n : ℕ) (y : Item) → Leaves d n → n < length items → slice_get (edited d items) (new_number d items n) ≡ Some y → slice_get items n ≡ Some y
stood stay d items n y leaves less at =
    let w : (x : Item) × (slice_get items n ≡ Some x) = item_at items n less in
    w.1 ∙ sym (stay d items n w.0 leaves w.1) ∙ at

module _ (rearrange : StepsRearrange) (stay : ItemsStay) (items : List Item) (j : Step) (d : Edit) (is : IsStep items j d) (n : ℕ) (leaves : Leaves d n) (less : n < length items) where
  abbrev n' : ℕ
  n' = new_number d items n

  abbrev NoPairGoes : List Item → Edit → Type 0
  NoPairGoes xs e = (p : Pair) → HasPair xs p → HasPair (edited e xs) p

  -- where a rule loses no pair of the sheet behind the step, it loses none of the one before
  none_went : (r : RuleParts) (by : List Item) (m m' : Moved) → slice_get items n ≡ Some (Rule r) → NoPairGoes (edited d items) (one_change n' by m') → NoPairGoes items (one_change n by m)
  none_went r by m m' at none p has = which (here_or_elsewhere items n (Rule r) p at has)
    where
      behind : slice_get (edited d items) n' ≡ Some (Rule r)
      behind = stay d items n (Rule r) leaves at

      still : HasPair by p ⊎ HasPair (remove (edited d items) n') p → HasPair (edited (one_change n by m) items) p
      still (inl h) = (replaced items n by m (Rule r) p at).1 (inl h)
      still (inr h) = (replaced items n by m (Rule r) p at).1 (inr (no_step_adds_pairs rearrange items j d is n leaves less p h))

      which : HasPair (Rule r ∷ []) p ⊎ HasPair (remove items n) p → HasPair (edited (one_change n by m) items) p
      which (inl h) = still ((replaced (edited d items) n' by m' (Rule r) p behind).0 (none p (has_at (edited d items) n' r p behind ((has_rule r p).0 h))))
      which (inr h) = (replaced items n by m (Rule r) p at).1 (inr h)

  abbrev DeclCut : ℕ → RuleParts → Type 0
  DeclCut i r = IsStep items (CutDecl n i) (cut_decl n i r) × (slice_get items n ≡ Some (Rule r))

  pub decl_stood : (i : ℕ) (e' : Edit) → (c : IsStep (edited d items) (CutDecl n' i) e') → DeclCut i c.rule
  decl_stood i e' c = (
    record {
      rule = c.rule;
      rule_at = at;
      part = c.part;
      no_pair_goes = none_went c.rule (rule_or_none (record { selectors = c.rule.selectors; decls = remove c.rule.decls i })) (whole_rule n c.rule) (whole_rule n' c.rule) at c.no_pair_goes;
      is = refl;
    },
    at,
  )
    where
      at : slice_get items n ≡ Some (Rule c.rule)
      at = stood stay d items n (Rule c.rule) leaves less c.rule_at

  abbrev SelectorCut : ℕ → RuleParts → Type 0
  SelectorCut i r = IsStep items (CutSel n i) (cut_selector n i r) × (slice_get items n ≡ Some (Rule r))

  pub selector_stood : (i : ℕ) (e' : Edit) → (c : IsStep (edited d items) (CutSel n' i) e') → SelectorCut i c.rule
  selector_stood i e' c = (
    record {
      rule = c.rule;
      rule_at = at;
      part = c.part;
      no_pair_goes = none_went c.rule (rule_or_none (record { selectors = remove c.rule.selectors i; decls = c.rule.decls })) (whole_rule n c.rule) (whole_rule n' c.rule) at c.no_pair_goes;
      is = refl;
    },
    at,
  )
    where
      at : slice_get items n ≡ Some (Rule c.rule)
      at = stood stay d items n (Rule c.rule) leaves less c.rule_at

module _ (rearrange : StepsRearrange) (stay : ItemsStay) (sound_on : StepsStaySound) (savings : SavingsGoOn) (source : List ℕ) (items : List Item) (j : Step) (d : Edit) (is : IsStep items j d) (sound : IsSound source items)
    (n : ℕ) (leaves : Leaves d n) (less : n < length items) where
  decl_been : (i : ℕ) (e' : Edit) → IsStep (edited d items) (CutDecl (new_number d items n) i) e' → HasBeen source items d (CutDecl (new_number d items n) i) e'
  decl_been i e' c = record {
    step = CutDecl n i;
    edit = cut_decl n i c.rule;
    is_step = here.0;
    others = (leaves, leaves);
    step_is = refl;
    edit_is = c.is;
    saves = λ m. subst (λ (x : Edit). Saves source items (cut_decl n i c.rule) m ↔ Saves source (edited d items) x m) (sym c.is)
        (savings source items (edited d items) (new_number d items) (CutDecl n i) (cut_decl n i c.rule) c.rule c.rule sound (sound_on source items j d is sound) here.0 behind here.1 here.1 c.rule_at c.rule_at m);
  }
    where
      here : IsStep items (CutDecl n i) (cut_decl n i c.rule) × (slice_get items n ≡ Some (Rule c.rule))
      here = decl_stood rearrange stay items j d is n leaves less i e' c

      behind : IsStep (edited d items) (CutDecl (new_number d items n) i) (cut_decl (new_number d items n) i c.rule)
      behind = record { rule = c.rule; rule_at = c.rule_at; part = c.part; no_pair_goes = c.no_pair_goes; is = refl }

  selector_been : (i : ℕ) (e' : Edit) → IsStep (edited d items) (CutSel (new_number d items n) i) e' → HasBeen source items d (CutSel (new_number d items n) i) e'
  selector_been i e' c = record {
    step = CutSel n i;
    edit = cut_selector n i c.rule;
    is_step = here.0;
    others = (leaves, leaves);
    step_is = refl;
    edit_is = c.is;
    saves = λ m. subst (λ (x : Edit). Saves source items (cut_selector n i c.rule) m ↔ Saves source (edited d items) x m) (sym c.is)
        (savings source items (edited d items) (new_number d items) (CutSel n i) (cut_selector n i c.rule) c.rule c.rule sound (sound_on source items j d is sound) here.0 behind here.1 here.1 c.rule_at c.rule_at m);
  }
    where
      here : IsStep items (CutSel n i) (cut_selector n i c.rule) × (slice_get items n ≡ Some (Rule c.rule))
      here = selector_stood rearrange stay items j d is n leaves less i e' c

      behind : IsStep (edited d items) (CutSel (new_number d items n) i) (cut_selector (new_number d items n) i c.rule)
      behind = record { rule = c.rule; rule_at = c.rule_at; part = c.part; no_pair_goes = c.no_pair_goes; is = refl }

pub cuts_have_been : StepsRearrange → ItemsStay → StepsStaySound → SavingsGoOn → (source : List ℕ) (items : List Item) (j : Step) (d : Edit) (k' : Step) (e' : Edit) → IsStep items j d → IsSound source items →
    (IsOfTwo k' → ⊥) → IsStep (edited d items) k' e' → HasCome d items (first_item k') → HasBeen source items d k' e'
cuts_have_been rearrange stay sound_on savings source items j d (CutDecl m i) e' is sound one cut come =
    subst (λ (x : ℕ). HasBeen source items d (CutDecl x i) e') come.3
    (decl_been rearrange stay sound_on savings source items j d is sound come.0 come.1 come.2 i e' (subst (λ (x : ℕ). IsStep (edited d items) (CutDecl x i) e') (sym come.3) cut))
cuts_have_been rearrange stay sound_on savings source items j d (CutSel m i) e' is sound one cut come =
    subst (λ (x : ℕ). HasBeen source items d (CutSel x i) e') come.3
    (selector_been rearrange stay sound_on savings source items j d is sound come.0 come.1 come.2 i e' (subst (λ (x : ℕ). IsStep (edited d items) (CutSel x i) e') (sym come.3) cut))
cuts_have_been rearrange stay sound_on savings source items j d (JoinSelUp x y) e' is sound one cut come = absurd (one tt)
cuts_have_been rearrange stay sound_on savings source items j d (JoinSelDown x y) e' is sound one cut come = absurd (one tt)
cuts_have_been rearrange stay sound_on savings source items j d (JoinDeclUp x y) e' is sound one cut come = absurd (one tt)
cuts_have_been rearrange stay sound_on savings source items j d (JoinDeclDown x y) e' is sound one cut come = absurd (one tt)
cuts_have_been rearrange stay sound_on savings source items j d (Share x y) e' is sound one cut come = absurd (one tt)

-- and where none could be, none can
pub no_cut_comes : StepsRearrange → ItemsStay → (items : List Item) (j : Step) (d : Edit) → IsStep items j d → (n : ℕ) → Leaves d n → n < length items → HasNoCut items n → HasNoCut (edited d items) (new_number d items n)
no_cut_comes rearrange stay items j d is n leaves less none (CutDecl m i) one same (e', c) =
    none (CutDecl n i) (λ h. h) refl (_, (decl_stood rearrange stay items j d is n leaves less i e' (subst (λ (x : ℕ). IsStep (edited d items) (CutDecl x i) e') same c)).0)
no_cut_comes rearrange stay items j d is n leaves less none (CutSel m i) one same (e', c) =
    none (CutSel n i) (λ h. h) refl (_, (selector_stood rearrange stay items j d is n leaves less i e' (subst (λ (x : ℕ). IsStep (edited d items) (CutSel x i) e') same c)).0)
no_cut_comes rearrange stay items j d is n leaves less none (JoinSelUp x y) one same h = one tt
no_cut_comes rearrange stay items j d is n leaves less none (JoinSelDown x y) one same h = one tt
no_cut_comes rearrange stay items j d is n leaves less none (JoinDeclUp x y) one same h = one tt
no_cut_comes rearrange stay items j d is n leaves less none (JoinDeclDown x y) one same h = one tt
no_cut_comes rearrange stay items j d is n leaves less none (Share x y) one same h = one tt

-- ---- All steps

-- the rules of a step
rules_of : (items : List Item) (k : Step) (e : Edit) → IsStep items k e → (upper : RuleParts) × (lower : RuleParts) × (slice_get items (first_item k) ≡ Some (Rule upper)) × (slice_get items (last_item k) ≡ Some (Rule lower))
rules_of items (CutDecl n i) e c = (c.rule, c.rule, c.rule_at, c.rule_at)
rules_of items (CutSel n i) e c = (c.rule, c.rule, c.rule_at, c.rule_at)
rules_of items (JoinSelUp x y) e j = (j.upper, j.lower, j.rules.upper_at, j.rules.lower_at)
rules_of items (JoinSelDown x y) e j = (j.upper, j.lower, j.rules.upper_at, j.rules.lower_at)
rules_of items (JoinDeclUp x y) e j = (j.upper, j.lower, j.rules.upper_at, j.rules.lower_at)
rules_of items (JoinDeclDown x y) e j = (j.upper, j.lower, j.rules.upper_at, j.rules.lower_at)
rules_of items (Share x y) e j = (j.upper, j.lower, j.rules.upper_at, j.rules.lower_at)

-- the same step, named by the old one
pub renumbers : (items : List Item) (d : Edit) (k' k : Step) (e' e : Edit) → k' ≡ renumbered (new_number d items) k → e' ≡ renumbered_edit (new_number d items) e → IsStep (edited d items) k' e' →
    IsStep (edited d items) (renumbered (new_number d items) k) (renumbered_edit (new_number d items) e)
renumbers items d k' k e' e same_step same_edit is =
    subst (λ (x : Step). IsStep (edited d items) x (renumbered_edit (new_number d items) e)) same_step (subst (λ (y : Edit). IsStep (edited d items) k' y) same_edit is)

two_have_been : StepsComeBack → ItemsStay → StepsStaySound → SavingsGoOn → (source : List ℕ) (items : List Item) (j : Step) (d : Edit) (k' : Step) (e' : Edit) → IsStep items j d → IsSound source items → HasRoom items →
    IsOfTwo k' → IsStep (edited d items) k' e' → HasCome d items (first_item k') → HasCome d items (last_item k') → HasBeen source items d k' e'
two_have_been come_back stay sound_on savings source items j d k' e' step sound room two is first last =
    let w = come_back items d k' e' two (inr room.0) is first last in
    let r : (upper : RuleParts) × (lower : RuleParts) × (slice_get items (first_item w.0) ≡ Some (Rule upper)) × (slice_get items (last_item w.0) ≡ Some (Rule lower)) = rules_of items w.0 w.1 w.2 in
    let behind : IsStep (edited d items) (renumbered (new_number d items) w.0) (renumbered_edit (new_number d items) w.1) = renumbers items d k' w.0 e' w.1 w.5 w.6 is in
    record {
      step = w.0;
      edit = w.1;
      is_step = w.2;
      others = w.4;
      step_is = w.5;
      edit_is = w.6;
      saves = λ n. subst (λ (x : Edit). Saves source items w.1 n ↔ Saves source (edited d items) x n) (sym w.6)
          (savings source items (edited d items) (new_number d items) w.0 w.1 r.0 r.1 sound (sound_on source items j d step sound) w.2 behind r.2 r.3
          (stay d items (first_item w.0) (Rule r.0) w.4.0 r.2) (stay d items (last_item w.0) (Rule r.1) w.4.1 r.3) n);
    }

pub steps_have_been : CutsHaveBeen → StepsComeBack → ItemsStay → StepsStaySound → SavingsGoOn → (source : List ℕ) (items : List Item) (j : Step) (d : Edit) (k' : Step) (e' : Edit) → IsStep items j d → IsSound source items → HasRoom items →
    IsStep (edited d items) k' e' → HasCome d items (first_item k') → HasCome d items (last_item k') → HasBeen source items d k' e'
steps_have_been cuts come_back stay sound_on savings source items j d k' e' step sound room is first last = by_kind k' is first last
  where
    two : (k : Step) → IsOfTwo k → IsStep (edited d items) k e' → HasCome d items (first_item k) → HasCome d items (last_item k) → HasBeen source items d k e'
    two k of_two is first last = two_have_been come_back stay sound_on savings source items j d k e' step sound room of_two is first last

    by_kind : (k : Step) → IsStep (edited d items) k e' → HasCome d items (first_item k) → HasCome d items (last_item k) → HasBeen source items d k e'
    by_kind (CutDecl n i) is first last = cuts source items j d (CutDecl n i) e' step sound (λ h. h) is first
    by_kind (CutSel n i) is first last = cuts source items j d (CutSel n i) e' step sound (λ h. h) is first
    by_kind (JoinSelUp x y) is first last = two (JoinSelUp x y) tt is first last
    by_kind (JoinSelDown x y) is first last = two (JoinSelDown x y) tt is first last
    by_kind (JoinDeclUp x y) is first last = two (JoinDeclUp x y) tt is first last
    by_kind (JoinDeclDown x y) is first last = two (JoinDeclDown x y) tt is first last
    by_kind (Share x y) is first last = two (Share x y) tt is first last
