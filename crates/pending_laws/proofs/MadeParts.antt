-- The rules that a step makes have parts of its two rules only.
use Rattle.std.proofs.Common.{◌≡◌, ◌≢◌, ◌⊎◌, ℕ, zero, suc, Bool, List, [], ◌∷◌, ◌++◌, map, Some, None, refl, sym, ◌∙◌, subst, inl, inr}
use Rattle.std.specs.Prelude.{not, slice_get}
use Rattle.std.specs.List.{Contains, filter, remove}
use Rattle.std.proofs.lemmas.Bool.{cond_both}
use Rattle.std.proofs.lemmas.List.{map-append}
use Rattle.std.proofs.lemmas.List.Elements.{Contains-append_cases}
use Rattle.cascade_laws.proofs.ForCallers.{some-same}
use Rattle.css_model.specs.declared.sheet.Decl.{Decl}
use Rattle.css_model.specs.declared.sheet.DeclItem.{DeclItem}
use Rattle.css_model.specs.declared.sheet.Item.{Item}
use Rattle.css_model.specs.declared.sheet.Item.TheVariants.{Rule}
use Rattle.css_model.specs.declared.sheet.SelItem.{SelItem}
use Rattle.css_model.specs.Documents.SelectorParts.{SelectorParts}
use Rattle.css_model.specs.Sheets.RuleParts.{RuleParts}
use Rattle.css_model.specs.Sheets.StyleRule.{joined, selectors_of}
use Rattle.list_facts.proofs.Members.{Contains-here, Contains-there, Contains-nil, Contains-cons_cases, Contains-filter}
use Rattle.order_laws.proofs.ForCallers.{map_from, map_has}
use Rattle.order_laws.specs.Edits.{Change, Edit, Moved, whole_rule}
use Rattle.order_laws.specs.Members.{has_decl, has_selector}
use Rattle.step_laws.specs.declared.step.Step.{Step}
use Rattle.step_laws.specs.declared.step.Step.TheVariants.{CutDecl, CutSel, JoinSelUp, JoinSelDown, JoinDeclUp, JoinDeclDown, Share}
use Rattle.step_laws.specs.RuleParting.{both_selectors, common_decls, each_last, item_if_any, rule_or_none, without_decls}
use Rattle.step_laws.specs.StepEdits.{one_change, shared, two_changes}
use Rattle.step_laws.specs.Steps.{IsStep, decls_of, first_item, last_item}
use Rattle.plan_laws.specs.Barrier.Renumbering.{Leaves}

-- each of some parts of a rule is one of the upper or of the lower rule
abbrev pub IsOf : {X : Type 0} → (RuleParts → List X) → RuleParts → RuleParts → RuleParts → Type 0
IsOf {X} parts u l q = (x : X) → Contains (parts q) x → Contains (parts u) x ⊎ Contains (parts l) x

-- its selectors and its declarations
abbrev pub IsMadeOfBoth : RuleParts → RuleParts → RuleParts → Type 0
IsMadeOfBoth u l q = IsOf selectors_of u l q × IsOf decls_of u l q

-- A step in parts: its two rules, of a cut one; what it leaves; and what it puts in.
pub record StepInParts (items : List Item) (j : Step) (d : Edit) : Type 0 where
  pub upper : RuleParts
  pub lower : RuleParts
  pub upper_at : slice_get items (first_item j) ≡ Some (Rule upper)
  pub lower_at : slice_get items (last_item j) ≡ Some (Rule lower)
  pub leaves : (n : ℕ) → Leaves d n → (first_item j ≢ n) × (last_item j ≢ n)
  pub puts_in : (c : Change) (k : ℕ) (item : Item) → Contains d.changes c → slice_get c.by k ≡ Some item → (q : RuleParts) × (item ≡ Rule q) × IsMadeOfBoth upper lower q

-- ---- Members of lists that are made

pub removed : {X Y : Type 0} (f : X → Y) (i : ℕ) (xs : List X) (y : Y) → Contains (map f (remove xs i)) y → Contains (map f xs) y
removed f zero [] y h = h
removed f (suc i) [] y h = h
removed f zero (x ∷ xs) y h = Contains-there (f x) (map f xs) y h
removed {X} f (suc i) (x ∷ xs) y h = which (removed f i xs y) (Contains-cons_cases (f x) (map f (remove xs i)) y h)
  where
    which : (Contains (map f (remove xs i)) y → Contains (map f xs) y) → (f x ≡ y) ⊎ Contains (map f (remove xs i)) y → Contains (map f (x ∷ xs)) y
    which ih (inl e) = subst (λ z. Contains (map f (x ∷ xs)) z) e (Contains-here (f x) (map f xs))
    which ih (inr g) = Contains-there (f x) (map f xs) y (ih g)

pub filtered : {X Y : Type 0} (f : X → Y) (keep : X → Bool) (xs : List X) (y : Y) → Contains (map f (filter keep xs)) y → Contains (map f xs) y
filtered {X} {Y} f keep xs y h =
    let w : (x : X) × Contains (filter keep xs) x × (f x ≡ y) = map_from f (filter keep xs) y h in
    subst (λ (z : Y). Contains (map f xs) z) w.2 (map_has f xs w.0 (Contains-filter keep xs w.0 w.1).0)

pub in_sum : {X Y : Type 0} (f : X → Y) (xs ys : List X) (y : Y) → Contains (map f (xs ++ ys)) y → Contains (map f xs) y ⊎ Contains (map f ys) y
in_sum {X} {Y} f xs ys y h = Contains-append_cases (map f xs) (map f ys) y (subst (λ (zs : List Y). Contains zs y) (map-append f xs ys) h)

abbrev decl : DeclItem → Decl
decl d = d.decl

abbrev selector : SelItem → SelectorParts
selector s = s.selector

pub last_in : (ds : List DeclItem) (d : Decl) → Contains (map decl (each_last ds)) d → Contains (map decl ds) d
last_in [] d = λ h. h
last_in (x ∷ ds) d = cond_both (has_decl ds x.decl) (each_last ds) (x ∷ each_last ds) (λ ys. Contains (map decl ys) d → Contains (map decl (x ∷ ds)) d)
    (λ again h. Contains-there x.decl (map decl ds) d (last_in ds d h))
    (λ last h. which (last_in ds d) (Contains-cons_cases x.decl (map decl (each_last ds)) d h))
  where
    which : (Contains (map decl (each_last ds)) d → Contains (map decl ds) d) → (x.decl ≡ d) ⊎ Contains (map decl (each_last ds)) d → Contains (map decl (x ∷ ds)) d
    which ih (inl e) = subst (λ (z : Decl). Contains (map decl (x ∷ ds)) z) e (Contains-here x.decl (map decl ds))
    which ih (inr g) = Contains-there x.decl (map decl ds) d (ih g)

-- ---- Rules that are made

pub both_in : (u l : RuleParts) (s : SelectorParts) → Contains (map selector (both_selectors u l)) s → Contains (selectors_of u) s ⊎ Contains (selectors_of l) s
both_in u l s h = which (in_sum selector u.selectors (filter (λ s. not_in s) l.selectors) s h)
  where
    not_in : SelItem → Bool
    not_in s = not (has_selector u.selectors s.selector)

    which : Contains (selectors_of u) s ⊎ Contains (map selector (filter (λ s. not_in s) l.selectors)) s → Contains (selectors_of u) s ⊎ Contains (selectors_of l) s
    which (inl g) = inl g
    which (inr g) = inr (filtered selector (λ s. not_in s) l.selectors s g)

pub common_in : (u l : RuleParts) (d : Decl) → Contains (map decl (common_decls u l)) d → Contains (decls_of l) d
common_in u l d h = filtered decl (λ d. has_decl u.decls d.decl) l.decls d (last_in (filter (λ d. has_decl u.decls d.decl) l.decls) d h)

less_of_upper : (u l : RuleParts) (gone : List DeclItem) → IsMadeOfBoth u l (without_decls gone u)
less_of_upper u l gone = ((λ s h. inl h), (λ d h. inl (filtered decl (λ d. not (has_decl gone d.decl)) u.decls d h)))

less_of_lower : (u l : RuleParts) (gone : List DeclItem) → IsMadeOfBoth u l (without_decls gone l)
less_of_lower u l gone = ((λ s h. inr h), (λ d h. inr (filtered decl (λ d. not (has_decl gone d.decl)) l.decls d h)))

-- ---- What a step puts in

none_in : (k : ℕ) (item : Item) → slice_get [] k ≡ Some item → ⊥
none_in k item at = let e : None ≡ Some item = at in cc

one_in : (q : RuleParts) (k : ℕ) (item : Item) → slice_get (Rule q ∷ []) k ≡ Some item → item ≡ Rule q
one_in q zero item at = sym (some-same at)
one_in q (suc k) item at = absurd (none_in k item at)

if_any_in : (r : RuleParts) (ss : List SelItem) (ds : List DeclItem) (k : ℕ) (item : Item) → slice_get (item_if_any ss ds r) k ≡ Some item → item ≡ Rule r
if_any_in r [] ds k item at = absurd (none_in k item at)
if_any_in r (s ∷ ss) [] k item at = absurd (none_in k item at)
if_any_in r (s ∷ ss) (d ∷ ds) k item at = one_in r k item at

left_in : (r : RuleParts) (k : ℕ) (item : Item) → slice_get (rule_or_none r) k ≡ Some item → item ≡ Rule r
left_in r k item at = if_any_in r r.selectors r.decls k item at

-- of each change of a list what is said of what it puts in
abbrev Each : List Change → RuleParts → RuleParts → Type 0
Each changes u l = (c : Change) (k : ℕ) (item : Item) → Contains changes c → slice_get c.by k ≡ Some item → (q : RuleParts) × (item ≡ Rule q) × IsMadeOfBoth u l q

each_none : (u l : RuleParts) → Each [] u l
each_none u l c k item inside at = absurd (Contains-nil c inside)

each_next : (n : ℕ) (by : List Item) (changes : List Change) (u l : RuleParts) → ((k : ℕ) (item : Item) → slice_get by k ≡ Some item → (q : RuleParts) × (item ≡ Rule q) × IsMadeOfBoth u l q) → Each changes u l →
    Each (record { at = n; by = by } ∷ changes) u l
each_next n by changes u l here rest c k item inside at = which (Contains-cons_cases (record { at = n; by = by }) changes c inside)
  where
    which : (record { at = n; by = by } ≡ c) ⊎ Contains changes c → (q : RuleParts) × (item ≡ Rule q) × IsMadeOfBoth u l q
    which (inl e) = here k item (subst (λ (b : Change). slice_get b.by k ≡ Some item) (sym e) at)
    which (inr g) = rest c k item g at

one_part : (u l q : RuleParts) → IsMadeOfBoth u l q → (k : ℕ) (item : Item) → slice_get (Rule q ∷ []) k ≡ Some item → (q : RuleParts) × (item ≡ Rule q) × IsMadeOfBoth u l q
one_part u l q made k item at = (q, one_in q k item at, made)

left_part : (u l q : RuleParts) → IsMadeOfBoth u l q → (k : ℕ) (item : Item) → slice_get (rule_or_none q) k ≡ Some item → (q : RuleParts) × (item ≡ Rule q) × IsMadeOfBoth u l q
left_part u l q made k item at = (q, left_in q k item at, made)

no_part : (u l : RuleParts) (k : ℕ) (item : Item) → slice_get [] k ≡ Some item → (q : RuleParts) × (item ≡ Rule q) × IsMadeOfBoth u l q
no_part u l k item at = absurd (none_in k item at)

cut_in_parts : (items : List Item) (j : Step) (n : ℕ) (r q : RuleParts) (m : Moved) → first_item j ≡ n → last_item j ≡ n → slice_get items n ≡ Some (Rule r) → IsMadeOfBoth r r q → StepInParts items j (one_change n (rule_or_none q) m)
cut_in_parts items j n r q m first last at made = record {
  upper = r;
  lower = r;
  upper_at = subst (λ (i : ℕ). slice_get items i ≡ Some (Rule r)) (sym first) at;
  lower_at = subst (λ (i : ℕ). slice_get items i ≡ Some (Rule r)) (sym last) at;
  leaves = (λ i h. ((λ e. h.0 (sym first ∙ e)), (λ e. h.0 (sym last ∙ e))));
  puts_in = each_next n (rule_or_none q) [] r r (left_part r r q made) (each_none r r);
}

module _ (items : List Item) (j : Step) (u l : RuleParts) (upper_at : slice_get items (first_item j) ≡ Some (Rule u)) (lower_at : slice_get items (last_item j) ≡ Some (Rule l)) where
  two_in_parts : (above below : List Item) (m : Moved) → Each (record { at = first_item j; by = above } ∷ record { at = last_item j; by = below } ∷ []) u l → StepInParts items j (two_changes (first_item j) above (last_item j) below m)
  two_in_parts above below m each = record { upper = u; lower = l; upper_at = upper_at; lower_at = lower_at; leaves = (λ n h. (h.0, h.1.0)); puts_in = each }

  up_in_parts : (q : RuleParts) (m : Moved) → IsMadeOfBoth u l q → StepInParts items j (two_changes (first_item j) (Rule q ∷ []) (last_item j) [] m)
  up_in_parts q m made = two_in_parts (Rule q ∷ []) [] m (each_next (first_item j) (Rule q ∷ []) (record { at = last_item j; by = [] } ∷ []) u l (one_part u l q made) (each_next (last_item j) [] [] u l (no_part u l) (each_none u l)))

  down_in_parts : (q : RuleParts) (m : Moved) → IsMadeOfBoth u l q → StepInParts items j (two_changes (first_item j) [] (last_item j) (Rule q ∷ []) m)
  down_in_parts q m made = two_in_parts [] (Rule q ∷ []) m (each_next (first_item j) [] (record { at = last_item j; by = Rule q ∷ [] } ∷ []) u l (no_part u l) (each_next (last_item j) (Rule q ∷ []) [] u l (one_part u l q made) (each_none u l)))

  share_in_parts : (m : Moved) → StepInParts items j (two_changes (first_item j) (rule_or_none (without_decls (common_decls u l) u)) (last_item j) (Rule (shared u l) ∷ rule_or_none (without_decls (common_decls u l) l)) m)
  share_in_parts m = two_in_parts above below m (each_next (first_item j) above (record { at = last_item j; by = below } ∷ []) u l (left_part u l (without_decls (common_decls u l) u) (less_of_upper u l (common_decls u l)))
      (each_next (last_item j) below [] u l lower_part (each_none u l)))
    where
      above : List Item
      above = rule_or_none (without_decls (common_decls u l) u)

      below : List Item
      below = Rule (shared u l) ∷ rule_or_none (without_decls (common_decls u l) l)

      lower_part : (k : ℕ) (item : Item) → slice_get below k ≡ Some item → (q : RuleParts) × (item ≡ Rule q) × IsMadeOfBoth u l q
      lower_part zero item at = (shared u l, sym (some-same at), ((λ s h. both_in u l s h), (λ d h. inr (common_in u l d h))))
      lower_part (suc k) item at = left_part u l (without_decls (common_decls u l) l) (less_of_lower u l (common_decls u l)) k item at

pub step_in_parts : (items : List Item) (j : Step) (d : Edit) → IsStep items j d → StepInParts items j d
step_in_parts items (CutDecl n i) d c = subst (StepInParts items (CutDecl n i)) (sym c.is)
    (cut_in_parts items (CutDecl n i) n c.rule (record { selectors = c.rule.selectors; decls = remove c.rule.decls i }) (whole_rule n c.rule) refl refl c.rule_at
    ((λ s h. inl h), (λ d h. inl (removed decl i c.rule.decls d h))))
step_in_parts items (CutSel n i) d c = subst (StepInParts items (CutSel n i)) (sym c.is)
    (cut_in_parts items (CutSel n i) n c.rule (record { selectors = remove c.rule.selectors i; decls = c.rule.decls }) (whole_rule n c.rule) refl refl c.rule_at
    ((λ s h. inl (removed selector i c.rule.selectors s h)), (λ d h. inl h)))
step_in_parts items (JoinSelUp x y) d j = subst (StepInParts items (JoinSelUp x y)) (sym j.is)
    (up_in_parts items (JoinSelUp x y) j.upper j.lower j.rules.upper_at j.rules.lower_at (joined j.upper j.lower) (whole_rule y j.lower)
    ((λ s h. inl h), (λ d h. in_sum decl j.upper.decls j.lower.decls d h)))
step_in_parts items (JoinSelDown x y) d j = subst (StepInParts items (JoinSelDown x y)) (sym j.is)
    (down_in_parts items (JoinSelDown x y) j.upper j.lower j.rules.upper_at j.rules.lower_at (record { selectors = j.lower.selectors; decls = j.upper.decls ++ j.lower.decls }) (whole_rule x j.upper)
    ((λ s h. inr h), (λ d h. in_sum decl j.upper.decls j.lower.decls d h)))
step_in_parts items (JoinDeclUp x y) d j = subst (StepInParts items (JoinDeclUp x y)) (sym j.is)
    (up_in_parts items (JoinDeclUp x y) j.upper j.lower j.rules.upper_at j.rules.lower_at (record { selectors = both_selectors j.upper j.lower; decls = j.upper.decls }) (whole_rule y j.lower)
    ((λ s h. both_in j.upper j.lower s h), (λ d h. inl h)))
step_in_parts items (JoinDeclDown x y) d j = subst (StepInParts items (JoinDeclDown x y)) (sym j.is)
    (down_in_parts items (JoinDeclDown x y) j.upper j.lower j.rules.upper_at j.rules.lower_at (record { selectors = both_selectors j.upper j.lower; decls = j.lower.decls }) (whole_rule x j.upper)
    ((λ s h. both_in j.upper j.lower s h), (λ d h. inr h)))
step_in_parts items (Share x y) d j = subst (StepInParts items (Share x y)) (sym j.is)
    (share_in_parts items (Share x y) j.upper j.lower j.rules.upper_at j.rules.lower_at (record { out_of = x ∷ y ∷ []; selectors = both_selectors j.upper j.lower; decls = common_decls j.upper j.lower }))
