-- What shares of two rules save.
use Rattle.std.proofs.Common.{◌≡◌, ◌⊎◌, ◌↔◌, ℕ, ◌+◌, ◌≤◌, Bool, true, false, not, cond, List, [], ◌∷◌, ◌++◌, Some, length, refl, sym, ap, ap₂, subst, inl, inr, ◌∙◌, arith}
use Rattle.std.specs.Prelude.{get_or, slice_get}
use Rattle.std.specs.List.{Contains, filter, list_all}
use Rattle.std.proofs.lemmas.Bool.{false_from_ne_true, false≢true}
use Rattle.std.proofs.lemmas.List.Elements.{All-contains, All-contains_itself}
use Rattle.std.proofs.lemmas.List.Kept.{AllPairs-filter}
use Rattle.std.proofs.lemmas.List.Sums.{AllPass-from_list_all, list_all-from_AllPass}
use Rattle.std.proofs.lemmas.List.Quantifiers.{all_pairs_remove}
use Rattle.css_model.specs.declared.sheet.Decl.{Decl}
use Rattle.css_model.specs.declared.sheet.DeclItem.{DeclItem}
use Rattle.css_model.specs.declared.sheet.Item.{Item}
use Rattle.css_model.specs.declared.sheet.Item.TheVariants.{Rule}
use Rattle.css_model.specs.declared.sheet.SelItem.{SelItem}
use Rattle.css_model.specs.Documents.SelectorParts.{SelectorParts}
use Rattle.css_model.specs.Sheets.Limits.{max_bytes}
use Rattle.css_model.specs.Sheets.Printed.{printed_declaration, printed_selector}
use Rattle.css_model.specs.Sheets.RuleParts.{RuleParts}
use Rattle.css_model.specs.Sheets.Sound.{IsSound}
use Rattle.saved_bytes.specs.Savings.{IsSaving}
use Rattle.list_facts.proofs.Members.{Contains-cons_cases, Contains-here, Contains-nil, Contains-there}
use Rattle.order_laws.proofs.ForCallers.{decls, sels, has_decl_is, has_selector_is, map_from, map_has}
use Rattle.order_laws.specs.Edits.{Edit, edited}
use Rattle.order_laws.specs.Members.{has_decl, has_selector}
use Rattle.step_laws.proofs.ForCallers.{in_common, is_common, rule_is_light, rule_sound, steps_weigh}
use Rattle.step_laws.specs.declared.step.Step.TheVariants.{Share}
use Rattle.step_laws.specs.RuleParting.{both_selectors, common_decls, each_last, item_if_any, rule_or_none, without_decls}
use Rattle.step_laws.specs.Sizes.{brought_weight, rule_weight, rules_weight, size, weight}
use Rattle.step_laws.specs.StepEdits.{shared}
use Rattle.step_laws.specs.Steps.{AreDeclsAmong, IsStep}
use Rattle.plan_laws.specs.Plannable.{IsPlannable}
use Rattle.step_savings.specs.Apart.{AreApart}
use Rattle.step_savings.specs.Weighing.{IsWeighable}
use Rattle.step_savings.proofs.ForCallers.{edit_is}
use Rattle.next_step.proofs.Differing.{once_removed}
use Rattle.next_step.specs.Once.{StandOnce}
use Rattle.next_step.specs.Shares.{IsKept, among_weight, new_selectors}

-- ---- Weights of parts of lists

module _ {A : Type 0} (text : A → List ℕ) where
  weight-append : (xs ys : List A) → weight text (xs ++ ys) ≡ weight text xs + weight text ys
  weight-append [] ys = let e : weight text ys ≡ 0 + weight text ys = omega arith in e
  weight-append (x ∷ xs) ys = let ih : weight text (xs ++ ys) ≡ weight text xs + weight text ys = weight-append xs ys in
      let e : length (text x) + 1 + weight text (xs ++ ys) ≡ length (text x) + 1 + weight text xs + weight text ys = omega (arith, ih) in e

  -- what passes a test and what does not weigh as much as the whole
  weight-parted : (p : A → Bool) (xs : List A) → weight text (filter p xs) + weight text (filter (λ x. not (p x)) xs) ≡ weight text xs
  weight-parted p [] = omega arith
  weight-parted p (x ∷ xs) = which (p x) (weight-parted p xs)
    where
      which : (b : Bool) → weight text (filter p xs) + weight text (filter (λ x. not (p x)) xs) ≡ weight text xs →
          weight text (cond b (x ∷ filter p xs) (filter p xs)) + weight text (cond (not b) (x ∷ filter (λ x. not (p x)) xs) (filter (λ x. not (p x)) xs)) ≡ length (text x) + 1 + weight text xs
      which true ih = let e : length (text x) + 1 + weight text (filter p xs) + weight text (filter (λ x. not (p x)) xs) ≡ length (text x) + 1 + weight text xs = omega (arith, ih) in e
      which false ih = let e : weight text (filter p xs) + (length (text x) + 1 + weight text (filter (λ x. not (p x)) xs)) ≡ length (text x) + 1 + weight text xs = omega (arith, ih) in e

  -- no part weighs more than the whole
  pub weight-filter : (p : A → Bool) (xs : List A) → weight text (filter p xs) ≤ weight text xs
  weight-filter p xs = let both : weight text (filter p xs) + weight text (filter (λ x. not (p x)) xs) ≡ weight text xs = weight-parted p xs in omega (arith, both)

-- ---- Declarations that stand once

module _ (x : DeclItem) (xs : List DeclItem) (once : StandOnce (λ (d : DeclItem). d.decl) (x ∷ xs)) where
  pub rest_once : StandOnce (λ (d : DeclItem). d.decl) xs
  rest_once = all_pairs_remove (λ (a b : DeclItem). a.decl ≡ b.decl → ⊥) (x ∷ xs) 0 (omega arith) once

  pub not_again : has_decl xs x.decl ≡ false
  not_again = false_from_ne_true (has_decl xs x.decl) (λ has. once_removed (λ (d : DeclItem). d.decl) (x ∷ xs) 0 x once refl ((has_decl_is xs x.decl).0 has))

each_is_last : (xs : List DeclItem) → StandOnce (λ (d : DeclItem). d.decl) xs → each_last xs ≡ xs
each_is_last [] once = refl
each_is_last (x ∷ xs) once =
    ap (λ (b : Bool). cond b (each_last xs) (x ∷ each_last xs)) (not_again x xs once) ∙ ap (λ (ds : List DeclItem). x ∷ ds) (each_is_last xs (rest_once x xs once))

-- ---- What is left of a rule

module _ (p q : DeclItem → Bool) where
  same_filter : (ds : List DeclItem) → ((d : DeclItem) → Contains (decls ds) d.decl → p d ≡ q d) → filter p ds ≡ filter q ds
  same_filter [] agree = refl
  same_filter (x ∷ ds) agree =
      ap₂ (λ (b : Bool) (xs : List DeclItem). cond b (x ∷ xs) xs) (agree x (Contains-here x.decl (decls ds))) (same_filter ds (λ d h. agree d (Contains-there x.decl (decls ds) d.decl h)))

pub truths : (a b : Bool) → (a ≡ true → b ≡ true) → (b ≡ true → a ≡ true) → a ≡ b
truths true b f g = sym (f refl)
truths false true f g = absurd (false≢true (g refl))
truths false false f g = refl

-- the declarations of a list that others lack
abbrev lacked : List DeclItem → List DeclItem → List DeclItem
lacked others ds = filter (λ d. not (has_decl others d.decl)) ds

without_upper : (u l : RuleParts) → lacked (common_decls u l) u.decls ≡ lacked l.decls u.decls
without_upper u l = same_filter (λ d. not (has_decl (common_decls u l) d.decl)) (λ d. not (has_decl l.decls d.decl)) u.decls
    (λ d h. ap not (truths (has_decl (common_decls u l) d.decl) (has_decl l.decls d.decl)
    (λ has. (has_decl_is l.decls d.decl).1 (in_common u l d.decl ((has_decl_is (common_decls u l) d.decl).0 has)).1)
    (λ has. is_common u l d.decl h ((has_decl_is l.decls d.decl).0 has))))

without_lower : (u l : RuleParts) → lacked (common_decls u l) l.decls ≡ lacked u.decls l.decls
without_lower u l = same_filter (λ d. not (has_decl (common_decls u l) d.decl)) (λ d. not (has_decl u.decls d.decl)) l.decls
    (λ d h. ap not (truths (has_decl (common_decls u l) d.decl) (has_decl u.decls d.decl)
    (λ has. (has_decl_is u.decls d.decl).1 (in_common u l d.decl ((has_decl_is (common_decls u l) d.decl).0 has)).0)
    (λ has. is_common u l d.decl ((has_decl_is u.decls d.decl).0 has) h)))

none_lacked : (others ds : List DeclItem) → ((d : Decl) → Contains (decls ds) d → Contains (decls others) d) → lacked others ds ≡ []
none_lacked others [] among = refl
none_lacked others (x ∷ ds) among =
    ap (λ (b : Bool). cond (not b) (x ∷ lacked others ds) (lacked others ds)) ((has_decl_is others x.decl).1 (among x.decl (Contains-here x.decl (decls ds))))
    ∙ none_lacked others ds (λ d h. among d (Contains-there x.decl (decls ds) d h))

all_among : (others ds : List DeclItem) → lacked others ds ≡ [] → (d : Decl) → Contains (decls ds) d → Contains (decls others) d
all_among others [] none d h = absurd (Contains-nil d h)
all_among others (x ∷ ds) none d h = which (λ rest. all_among others ds rest d) (has_decl others x.decl) refl none (Contains-cons_cases x.decl (decls ds) d h)
  where
    which : (lacked others ds ≡ [] → Contains (decls ds) d → Contains (decls others) d) → (b : Bool) → has_decl others x.decl ≡ b →
        cond (not b) (x ∷ lacked others ds) (lacked others ds) ≡ [] → (x.decl ≡ d) ⊎ Contains (decls ds) d → Contains (decls others) d
    which again true has rest (inl e) = subst (λ (z : Decl). Contains (decls others) z) e ((has_decl_is others x.decl).0 has)
    which again true has rest (inr g) = again rest g
    which again false lacks rest c = absurd (let e : x ∷ lacked others ds ≡ [] = rest in cc)

-- what the rest of a rule weighs, of which these declarations are left
rest_of_lists : (source : List ℕ) (ss : List SelItem) (ds : List DeclItem) (k : ℕ) → (ss ≡ [] → ⊥) →
    ((ds ≡ [] → ⊥) × (k ≡ weight (printed_selector source) ss)) ⊎ ((ds ≡ []) × (k ≡ 0)) →
    rules_weight source (item_if_any ss ds (record { selectors = ss; decls = ds })) ≡ k + weight (printed_declaration source) ds
rest_of_lists source [] ds k some kept = absurd (some refl)
rest_of_lists source (s ∷ ss) [] k some (inl (left, e)) = absurd (left refl)
rest_of_lists source (s ∷ ss) [] k some (inr (none, e)) = omega (arith, e)
rest_of_lists source (s ∷ ss) (d ∷ ds) k some (inr (none, e)) = absurd (let f : d ∷ ds ≡ [] = none in cc)
rest_of_lists source (s ∷ ss) (d ∷ ds) k some (inl (left, e)) =
    let whole : rule_weight source (record { selectors = s ∷ ss; decls = d ∷ ds }) + 0 ≡ k + weight (printed_declaration source) (d ∷ ds) = omega (arith, e) in whole

rest_weighs : (source : List ℕ) (r other : RuleParts) (gone : List DeclItem) (k : ℕ) → (r.selectors ≡ [] → ⊥) → lacked gone r.decls ≡ lacked other.decls r.decls → IsKept source r other k →
    rules_weight source (rule_or_none (without_decls gone r)) ≡ k + weight (printed_declaration source) (lacked other.decls r.decls)
rest_weighs source r other gone k some same kept =
    ap (λ (ds : List DeclItem). rules_weight source (item_if_any r.selectors ds (record { selectors = r.selectors; decls = ds }))) same
    ∙ rest_of_lists source r.selectors (lacked other.decls r.decls) k some (by_rest kept)
  where
    by_rest : IsKept source r other k → ((lacked other.decls r.decls ≡ [] → ⊥) × (k ≡ weight (printed_selector source) r.selectors)) ⊎ ((lacked other.decls r.decls ≡ []) × (k ≡ 0))
    by_rest (inl (keeps, e)) = inl (λ none. keeps (all_among other.decls r.decls none), e)
    by_rest (inr (among, e)) = inr (none_lacked other.decls r.decls among, e)

-- ---- What the code counts

-- the first of some declarations is among the others that are meant, or not
pub all_count : (source : List ℕ) (rest behind : List DeclItem) (x : DeclItem) → rest ≡ x ∷ behind → weight (printed_declaration source) rest ≡ length (printed_declaration source x) + 1 + weight (printed_declaration source) behind
all_count source rest behind x is = ap (weight (printed_declaration source)) is

pub none_count : (source : List ℕ) (others rest behind : List DeclItem) (x : DeclItem) → rest ≡ x ∷ behind → has_decl others x.decl ≡ false → among_weight source rest others ≡ among_weight source behind others
none_count source others rest behind x is none =
    ap (λ (ds : List DeclItem). among_weight source ds others) is
    ∙ ap (λ (b : Bool). weight (printed_declaration source) (cond b (x ∷ filter (λ d. has_decl others d.decl) behind) (filter (λ d. has_decl others d.decl) behind))) none

pub among_count : (source : List ℕ) (items others : List DeclItem) → among_weight source items others ≤ weight (printed_declaration source) items
among_count source items others = weight-filter (printed_declaration source) (λ d. has_decl others d.decl) items

-- all selectors of the lower rule are new, if the upper one has none of them
all_new : (others xs : List SelItem) → ((s : SelectorParts) → Contains (sels others) s → Contains (sels xs) s → ⊥) → filter (λ x. not (has_selector others x.selector)) xs ≡ xs
all_new others [] apart = refl
all_new others (x ∷ xs) apart =
    let lacks : has_selector others x.selector ≡ false = false_from_ne_true (has_selector others x.selector) (λ has. apart x.selector ((has_selector_is others x.selector).0 has) (Contains-here x.selector (sels xs))) in
    ap (λ (b : Bool). cond (not b) (x ∷ filter (λ x. not (has_selector others x.selector)) xs) (filter (λ x. not (has_selector others x.selector)) xs)) lacks
    ∙ ap (λ (ss : List SelItem). x ∷ ss) (all_new others xs (λ s a b. apart s a (Contains-there x.selector (sels xs) s b)))

pub apart_count : (source : List ℕ) (u l : RuleParts) → AreApart u l → weight (printed_selector source) l.selectors ≤ 0 + weight (printed_selector source) (new_selectors u l)
apart_count source u l apart =
    let same : weight (printed_selector source) (new_selectors u l) ≡ weight (printed_selector source) l.selectors = ap (weight (printed_selector source)) (all_new u.selectors l.selectors apart) in omega (arith, same)

-- each declaration of a rule is among another one's, as the code tests it
pub among_all : (r q : RuleParts) → (list_all (λ d. has_decl q.decls d.decl) r.decls ≡ true) ↔ AreDeclsAmong r q
among_all r q = (λ h. forth r.decls h, λ among. back r.decls among)
  where
    forth : (ds : List DeclItem) → list_all (λ d. has_decl q.decls d.decl) ds ≡ true → (d : Decl) → Contains (decls ds) d → Contains (decls q.decls) d
    forth ds h d c =
        let found : (x : DeclItem) × Contains ds x × (x.decl ≡ d) = map_from (λ (x : DeclItem). x.decl) ds d c in
        subst (λ (z : Decl). Contains (decls q.decls) z) found.2 ((has_decl_is q.decls found.0.decl).0 (All-contains (λ (x : DeclItem). has_decl q.decls x.decl ≡ true) ds found.0 (AllPass-from_list_all (λ d. has_decl q.decls d.decl) ds h) found.1))

    back : (ds : List DeclItem) → ((d : Decl) → Contains (decls ds) d → Contains (decls q.decls) d) → list_all (λ d. has_decl q.decls d.decl) ds ≡ true
    back ds among = list_all-from_AllPass (λ d. has_decl q.decls d.decl) ds (λ k d within. (has_decl_is q.decls (get_or ds k d).decl).1 (among (get_or ds k d).decl (map_has (λ (y : DeclItem). y.decl) ds (get_or ds k d) (All-contains_itself ds k d within))))

-- a rule of a sheet that can be planned can be weighed
pub weighable : (source : List ℕ) (items : List Item) (n : ℕ) (r : RuleParts) → IsPlannable source items → slice_get items n ≡ Some (Rule r) → IsWeighable source r
weighable source items n r plannable at =
    let light : weight (printed_selector source) r.selectors + weight (printed_declaration source) r.decls ≤ size source items = rule_is_light source items n r plannable.sound at in
    let short : size source items ≤ max_bytes = plannable.short in
    let whole = rule_sound source items n r plannable.sound at in
    record {
      selectors = whole.selectors;
      decls = whole.decls;
      small_selectors = omega (arith, light, short);
      small_decls = omega (arith, light, short);
    }

-- ---- What a share saves

common_once : (u l : RuleParts) → StandOnce (λ (d : DeclItem). d.decl) l.decls → common_decls u l ≡ filter (λ d. has_decl u.decls d.decl) l.decls
common_once u l once =
    each_is_last (filter (λ d. has_decl u.decls d.decl) l.decls) (AllPairs-filter (λ (a b : DeclItem). a.decl ≡ b.decl → ⊥) (λ d. has_decl u.decls d.decl) l.decls once)

module _ (source : List ℕ) (items : List Item) (x y : ℕ) (u l : RuleParts) (sound : IsSound source items) (at : slice_get items x ≡ Some (Rule u)) (at' : slice_get items y ≡ Some (Rule l))
    (once : StandOnce (λ (d : DeclItem). d.decl) l.decls) (kx ky : ℕ) (upper_kept : IsKept source u l kx) (lower_kept : IsKept source l u ky) where
  pub share_weighs : (e : Edit) → IsStep items (Share x y) e →
      size source (edited e items) + (among_weight source u.decls l.decls + weight (printed_selector source) l.selectors) ≡ size source items + (kx + ky + weight (printed_selector source) (new_selectors u l))
  share_weighs e is =
      let law : size source (edited e items) + (rule_weight source u + rule_weight source l) ≡ size source items + brought_weight source e.changes = steps_weigh source items (Share x y) e is sound u l at at' in
      let brought : rules_weight source (rule_or_none (without_decls (common_decls u l) u)) + ((rule_weight source (shared u l) + rules_weight source (rule_or_none (without_decls (common_decls u l) l))) + 0) ≡ brought_weight source e.changes =
      ap (λ (d : Edit). brought_weight source d.changes) (edit_is items (Share x y) u l at at' e is) in
      let above : rules_weight source (rule_or_none (without_decls (common_decls u l) u)) ≡ kx + weight (printed_declaration source) (lacked l.decls u.decls) =
      rest_weighs source u l (common_decls u l) kx (rule_sound source items x u sound at).has_selectors (without_upper u l) upper_kept in
      let below : rules_weight source (rule_or_none (without_decls (common_decls u l) l)) ≡ ky + weight (printed_declaration source) (lacked u.decls l.decls) =
      rest_weighs source l u (common_decls u l) ky (rule_sound source items y l sound at').has_selectors (without_lower u l) lower_kept in
      let common : weight (printed_declaration source) (common_decls u l) ≡ among_weight source l.decls u.decls = ap (weight (printed_declaration source)) (common_once u l once) in
      let both : weight (printed_selector source) (both_selectors u l) ≡ weight (printed_selector source) u.selectors + weight (printed_selector source) (new_selectors u l) = weight-append (printed_selector source) u.selectors (new_selectors u l) in
      let whole_above : among_weight source u.decls l.decls + weight (printed_declaration source) (lacked l.decls u.decls) ≡ weight (printed_declaration source) u.decls = weight-parted (printed_declaration source) (λ d. has_decl l.decls d.decl) u.decls in
      let whole_below : among_weight source l.decls u.decls + weight (printed_declaration source) (lacked u.decls l.decls) ≡ weight (printed_declaration source) l.decls = weight-parted (printed_declaration source) (λ d. has_decl u.decls d.decl) l.decls in
      omega (arith, law, brought, above, below, common, both, whole_above, whole_below)

  module _ (more : ℕ) (most : weight (printed_selector source) l.selectors ≤ more + weight (printed_selector source) (new_selectors u l)) where
    -- it makes the sheet no shorter where the common declarations are light
    pub saves_none : among_weight source u.decls l.decls + more ≤ kx + ky → IsSaving source items (Share x y) 0
    saves_none light e is =
        let weighs : size source (edited e items) + (among_weight source u.decls l.decls + weight (printed_selector source) l.selectors) ≡ size source items + (kx + ky + weight (printed_selector source) (new_selectors u l)) = share_weighs e is in
        (λ some. absurd (omega (arith, some)), λ m saves. (let s : size source items ≡ size source (edited e items) + m = saves in omega (arith, weighs, s, light, most)))

    -- and else it saves the difference, if no selector is common
    pub saves_rest : (n : ℕ) → more ≡ 0 → n + (kx + ky) ≡ among_weight source u.decls l.decls + more → IsSaving source items (Share x y) n
    saves_rest n apart rest e is =
        let weighs : size source (edited e items) + (among_weight source u.decls l.decls + weight (printed_selector source) l.selectors) ≡ size source items + (kx + ky + weight (printed_selector source) (new_selectors u l)) = share_weighs e is in
        let new : weight (printed_selector source) (new_selectors u l) ≤ weight (printed_selector source) l.selectors = weight-filter (printed_selector source) (λ s. not (has_selector u.selectors s.selector)) l.selectors in
        let saved : size source items ≡ size source (edited e items) + n = omega (arith, weighs, most, new, apart, rest) in
        (λ some. saved, λ m saves. (let s : size source items ≡ size source (edited e items) + m = saves in omega (arith, saved, s)))
