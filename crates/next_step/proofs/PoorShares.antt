-- Shares of two rules that save little, by the declarations that both may have.
use Rattle.std.proofs.Common.{◌≡◌, ℕ, ◌+◌, ◌<◌, ◌≤◌, Bool, true, false, ◌||◌, cond, List, [], ◌∷◌, Some, length, refl, sym, ap, ap₂, subst, inl, inr, ◌∙◌, arith, true≢false}
use Rattle.std.specs.Prelude.{slice_get}
use Rattle.std.specs.List.{Contains, filter}
use Rattle.css_model.proofs.ForCallers.{decl_decides}
use Rattle.css_model.specs.declared.sheet.Decl.{Decl}
use Rattle.css_model.specs.declared.sheet.DeclItem.{DeclItem}
use Rattle.css_model.specs.declared.sheet.Item.{Item}
use Rattle.css_model.specs.declared.sheet.Item.TheVariants.{Rule}
use Rattle.css_model.specs.Sheets.Printed.{printed_declaration, printed_selector}
use Rattle.css_model.specs.Sheets.RuleParts.{RuleParts}
use Rattle.css_model.specs.Sheets.Sound.{IsSound}
use Rattle.indexed_sheet.specs.MarkList.{order_keys_of}
use Rattle.list_facts.proofs.Members.{Contains-filter, Contains-here, Contains-there}
use Rattle.order_laws.proofs.ForCallers.{decls, has_decl_is}
use Rattle.order_laws.specs.Edits.{Edit, edited}
use Rattle.order_laws.specs.Members.{has_decl, same_decl}
use Rattle.pending_laws.specs.Priorities.{named}
use Rattle.plan_laws.specs.Plannable.{IsPlannable}
use Rattle.rule_tables.specs.declared.ahead.Common.{Common}
use Rattle.step_laws.specs.declared.step.Step.{Step}
use Rattle.step_laws.specs.declared.step.Step.TheVariants.{JoinDeclUp, Share}
use Rattle.step_laws.specs.Sizes.{Saves, size, weight}
use Rattle.step_laws.specs.Steps.{AreDeclsAmong, HasStep, HaveSameDecls, IsStep, first_item, last_item}
use Rattle.step_queue.specs.RuleWeights.{ArePlain, told_length}
use Rattle.step_savings.proofs.ForCallers.{first_rule, last_rule}
use Rattle.step_savings.specs.Apart.{AreApart, RulesApart}
use Rattle.next_step.specs.Common.{AreFocusAnd, AreInCommon, IsPlain, KeepsAtLeast, SavesAtMost}
use Rattle.next_step.specs.Kinds.{IsByDecls}
use Rattle.next_step.specs.Looking.{FoundParts, ReachesLast}
use Rattle.next_step.specs.Once.{StandOnce}
use Rattle.next_step.specs.Shares.{IsKept, among_weight, new_selectors}
use Rattle.next_step.specs.Viewed.{CoversIn}
use Rattle.next_step.specs.declared.view.Focus.{Focus}
use Rattle.next_step.specs.declared.view.Partners.{Partners}
use Rattle.next_step.specs.declared.view.View.{View}
use Rattle.next_step.proofs.DeclWeights.{kept_of}
use Rattle.next_step.proofs.LightRules.{only_share}
use Rattle.next_step.proofs.Rules.{one_rule}
use Rattle.next_step.proofs.Sharing.{apart_count, not_again, rest_once, share_weighs, truths}

-- ---- What declarations weigh by what they are

-- of some declarations those that are among others
abbrev pub both : List DeclItem → List DeclItem → List DeclItem
both others ds = filter (λ d. has_decl others d.decl) ds

module _ (w : Decl → ℕ) where
  abbrev sum_of : List DeclItem → ℕ
  sum_of [] = 0
  sum_of (d ∷ ds) = w d.decl + sum_of ds

  sum_cond : (b : Bool) (d : DeclItem) (ds : List DeclItem) → sum_of (cond b (d ∷ ds) ds) ≡ cond b (w d.decl) 0 + sum_of ds
  sum_cond true d ds = refl
  sum_cond false d ds = let e : sum_of ds ≡ 0 + sum_of ds = omega arith in e

  one_step : (p q r : Bool) (x y a b : ℕ) → (p ≡ true → (x ≡ y) × (q ≡ false)) → cond r x 0 + a ≤ b → cond (p || r) x 0 + (cond q y 0 + a) ≤ cond (p || q) y 0 + b
  one_step true true r x y a b same ih = absurd (true≢false ((same refl).1))
  one_step true false r x y a b same ih =
      let e : x ≡ y = (same refl).0 in let h : cond r x 0 + a ≤ b = ih in let goal : x + (0 + a) ≤ y + b = omega (arith, e, h) in goal
  one_step false q r x y a b same ih =
      let h : cond r x 0 + a ≤ b = ih in let goal : cond r x 0 + (cond q y 0 + a) ≤ cond q y 0 + b = omega (arith, h) in goal

  turned : (x y : DeclItem) → same_decl y.decl x.decl ≡ same_decl x.decl y.decl
  turned x y = truths (same_decl y.decl x.decl) (same_decl x.decl y.decl)
      (λ h. (decl_decides x.decl y.decl).1 (sym ((decl_decides y.decl x.decl).0 h))) (λ h. (decl_decides y.decl x.decl).1 (sym ((decl_decides x.decl y.decl).0 h)))

  -- one more declaration among which others are looked for
  one_more : (x : DeclItem) (xs ys : List DeclItem) → has_decl xs x.decl ≡ false → cond (has_decl ys x.decl) (w x.decl) 0 + sum_of (both xs ys) ≤ sum_of (both (x ∷ xs) ys)
  one_more x xs [] none = omega arith
  one_more x xs (y ∷ ys) none =
      let same : same_decl y.decl x.decl ≡ true → (w x.decl ≡ w y.decl) × (has_decl xs y.decl ≡ false) = (λ h. let e : y.decl ≡ x.decl = (decl_decides y.decl x.decl).0 h in
      (ap w (sym e), subst (λ (z : Decl). has_decl xs z ≡ false) (sym e) none)) in
      let step : cond (same_decl y.decl x.decl || has_decl ys x.decl) (w x.decl) 0 + (cond (has_decl xs y.decl) (w y.decl) 0 + sum_of (both xs ys)) ≤ cond (same_decl y.decl x.decl || has_decl xs y.decl) (w y.decl) 0 + sum_of (both (x ∷ xs) ys)
      = one_step (same_decl y.decl x.decl) (has_decl xs y.decl) (has_decl ys x.decl) (w x.decl) (w y.decl) (sum_of (both xs ys)) (sum_of (both (x ∷ xs) ys)) same (one_more x xs ys none) in
      let there : cond (same_decl y.decl x.decl || has_decl ys x.decl) (w x.decl) 0 + (cond (has_decl xs y.decl) (w y.decl) 0 + sum_of (both xs ys)) ≤ cond (same_decl x.decl y.decl || has_decl xs y.decl) (w y.decl) 0 + sum_of (both (x ∷ xs) ys)
      = subst (λ (b : Bool). cond (same_decl y.decl x.decl || has_decl ys x.decl) (w x.decl) 0 + (cond (has_decl xs y.decl) (w y.decl) 0 + sum_of (both xs ys)) ≤ cond (b || has_decl xs y.decl) (w y.decl) 0 + sum_of (both (x ∷ xs) ys)) (turned x y) step in
      let here : sum_of (both xs (y ∷ ys)) ≡ cond (has_decl xs y.decl) (w y.decl) 0 + sum_of (both xs ys) = sum_cond (has_decl xs y.decl) y (both xs ys) in
      let more : sum_of (both (x ∷ xs) (y ∷ ys)) ≡ cond (has_decl (x ∷ xs) y.decl) (w y.decl) 0 + sum_of (both (x ∷ xs) ys) = sum_cond (has_decl (x ∷ xs) y.decl) y (both (x ∷ xs) ys) in
      subst (λ (n : ℕ). cond (has_decl (y ∷ ys) x.decl) (w x.decl) 0 + sum_of (both xs (y ∷ ys)) ≤ n) (sym more)
      (subst (λ (n : ℕ). cond (has_decl (y ∷ ys) x.decl) (w x.decl) 0 + n ≤ cond (has_decl (x ∷ xs) y.decl) (w y.decl) 0 + sum_of (both (x ∷ xs) ys)) (sym here) there)

  -- Of the declarations of one list, which are in it once, those that are in another one weigh no more than those of the other one.
  exchange : (xs ys : List DeclItem) → StandOnce (λ (d : DeclItem). d.decl) xs → sum_of (both ys xs) ≤ sum_of (both xs ys)
  exchange [] ys once = omega arith
  exchange (x ∷ xs) ys once =
      let ih : sum_of (both ys xs) ≤ sum_of (both xs ys) = exchange xs ys (rest_once x xs once) in
      let more : cond (has_decl ys x.decl) (w x.decl) 0 + sum_of (both xs ys) ≤ sum_of (both (x ∷ xs) ys) = one_more x xs ys (not_again x xs once) in
      let here : sum_of (both ys (x ∷ xs)) ≡ cond (has_decl ys x.decl) (w x.decl) 0 + sum_of (both ys xs) = sum_cond (has_decl ys x.decl) x (both ys xs) in
      omega (arith, ih, more, here)

count_is : (ds : List DeclItem) → sum_of (λ d. 1) ds ≡ length ds
count_is [] = refl
count_is (d ∷ ds) = let ih : sum_of (λ d. 1) ds ≡ length ds = count_is ds in let e : 1 + sum_of (λ d. 1) ds ≡ length (d ∷ ds) = omega (arith, ih) in e

plain_weight : (source : List ℕ) (ds : List DeclItem) → ArePlain source ds → weight (printed_declaration source) ds ≡ sum_of (λ d. told_length d + 1) ds
plain_weight source [] plain = refl
plain_weight source (d ∷ ds) plain =
    let ih : weight (printed_declaration source) ds ≡ sum_of (λ d. told_length d + 1) ds = plain_weight source ds (λ x h. plain x (Contains-there d ds x h)) in
    let own : length (printed_declaration source d) ≡ told_length d.decl = plain d (Contains-here d ds) in
    let e : length (printed_declaration source d) + 1 + weight (printed_declaration source) ds ≡ told_length d.decl + 1 + sum_of (λ d. told_length d + 1) ds = omega (arith, ih, own) in e

plain_part : (source : List ℕ) (others ds : List DeclItem) → ArePlain source ds → ArePlain source (both others ds)
plain_part source others ds plain x h = plain x (Contains-filter (λ (d : DeclItem). has_decl others d.decl) ds x h).0

pub few_exchanged : (xs ys : List DeclItem) → StandOnce (λ (d : DeclItem). d.decl) xs → length (both ys xs) ≤ length (both xs ys)
few_exchanged xs ys once =
    let most : sum_of (λ d. 1) (both ys xs) ≤ sum_of (λ d. 1) (both xs ys) = exchange (λ d. 1) xs ys once in
    let a : sum_of (λ d. 1) (both ys xs) ≡ length (both ys xs) = count_is (both ys xs) in
    let b : sum_of (λ d. 1) (both xs ys) ≡ length (both xs ys) = count_is (both xs ys) in
    omega (arith, most, a, b)

light_exchanged : (source : List ℕ) (xs ys : List DeclItem) → StandOnce (λ (d : DeclItem). d.decl) xs → ArePlain source xs → ArePlain source ys →
    weight (printed_declaration source) (both ys xs) ≤ weight (printed_declaration source) (both xs ys)
light_exchanged source xs ys once plain plain' =
    let most : sum_of (λ d. told_length d + 1) (both ys xs) ≤ sum_of (λ d. told_length d + 1) (both xs ys) = exchange (λ d. told_length d + 1) xs ys once in
    let a = plain_weight source (both ys xs) (plain_part source ys xs plain) in
    let b = plain_weight source (both xs ys) (plain_part source xs ys plain') in
    omega (arith, most, a, b)

-- ---- What two rules keep

all_kept : (others ds : List DeclItem) → ((d : Decl) → Contains (decls ds) d → Contains (decls others) d) → both others ds ≡ ds
all_kept others [] among = refl
all_kept others (x ∷ ds) among =
    ap (λ (b : Bool). cond b (x ∷ both others ds) (both others ds)) ((has_decl_is others x.decl).1 (among x.decl (Contains-here x.decl (decls ds))))
    ∙ ap (λ (xs : List DeclItem). x ∷ xs) (all_kept others ds (λ d h. among d (Contains-there x.decl (decls ds) d h)))

-- not all of its declarations are among the other one's
pub keeps_some : (r q : RuleParts) (count : ℕ) → length (both q.decls r.decls) ≤ count → count < length r.decls → AreDeclsAmong r q → ⊥
keeps_some r q count few less among =
    let all : length (both q.decls r.decls) ≡ length r.decls = ap length (all_kept q.decls r.decls among) in
    omega (arith, few, less, all)

at_least : (source : List ℕ) (r q : RuleParts) (count a k : ℕ) → length (both q.decls r.decls) ≤ count → KeepsAtLeast source r count a → IsKept source r q k → a ≤ k
at_least source r q count a k few (inr none) kept = omega (arith, none)
at_least source r q count a k few (inl (less, light)) (inl (keeps, is)) = omega (arith, light, is)
at_least source r q count a k few (inl (less, light)) (inr (among, is)) = absurd (keeps_some r q count few less among)

-- ---- The steps of two rules

module _ (source : List ℕ) (items : List Item) (sound : IsSound source items) (x y : ℕ) (u l : RuleParts) (at : slice_get items x ≡ Some (Rule u)) (at' : slice_get items y ≡ Some (Rule l))
    (count a b : ℕ) (few_above : length (both l.decls u.decls) ≤ count) (few_below : length (both u.decls l.decls) ≤ count) (keeps_above : KeepsAtLeast source u count a) (keeps_below : KeepsAtLeast source l count b) (some : 0 < a + b) where
  not_same : HaveSameDecls u l → ⊥
  not_same same = which keeps_above keeps_below
    where
      which : KeepsAtLeast source u count a → KeepsAtLeast source l count b → ⊥
      which (inl (less, light)) other = keeps_some u l count few_above less (λ d h. subst (λ (ds : List Decl). Contains ds d) same h)
      which (inr none) (inl (less, light)) = keeps_some l u count few_below less (λ d h. subst (λ (ds : List Decl). Contains ds d) (sym same) h)
      which (inr none) (inr none') = omega (arith, some, none, none')

  no_join : HasStep items (JoinDeclUp x y) → ⊥
  no_join (e, is) =
      not_same (subst (λ (p : RuleParts). HaveSameDecls p l) (one_rule items x is.upper u is.rules.upper_at at) (subst (λ (p : RuleParts). HaveSameDecls is.upper p) (one_rule items y is.lower l is.rules.lower_at at') is.may))

  is_share : (k : Step) (e : Edit) → IsByDecls k → first_item k ≡ x → last_item k ≡ y → IsStep items k e → k ≡ Share x y
  is_share k e by first last is =
      only_share items k e by is (λ has. no_join (subst (λ (m : ℕ). HasStep items (JoinDeclUp m y)) first (subst (λ (m : ℕ). HasStep items (JoinDeclUp (first_item k) m)) last has)))
      ∙ ap₂ Share first last

  module _ (apart : AreApart u l) (once : StandOnce (λ (d : DeclItem). d.decl) l.decls) (most w : ℕ) (light : weight (printed_declaration source) (both l.decls u.decls) ≤ w) (fits : w ≤ most + (a + b)) where
    saves_few : (e : Edit) (n : ℕ) → IsStep items (Share x y) e → Saves source items e n → n ≤ most
    saves_few e n is saves =
        let above : (k : ℕ) × IsKept source u l k = kept_of source u l in
        let below : (k : ℕ) × IsKept source l u k = kept_of source l u in
        let law : size source (edited e items) + (among_weight source u.decls l.decls + weight (printed_selector source) l.selectors) ≡ size source items + (above.0 + below.0 + weight (printed_selector source) (new_selectors u l))
        = share_weighs source items x y u l sound at at' once above.0 below.0 above.1 below.1 e is in
        let less : size source items ≡ size source (edited e items) + n = saves in
        let new : weight (printed_selector source) l.selectors ≤ 0 + weight (printed_selector source) (new_selectors u l) = apart_count source u l apart in
        let one : a ≤ above.0 = at_least source u l count a above.0 few_above keeps_above above.1 in
        let other : b ≤ below.0 = at_least source l u count b below.0 few_below keeps_below below.1 in
        let among : among_weight source u.decls l.decls ≤ w = light in
        omega (arith, law, less, new, one, other, among, fits)

-- ---- As the code tests it

-- the partner of the focus in a step is a rule
pub rule_beside : (items : List Item) (o : Focus) (other : ℕ) (p : Partners) (k : Step) (e : Edit) → AreFocusAnd o other p → first_item k ≡ p.upper → last_item k ≡ p.lower → IsStep items k e →
    (r : RuleParts) × (slice_get items other ≡ Some (Rule r))
rule_beside items o other p k e (inl (upper, lower)) first last is =
    let rule : (r : RuleParts) × (slice_get items (first_item k) ≡ Some (Rule r)) = first_rule items k (e, is) in
    (rule.0, ap (slice_get items) (sym upper ∙ sym first) ∙ rule.1)
rule_beside items o other p k e (inr (upper, lower)) first last is =
    let rule : (r : RuleParts) × (slice_get items (last_item k) ≡ Some (Rule r)) = last_rule items k (e, is) in
    (rule.0, ap (slice_get items) (sym lower ∙ sym last) ∙ rule.1)

module _ (v : View) (plannable : IsPlannable v.source.now v.indexed.now.items) (found : FoundParts) where
  covered : (x y count a b most w : ℕ) (u l : RuleParts) → slice_get v.indexed.now.items x ≡ Some (Rule u) → slice_get v.indexed.now.items y ≡ Some (Rule l) → RulesApart v.indexed.now.items x y →
      length (both l.decls u.decls) ≤ count → length (both u.decls l.decls) ≤ count → KeepsAtLeast v.source.now u count a → KeepsAtLeast v.source.now l count b → 0 < a + b →
      StandOnce (λ (d : DeclItem). d.decl) l.decls → weight (printed_declaration v.source.now) (both l.decls u.decls) ≤ w → w ≤ most + (a + b) →
      ((n : ℕ) → 0 < n → n ≤ most → ReachesLast found.others (named (order_keys_of v.indexed.now.marks) n (Share x y))) →
      (k : Step) → IsByDecls k → first_item k ≡ x → last_item k ≡ y → CoversIn v found k
  covered x y count a b most w u l at at' apart few_above few_below keeps_above keeps_below some once light fits late k by first last e n is saves more looked later =
      let share : k ≡ Share x y = is_share v.source.now v.indexed.now.items plannable.sound x y u l at at' count a b few_above few_below keeps_above keeps_below some k e by first last is in
      let few : n ≤ most = saves_few v.source.now v.indexed.now.items plannable.sound x y u l at at' count a b few_above few_below keeps_above keeps_below some (apart u l at at') once most w light fits e n
      (subst (λ (j : Step). IsStep v.indexed.now.items j e) share is) saves in
      inr (subst (λ (j : Step). ReachesLast found.others (named (order_keys_of v.indexed.now.marks) n j)) (sym share) (late n more few))

  pub poor_covers : (o : Focus) (other : ℕ) (theirs : RuleParts) (p : Partners) (common : Common) (most : ℕ) → slice_get v.indexed.now.items o.number ≡ Some (Rule o.rule.now) → slice_get v.indexed.now.items other ≡ Some (Rule theirs) →
      RulesApart v.indexed.now.items p.upper p.lower → AreFocusAnd o other p → IsPlain v.source.now o.rule.now → IsPlain v.source.now theirs → AreInCommon v.source.now o.rule.now theirs common → SavesAtMost v.source.now o.rule.now theirs common most →
      ((n : ℕ) → 0 < n → n ≤ most → ReachesLast found.others (named (order_keys_of v.indexed.now.marks) n (Share p.upper p.lower))) →
      (k : Step) → IsByDecls k → first_item k ≡ p.upper → last_item k ≡ p.lower → CoversIn v found k
  poor_covers o other theirs p common most at at' apart (inl (upper, lower)) (once, plain) (once', plain') (few, light) (a, b, keeps, keeps', some, fits) late k by first last =
      let few' : length (both o.rule.now.decls theirs.decls) ≤ common.count = (let e = few_exchanged theirs.decls o.rule.now.decls once' in omega (arith, e, few)) in
      let light' : weight (printed_declaration v.source.now) (both o.rule.now.decls theirs.decls) ≤ common.weight = (let e = light_exchanged v.source.now theirs.decls o.rule.now.decls once' plain' plain in omega (arith, e, light)) in
      covered p.upper p.lower common.count b a most common.weight theirs o.rule.now (ap (slice_get v.indexed.now.items) upper ∙ at') (ap (slice_get v.indexed.now.items) lower ∙ at) apart few' few keeps' keeps (omega (arith, some)) once light' (omega (arith, fits)) late k by first last
  poor_covers o other theirs p common most at at' apart (inr (upper, lower)) (once, plain) (once', plain') (few, light) (a, b, keeps, keeps', some, fits) late k by first last =
      let few' : length (both o.rule.now.decls theirs.decls) ≤ common.count = (let e = few_exchanged theirs.decls o.rule.now.decls once' in omega (arith, e, few)) in
      covered p.upper p.lower common.count a b most common.weight o.rule.now theirs (ap (slice_get v.indexed.now.items) upper ∙ at) (ap (slice_get v.indexed.now.items) lower ∙ at') apart few few' keeps keeps' some once' light fits late k by first last
