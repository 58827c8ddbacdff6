-- Pairs that no other rule has: no part of such a rule can be cut, and the rules that a step makes of such rules have such pairs.
use Rattle.std.proofs.Common.{◌≡◌, ◌≢◌, ◌⊎◌, ℕ, zero, suc, ◌+◌, ◌<◌, Bool, true, List, [], ◌∷◌, ◌++◌, length, map, Some, None, refl, sym, ap, ap₂, ◌∙◌, subst, inl, inr, arith}
use Rattle.std.specs.Prelude.{not, slice_get, take}
use Rattle.std.specs.List.{AllPairs, Contains, filter, remove}
use Rattle.std.proofs.lemmas.Bool.{cond_both, false≢true}
use Rattle.std.proofs.lemmas.List.{get_or_default}
use Rattle.cascade_laws.proofs.ForCallers.{rule-same, some-same}
use Rattle.css_model.specs.Cascade.Order.{HasPair, Pair}
use Rattle.css_model.specs.declared.sheet.Decl.{Decl}
use Rattle.css_model.specs.declared.sheet.DeclItem.{DeclItem}
use Rattle.css_model.specs.declared.sheet.Item.{Item}
use Rattle.css_model.specs.declared.sheet.Item.TheVariants.{Rule}
use Rattle.css_model.specs.declared.sheet.SelItem.{SelItem}
use Rattle.css_model.specs.Documents.SelectorParts.{SelectorParts}
use Rattle.css_model.specs.Sheets.RuleParts.{RuleParts}
use Rattle.css_model.specs.Sheets.StyleRule.{HaveSameSelectors, joined, selectors_of}
use Rattle.list_facts.proofs.Members.{Contains-cons_cases, Contains-filter, Contains-here, Contains-nil, Contains-there}
use Rattle.order_laws.proofs.ForCallers.{has_at, has_decl_is, has_selector_is, map_from}
use Rattle.order_laws.specs.Edits.{Change, Edit, Moved, edited, slots_from, whole_rule}
use Rattle.order_laws.specs.Members.{has_decl, has_selector}
use Rattle.order_laws.specs.Slots.{new_items}
use Rattle.pending_laws.proofs.Been.{stood}
use Rattle.pending_laws.proofs.Elsewhere.{replaced}
use Rattle.pending_laws.proofs.JoinedCuts.{left_in}
use Rattle.pending_laws.proofs.MadeParts.{both_in, common_in, filtered, in_sum, last_in, removed, step_in_parts}
use Rattle.pending_laws.proofs.Standing.{RuleElsewhere, WasLeft, WasPutIn, has_come, rule_elsewhere, standing}
use Rattle.pending_laws.specs.Facts.{HasNoCut, HasOwnPairs, HasParts}
use Rattle.plan_laws.specs.Barrier.Renumbering.{ItemsStay, Leaves, new_number}
use Rattle.plan_laws.specs.Barrier.SideBySide.{HasCome}
use Rattle.step_laws.specs.declared.step.Step.{Step}
use Rattle.step_laws.specs.declared.step.Step.TheVariants.{CutDecl, CutSel, JoinSelUp, JoinSelDown, JoinDeclUp, JoinDeclDown, Share}
use Rattle.step_laws.specs.RuleParting.{both_selectors, common_decls, each_last, item_if_any, rule_or_none, without_decls}
use Rattle.step_laws.specs.StepEdits.{AreRules, one_change, shared, two_changes}
use Rattle.step_laws.specs.Steps.{HasStep, HaveSameDecls, IsStep, decls_of, first_item, last_item}

-- ---- Lists in which each element is once

abbrev Distinct : {X : Type 0} → List X → Type 0
Distinct [] = Unit {0}
Distinct (x ∷ xs) = (Contains xs x → ⊥) × Distinct xs

once_from : {X : Type 0} (xs : List X) → AllPairs (λ x y. x ≢ y) xs → Distinct xs
once_from [] all = tt
once_from (x ∷ xs) all = (
  λ h. all 0 (suc h.0) x (omega arith) (let less = h.1 in omega (arith, less)) (sym h.2),
  once_from xs (λ i j d before within. all (suc i) (suc j) d (omega (arith, before)) (omega (arith, within))),
)

once_all : {X : Type 0} (xs : List X) → Distinct xs → AllPairs (λ x y. x ≢ y) xs
once_all [] once i j d before within = absurd (omega (arith, within))
once_all (x ∷ xs) once zero zero d before within = absurd (omega (arith, before))
once_all (x ∷ xs) once zero (suc j) d before within = λ e. let less : j < length xs = omega (arith, within) in once.0 (j, less, get_or_default xs j x d less ∙ sym e)
once_all (x ∷ xs) once (suc i) zero d before within = absurd (omega (arith, before))
once_all (x ∷ xs) once (suc i) (suc j) d before within = once_all xs once.1 i j d (omega (arith, before)) (omega (arith, within))

once_removed : {X Y : Type 0} (f : X → Y) (i : ℕ) (xs : List X) → Distinct (map f xs) → Distinct (map f (remove xs i))
once_removed f zero [] once = once
once_removed f (suc i) [] once = once
once_removed f zero (x ∷ xs) once = once.1
once_removed f (suc i) (x ∷ xs) once = ((λ h. once.0 (removed f i xs (f x) h)), once_removed f i xs once.1)

once_filtered : {X Y : Type 0} (f : X → Y) (keep : X → Bool) (xs : List X) → Distinct (map f xs) → Distinct (map f (filter keep xs))
once_filtered f keep [] once = tt
once_filtered {X} f keep (x ∷ xs) once = kept (once_filtered f keep xs once.1)
  where
    kept : Distinct (map f (filter keep xs)) → Distinct (map f (filter keep (x ∷ xs)))
    kept rest = cond_both (keep x) (x ∷ filter keep xs) (filter keep xs) (λ (ys : List X). Distinct (map f ys)) (λ yes. ((λ h. once.0 (filtered f keep xs (f x) h)), rest)) (λ no. rest)

once_joined : {X Y : Type 0} (f : X → Y) (xs ys : List X) → Distinct (map f xs) → Distinct (map f ys) → ((y : Y) → Contains (map f xs) y → Contains (map f ys) y → ⊥) → Distinct (map f (xs ++ ys))
once_joined f [] ys once others apart = others
once_joined f (x ∷ xs) ys once others apart = (
  λ h. which (in_sum f xs ys (f x) h),
  once_joined f xs ys once.1 others (λ y h k. apart y (Contains-there (f x) (map f xs) y h) k),
)
  where
    which : Contains (map f xs) (f x) ⊎ Contains (map f ys) (f x) → ⊥
    which (inl h) = once.0 h
    which (inr h) = apart (f x) (Contains-here (f x) (map f xs)) h

-- an element of a list in which each is once is not in the rest of it
abbrev OfNumber : {X Y : Type 0} → (X → Y) → List X → ℕ → Type 0
OfNumber {X} {Y} f xs i = (y : Y) × Contains (map f xs) y × (Distinct (map f xs) → Contains (map f (remove xs i)) y → ⊥)

of_number : {X Y : Type 0} (f : X → Y) (xs : List X) (i : ℕ) → i < length xs → OfNumber f xs i
of_number f [] i within = absurd (omega (arith, within))
of_number f (x ∷ xs) zero within = (f x, Contains-here (f x) (map f xs), λ once h. once.0 h)
of_number {X} {Y} f (x ∷ xs) (suc i) within = next (of_number f xs i (omega (arith, within)))
  where
    next : OfNumber f xs i → OfNumber f (x ∷ xs) (suc i)
    next w = (w.0, Contains-there (f x) (map f xs) w.0 w.1, λ once h. which once (Contains-cons_cases (f x) (map f (remove xs i)) w.0 h))
      where
        which : Distinct (map f (x ∷ xs)) → (f x ≡ w.0) ⊎ Contains (map f (remove xs i)) w.0 → ⊥
        which once (inl e) = once.0 (subst (Contains (map f xs)) (sym e) w.1)
        which once (inr h) = w.2 once.1 h

-- ---- Parts of rules

abbrev decl : DeclItem → Decl
decl d = d.decl

abbrev selector : SelItem → SelectorParts
selector s = s.selector

abbrev Once : RuleParts → Type 0
Once r = Distinct (selectors_of r) × ((s : SelectorParts) → Contains (selectors_of r) s → Distinct (decls_of r))

abbrev Has : RuleParts → SelectorParts → Decl → Type 0
Has r s d = Contains (selectors_of r) s × Contains (decls_of r) d

abbrev ArePairsApart : RuleParts → RuleParts → Type 0
ArePairsApart r q = (s : SelectorParts) (d : Decl) → Has r s d → Has q s d → ⊥

-- each pair of a rule is one of the upper or of the lower rule
abbrev IsOfPairs : RuleParts → RuleParts → RuleParts → Type 0
IsOfPairs u l q = (s : SelectorParts) (d : Decl) → Has q s d → Has u s d ⊎ Has l s d

lacks_gone : (gone ds : List DeclItem) (d : Decl) → Contains (map decl (filter (λ d. not (has_decl gone d.decl)) ds)) d → Contains (map decl gone) d → ⊥
lacks_gone gone ds d h k =
    let w : (x : DeclItem) × Contains (filter (λ d. not (has_decl gone d.decl)) ds) x × (x.decl ≡ d) = map_from decl (filter (λ d. not (has_decl gone d.decl)) ds) d h in
    let lacks : not (has_decl gone w.0.decl) ≡ true = (Contains-filter (λ (d : DeclItem). not (has_decl gone d.decl)) ds w.0 w.1).1 in
    let has : has_decl gone w.0.decl ≡ true = (has_decl_is gone w.0.decl).1 (subst (Contains (map decl gone)) (sym w.2) k) in
    false≢true (ap not (sym has) ∙ lacks)

common_in_upper : (u l : RuleParts) (d : Decl) → Contains (map decl (common_decls u l)) d → Contains (decls_of u) d
common_in_upper u l d h =
    let w : (x : DeclItem) × Contains (filter (λ d. has_decl u.decls d.decl) l.decls) x × (x.decl ≡ d) =
    map_from decl (filter (λ d. has_decl u.decls d.decl) l.decls) d (last_in (filter (λ d. has_decl u.decls d.decl) l.decls) d h) in
    subst (Contains (decls_of u)) w.2 ((has_decl_is u.decls w.0.decl).0 (Contains-filter (λ (d : DeclItem). has_decl u.decls d.decl) l.decls w.0 w.1).1)

once_last : (ds : List DeclItem) → Distinct (map decl (each_last ds))
once_last [] = tt
once_last (x ∷ ds) = kept (once_last ds)
  where
    kept : Distinct (map decl (each_last ds)) → Distinct (map decl (each_last (x ∷ ds)))
    kept rest = cond_both (has_decl ds x.decl) (each_last ds) (x ∷ each_last ds) (λ (ys : List DeclItem). Distinct (map decl ys)) (λ again. rest)
        (λ last. ((λ h. false≢true (sym last ∙ (has_decl_is ds x.decl).1 (last_in ds x.decl h))), rest))

once_both : (u l : RuleParts) → Distinct (selectors_of u) → Distinct (selectors_of l) → Distinct (map selector (both_selectors u l))
once_both u l upper lower =
    once_joined selector u.selectors (filter (λ s. not (has_selector u.selectors s.selector)) l.selectors) upper (once_filtered selector (λ (s : SelItem). not (has_selector u.selectors s.selector)) l.selectors lower) apart
  where
    apart : (s : SelectorParts) → Contains (selectors_of u) s → Contains (map selector (filter (λ s. not (has_selector u.selectors s.selector)) l.selectors)) s → ⊥
    apart s h k =
        let w : (x : SelItem) × Contains (filter (λ s. not (has_selector u.selectors s.selector)) l.selectors) x × (x.selector ≡ s) = map_from selector (filter (λ s. not (has_selector u.selectors s.selector)) l.selectors) s k in
        let lacks : not (has_selector u.selectors w.0.selector) ≡ true = (Contains-filter (λ (s : SelItem). not (has_selector u.selectors s.selector)) l.selectors w.0 w.1).1 in
        let has : has_selector u.selectors w.0.selector ≡ true = (has_selector_is u.selectors w.0.selector).1 (subst (Contains (selectors_of u)) (sym w.2) h) in
        false≢true (ap not (sym has) ∙ lacks)

-- ---- What a step puts in, and where

abbrev IsPut : Edit → ℕ → ℕ → RuleParts → Type 0
IsPut d n k q = (c : Change) × Contains d.changes c × (c.at ≡ n) × (slice_get c.by k ≡ Some (Rule q))

-- it is this rule alone, as the first item instead of the one of number `m`
abbrev IsOnly : ℕ → RuleParts → ℕ → ℕ → RuleParts → Type 0
IsOnly m r n k q = (n ≡ m) × (k ≡ 0) × (q ≡ r)

abbrev change : ℕ → List Item → Change
change n by = record { at = n; by = by }

no_item : (k : ℕ) (q : RuleParts) → slice_get [] k ≡ Some (Rule q) → ⊥
no_item k q at = let e : None ≡ Some (Rule q) = at in cc

only_rule : (r : RuleParts) (k : ℕ) (q : RuleParts) → slice_get (Rule r ∷ []) k ≡ Some (Rule q) → (k ≡ 0) × (q ≡ r)
only_rule r zero q at = (refl, sym (rule-same (some-same at)))
only_rule r (suc k) q at = absurd (no_item k q at)

if_any : (r : RuleParts) (ss : List SelItem) (ds : List DeclItem) (k : ℕ) (q : RuleParts) → slice_get (item_if_any ss ds r) k ≡ Some (Rule q) → (k ≡ 0) × (q ≡ r)
if_any r [] ds k q at = absurd (no_item k q at)
if_any r (s ∷ ss) [] k q at = absurd (no_item k q at)
if_any r (s ∷ ss) (d ∷ ds) k q at = only_rule r k q at

left_rule : (r : RuleParts) (k : ℕ) (q : RuleParts) → slice_get (rule_or_none r) k ≡ Some (Rule q) → (k ≡ 0) × (q ≡ r)
left_rule r k q at = if_any r r.selectors r.decls k q at

put_next : (m : ℕ) (by : List Item) (changes : List Change) (moved : Moved) (n k : ℕ) (q : RuleParts) → IsPut (record { changes = change m by ∷ changes; moved = moved }) n k q →
    ((n ≡ m) × (slice_get by k ≡ Some (Rule q))) ⊎ IsPut (record { changes = changes; moved = moved }) n k q
put_next m by changes moved n k q (c, inside, at, there) = which (Contains-cons_cases (change m by) changes c inside)
  where
    which : (change m by ≡ c) ⊎ Contains changes c → ((n ≡ m) × (slice_get by k ≡ Some (Rule q))) ⊎ IsPut (record { changes = changes; moved = moved }) n k q
    which (inl e) = inl (sym at ∙ sym (ap (λ (x : Change). x.at) e), subst (λ (x : Change). slice_get x.by k ≡ Some (Rule q)) (sym e) there)
    which (inr h) = inr (c, h, at, there)

put_one : (m : ℕ) (by : List Item) (moved : Moved) (n k : ℕ) (q : RuleParts) → IsPut (one_change m by moved) n k q → (n ≡ m) × (slice_get by k ≡ Some (Rule q))
put_one m by moved n k q put = which (put_next m by [] moved n k q put)
  where
    which : ((n ≡ m) × (slice_get by k ≡ Some (Rule q))) ⊎ IsPut (record { changes = []; moved = moved }) n k q → (n ≡ m) × (slice_get by k ≡ Some (Rule q))
    which (inl h) = h
    which (inr h) = absurd (Contains-nil h.0 h.1)

put_two : (x : ℕ) (above : List Item) (y : ℕ) (below : List Item) (moved : Moved) (n k : ℕ) (q : RuleParts) → IsPut (two_changes x above y below moved) n k q →
    ((n ≡ x) × (slice_get above k ≡ Some (Rule q))) ⊎ ((n ≡ y) × (slice_get below k ≡ Some (Rule q)))
put_two x above y below moved n k q put = which (put_next x above (change y below ∷ []) moved n k q put)
  where
    which : ((n ≡ x) × (slice_get above k ≡ Some (Rule q))) ⊎ IsPut (record { changes = change y below ∷ []; moved = moved }) n k q →
        ((n ≡ x) × (slice_get above k ≡ Some (Rule q))) ⊎ ((n ≡ y) × (slice_get below k ≡ Some (Rule q)))
    which (inl h) = inl h
    which (inr h) = inr (put_one y below moved n k q h)

cut_puts : (m : ℕ) (r : RuleParts) (moved : Moved) (n k : ℕ) (q : RuleParts) → IsPut (one_change m (rule_or_none r) moved) n k q → IsOnly m r n k q
cut_puts m r moved n k q put =
    let w : (n ≡ m) × (slice_get (rule_or_none r) k ≡ Some (Rule q)) = put_one m (rule_or_none r) moved n k q put in
    let v : (k ≡ 0) × (q ≡ r) = left_rule r k q w.1 in
    (w.0, v.0, v.1)

up_puts : (x y : ℕ) (r : RuleParts) (moved : Moved) (n k : ℕ) (q : RuleParts) → IsPut (two_changes x (Rule r ∷ []) y [] moved) n k q → IsOnly x r n k q
up_puts x y r moved n k q put = which (put_two x (Rule r ∷ []) y [] moved n k q put)
  where
    which : ((n ≡ x) × (slice_get (Rule r ∷ []) k ≡ Some (Rule q))) ⊎ ((n ≡ y) × (slice_get [] k ≡ Some (Rule q))) → IsOnly x r n k q
    which (inl h) = let v : (k ≡ 0) × (q ≡ r) = only_rule r k q h.1 in (h.0, v.0, v.1)
    which (inr h) = absurd (no_item k q h.1)

down_puts : (x y : ℕ) (r : RuleParts) (moved : Moved) (n k : ℕ) (q : RuleParts) → IsPut (two_changes x [] y (Rule r ∷ []) moved) n k q → IsOnly y r n k q
down_puts x y r moved n k q put = which (put_two x [] y (Rule r ∷ []) moved n k q put)
  where
    which : ((n ≡ x) × (slice_get [] k ≡ Some (Rule q))) ⊎ ((n ≡ y) × (slice_get (Rule r ∷ []) k ≡ Some (Rule q))) → IsOnly y r n k q
    which (inl h) = absurd (no_item k q h.1)
    which (inr h) = let v : (k ≡ 0) × (q ≡ r) = only_rule r k q h.1 in (h.0, v.0, v.1)

-- a share puts in what is left above, the common declarations below, and after them what is left below
data SharePuts (x y : ℕ) (u l : RuleParts) (n k : ℕ) (q : RuleParts) : Type 0 where
  above : n ≡ x → k ≡ 0 → q ≡ without_decls (common_decls u l) u → SharePuts x y u l n k q
  common : n ≡ y → k ≡ 0 → q ≡ shared u l → SharePuts x y u l n k q
  below : n ≡ y → k ≡ 1 → q ≡ without_decls (common_decls u l) l → SharePuts x y u l n k q

share_puts : (x y : ℕ) (u l : RuleParts) (moved : Moved) (n k : ℕ) (q : RuleParts) →
    IsPut (two_changes x (rule_or_none (without_decls (common_decls u l) u)) y (Rule (shared u l) ∷ rule_or_none (without_decls (common_decls u l) l)) moved) n k q → SharePuts x y u l n k q
share_puts x y u l moved n k q put = which (put_two x (rule_or_none (without_decls (common_decls u l) u)) y (Rule (shared u l) ∷ rule_or_none (without_decls (common_decls u l) l)) moved n k q put)
  where
    lower : n ≡ y → (i : ℕ) → k ≡ i → slice_get (Rule (shared u l) ∷ rule_or_none (without_decls (common_decls u l) l)) i ≡ Some (Rule q) → SharePuts x y u l n k q
    lower at zero is there = common at is (sym (rule-same (some-same there)))
    lower at (suc i) is there = let v : (i ≡ 0) × (q ≡ without_decls (common_decls u l) l) = left_rule (without_decls (common_decls u l) l) i q there in below at (is ∙ ap suc v.0) v.1

    which : ((n ≡ x) × (slice_get (rule_or_none (without_decls (common_decls u l) u)) k ≡ Some (Rule q)))
        ⊎ ((n ≡ y) × (slice_get (Rule (shared u l) ∷ rule_or_none (without_decls (common_decls u l) l)) k ≡ Some (Rule q))) → SharePuts x y u l n k q
    which (inl h) = let v : (k ≡ 0) × (q ≡ without_decls (common_decls u l) u) = left_rule (without_decls (common_decls u l) u) k q h.1 in above h.0 v.0 v.1
    which (inr h) = lower h.0 k refl h.1

-- A step with its pairs: its two rules, of a cut one; which pairs the rules that it puts in have; that each of their parts is in them
-- once; and which pairs two of them may have in common.
record StepInPairs (items : List Item) (j : Step) (d : Edit) : Type 0 where
  upper : RuleParts
  lower : RuleParts
  upper_at : slice_get items (first_item j) ≡ Some (Rule upper)
  lower_at : slice_get items (last_item j) ≡ Some (Rule lower)
  pairs : (n k : ℕ) (q : RuleParts) → IsPut d n k q → IsOfPairs upper lower q
  once : Once upper → Once lower → (first_item j ≢ last_item j → ArePairsApart upper lower) → (n k : ℕ) (q : RuleParts) → IsPut d n k q → Once q
  both : (n k : ℕ) (q : RuleParts) (n' k' : ℕ) (q' : RuleParts) → IsPut d n k q → IsPut d n' k' q' → (n ≡ n' → k ≡ k' → ⊥) → (s : SelectorParts) (x : Decl) → Has q s x → Has q' s x →
      Has upper s x × Has lower s x × (first_item j ≢ last_item j)

module _ (items : List Item) (j : Step) (d : Edit) (u l : RuleParts) (upper_at : slice_get items (first_item j) ≡ Some (Rule u)) (lower_at : slice_get items (last_item j) ≡ Some (Rule l)) where
  one_put : (m : ℕ) (r : RuleParts) → ((n k : ℕ) (q : RuleParts) → IsPut d n k q → IsOnly m r n k q) → IsOfPairs u l r →
      (Once u → Once l → (first_item j ≢ last_item j → ArePairsApart u l) → Once r) → StepInPairs items j d
  one_put m r only pairs once = record {
    upper = u;
    lower = l;
    upper_at = upper_at;
    lower_at = lower_at;
    pairs = λ n k q put. subst (IsOfPairs u l) (sym (only n k q put).2) pairs;
    once = λ a b apart n k q put. subst Once (sym (only n k q put).2) (once a b apart);
    both = λ n k q n' k' q' put put' other s x h h'.
        absurd (other ((only n k q put).0 ∙ sym (only n' k' q' put').0) ((only n k q put).1 ∙ sym (only n' k' q' put').1));
  }

less_apart : (x y : ℕ) → x < y → x ≢ y
less_apart x y less e = let f : x ≡ y = e in omega (arith, less, f)

-- ---- Of each kind

of_cut_decl : (items : List Item) (n i : ℕ) (r : RuleParts) (moved : Moved) → slice_get items n ≡ Some (Rule r) →
    StepInPairs items (CutDecl n i) (one_change n (rule_or_none (record { selectors = r.selectors; decls = remove r.decls i })) moved)
of_cut_decl items n i r moved at =
    one_put items (CutDecl n i) (one_change n (rule_or_none (record { selectors = r.selectors; decls = remove r.decls i })) moved) r r at at n (record { selectors = r.selectors; decls = remove r.decls i })
    (cut_puts n (record { selectors = r.selectors; decls = remove r.decls i }) moved)
    (λ s d h. inl (h.0, removed decl i r.decls d h.1))
    (λ a b apart. (a.0, λ s h. once_removed decl i r.decls (a.1 s h)))

of_cut_selector : (items : List Item) (n i : ℕ) (r : RuleParts) (moved : Moved) → slice_get items n ≡ Some (Rule r) →
    StepInPairs items (CutSel n i) (one_change n (rule_or_none (record { selectors = remove r.selectors i; decls = r.decls })) moved)
of_cut_selector items n i r moved at =
    one_put items (CutSel n i) (one_change n (rule_or_none (record { selectors = remove r.selectors i; decls = r.decls })) moved) r r at at n (record { selectors = remove r.selectors i; decls = r.decls })
    (cut_puts n (record { selectors = remove r.selectors i; decls = r.decls }) moved)
    (λ s d h. inl (removed selector i r.selectors s h.0, h.1))
    (λ a b apart. (once_removed selector i r.selectors a.0, λ s h. a.1 s (removed selector i r.selectors s h)))

module _ (u l : RuleParts) (same : HaveSameSelectors u l) (s : SelectorParts) where
  sum_pairs : (d : Decl) → Contains (selectors_of u) s → Contains (map decl (u.decls ++ l.decls)) d → Has u s d ⊎ Has l s d
  sum_pairs d h k = which (in_sum decl u.decls l.decls d k)
    where
      which : Contains (decls_of u) d ⊎ Contains (decls_of l) d → Has u s d ⊎ Has l s d
      which (inl g) = inl (h, g)
      which (inr g) = inr ((same s).0 h, g)

  sum_once : Once u → Once l → ArePairsApart u l → Contains (selectors_of u) s → Distinct (map decl (u.decls ++ l.decls))
  sum_once a b apart h = once_joined decl u.decls l.decls (a.1 s h) (b.1 s ((same s).0 h)) (λ d g k. apart s d (h, g) ((same s).0 h, k))

module _ (u l : RuleParts) (same : HaveSameDecls u l) (s : SelectorParts) where
  both_pairs : (d : Decl) → Contains (map selector (both_selectors u l)) s → Contains (decls_of u) d → Has u s d ⊎ Has l s d
  both_pairs d h k = which (both_in u l s h)
    where
      which : Contains (selectors_of u) s ⊎ Contains (selectors_of l) s → Has u s d ⊎ Has l s d
      which (inl g) = inl (g, k)
      which (inr g) = inr (g, subst (λ (ds : List Decl). Contains ds d) same k)

  both_once : Once u → Once l → Contains (map selector (both_selectors u l)) s → Distinct (decls_of u)
  both_once a b h = which (both_in u l s h)
    where
      which : Contains (selectors_of u) s ⊎ Contains (selectors_of l) s → Distinct (decls_of u)
      which (inl g) = a.1 s g
      which (inr g) = subst (λ (ds : List Decl). Distinct ds) (sym same) (b.1 s g)

module _ (items : List Item) (x y : ℕ) (u l : RuleParts) (rules : AreRules items x y u l) (moved : Moved) where
  of_join_selectors_up : HaveSameSelectors u l → StepInPairs items (JoinSelUp x y) (two_changes x (Rule (joined u l) ∷ []) y [] moved)
  of_join_selectors_up same =
      one_put items (JoinSelUp x y) (two_changes x (Rule (joined u l) ∷ []) y [] moved) u l rules.upper_at rules.lower_at x (joined u l) (up_puts x y (joined u l) moved)
      (λ s d h. sum_pairs u l same s d h.0 h.1)
      (λ a b apart. (a.0, λ s h. sum_once u l same s a b (apart (less_apart x y rules.in_order)) h))

  of_join_selectors_down : HaveSameSelectors u l → StepInPairs items (JoinSelDown x y) (two_changes x [] y (Rule (record { selectors = l.selectors; decls = u.decls ++ l.decls }) ∷ []) moved)
  of_join_selectors_down same =
      one_put items (JoinSelDown x y) (two_changes x [] y (Rule (record { selectors = l.selectors; decls = u.decls ++ l.decls }) ∷ []) moved) u l rules.upper_at rules.lower_at y
      (record { selectors = l.selectors; decls = u.decls ++ l.decls }) (down_puts x y (record { selectors = l.selectors; decls = u.decls ++ l.decls }) moved)
      (λ s d h. sum_pairs u l same s d ((same s).1 h.0) h.1)
      (λ a b apart. (b.0, λ s h. sum_once u l same s a b (apart (less_apart x y rules.in_order)) ((same s).1 h)))

  of_join_decls_up : HaveSameDecls u l → StepInPairs items (JoinDeclUp x y) (two_changes x (Rule (record { selectors = both_selectors u l; decls = u.decls }) ∷ []) y [] moved)
  of_join_decls_up same =
      one_put items (JoinDeclUp x y) (two_changes x (Rule (record { selectors = both_selectors u l; decls = u.decls }) ∷ []) y [] moved) u l rules.upper_at rules.lower_at x
      (record { selectors = both_selectors u l; decls = u.decls }) (up_puts x y (record { selectors = both_selectors u l; decls = u.decls }) moved)
      (λ s d h. both_pairs u l same s d h.0 h.1)
      (λ a b apart. (once_both u l a.0 b.0, λ s h. both_once u l same s a b h))

  of_join_decls_down : HaveSameDecls u l → StepInPairs items (JoinDeclDown x y) (two_changes x [] y (Rule (record { selectors = both_selectors u l; decls = l.decls }) ∷ []) moved)
  of_join_decls_down same =
      one_put items (JoinDeclDown x y) (two_changes x [] y (Rule (record { selectors = both_selectors u l; decls = l.decls }) ∷ []) moved) u l rules.upper_at rules.lower_at y
      (record { selectors = both_selectors u l; decls = l.decls }) (down_puts x y (record { selectors = both_selectors u l; decls = l.decls }) moved)
      (λ s d h. both_pairs u l same s d h.0 (subst (λ (ds : List Decl). Contains ds d) (sym same) h.1))
      (λ a b apart. (once_both u l a.0 b.0, λ s h. subst (λ (ds : List Decl). Distinct ds) same (both_once u l same s a b h)))

-- ---- Of a share

module _ (u l : RuleParts) where
  abbrev Rest : RuleParts → RuleParts
  Rest r = without_decls (common_decls u l) r

  rest_has : (r : RuleParts) (s : SelectorParts) (d : Decl) → Has (Rest r) s d → Has r s d
  rest_has r s d h = (h.0, filtered decl (λ (d : DeclItem). not (has_decl (common_decls u l) d.decl)) r.decls d h.1)

  rest_once : (r : RuleParts) → Once r → Once (Rest r)
  rest_once r a = (a.0, λ s h. once_filtered decl (λ (d : DeclItem). not (has_decl (common_decls u l) d.decl)) r.decls (a.1 s h))

  rest_lacks : (r : RuleParts) (s : SelectorParts) (d : Decl) → Has (Rest r) s d → Has (shared u l) s d → ⊥
  rest_lacks r s d h k = lacks_gone (common_decls u l) r.decls d h.1 k.1

  shared_pairs : IsOfPairs u l (shared u l)
  shared_pairs s d h = which (both_in u l s h.0)
    where
      which : Contains (selectors_of u) s ⊎ Contains (selectors_of l) s → Has u s d ⊎ Has l s d
      which (inl g) = inl (g, common_in_upper u l d h.1)
      which (inr g) = inr (g, common_in u l d h.1)

  shared_once : Once u → Once l → Once (shared u l)
  shared_once a b = (once_both u l a.0 b.0, λ s h. once_last (filter (λ d. has_decl u.decls d.decl) l.decls))

  module _ (x y n k : ℕ) (q : RuleParts) where
    share_pairs : SharePuts x y u l n k q → IsOfPairs u l q
    share_pairs (above at first is) = subst (IsOfPairs u l) (sym is) (λ s d h. inl (rest_has u s d h))
    share_pairs (common at first is) = subst (IsOfPairs u l) (sym is) shared_pairs
    share_pairs (below at second is) = subst (IsOfPairs u l) (sym is) (λ s d h. inr (rest_has l s d h))

    share_once : Once u → Once l → SharePuts x y u l n k q → Once q
    share_once a b (above at first is) = subst Once (sym is) (rest_once u a)
    share_once a b (common at first is) = subst Once (sym is) (shared_once a b)
    share_once a b (below at second is) = subst Once (sym is) (rest_once l b)

    module _ (n' k' : ℕ) (q' : RuleParts) (other : n ≡ n' → k ≡ k' → ⊥) (s : SelectorParts) (d : Decl) where
      share_both : SharePuts x y u l n k q → SharePuts x y u l n' k' q' → Has q s d → Has q' s d → Has u s d × Has l s d
      share_both (above at first is) (above at' first' is') h h' = absurd (other (at ∙ sym at') (first ∙ sym first'))
      share_both (above at first is) (common at' first' is') h h' = absurd (rest_lacks u s d (subst (λ (r : RuleParts). Has r s d) is h) (subst (λ (r : RuleParts). Has r s d) is' h'))
      share_both (above at first is) (below at' second' is') h h' = (rest_has u s d (subst (λ (r : RuleParts). Has r s d) is h), rest_has l s d (subst (λ (r : RuleParts). Has r s d) is' h'))
      share_both (common at first is) (above at' first' is') h h' = absurd (rest_lacks u s d (subst (λ (r : RuleParts). Has r s d) is' h') (subst (λ (r : RuleParts). Has r s d) is h))
      share_both (common at first is) (common at' first' is') h h' = absurd (other (at ∙ sym at') (first ∙ sym first'))
      share_both (common at first is) (below at' second' is') h h' = absurd (rest_lacks l s d (subst (λ (r : RuleParts). Has r s d) is' h') (subst (λ (r : RuleParts). Has r s d) is h))
      share_both (below at second is) (above at' first' is') h h' = (rest_has u s d (subst (λ (r : RuleParts). Has r s d) is' h'), rest_has l s d (subst (λ (r : RuleParts). Has r s d) is h))
      share_both (below at second is) (common at' first' is') h h' = absurd (rest_lacks l s d (subst (λ (r : RuleParts). Has r s d) is h) (subst (λ (r : RuleParts). Has r s d) is' h'))
      share_both (below at second is) (below at' second' is') h h' = absurd (other (at ∙ sym at') (second ∙ sym second'))

of_share : (items : List Item) (x y : ℕ) (u l : RuleParts) → AreRules items x y u l → (moved : Moved) →
    StepInPairs items (Share x y) (two_changes x (rule_or_none (without_decls (common_decls u l) u)) y (Rule (shared u l) ∷ rule_or_none (without_decls (common_decls u l) l)) moved)
of_share items x y u l rules moved = record {
  upper = u;
  lower = l;
  upper_at = rules.upper_at;
  lower_at = rules.lower_at;
  pairs = λ n k q put. share_pairs u l x y n k q (share_puts x y u l moved n k q put);
  once = λ a b apart n k q put. share_once u l x y n k q a b (share_puts x y u l moved n k q put);
  both = λ n k q n' k' q' put put' other s d h h'.
      let w : Has u s d × Has l s d = share_both u l x y n k q n' k' q' other s d (share_puts x y u l moved n k q put) (share_puts x y u l moved n' k' q' put') h h' in
      (w.0, w.1, less_apart x y rules.in_order);
}

step_in_pairs : (items : List Item) (j : Step) (d : Edit) → IsStep items j d → StepInPairs items j d
step_in_pairs items (CutDecl n i) d c = subst (StepInPairs items (CutDecl n i)) (sym c.is) (of_cut_decl items n i c.rule (whole_rule n c.rule) c.rule_at)
step_in_pairs items (CutSel n i) d c = subst (StepInPairs items (CutSel n i)) (sym c.is) (of_cut_selector items n i c.rule (whole_rule n c.rule) c.rule_at)
step_in_pairs items (JoinSelUp x y) d j = subst (StepInPairs items (JoinSelUp x y)) (sym j.is) (of_join_selectors_up items x y j.upper j.lower j.rules (whole_rule y j.lower) j.may)
step_in_pairs items (JoinSelDown x y) d j = subst (StepInPairs items (JoinSelDown x y)) (sym j.is) (of_join_selectors_down items x y j.upper j.lower j.rules (whole_rule x j.upper) j.may)
step_in_pairs items (JoinDeclUp x y) d j = subst (StepInPairs items (JoinDeclUp x y)) (sym j.is) (of_join_decls_up items x y j.upper j.lower j.rules (whole_rule y j.lower) j.may)
step_in_pairs items (JoinDeclDown x y) d j = subst (StepInPairs items (JoinDeclDown x y)) (sym j.is) (of_join_decls_down items x y j.upper j.lower j.rules (whole_rule x j.upper) j.may)
step_in_pairs items (Share x y) d j =
    subst (StepInPairs items (Share x y)) (sym j.is) (of_share items x y j.upper j.lower j.rules (record { out_of = x ∷ y ∷ []; selectors = both_selectors j.upper j.lower; decls = common_decls j.upper j.lower }))

-- ---- After a step

rule_once : (items : List Item) (n : ℕ) (r : RuleParts) → HasOwnPairs items n → slice_get items n ≡ Some (Rule r) → Once r
rule_once items n r own at = (once_from (selectors_of r) (own.selectors_once r at), λ s h. once_from (decls_of r) (own.decls_once r s at h))

module _ (items : List Item) (j : Step) (d : Edit) (is : IsStep items j d) where
  w : StepInPairs items j d
  w = step_in_pairs items j d is

  leaves_both : (n : ℕ) → Leaves d n → (first_item j ≢ n) × (last_item j ≢ n)
  leaves_both = (step_in_parts items j d is).leaves

  -- the pairs of a rule that is put in are those of its two rules
  module _ (m : ℕ) (q : RuleParts) (v : WasPutIn d.changes 0 items m (Rule q)) where
    put : IsPut d v.change.at v.place q
    put = (v.change, v.inside, refl, v.at)

    put_pairs : IsOfPairs w.upper w.lower q
    put_pairs = w.pairs v.change.at v.place q put

  left_apart : (m : ℕ) (q : RuleParts) → (v : WasLeft d.changes 0 items m (Rule q)) → Leaves d v.number
  left_apart m q v = let e : 0 + v.number ≡ v.number = omega arith in subst (Leaves d) e v.apart

  module _ (first : HasOwnPairs items (first_item j)) (last : HasOwnPairs items (last_item j)) (n : ℕ) (not_come : HasCome d items n → ⊥) where
    pairs_apart : first_item j ≢ last_item j → ArePairsApart w.upper w.lower
    pairs_apart ne s x a b = first.own (last_item j) w.upper w.lower s x (λ e. ne (sym e)) w.upper_at w.lower_at a.0 a.1 b.0 b.1

    made : (r : RuleParts) → slice_get (edited d items) n ≡ Some (Rule r) → WasPutIn d.changes 0 items n (Rule r)
    made r at = which (standing d.changes 0 items n (Rule r) at)
      where
        which : WasLeft d.changes 0 items n (Rule r) ⊎ WasPutIn d.changes 0 items n (Rule r) → WasPutIn d.changes 0 items n (Rule r)
        which (inl v) = absurd (not_come (has_come d items n (Rule r) v))
        which (inr v) = v

    made_once : (r : RuleParts) → slice_get (edited d items) n ≡ Some (Rule r) → Once r
    made_once r at =
        let v : WasPutIn d.changes 0 items n (Rule r) = made r at in
        w.once (rule_once items (first_item j) w.upper first w.upper_at) (rule_once items (last_item j) w.lower last w.lower_at) pairs_apart v.change.at v.place r (put n r v)

    module _ (m : ℕ) (r q : RuleParts) (s : SelectorParts) (x : Decl) (apart : m ≢ n) (v : WasPutIn d.changes 0 items n (Rule r)) (in_r : Has r s x) (in_q : Has q s x) where
      apart_left : WasLeft d.changes 0 items m (Rule q) → ⊥
      apart_left left = which (put_pairs n r v s x in_r)
        where
          others : (first_item j ≢ left.number) × (last_item j ≢ left.number)
          others = leaves_both left.number (left_apart m q left)

          which : Has w.upper s x ⊎ Has w.lower s x → ⊥
          which (inl h) = first.own left.number w.upper q s x (λ e. others.0 (sym e)) w.upper_at left.at h.0 h.1 in_q.0 in_q.1
          which (inr h) = last.own left.number w.lower q s x (λ e. others.1 (sym e)) w.lower_at left.at h.0 h.1 in_q.0 in_q.1

      same_number : (v' : WasPutIn d.changes 0 items m (Rule q)) → v.change.at ≡ v'.change.at → v.place ≡ v'.place → m ≡ n
      same_number v' at place =
          let a = v.number_is in
          let b = v'.number_is in
          let number : v'.number ≡ v.number = omega (arith, a, b, at) in
          sym v'.is ∙ ap₂ (λ (i k : ℕ). length (new_items (slots_from 0 d.changes (take i items))) + k) number (sym place) ∙ v.is

      apart_made : WasPutIn d.changes 0 items m (Rule q) → ⊥
      apart_made v' =
          let h : Has w.upper s x × Has w.lower s x × (first_item j ≢ last_item j) =
          w.both v.change.at v.place r v'.change.at v'.place q (put n r v) (put m q v') (λ at place. apart (same_number v' at place)) s x in_r in_q in
          pairs_apart h.2 s x h.0 h.1

    made_own : HasOwnPairs (edited d items) n
    made_own = record {
      selectors_once = λ r at. once_all (selectors_of r) (made_once r at).0;
      decls_once = λ r s at h. once_all (decls_of r) ((made_once r at).1 s h);
      own = λ m r q s x apart r_at q_at a b a' b'. elim (standing d.changes 0 items m (Rule q) q_at) [
        | inl left ↦ apart_left m r q s x apart (made r r_at) (a, b) (a', b') left
        | inr v' ↦ apart_made m r q s x apart (made r r_at) (a, b) (a', b') v'
      ];
    }

  module _ (stay : ItemsStay) (n : ℕ) (leaves : Leaves d n) (less : n < length items) (own : HasOwnPairs items n) where
    there : (r : RuleParts) → slice_get (edited d items) (new_number d items n) ≡ Some (Rule r) → slice_get items n ≡ Some (Rule r)
    there r at = stood stay d items n (Rule r) leaves less at

    module _ (m : ℕ) (r q : RuleParts) (s : SelectorParts) (x : Decl) (apart : m ≢ new_number d items n) (at : slice_get items n ≡ Some (Rule r)) (in_r : Has r s x) (in_q : Has q s x) where
      left_and_left : WasLeft d.changes 0 items m (Rule q) → ⊥
      left_and_left v = own.own v.number r q s x (λ e. apart (sym v.is ∙ ap (new_number d items) e)) at v.at in_r.0 in_r.1 in_q.0 in_q.1

      left_and_made : WasPutIn d.changes 0 items m (Rule q) → ⊥
      left_and_made v = which (put_pairs m q v s x in_q)
        where
          which : Has w.upper s x ⊎ Has w.lower s x → ⊥
          which (inl h) = own.own (first_item j) r w.upper s x (leaves_both n leaves).0 at w.upper_at in_r.0 in_r.1 h.0 h.1
          which (inr h) = own.own (last_item j) r w.lower s x (leaves_both n leaves).1 at w.lower_at in_r.0 in_r.1 h.0 h.1

    left_own : HasOwnPairs (edited d items) (new_number d items n)
    left_own = record {
      selectors_once = λ r at. own.selectors_once r (there r at);
      decls_once = λ r s at h. own.decls_once r s (there r at) h;
      own = λ m r q s x apart r_at q_at a b a' b'. elim (standing d.changes 0 items m (Rule q) q_at) [
        | inl v ↦ left_and_left m r q s x apart (there r r_at) (a, b) (a', b') v
        | inr v ↦ left_and_made m r q s x apart (there r r_at) (a, b) (a', b') v
      ];
    }

pub own_pairs_go_on : ItemsStay → (items : List Item) (j : Step) (d : Edit) → IsStep items j d →
    (HasOwnPairs items (first_item j) → HasOwnPairs items (last_item j) → (n : ℕ) → (HasCome d items n → ⊥) → HasOwnPairs (edited d items) n)
    × ((n : ℕ) → Leaves d n → n < length items → HasOwnPairs items n → HasOwnPairs (edited d items) (new_number d items n))
own_pairs_go_on stay items j d is = (
  λ first last n not_come. made_own items j d is first last n not_come,
  λ n leaves less own. left_own items j d is stay n leaves less own,
)

-- ---- Cuts

module _ (items : List Item) (n : ℕ) (own : HasOwnPairs items n) (r : RuleParts) (at : slice_get items n ≡ Some (Rule r)) (q : RuleParts) (moved : Moved) (s : SelectorParts) (x : Decl) where
  stays_in_rule : Has r s x → ((p : Pair) → HasPair items p → HasPair (edited (one_change n (rule_or_none q) moved) items) p) → Has q s x
  stays_in_rule h stays = which ((replaced items n (rule_or_none q) moved (Rule r) p at).0 (stays p (has_at items n r p at h)))
    where
      p : Pair
      p = record { selector = s; decl = x }

      elsewhere : RuleElsewhere items n p → ⊥
      elsewhere (m, other, r', at', h') = own.own m r r' s x other at at' h.0 h.1 h'.0 h'.1

      which : HasPair (rule_or_none q) p ⊎ HasPair (remove items n) p → Has q s x
      which (inl g) = left_in q p g
      which (inr g) = absurd (elsewhere (rule_elsewhere items n p g))

no_decl_cut : (items : List Item) (n : ℕ) → HasParts items n → HasOwnPairs items n → (i : ℕ) → HasStep items (CutDecl n i) → ⊥
no_decl_cut items n parts own i (e, c) =
    let s : OfNumber selector c.rule.selectors 0 = of_number selector c.rule.selectors 0 (parts c.rule c.rule_at).0 in
    let x : OfNumber decl c.rule.decls i = of_number decl c.rule.decls i c.part in
    x.2 ((rule_once items n c.rule own c.rule_at).1 s.0 s.1)
    (stays_in_rule items n own c.rule c.rule_at (record { selectors = c.rule.selectors; decls = remove c.rule.decls i }) (whole_rule n c.rule) s.0 x.0 (s.1, x.1) c.no_pair_goes).1

no_selector_cut : (items : List Item) (n : ℕ) → HasParts items n → HasOwnPairs items n → (i : ℕ) → HasStep items (CutSel n i) → ⊥
no_selector_cut items n parts own i (e, c) =
    let s : OfNumber selector c.rule.selectors i = of_number selector c.rule.selectors i c.part in
    let x : OfNumber decl c.rule.decls 0 = of_number decl c.rule.decls 0 (parts c.rule c.rule_at).1 in
    s.2 (rule_once items n c.rule own c.rule_at).0
    (stays_in_rule items n own c.rule c.rule_at (record { selectors = remove c.rule.selectors i; decls = c.rule.decls }) (whole_rule n c.rule) s.0 x.0 (s.1, x.1) c.no_pair_goes).0

pub own_pairs_have_no_cut : (items : List Item) (n : ℕ) → HasParts items n → HasOwnPairs items n → HasNoCut items n
own_pairs_have_no_cut items n parts own (CutDecl m i) not_two is has = no_decl_cut items n parts own i (subst (λ (k : ℕ). HasStep items (CutDecl k i)) is has)
own_pairs_have_no_cut items n parts own (CutSel m i) not_two is has = no_selector_cut items n parts own i (subst (λ (k : ℕ). HasStep items (CutSel k i)) is has)
own_pairs_have_no_cut items n parts own (JoinSelUp x y) not_two is has = absurd (not_two tt)
own_pairs_have_no_cut items n parts own (JoinSelDown x y) not_two is has = absurd (not_two tt)
own_pairs_have_no_cut items n parts own (JoinDeclUp x y) not_two is has = absurd (not_two tt)
own_pairs_have_no_cut items n parts own (JoinDeclDown x y) not_two is has = absurd (not_two tt)
own_pairs_have_no_cut items n parts own (Share x y) not_two is has = absurd (not_two tt)
