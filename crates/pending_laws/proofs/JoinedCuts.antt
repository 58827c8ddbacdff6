-- Of the rule that a join makes no part can be cut, where none of its two rules could: each cut of it was one of them.
use Rattle.std.proofs.Common.{◌≡◌, ◌≢◌, ◌⊎◌, ◌↔◌, ℕ, zero, suc, ◌+◌, ◌-◌, ◌<◌, ◌≤◌, Bool, true, false, List, [], ◌∷◌, ◌++◌, length, map, Some, refl, sym, ap, ◌∙◌, subst, inl, inr, arith}
use Rattle.std.specs.Prelude.{not, slice_get}
use Rattle.std.specs.List.{Contains, filter, remove}
use Rattle.std.proofs.lemmas.Bool.{cond-false, cond-true}
use Rattle.std.proofs.lemmas.List.{length-append, map-append}
use Rattle.std.proofs.lemmas.List.Edits.{remove-append_left, remove-append_right}
use Rattle.std.proofs.lemmas.List.Elements.{Contains-append_left, Contains-append_right}
use Rattle.cascade_laws.proofs.ForCallers.{rule-same}
use Rattle.css_model.specs.declared.sheet.Decl.{Decl}
use Rattle.css_model.specs.declared.sheet.DeclItem.{DeclItem}
use Rattle.css_model.specs.declared.sheet.Item.{Item}
use Rattle.css_model.specs.declared.sheet.Item.TheVariants.{Rule}
use Rattle.css_model.specs.declared.sheet.SelItem.{SelItem}
use Rattle.css_model.specs.Cascade.Order.{Pair, HasPair}
use Rattle.css_model.specs.Documents.SelectorParts.{SelectorParts}
use Rattle.css_model.specs.Sheets.RuleParts.{RuleParts}
use Rattle.css_model.specs.Sheets.StyleRule.{HaveSameSelectors, joined, selectors_of}
use Rattle.pending_laws.proofs.Elsewhere.{here_or_elsewhere, replaced, stands_elsewhere}
use Rattle.pending_laws.proofs.Joined.{IsJoined, is_made, joined_down, joined_up, stood_elsewhere}
use Rattle.pending_laws.proofs.MadeParts.{filtered, in_sum}
use Rattle.pending_laws.specs.declared.way.Way.{Way}
use Rattle.pending_laws.specs.declared.way.Way.TheVariants.{Up, Down}
use Rattle.pending_laws.specs.Facts.{HasNoCut}
use Rattle.pending_laws.specs.Ways.{IsMove}
use Rattle.list_facts.proofs.Members.{Contains-filtered, Contains-nil}
use Rattle.order_laws.proofs.ForCallers.{InRule, decls, sels, has_at, has_rule, has_selector_is, map_from, map_has}
use Rattle.order_laws.specs.Edits.{Edit, Moved, edited, whole_rule}
use Rattle.order_laws.specs.Members.{has_selector}
use Rattle.step_laws.specs.declared.step.Step.{Step}
use Rattle.step_laws.specs.declared.step.Step.TheVariants.{CutDecl, CutSel, JoinSelUp, JoinSelDown, JoinDeclUp, JoinDeclDown, Share}
use Rattle.step_laws.specs.RuleParting.{both_selectors, item_if_any, rule_or_none}
use Rattle.step_laws.specs.StepEdits.{cut_decl, cut_selector, one_change}
use Rattle.step_laws.specs.Steps.{HaveSameDecls, IsStep, first_item, last_item}
use Rattle.plan_laws.specs.Barrier.SideBySide.{HasCome}

-- ---- Members of lists that are joined

abbrev decl : DeclItem → Decl
decl d = d.decl

abbrev selector : SelItem → SelectorParts
selector s = s.selector

to_front : {X Y : Type 0} (f : X → Y) (xs ys : List X) (y : Y) → Contains (map f xs) y → Contains (map f (xs ++ ys)) y
to_front {X} {Y} f xs ys y h = subst (λ (zs : List Y). Contains zs y) (sym (map-append f xs ys)) (Contains-append_left (map f xs) (map f ys) y h)

to_back : {X Y : Type 0} (f : X → Y) (xs ys : List X) (y : Y) → Contains (map f ys) y → Contains (map f (xs ++ ys)) y
to_back {X} {Y} f xs ys y h = subst (λ (zs : List Y). Contains zs y) (sym (map-append f xs ys)) (Contains-append_right (map f xs) (map f ys) y h)

-- without an element of the first list, and without one of the second
in_front : {X Y : Type 0} (f : X → Y) (xs ys : List X) (i : ℕ) (y : Y) → i < length xs → Contains (map f (remove (xs ++ ys) i)) y → Contains (map f (remove xs i)) y ⊎ Contains (map f ys) y
in_front {X} f xs ys i y less h = in_sum f (remove xs i) ys y (subst (λ (zs : List X). Contains (map f zs) y) (remove-append_left xs ys i less) h)

in_back : {X Y : Type 0} (f : X → Y) (xs ys : List X) (i : ℕ) (y : Y) → length xs ≤ i → Contains (map f (remove (xs ++ ys) i)) y → Contains (map f xs) y ⊎ Contains (map f (remove ys (i - length xs))) y
in_back {X} f xs ys i y least h = in_sum f xs (remove ys (i - length xs)) y (subst (λ (zs : List X). Contains (map f zs) y) (remove-append_right xs ys (length xs) i refl least) h)

which_less : (m n : ℕ) → (m < n) ⊎ (n ≤ m)
which_less zero zero = inr (omega arith)
which_less zero (suc n) = inl (omega arith)
which_less (suc m) zero = inr (omega arith)
which_less (suc m) (suc n) = which (which_less m n)
  where
    which : (m < n) ⊎ (n ≤ m) → (suc m < suc n) ⊎ (suc n ≤ suc m)
    which (inl h) = inl (omega (arith, h))
    which (inr h) = inr (omega (arith, h))

behind_less : {X : Type 0} (xs ys : List X) (i : ℕ) → i < length (xs ++ ys) → length xs ≤ i → i - length xs < length ys
behind_less xs ys i less least = let e : length (xs ++ ys) ≡ length xs + length ys = length-append xs ys in omega (arith, e, less, least)

-- an element that a filter keeps has a number in the whole list
abbrev KeptAt : {X : Type 0} → (X → Bool) → List X → ℕ → Type 0
KeptAt keep xs j = (k : ℕ) × (k < length xs) × (remove (filter keep xs) j ≡ filter keep (remove xs k))

kept_at : {X : Type 0} (keep : X → Bool) (xs : List X) (j : ℕ) → j < length (filter keep xs) → KeptAt keep xs j
kept_at keep [] j less = absurd (omega (arith, less))
kept_at {X} keep (x ∷ xs) j less = which (λ i within. kept_at keep xs i within) (keep x) refl
  where
    first : ((i : ℕ) → i < length (filter keep xs) → KeptAt keep xs i) → keep x ≡ true → (i : ℕ) → i < length (x ∷ filter keep xs) → (k : ℕ) × (k < length (x ∷ xs)) × (remove (x ∷ filter keep xs) i ≡ filter keep (remove (x ∷ xs) k))
    first rest e zero within = (0, omega arith, refl)
    first rest e (suc i) within =
        let w : KeptAt keep xs i = rest i (omega (arith, within)) in
        (suc w.0, (let h = w.1 in omega (arith, h)), ap (λ (zs : List X). x ∷ zs) w.2 ∙ sym (cond-true (keep x) (x ∷ filter keep (remove xs w.0)) (filter keep (remove xs w.0)) e))

    which : ((i : ℕ) → i < length (filter keep xs) → KeptAt keep xs i) → (b : Bool) → keep x ≡ b → KeptAt keep (x ∷ xs) j
    which rest true e =
        let is : filter keep (x ∷ xs) ≡ x ∷ filter keep xs = cond-true (keep x) (x ∷ filter keep xs) (filter keep xs) e in
        let w : (k : ℕ) × (k < length (x ∷ xs)) × (remove (x ∷ filter keep xs) j ≡ filter keep (remove (x ∷ xs) k)) = first rest e j (subst (λ (zs : List X). j < length zs) is less) in
        (w.0, w.1, ap (λ (zs : List X). remove zs j) is ∙ w.2)
    which rest false e =
        let is : filter keep (x ∷ xs) ≡ filter keep xs = cond-false (keep x) (x ∷ filter keep xs) (filter keep xs) e in
        let w : KeptAt keep xs j = rest j (subst (λ (zs : List X). j < length zs) is less) in
        (suc w.0, (let h = w.1 in omega (arith, h)), ap (λ (zs : List X). remove zs j) is ∙ w.2 ∙ sym (cond-false (keep x) (x ∷ filter keep (remove xs w.0)) (filter keep (remove xs w.0)) e))

-- ---- What is left of a rule

nowhere : (p : Pair) → HasPair [] p → ⊥
nowhere p w = let e = w.1.rule_at in cc

if_any_in : (r : RuleParts) (p : Pair) (ss : List SelItem) (ds : List DeclItem) → HasPair (item_if_any ss ds r) p → InRule r p
if_any_in r p [] ds h = absurd (nowhere p h)
if_any_in r p (s ∷ ss) [] h = absurd (nowhere p h)
if_any_in r p (s ∷ ss) (d ∷ ds) h = (has_rule r p).0 h

pub left_in : (r : RuleParts) (p : Pair) → HasPair (rule_or_none r) p → InRule r p
left_in r p h = if_any_in r p r.selectors r.decls h

in_if_any : (r : RuleParts) (p : Pair) (ss : List SelItem) (ds : List DeclItem) → Contains (sels ss) p.selector → Contains (decls ds) p.decl → InRule r p → HasPair (item_if_any ss ds r) p
in_if_any r p [] ds selector_in decl_in h = absurd (Contains-nil p.selector selector_in)
in_if_any r p (s ∷ ss) [] selector_in decl_in h = absurd (Contains-nil p.decl decl_in)
in_if_any r p (s ∷ ss) (d ∷ ds) selector_in decl_in h = (has_rule r p).1 h

in_left : (r : RuleParts) (p : Pair) → InRule r p → HasPair (rule_or_none r) p
in_left r p h = in_if_any r p r.selectors r.decls h.0 h.1 h

-- ---- A cut of the made rule was one of one of the two

abbrev NoPairGoes : List Item → Edit → Type 0
NoPairGoes items e = (p : Pair) → HasPair items p → HasPair (edited e items) p

-- One of the two rules is cut, the other one not: the pairs of the first that are left in the made rule are left in it, or
-- stand in the other one.
no_pair_went : (items new : List Item) (m other n : ℕ) (r r' q made made' : RuleParts) (moved moved' : Moved) →
    slice_get items m ≡ Some (Rule r) → slice_get items other ≡ Some (Rule q) → other ≢ m → slice_get new n ≡ Some (Rule made) →
    ((p : Pair) → HasPair (remove new n) p → HasPair (remove items m) p) → ((p : Pair) → InRule r p → InRule made p) →
    ((p : Pair) → InRule r p → InRule made' p → InRule r' p ⊎ InRule q p) →
    NoPairGoes new (one_change n (rule_or_none made') moved') → NoPairGoes items (one_change m (rule_or_none r') moved)
no_pair_went items new m other n r r' q made made' moved moved' r_at q_at apart made_at elsewhere is_in is_left none p has = which (here_or_elsewhere items m (Rule r) p r_at has)
  where
    back : HasPair (rule_or_none r') p ⊎ HasPair (remove items m) p → HasPair (edited (one_change m (rule_or_none r') moved) items) p
    back h = (replaced items m (rule_or_none r') moved (Rule r) p r_at).1 h

    left : InRule r' p ⊎ InRule q p → HasPair (edited (one_change m (rule_or_none r') moved) items) p
    left (inl h) = back (inl (in_left r' p h))
    left (inr h) = back (inr (stands_elsewhere items other m q p q_at h apart))

    still : InRule r p → HasPair (rule_or_none made') p ⊎ HasPair (remove new n) p → HasPair (edited (one_change m (rule_or_none r') moved) items) p
    still h (inl g) = left (is_left p h (left_in made' p g))
    still h (inr g) = back (inr (elsewhere p g))

    which : HasPair (Rule r ∷ []) p ⊎ HasPair (remove items m) p → HasPair (edited (one_change m (rule_or_none r') moved) items) p
    which (inl h) =
        let g : InRule r p = (has_rule r p).0 h in
        still g ((replaced new n (rule_or_none made') moved' (Rule made) p made_at).0 (none p (has_at new n made p made_at (is_in p g))))
    which (inr h) = back (inr h)

module _ (items : List Item) (d : Edit) (u l made : RuleParts) (x y z n : ℕ) (is : IsJoined items d u l made x y z) (not_come : HasCome d items n → ⊥) (first : HasNoCut items x) (last : HasNoCut items y) where
  abbrev WasDeclCut : Type 0
  WasDeclCut = (i : ℕ) → i < length made.decls → slice_get (edited d items) n ≡ Some (Rule made) → NoPairGoes (edited d items) (cut_decl n i made) → ⊥

  abbrev WasSelectorCut : Type 0
  WasSelectorCut = (i : ℕ) → i < length made.selectors → slice_get (edited d items) n ≡ Some (Rule made) → NoPairGoes (edited d items) (cut_selector n i made) → ⊥

  -- no part can be cut, where none of either kind can
  no_cut : WasDeclCut → WasSelectorCut → HasNoCut (edited d items) n
  no_cut decl_cut selector_cut (CutDecl m i) one same (e, c) = decl_cut i (subst (λ (r : RuleParts). i < length r.decls) rule_is c.part) made_at
      (subst (λ (r : RuleParts). NoPairGoes (edited d items) (cut_decl n i r)) rule_is (subst (λ (k : ℕ). NoPairGoes (edited d items) (cut_decl k i c.rule)) same c.no_pair_goes))
    where
      at : slice_get (edited d items) n ≡ Some (Rule c.rule)
      at = subst (λ (k : ℕ). slice_get (edited d items) k ≡ Some (Rule c.rule)) same c.rule_at

      rule_is : c.rule ≡ made
      rule_is = rule-same (is_made items d u l made x y z is n (Rule c.rule) at not_come).0

      made_at : slice_get (edited d items) n ≡ Some (Rule made)
      made_at = subst (λ (r : RuleParts). slice_get (edited d items) n ≡ Some (Rule r)) rule_is at
  no_cut decl_cut selector_cut (CutSel m i) one same (e, c) = selector_cut i (subst (λ (r : RuleParts). i < length r.selectors) rule_is c.part) made_at
      (subst (λ (r : RuleParts). NoPairGoes (edited d items) (cut_selector n i r)) rule_is (subst (λ (k : ℕ). NoPairGoes (edited d items) (cut_selector k i c.rule)) same c.no_pair_goes))
    where
      at : slice_get (edited d items) n ≡ Some (Rule c.rule)
      at = subst (λ (k : ℕ). slice_get (edited d items) k ≡ Some (Rule c.rule)) same c.rule_at

      rule_is : c.rule ≡ made
      rule_is = rule-same (is_made items d u l made x y z is n (Rule c.rule) at not_come).0

      made_at : slice_get (edited d items) n ≡ Some (Rule made)
      made_at = subst (λ (r : RuleParts). slice_get (edited d items) n ≡ Some (Rule r)) rule_is at
  no_cut decl_cut selector_cut (JoinSelUp a b) one same h = one tt
  no_cut decl_cut selector_cut (JoinSelDown a b) one same h = one tt
  no_cut decl_cut selector_cut (JoinDeclUp a b) one same h = one tt
  no_cut decl_cut selector_cut (JoinDeclDown a b) one same h = one tt
  no_cut decl_cut selector_cut (Share a b) one same h = one tt

  apart : x ≢ y
  apart e = absurd (let less = is.rules.in_order in let f : x ≡ y = e in omega (arith, less, f))

  elsewhere : slice_get (edited d items) n ≡ Some (Rule made) → (p : Pair) → HasPair (remove (edited d items) n) p → HasPair (remove items x) p × HasPair (remove items y) p
  elsewhere at = stood_elsewhere items d u l made x y z is n (is_made items d u l made x y z is n (Rule made) at not_come).1

  -- what becomes of a cut of each of the two rules
  upper_decl : (i : ℕ) → i < length u.decls → (made' : RuleParts) (moved' : Moved) → slice_get (edited d items) n ≡ Some (Rule made) → ((p : Pair) → InRule u p → InRule made p) →
      ((p : Pair) → InRule u p → InRule made' p → InRule (record { selectors = u.selectors; decls = remove u.decls i }) p ⊎ InRule l p) → NoPairGoes (edited d items) (one_change n (rule_or_none made') moved') → ⊥
  upper_decl i part made' moved' at is_in is_left none = first (CutDecl x i) (λ h. h) refl (
    cut_decl x i u,
    record {
      rule = u;
      rule_at = is.rules.upper_at;
      part = part;
      no_pair_goes =
          no_pair_went items (edited d items) x y n u (record { selectors = u.selectors; decls = remove u.decls i }) l made made' (whole_rule x u) moved' is.rules.upper_at is.rules.lower_at (λ e. apart (sym e)) at (λ p h. (elsewhere at p h).0) is_in is_left none;
      is = refl;
    },
  )

  lower_decl : (i : ℕ) → i < length l.decls → (made' : RuleParts) (moved' : Moved) → slice_get (edited d items) n ≡ Some (Rule made) → ((p : Pair) → InRule l p → InRule made p) →
      ((p : Pair) → InRule l p → InRule made' p → InRule (record { selectors = l.selectors; decls = remove l.decls i }) p ⊎ InRule u p) → NoPairGoes (edited d items) (one_change n (rule_or_none made') moved') → ⊥
  lower_decl i part made' moved' at is_in is_left none = last (CutDecl y i) (λ h. h) refl (
    cut_decl y i l,
    record {
      rule = l;
      rule_at = is.rules.lower_at;
      part = part;
      no_pair_goes =
          no_pair_went items (edited d items) y x n l (record { selectors = l.selectors; decls = remove l.decls i }) u made made' (whole_rule y l) moved' is.rules.lower_at is.rules.upper_at apart at (λ p h. (elsewhere at p h).1) is_in is_left none;
      is = refl;
    },
  )

  upper_selector : (i : ℕ) → i < length u.selectors → (made' : RuleParts) (moved' : Moved) → slice_get (edited d items) n ≡ Some (Rule made) → ((p : Pair) → InRule u p → InRule made p) →
      ((p : Pair) → InRule u p → InRule made' p → InRule (record { selectors = remove u.selectors i; decls = u.decls }) p ⊎ InRule l p) → NoPairGoes (edited d items) (one_change n (rule_or_none made') moved') → ⊥
  upper_selector i part made' moved' at is_in is_left none = first (CutSel x i) (λ h. h) refl (
    cut_selector x i u,
    record {
      rule = u;
      rule_at = is.rules.upper_at;
      part = part;
      no_pair_goes =
          no_pair_went items (edited d items) x y n u (record { selectors = remove u.selectors i; decls = u.decls }) l made made' (whole_rule x u) moved' is.rules.upper_at is.rules.lower_at (λ e. apart (sym e)) at (λ p h. (elsewhere at p h).0) is_in is_left none;
      is = refl;
    },
  )

  lower_selector : (i : ℕ) → i < length l.selectors → (made' : RuleParts) (moved' : Moved) → slice_get (edited d items) n ≡ Some (Rule made) → ((p : Pair) → InRule l p → InRule made p) →
      ((p : Pair) → InRule l p → InRule made' p → InRule (record { selectors = remove l.selectors i; decls = l.decls }) p ⊎ InRule u p) → NoPairGoes (edited d items) (one_change n (rule_or_none made') moved') → ⊥
  lower_selector i part made' moved' at is_in is_left none = last (CutSel y i) (λ h. h) refl (
    cut_selector y i l,
    record {
      rule = l;
      rule_at = is.rules.lower_at;
      part = part;
      no_pair_goes =
          no_pair_went items (edited d items) y x n l (record { selectors = remove l.selectors i; decls = l.decls }) u made made' (whole_rule y l) moved' is.rules.lower_at is.rules.upper_at apart at (λ p h. (elsewhere at p h).1) is_in is_left none;
      is = refl;
    },
  )

-- ---- Joins of two rules with the same selectors

module _ (items : List Item) (d : Edit) (u l : RuleParts) (ss : List SelItem) (same : HaveSameSelectors u l) (which_ss : (ss ≡ u.selectors) ⊎ (ss ≡ l.selectors)) (x y z n : ℕ)
    (is : IsJoined items d u l (record { selectors = ss; decls = u.decls ++ l.decls }) x y z) (not_come : HasCome d items n → ⊥) (first : HasNoCut items x) (last : HasNoCut items y) where
  abbrev by_selectors : RuleParts
  by_selectors = record { selectors = ss; decls = u.decls ++ l.decls }

  of_upper : (s : SelectorParts) → Contains (sels ss) s ↔ Contains (selectors_of u) s
  of_upper s = which which_ss
    where
      which : (ss ≡ u.selectors) ⊎ (ss ≡ l.selectors) → Contains (sels ss) s ↔ Contains (selectors_of u) s
      which (inl e) = subst (λ (ts : List SelItem). Contains (sels ts) s ↔ Contains (selectors_of u) s) (sym e) ((λ h. h), (λ h. h))
      which (inr e) = subst (λ (ts : List SelItem). Contains (sels ts) s ↔ Contains (selectors_of u) s) (sym e) ((same s).1, (same s).0)

  of_lower : (s : SelectorParts) → Contains (sels ss) s ↔ Contains (selectors_of l) s
  of_lower s = ((λ h. (same s).0 ((of_upper s).0 h)), (λ h. (of_upper s).1 ((same s).1 h)))

  upper_in : (p : Pair) → InRule u p → InRule by_selectors p
  upper_in p h = ((of_upper p.selector).1 h.0, to_front decl u.decls l.decls p.decl h.1)

  lower_in : (p : Pair) → InRule l p → InRule by_selectors p
  lower_in p h = ((of_lower p.selector).1 h.0, to_back decl u.decls l.decls p.decl h.1)

  decl_cut : WasDeclCut items d u l by_selectors x y z n is not_come first last
  decl_cut i part at none = which (which_less i (length u.decls))
    where
      front : (p : Pair) → InRule u p → Contains (sels ss) p.selector → Contains (decls (remove u.decls i)) p.decl ⊎ Contains (decls l.decls) p.decl → InRule (record { selectors = u.selectors; decls = remove u.decls i }) p ⊎ InRule l p
      front p h s (inl g) = inl (h.0, g)
      front p h s (inr g) = inr ((of_lower p.selector).0 s, g)

      back : (p : Pair) → InRule l p → Contains (sels ss) p.selector → Contains (decls u.decls) p.decl ⊎ Contains (decls (remove l.decls (i - length u.decls))) p.decl →
          InRule (record { selectors = l.selectors; decls = remove l.decls (i - length u.decls) }) p ⊎ InRule u p
      back p h s (inl g) = inr ((of_upper p.selector).0 s, g)
      back p h s (inr g) = inl (h.0, g)

      which : (i < length u.decls) ⊎ (length u.decls ≤ i) → ⊥
      which (inl less) = upper_decl items d u l by_selectors x y z n is not_come first last i less (record { selectors = ss; decls = remove (u.decls ++ l.decls) i }) (whole_rule n by_selectors) at upper_in
          (λ p h g. front p h g.0 (in_front decl u.decls l.decls i p.decl less g.1)) none
      which (inr least) = lower_decl items d u l by_selectors x y z n is not_come first last (i - length u.decls) (behind_less u.decls l.decls i part least) (record { selectors = ss; decls = remove (u.decls ++ l.decls) i }) (whole_rule n by_selectors) at lower_in
          (λ p h g. back p h g.0 (in_back decl u.decls l.decls i p.decl least g.1)) none

  selector_cut : WasSelectorCut items d u l by_selectors x y z n is not_come first last
  selector_cut i part at none = which which_ss
    where
      which : (ss ≡ u.selectors) ⊎ (ss ≡ l.selectors) → ⊥
      which (inl e) = upper_selector items d u l by_selectors x y z n is not_come first last i (subst (λ (ts : List SelItem). i < length ts) e part) (record { selectors = remove ss i; decls = u.decls ++ l.decls }) (whole_rule n by_selectors) at upper_in
          (λ p h g. inl (subst (λ (ts : List SelItem). Contains (sels (remove ts i)) p.selector) e g.0, h.1)) none
      which (inr e) = lower_selector items d u l by_selectors x y z n is not_come first last i (subst (λ (ts : List SelItem). i < length ts) e part) (record { selectors = remove ss i; decls = u.decls ++ l.decls }) (whole_rule n by_selectors) at lower_in
          (λ p h g. inl (subst (λ (ts : List SelItem). Contains (sels (remove ts i)) p.selector) e g.0, h.1)) none

  no_cut_by_selectors : HasNoCut (edited d items) n
  no_cut_by_selectors = no_cut items d u l by_selectors x y z n is not_come first last decl_cut selector_cut

-- ---- Joins of two rules with the same declarations

module _ (items : List Item) (d : Edit) (u l : RuleParts) (ds : List DeclItem) (same : HaveSameDecls u l) (which_ds : (ds ≡ u.decls) ⊎ (ds ≡ l.decls)) (x y z n : ℕ)
    (is : IsJoined items d u l (record { selectors = both_selectors u l; decls = ds }) x y z) (not_come : HasCome d items n → ⊥) (first : HasNoCut items x) (last : HasNoCut items y) where
  abbrev by_decls : RuleParts
  by_decls = record { selectors = both_selectors u l; decls = ds }

  abbrev is_new : SelItem → Bool
  is_new s = not (has_selector u.selectors s.selector)

  all_same : (decls ds ≡ decls u.decls) × (decls ds ≡ decls l.decls)
  all_same = which which_ds
    where
      which : (ds ≡ u.decls) ⊎ (ds ≡ l.decls) → (decls ds ≡ decls u.decls) × (decls ds ≡ decls l.decls)
      which (inl e) = (ap decls e, ap decls e ∙ same)
      which (inr e) = (ap decls e ∙ sym same, ap decls e)

  as_lower : (c : Decl) → Contains (decls u.decls) c → Contains (decls l.decls) c
  as_lower c h = subst (λ (cs : List Decl). Contains cs c) same h

  as_upper : (c : Decl) → Contains (decls l.decls) c → Contains (decls u.decls) c
  as_upper c h = subst (λ (cs : List Decl). Contains cs c) (sym same) h

  upper_is_in : (p : Pair) → InRule u p → InRule by_decls p
  upper_is_in p h = (to_front selector u.selectors (filter is_new l.selectors) p.selector h.0, subst (λ (cs : List Decl). Contains cs p.decl) (sym all_same.0) h.1)

  lower_selector_in : (s : SelectorParts) → Contains (selectors_of l) s → Contains (sels (both_selectors u l)) s
  lower_selector_in s h = which (has_selector u.selectors s) refl
    where
      which : (b : Bool) → has_selector u.selectors s ≡ b → Contains (sels (both_selectors u l)) s
      which true e = to_front selector u.selectors (filter is_new l.selectors) s ((has_selector_is u.selectors s).0 e)
      which false e =
          let w : (t : SelItem) × Contains l.selectors t × (t.selector ≡ s) = map_from selector l.selectors s h in
          let new : is_new w.0 ≡ true = ap (λ (t : SelectorParts). not (has_selector u.selectors t)) w.2 ∙ ap not e in
          to_back selector u.selectors (filter is_new l.selectors) s
          (subst (λ (t : SelectorParts). Contains (sels (filter is_new l.selectors)) t) w.2 (map_has selector (filter is_new l.selectors) w.0 (Contains-filtered is_new l.selectors w.0 w.1 new)))

  lower_is_in : (p : Pair) → InRule l p → InRule by_decls p
  lower_is_in p h = (lower_selector_in p.selector h.0, subst (λ (cs : List Decl). Contains cs p.decl) (sym all_same.1) h.1)

  one_decl_cut : WasDeclCut items d u l by_decls x y z n is not_come first last
  one_decl_cut i part at none = which which_ds
    where
      which : (ds ≡ u.decls) ⊎ (ds ≡ l.decls) → ⊥
      which (inl e) = upper_decl items d u l by_decls x y z n is not_come first last i (subst (λ (cs : List DeclItem). i < length cs) e part) (record { selectors = both_selectors u l; decls = remove ds i }) (whole_rule n by_decls) at upper_is_in
          (λ p h g. inl (h.0, subst (λ (cs : List DeclItem). Contains (decls (remove cs i)) p.decl) e g.1)) none
      which (inr e) = lower_decl items d u l by_decls x y z n is not_come first last i (subst (λ (cs : List DeclItem). i < length cs) e part) (record { selectors = both_selectors u l; decls = remove ds i }) (whole_rule n by_decls) at lower_is_in
          (λ p h g. inl (h.0, subst (λ (cs : List DeclItem). Contains (decls (remove cs i)) p.decl) e g.1)) none

  one_selector_cut : WasSelectorCut items d u l by_decls x y z n is not_come first last
  one_selector_cut i part at none = which (which_less i (length u.selectors))
    where
      more : List SelItem
      more = filter (λ s. is_new s) l.selectors

      made' : RuleParts
      made' = record { selectors = remove (both_selectors u l) i; decls = ds }

      front : (p : Pair) → InRule u p → Contains (sels (remove u.selectors i)) p.selector ⊎ Contains (sels more) p.selector → InRule (record { selectors = remove u.selectors i; decls = u.decls }) p ⊎ InRule l p
      front p h (inl g) = inl (g, h.1)
      front p h (inr g) = inr (filtered selector (λ s. is_new s) l.selectors p.selector g, as_lower p.decl h.1)

      back : (k : ℕ) → remove more (i - length u.selectors) ≡ filter (λ s. is_new s) (remove l.selectors k) → (p : Pair) → InRule l p →
          Contains (selectors_of u) p.selector ⊎ Contains (sels (remove more (i - length u.selectors))) p.selector → InRule (record { selectors = remove l.selectors k; decls = l.decls }) p ⊎ InRule u p
      back k e p h (inl g) = inr (g, as_upper p.decl h.1)
      back k e p h (inr g) = inl (filtered selector (λ s. is_new s) (remove l.selectors k) p.selector (subst (λ (ts : List SelItem). Contains (sels ts) p.selector) e g), h.1)

      which : (i < length u.selectors) ⊎ (length u.selectors ≤ i) → ⊥
      which (inl less) = upper_selector items d u l by_decls x y z n is not_come first last i less made' (whole_rule n by_decls) at upper_is_in
          (λ p h g. front p h (in_front selector u.selectors more i p.selector less g.0)) none
      which (inr least) =
          let w : KeptAt (λ s. is_new s) l.selectors (i - length u.selectors) = kept_at (λ s. is_new s) l.selectors (i - length u.selectors) (behind_less u.selectors more i part least) in
          lower_selector items d u l by_decls x y z n is not_come first last w.0 w.1 made' (whole_rule n by_decls) at lower_is_in
          (λ p h g. back w.0 w.2 p h (in_back selector u.selectors more i p.selector least g.0)) none

  no_cut_by_decls : HasNoCut (edited d items) n
  no_cut_by_decls = no_cut items d u l by_decls x y z n is not_come first last one_decl_cut one_selector_cut

-- ---- All joins

abbrev HasNone : List Item → ℕ → Edit → Type 0
HasNone items n d = (HasCome d items n → ⊥) → HasNoCut (edited d items) n

pub joined_has_no_cut : (items : List Item) (j : Step) (d : Edit) → IsStep items j d → (way : Way) → IsMove way j → (n : ℕ) → (HasCome d items n → ⊥) →
    HasNoCut items (first_item j) → HasNoCut items (last_item j) → HasNoCut (edited d items) n
joined_has_no_cut items (JoinSelUp x y) d j way move n not_come first last = subst (HasNone items n) (sym j.is)
    (λ h. no_cut_by_selectors items _ j.upper j.lower j.upper.selectors j.may (inl refl) x y x n
    (joined_up items j.upper j.lower (joined j.upper j.lower) x y (whole_rule y j.lower) j.rules) h first last) not_come
joined_has_no_cut items (JoinSelDown x y) d j way move n not_come first last = subst (HasNone items n) (sym j.is)
    (λ h. no_cut_by_selectors items _ j.upper j.lower j.lower.selectors j.may (inr refl) x y y n
    (joined_down items j.upper j.lower (record { selectors = j.lower.selectors; decls = j.upper.decls ++ j.lower.decls }) x y (whole_rule x j.upper) j.rules) h first last) not_come
joined_has_no_cut items (JoinDeclUp x y) d j way move n not_come first last = subst (HasNone items n) (sym j.is)
    (λ h. no_cut_by_decls items _ j.upper j.lower j.upper.decls j.may (inl refl) x y x n
    (joined_up items j.upper j.lower (record { selectors = both_selectors j.upper j.lower; decls = j.upper.decls }) x y (whole_rule y j.lower) j.rules) h first last) not_come
joined_has_no_cut items (JoinDeclDown x y) d j way move n not_come first last = subst (HasNone items n) (sym j.is)
    (λ h. no_cut_by_decls items _ j.upper j.lower j.lower.decls j.may (inr refl) x y y n
    (joined_down items j.upper j.lower (record { selectors = both_selectors j.upper j.lower; decls = j.lower.decls }) x y (whole_rule x j.upper) j.rules) h first last) not_come
joined_has_no_cut items (CutDecl m i) d j Up move n not_come first last = absurd move
joined_has_no_cut items (CutDecl m i) d j Down move n not_come first last = absurd move
joined_has_no_cut items (CutSel m i) d j Up move n not_come first last = absurd move
joined_has_no_cut items (CutSel m i) d j Down move n not_come first last = absurd move
joined_has_no_cut items (Share x y) d j Up move n not_come first last = absurd move
joined_has_no_cut items (Share x y) d j Down move n not_come first last = absurd move
