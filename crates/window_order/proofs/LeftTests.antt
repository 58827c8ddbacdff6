-- What is left of rules is tested by their parts.
use Rattle.std.proofs.Common.{◌≡◌, ◌↔◌, ◌⊎◌, Bool, true, false, cond, not, ◌&&◌, ◌||◌, List, [], ◌∷◌, ◌++◌, refl, sym, ap, ap₂, ◌∙◌, subst, inl, inr}
use Rattle.std.specs.Prelude.{if◌then◌else◌, Option, None, Some}
use Rattle.std.specs.Bool.{beq}
use Rattle.std.specs.List.{filter}
use Rattle.std.proofs.lemmas.Bool.{false≢true, or_cases, or_left, or_right}
use Rattle.std.proofs.lemmas.List.Folds.{list_any-append}
use Rattle.std.proofs.lemmas.Map.Views.{any-filter_same}
use Rattle.css_model.proofs.ForCallers.{decl_decides, selector_decides}
use Rattle.css_model.specs.Cascade.Order.{Pair, HasPair}
use Rattle.css_model.specs.declared.sheet.Decl.{Decl}
use Rattle.css_model.specs.declared.sheet.DeclItem.{DeclItem}
use Rattle.css_model.specs.declared.sheet.Item.{Item}
use Rattle.css_model.specs.declared.sheet.Item.TheVariants.{Rule}
use Rattle.css_model.specs.declared.sheet.SelItem.{SelItem}
use Rattle.css_model.specs.Documents.SelectorParts.{SelectorParts}
use Rattle.css_model.specs.Sheets.RuleParts.{RuleParts}
use Rattle.order_laws.proofs.ForCallers.{has_append}
use Rattle.order_laws.specs.Members.{has_decl, has_selector, same_decl, same_selector}
use Rattle.step_laws.specs.RuleParting.{each_last, item_if_any, rule_or_none}
use Rattle.window_order.proofs.StandingTests.{in_item_is, rule_before_is}
use Rattle.window_order.specs.Left.{made_of, rest_of, rule_of}
use Rattle.window_order.specs.Orders.{IsOrder}
use Rattle.window_order.specs.Standing.{decl_before, is_in_rule, rule_before}
use Rattle.window_order.specs.declared.left.LeftRule.{LeftRule}
use Rattle.window_order.specs.declared.order.PairOrder.{PairOrder}
use Rattle.window_order.specs.declared.order.PairOrder.TheVariants.{Before, NotBefore, Second, Neither}

none_and : (b : Bool) → (b && false) ≡ false
none_and true = refl
none_and false = refl

is_true : (b : Bool) → b ≡ beq b true
is_true true = refl
is_true false = refl

is_false : (b : Bool) → not b ≡ beq b false
is_false true = refl
is_false false = refl

-- ---- Selectors

pub has_either : (xs ys : List SelItem) (s : SelectorParts) → has_selector (xs ++ ys) s ≡ (has_selector xs s || has_selector ys s)
has_either xs ys s = list_any-append (λ x. same_selector x.selector s) xs ys

-- of the others those alone are looked through that are not among the first
pub has_joined : (xs ys : List SelItem) (s : SelectorParts) → has_selector (xs ++ filter (λ y. not (has_selector xs y.selector)) ys) s ≡ (has_selector xs s || has_selector ys s)
has_joined xs ys s =
    has_either xs (filter (λ y. not (has_selector xs y.selector)) ys) s
    ∙ ap (λ (b : Bool). has_selector xs s || b) (any-filter_same (λ y. same_selector y.selector s) (λ y. not (has_selector xs y.selector)) (not (has_selector xs s)) (λ y e. ap (λ t. not (has_selector xs t)) ((selector_decides y.selector s).0 e)) ys)
    ∙ once (has_selector xs s) (has_selector ys s)
  where
    once : (a b : Bool) → (a || (not a && b)) ≡ (a || b)
    once true b = refl
    once false b = refl

-- ---- Declarations

pub has_decl_either : (xs ys : List DeclItem) (d : Decl) → has_decl (xs ++ ys) d ≡ (has_decl xs d || has_decl ys d)
has_decl_either xs ys d = list_any-append (λ x. same_decl x.decl d) xs ys

pub has_passing : (passes : Decl → Bool) (ds : List DeclItem) (d : Decl) → has_decl (filter (λ x. passes x.decl) ds) d ≡ (passes d && has_decl ds d)
has_passing passes ds d = any-filter_same (λ x. same_decl x.decl d) (λ x. passes x.decl) (passes d) (λ x e. ap passes ((decl_decides x.decl d).0 e)) ds

pub has_last : (ds : List DeclItem) (d : Decl) → has_decl (each_last ds) d ≡ has_decl ds d
has_last [] d = refl
has_last (x ∷ ds) d = which (has_decl ds x.decl) refl (same_decl x.decl d) refl (has_last ds d)
  where
    which : (a : Bool) → has_decl ds x.decl ≡ a → (b : Bool) → same_decl x.decl d ≡ b → has_decl (each_last ds) d ≡ has_decl ds d →
        has_decl (if a then each_last ds else (x ∷ each_last ds)) d ≡ (b || has_decl ds d)
    which true again true e ih = ih ∙ ap (has_decl ds) (sym ((decl_decides x.decl d).0 e)) ∙ again
    which true again false e ih = ih
    which false other b e ih = ap (λ (s : Bool). s || has_decl (each_last ds) d) e ∙ ap (λ (s : Bool). b || s) ih

-- ---- The order of declarations

none_without : (ds : List DeclItem) (d f : Decl) → has_decl ds d ≡ false → decl_before ds d f ≡ false
none_without [] d f none = refl
none_without (x ∷ ds) d f none = which (same_decl x.decl d) refl none (none_without ds d f)
  where
    which : (s : Bool) → same_decl x.decl d ≡ s → (s || has_decl ds d) ≡ false → (has_decl ds d ≡ false → decl_before ds d f ≡ false) → decl_before (x ∷ ds) d f ≡ false
    which true is h ih = absurd (false≢true (sym h))
    which false is h ih = ap (λ (s : Bool). if s && not (has_decl ds d) then has_decl ds f else decl_before ds d f) is ∙ ih h

-- in two lists the lower one tells, if it has the first declaration
pub before_either : (xs ys : List DeclItem) (d f : Decl) → decl_before (xs ++ ys) d f ≡ (if has_decl ys d then decl_before ys d f else ((has_decl xs d && has_decl ys f) || decl_before xs d f))
before_either [] ys d f = which (has_decl ys d) refl
  where
    which : (b : Bool) → has_decl ys d ≡ b → decl_before ys d f ≡ (if b then decl_before ys d f else false)
    which true has = refl
    which false none = none_without ys d f none
before_either (x ∷ xs) ys d f =
    ap (λ (b : Bool). if same_decl x.decl d && not b then has_decl (xs ++ ys) f else decl_before (xs ++ ys) d f) (has_decl_either xs ys d)
    ∙ ap (λ (b : Bool). if same_decl x.decl d && not (has_decl xs d || has_decl ys d) then b else decl_before (xs ++ ys) d f) (has_decl_either xs ys f)
    ∙ ap (λ (b : Bool). if same_decl x.decl d && not (has_decl xs d || has_decl ys d) then (has_decl xs f || has_decl ys f) else b) (before_either xs ys d f)
    ∙ told (same_decl x.decl d) (has_decl xs d) (has_decl ys d) (has_decl xs f) (has_decl ys f) (decl_before xs d f) (decl_before ys d f)
  where
    either : (a b : Bool) → (a || b) ≡ (b || a)
    either true true = refl
    either true false = refl
    either false true = refl
    either false false = refl

    told : (s b h i j above below : Bool) → (if s && not (b || h) then (i || j) else (if h then below else ((b && j) || above))) ≡ (if h then below else (((s || b) && j) || (if s && not b then i else above)))
    told true true true i j above below = refl
    told true true false i j above below = refl
    told true false true i j above below = refl
    told true false false i j above below = either i j
    told false true true i j above below = refl
    told false true false i j above below = refl
    told false false true i j above below = refl
    told false false false i j above below = refl

pub below_tells : (xs ys : List DeclItem) (d f : Decl) (b before : Bool) → b ≡ has_decl ys d → b ≡ true → before ≡ decl_before ys d f → before ≡ decl_before (xs ++ ys) d f
below_tells xs ys d f b before is e told =
    told ∙ sym (before_either xs ys d f ∙ ap (λ (h : Bool). if h then decl_before ys d f else ((has_decl xs d && has_decl ys f) || decl_before xs d f)) (sym is ∙ e))

pub apart_tells : (xs ys : List DeclItem) (d f : Decl) (b a : Bool) → b ≡ has_decl ys d → b ≡ false → a ≡ (has_decl xs d && has_decl ys f) → a ≡ true → true ≡ decl_before (xs ++ ys) d f
apart_tells xs ys d f b a is e apart g =
    sym (before_either xs ys d f
    ∙ ap (λ (h : Bool). if h then decl_before ys d f else ((has_decl xs d && has_decl ys f) || decl_before xs d f)) (sym is ∙ e)
    ∙ ap (λ (h : Bool). h || decl_before xs d f) (sym apart ∙ g))

pub above_tells : (xs ys : List DeclItem) (d f : Decl) (b a before : Bool) → b ≡ has_decl ys d → b ≡ false → a ≡ (has_decl xs d && has_decl ys f) → a ≡ false → before ≡ decl_before xs d f → before ≡ decl_before (xs ++ ys) d f
above_tells xs ys d f b a before is e apart g told =
    told ∙ sym (before_either xs ys d f
    ∙ ap (λ (h : Bool). if h then decl_before ys d f else ((has_decl xs d && has_decl ys f) || decl_before xs d f)) (sym is ∙ e)
    ∙ ap (λ (h : Bool). h || decl_before xs d f) (sym apart ∙ g))

-- among those that pass a test
pub before_passing : (passes : Decl → Bool) (ds : List DeclItem) (d f : Decl) → decl_before (filter (λ x. passes x.decl) ds) d f ≡ ((passes d && passes f) && decl_before ds d f)
before_passing passes [] d f = sym (none_and (passes d && passes f))
before_passing passes (x ∷ ds) d f = which (passes x.decl) refl (before_passing passes ds d f)
  where
    first : (a : Bool) → passes x.decl ≡ a → same_decl x.decl d ≡ true → passes d ≡ a
    first a is same = sym (ap passes ((decl_decides x.decl d).0 same)) ∙ is

    stays : (s a b h i before : Bool) → (s ≡ true → a ≡ true) → (if s && not (a && h) then (b && i) else ((a && b) && before)) ≡ ((a && b) && (if s && not h then i else before))
    stays true true b true i before g = refl
    stays true true b false i before g = refl
    stays true false b h i before g = absurd (false≢true (g refl))
    stays false a b h i before g = refl

    goes : (s a b h i before : Bool) → (s ≡ true → a ≡ false) → ((a && b) && before) ≡ ((a && b) && (if s && not h then i else before))
    goes true true b h i before g = absurd (false≢true (sym (g refl)))
    goes true false b h i before g = refl
    goes false a b h i before g = refl

    which : (a : Bool) → passes x.decl ≡ a → decl_before (filter (λ y. passes y.decl) ds) d f ≡ ((passes d && passes f) && decl_before ds d f) →
        decl_before (cond a (x ∷ filter (λ y. passes y.decl) ds) (filter (λ y. passes y.decl) ds)) d f ≡ ((passes d && passes f) && (if same_decl x.decl d && not (has_decl ds d) then has_decl ds f else decl_before ds d f))
    which true is ih =
        ap (λ (b : Bool). if same_decl x.decl d && not b then has_decl (filter (λ y. passes y.decl) ds) f else decl_before (filter (λ y. passes y.decl) ds) d f) (has_passing passes ds d)
        ∙ ap (λ (b : Bool). if same_decl x.decl d && not (passes d && has_decl ds d) then b else decl_before (filter (λ y. passes y.decl) ds) d f) (has_passing passes ds f)
        ∙ ap (λ (b : Bool). if same_decl x.decl d && not (passes d && has_decl ds d) then (passes f && has_decl ds f) else b) ih
        ∙ stays (same_decl x.decl d) (passes d) (passes f) (has_decl ds d) (has_decl ds f) (decl_before ds d f) (first true is)
    which false is ih = ih ∙ goes (same_decl x.decl d) (passes d) (passes f) (has_decl ds d) (has_decl ds f) (decl_before ds d f) (first false is)

-- among the last ones
pub before_last : (ds : List DeclItem) (d f : Decl) → decl_before (each_last ds) d f ≡ decl_before ds d f
before_last [] d f = refl
before_last (x ∷ ds) d f = which (has_decl ds x.decl) refl (before_last ds d f)
  where
    again : (s h i before : Bool) → (s ≡ true → h ≡ true) → before ≡ (if s && not h then i else before)
    again true true i before g = refl
    again true false i before g = absurd (false≢true (g refl))
    again false h i before g = refl

    which : (a : Bool) → has_decl ds x.decl ≡ a → decl_before (each_last ds) d f ≡ decl_before ds d f → decl_before (if a then each_last ds else (x ∷ each_last ds)) d f ≡ (if same_decl x.decl d && not (has_decl ds d) then has_decl ds f else decl_before ds d f)
    which true is ih = ih ∙ again (same_decl x.decl d) (has_decl ds d) (has_decl ds f) (decl_before ds d f) (λ same. sym (ap (has_decl ds) ((decl_decides x.decl d).0 same)) ∙ is)
    which false is ih =
        ap (λ (b : Bool). if same_decl x.decl d && not b then has_decl (each_last ds) f else decl_before (each_last ds) d f) (has_last ds d)
        ∙ ap (λ (b : Bool). if same_decl x.decl d && not (has_decl ds d) then b else decl_before (each_last ds) d f) (has_last ds f)
        ∙ ap (λ (b : Bool). if same_decl x.decl d && not (has_decl ds d) then has_decl ds f else b) ih

-- those that stand in another list, each once
pub has_common : (ds others : List DeclItem) (d : Decl) → has_decl (each_last (filter (λ x. has_decl others x.decl) ds)) d ≡ (beq (has_decl others d) true && has_decl ds d)
has_common ds others d = has_last (filter (λ x. has_decl others x.decl) ds) d ∙ has_passing (has_decl others) ds d ∙ ap (λ (b : Bool). b && has_decl ds d) (is_true (has_decl others d))

pub before_common : (ds others : List DeclItem) (d f : Decl) →
    decl_before (each_last (filter (λ x. has_decl others x.decl) ds)) d f ≡ ((beq (has_decl others d) true && beq (has_decl others f) true) && decl_before ds d f)
before_common ds others d f =
    before_last (filter (λ x. has_decl others x.decl) ds) d f
    ∙ before_passing (has_decl others) ds d f
    ∙ ap₂ (λ (a b : Bool). (a && b) && decl_before ds d f) (is_true (has_decl others d)) (is_true (has_decl others f))

-- those that do not
pub has_other : (ds others : List DeclItem) (d : Decl) → has_decl (filter (λ x. not (has_decl others x.decl)) ds) d ≡ (beq (has_decl others d) false && has_decl ds d)
has_other ds others d = has_passing (λ x. not (has_decl others x)) ds d ∙ ap (λ (b : Bool). b && has_decl ds d) (is_false (has_decl others d))

pub before_other : (ds others : List DeclItem) (d f : Decl) →
    decl_before (filter (λ x. not (has_decl others x.decl)) ds) d f ≡ ((beq (has_decl others d) false && beq (has_decl others f) false) && decl_before ds d f)
before_other ds others d f =
    before_passing (λ x. not (has_decl others x)) ds d f
    ∙ ap₂ (λ (a b : Bool). (a && b) && decl_before ds d f) (is_false (has_decl others d)) (is_false (has_decl others f))

-- ---- Rules and none

-- a rule that is none has no pair
rule_or_nothing : (r : RuleParts) → (rule_or_none r ≡ Rule r ∷ []) ⊎ ((rule_or_none r ≡ []) × ((p : Pair) → is_in_rule r p ≡ true → ⊥))
rule_or_nothing r = which r.selectors r.decls refl refl
  where
    which : (ss : List SelItem) (ds : List DeclItem) → r.selectors ≡ ss → r.decls ≡ ds → (item_if_any ss ds r ≡ Rule r ∷ []) ⊎ ((item_if_any ss ds r ≡ []) × ((p : Pair) → is_in_rule r p ≡ true → ⊥))
    which [] ds e f = inr (refl, λ p h. false≢true (sym (ap (λ (xs : List SelItem). has_decl r.decls p.decl && has_selector xs p.selector) e ∙ none_and (has_decl r.decls p.decl)) ∙ h))
    which (s ∷ ss) [] e f = inr (refl, λ p h. false≢true (sym (ap (λ (xs : List DeclItem). has_decl xs p.decl && has_selector r.selectors p.selector) f) ∙ h))
    which (s ∷ ss) (d ∷ ds) e f = inl refl

nowhere : (p : Pair) → HasPair [] p → ⊥
nowhere p h = let e = h.1.rule_at in cc

pub has_in_rule : (r : RuleParts) (p : Pair) (b : Bool) → b ≡ is_in_rule r p → (b ≡ true) ↔ HasPair (Rule r ∷ []) p
has_in_rule r p b is = (λ h. (in_item_is p (Rule r)).0 (sym is ∙ h), λ h. is ∙ (in_item_is p (Rule r)).1 h)

pub has_in_rest : (r : RuleParts) (p : Pair) (b : Bool) → b ≡ is_in_rule r p → (b ≡ true) ↔ HasPair (rule_or_none r) p
has_in_rest r p b is = which (rule_or_nothing r)
  where
    which : (rule_or_none r ≡ Rule r ∷ []) ⊎ ((rule_or_none r ≡ []) × ((q : Pair) → is_in_rule r q ≡ true → ⊥)) → (b ≡ true) ↔ HasPair (rule_or_none r) p
    which (inl e) = subst (λ (items : List Item). (b ≡ true) ↔ HasPair items p) (sym e) (has_in_rule r p b is)
    which (inr (e, none)) = (λ h. absurd (none p (sym is ∙ h)), λ h. absurd (nowhere p (subst (λ (items : List Item). HasPair items p) e h)))

pub order_in_rest : (r : RuleParts) (p q : Pair) (order : PairOrder) → IsOrder (Rule r ∷ []) p q order → IsOrder (rule_or_none r) p q order
order_in_rest r p q order is = which (rule_or_nothing r)
  where
    nothing : ((x : Pair) → is_in_rule r x ≡ true → ⊥) → (o : PairOrder) → IsOrder (Rule r ∷ []) p q o → IsOrder [] p q o
    nothing none Before h = absurd (none p ((in_item_is p (Rule r)).1 (h.place, h.first.stands)))
    nothing none NotBefore h = absurd (none p ((in_item_is p (Rule r)).1 h.0))
    nothing none Second h = absurd (none q ((in_item_is q (Rule r)).1 h.1))
    nothing none Neither h = (nowhere p, nowhere q)

    which : (rule_or_none r ≡ Rule r ∷ []) ⊎ ((rule_or_none r ≡ []) × ((x : Pair) → is_in_rule r x ≡ true → ⊥)) → IsOrder (rule_or_none r) p q order
    which (inl e) = subst (λ (items : List Item). IsOrder items p q order) (sym e) is
    which (inr (e, none)) = subst (λ (items : List Item). IsOrder items p q order) (sym e) (nothing none order is)

-- ---- In both places

pub has_in_both : (xs ys : List Item) (p : Pair) (a b : Bool) → (a ≡ true) ↔ HasPair xs p → (b ≡ true) ↔ HasPair ys p → ((a || b) ≡ true) ↔ HasPair (xs ++ ys) p
has_in_both xs ys p a b f g = (λ h. (has_append xs ys p).1 (there (or_cases a b h)), λ h. back ((has_append xs ys p).0 h))
  where
    there : (a ≡ true) ⊎ (b ≡ true) → HasPair xs p ⊎ HasPair ys p
    there (inl e) = inl (f.0 e)
    there (inr e) = inr (g.0 e)

    back : HasPair xs p ⊎ HasPair ys p → (a || b) ≡ true
    back (inl h) = or_left a b (f.1 h)
    back (inr h) = or_right a b (g.1 h)

-- ---- Answers

-- of a rule that is there
pub any_has : (rule : Option LeftRule) (r : LeftRule) (p : Pair) (b : Bool) → rule ≡ Some r → b ≡ is_in_rule (rule_of r) p → ((b ≡ true) ↔ HasPair (made_of rule) p) × ((b ≡ true) ↔ HasPair (rest_of rule) p)
any_has rule r p b is told = (
  subst (λ (o : Option LeftRule). (b ≡ true) ↔ HasPair (made_of o) p) (sym is) (has_in_rule (rule_of r) p b told),
  subst (λ (o : Option LeftRule). (b ≡ true) ↔ HasPair (rest_of o) p) (sym is) (has_in_rest (rule_of r) p b told),
)

pub any_order : (rule : Option LeftRule) (r : LeftRule) (p q : Pair) (order : PairOrder) → rule ≡ Some r → IsOrder (Rule (rule_of r) ∷ []) p q order → IsOrder (made_of rule) p q order × IsOrder (rest_of rule) p q order
any_order rule r p q order is told = (
  subst (λ (o : Option LeftRule). IsOrder (made_of o) p q order) (sym is) told,
  subst (λ (o : Option LeftRule). IsOrder (rest_of o) p q order) (sym is) (order_in_rest (rule_of r) p q order told),
)

-- of one rule alone
module _ (made rest : Option LeftRule) (r : LeftRule) (has : made ≡ Some r) (none : rest ≡ None) where
  pub in_made : (p : Pair) → HasPair (made_of made ++ rest_of rest) p → is_in_rule (rule_of r) p ≡ true
  in_made p h = (any_has made r p (is_in_rule (rule_of r) p) has refl).0.1 (which ((has_append (made_of made) (rest_of rest) p).0 h))
    where
      which : HasPair (made_of made) p ⊎ HasPair (rest_of rest) p → HasPair (made_of made) p
      which (inl g) = g
      which (inr g) = absurd (nowhere p (subst (λ (o : Option LeftRule). HasPair (rest_of o) p) none g))

module _ (made rest : Option LeftRule) (r : LeftRule) (none : made ≡ None) (has : rest ≡ Some r) where
  pub in_left : (p : Pair) → HasPair (made_of made ++ rest_of rest) p → is_in_rule (rule_of r) p ≡ true
  in_left p h = (any_has rest r p (is_in_rule (rule_of r) p) has refl).1.1 (which ((has_append (made_of made) (rest_of rest) p).0 h))
    where
      which : HasPair (made_of made) p ⊎ HasPair (rest_of rest) p → HasPair (rest_of rest) p
      which (inl g) = absurd (nowhere p (subst (λ (o : Option LeftRule). HasPair (made_of o) p) none g))
      which (inr g) = g

-- of two pairs in a rule
pub first_before : (r : RuleParts) (p q : Pair) (a before : Bool) → a ≡ is_in_rule r p → a ≡ true → before ≡ rule_before r p q → before ≡ true → IsOrder (Rule r ∷ []) p q Before
first_before r p q a before a_is there is e = (rule_before_is r p q).0 (sym is ∙ e)

pub first_not_before : (r : RuleParts) (p q : Pair) (a before : Bool) → a ≡ is_in_rule r p → a ≡ true → before ≡ rule_before r p q → before ≡ false → IsOrder (Rule r ∷ []) p q NotBefore
first_not_before r p q a before a_is there is e = ((in_item_is p (Rule r)).0 (sym a_is ∙ there), λ b. false≢true (sym e ∙ is ∙ (rule_before_is r p q).1 b))

pub second_alone_there : (r : RuleParts) (p q : Pair) (a b : Bool) → a ≡ is_in_rule r p → a ≡ false → b ≡ is_in_rule r q → b ≡ true → IsOrder (Rule r ∷ []) p q Second
second_alone_there r p q a b a_is none b_is there = (λ h. false≢true (sym none ∙ a_is ∙ (in_item_is p (Rule r)).1 h), (in_item_is q (Rule r)).0 (sym b_is ∙ there))

pub neither_there : (r : RuleParts) (p q : Pair) (a b : Bool) → a ≡ is_in_rule r p → a ≡ false → b ≡ is_in_rule r q → b ≡ false → IsOrder (Rule r ∷ []) p q Neither
neither_there r p q a b a_is none b_is none' = (λ h. false≢true (sym none ∙ a_is ∙ (in_item_is p (Rule r)).1 h), λ h. false≢true (sym none' ∙ b_is ∙ (in_item_is q (Rule r)).1 h))
