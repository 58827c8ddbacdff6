-- A cut of a selector that a rule repeats reverses nothing, and saves something.
use Rattle.std.proofs.Common.{◌≡◌, ◌≢◌, ◌↔◌, ◌⊎◌, ℕ, zero, suc, ◌+◌, ◌-◌, ◌<◌, ◌≤◌, Bool, true, false, List, [], ◌∷◌, ◌++◌, length, Some, refl, sym, ap, subst, inl, inr, ◌∙◌, arith}
use Rattle.std.specs.Prelude.{slice_get}
use Rattle.std.specs.List.{AllByRecursion, Contains, remove}
use Rattle.list_facts.proofs.Members.{Contains-here, Contains-there, Contains-nil, Contains-cons_cases}
use Rattle.cascade_laws.proofs.ForCallers.{some-same, rule-same}
use Rattle.css_model.specs.declared.sheet.DeclItem.{DeclItem}
use Rattle.css_model.specs.declared.sheet.Item.{Item}
use Rattle.css_model.specs.declared.sheet.Item.TheVariants.{Rule, KeptRule, KeptBlock}
use Rattle.css_model.specs.declared.sheet.SelItem.{SelItem}
use Rattle.css_model.specs.Cascade.Order.{Pair, IsPairAt, IsLast, IsBefore, IsBeforeKept}
use Rattle.css_model.specs.Cascade.Winner.{Place}
use Rattle.css_model.specs.Documents.SelectorParts.{SelectorParts}
use Rattle.css_model.specs.Sheets.KeptItems.{kept_before}
use Rattle.css_model.specs.Sheets.Printed.{printed_selector, printed_declaration}
use Rattle.css_model.specs.Sheets.RuleParts.{RuleParts}
use Rattle.css_model.specs.Sheets.Sound.{IsSoundRule, IsSound}
use Rattle.css_model.specs.Sheets.StyleRule.{selectors_of}
use Rattle.order_laws.proofs.ForCallers.{sels, has_selector_is}
use Rattle.order_laws.specs.Edits.{Edit, edited, whole_rule}
use Rattle.order_laws.specs.Members.{has_selector}
use Rattle.order_laws.specs.Reversing.{Differ}
use Rattle.step_laws.proofs.ForCallers.{OneInParts, one_in_parts, rule_sound, steps_weigh}
use Rattle.step_laws.specs.declared.step.Step.TheVariants.{CutSel}
use Rattle.step_laws.specs.Free.{Answered, IsBlocked, by_pair, by_kept}
use Rattle.step_laws.specs.Leading.{IsDone}
use Rattle.step_laws.specs.RuleParting.{item_if_any, rule_or_none}
use Rattle.step_laws.specs.Sizes.{size, weight, rule_weight, rules_weight}
use Rattle.step_laws.specs.StepEdits.{cut_selector}
use Rattle.step_laws.specs.Steps.{IsStep}
use Rattle.plan_laws.proofs.Limit.PairCounts.{removed_in}
use Rattle.plan_laws.specs.Limit.PairLimit.{IsOnce, RepeatsNoSelector}

-- ---- Rules in one place of two sheets

-- two rules with the same selectors, in whatever order and however often, and the same declarations
record IsLike (r q : RuleParts) : Type 0 where
  pub selectors : (s : SelectorParts) → Contains (selectors_of r) s ↔ Contains (selectors_of q) s
  pub decls : r.decls ≡ q.decls

like_back : (r q : RuleParts) → IsLike r q → IsLike q r
like_back r q like = record { selectors = λ s. ((like.selectors s).1, (like.selectors s).0); decls = sym like.decls }

like_itself : (r : RuleParts) → IsLike r r
like_itself r = record { selectors = λ s. ((λ h. h), (λ h. h)); decls = refl }

-- what stands at a number of one sheet is like what stands there in the other
like_at : (before after : List Item) (r q : RuleParts) → IsLike r q → (n : ℕ) (rule : RuleParts) → slice_get (before ++ (Rule r ∷ after)) n ≡ Some (Rule rule) →
    (other : RuleParts) × (slice_get (before ++ (Rule q ∷ after)) n ≡ Some (Rule other)) × IsLike rule other
like_at [] after r q like zero rule at = (q, refl, subst (λ (x : RuleParts). IsLike x q) (rule-same (some-same at)) like)
like_at [] after r q like (suc n) rule at = (rule, at, like_itself rule)
like_at (x ∷ before) after r q like zero rule at = (rule, at, like_itself rule)
like_at (x ∷ before) after r q like (suc n) rule at = like_at before after r q like n rule at

kept_alike : (before after : List Item) (r q : RuleParts) (n : ℕ) → kept_before n (before ++ (Rule r ∷ after)) ≡ kept_before n (before ++ (Rule q ∷ after))
kept_alike [] after r q zero = refl
kept_alike [] after r q (suc n) = refl
kept_alike (Rule x ∷ before) after r q zero = refl
kept_alike (KeptRule x ∷ before) after r q zero = refl
kept_alike (KeptBlock x ∷ before) after r q zero = refl
kept_alike (Rule x ∷ before) after r q (suc n) = kept_alike before after r q n
kept_alike (KeptRule x ∷ before) after r q (suc n) = ap suc (kept_alike before after r q n)
kept_alike (KeptBlock x ∷ before) after r q (suc n) = ap suc (kept_alike before after r q n)

pair_at : (before after : List Item) (r q : RuleParts) → IsLike r q → (p : Pair) (place : Place) → IsPairAt (before ++ (Rule r ∷ after)) p place → IsPairAt (before ++ (Rule q ∷ after)) p place
pair_at before after r q like p place at =
    let w = like_at before after r q like place.item at.rule at.rule_at in
    record {
      rule = w.0;
      decl = at.decl;
      rule_at = w.1;
      selector_in = (w.2.selectors p.selector).0 at.selector_in;
      decl_at = subst (λ (ds : List DeclItem). slice_get ds place.position ≡ Some at.decl) w.2.decls at.decl_at;
      decl_is = at.decl_is;
    }

-- two sheets that are alike but for the place of one rule, which are like each other
record AreAlike (items new : List Item) : Type 0 where
  pub there : (p : Pair) (place : Place) → IsPairAt items p place → IsPairAt new p place
  pub back : (p : Pair) (place : Place) → IsPairAt new p place → IsPairAt items p place
  pub kept : (n : ℕ) → kept_before n items ≡ kept_before n new

alike_back : (items new : List Item) → AreAlike items new → AreAlike new items
alike_back items new a = record { there = a.back; back = a.there; kept = λ n. sym (a.kept n) }

last_there : (items new : List Item) → AreAlike items new → (p : Pair) (place : Place) → IsLast items p place → IsLast new p place
last_there items new a p place last = record { stands = a.there p place last.stands; last = λ other at. last.last other (a.back p other at) }

before_there : (items new : List Item) → AreAlike items new → (p q : Pair) → IsBefore items p q → IsBefore new p q
before_there items new a p q b = record {
  place = b.place;
  later = b.later;
  first = last_there items new a p b.place b.first;
  second = last_there items new a q b.later b.second;
  before = b.before;
}

kept_there : (items new : List Item) → AreAlike items new → (p : Pair) (number : ℕ) → IsBeforeKept items p number → IsBeforeKept new p number
kept_there items new a p number b = record {
  place = b.place;
  stands = last_there items new a p b.place b.stands;
  before = subst (λ (n : ℕ). n ≤ number) (a.kept b.place.item) b.before;
}

none_differ : {P Q : Type 0} → (P → Q) → (Q → P) → Differ P Q → ⊥
none_differ f g (inl (p, not)) = not (f p)
none_differ f g (inr (not, q)) = not (g q)

-- an edit that leaves a sheet alike is not blocked
not_blocked : (answers : List Answered) (items : List Item) (e : Edit) → AreAlike items (edited e items) → IsBlocked answers items e → ⊥
not_blocked answers items e a (by_pair p q reverses apart) =
    none_differ (before_there items (edited e items) a p q) (before_there (edited e items) items (alike_back items (edited e items) a) p q) reverses.order
not_blocked answers items e a (by_kept p number reverses) =
    none_differ (kept_there items (edited e items) a p number) (kept_there (edited e items) items (alike_back items (edited e items) a) p number) reverses.order

-- ---- A selector that stands twice

-- the selector of this number stands again behind it
record IsRepeat (ss : List SelItem) (i : ℕ) : Type 0 where
  pub part : i < length ss
  pub stays : (s : SelectorParts) → Contains (sels ss) s → Contains (sels (remove ss i)) s

repeat_or_once : (ss : List SelItem) → IsOnce (sels ss) ⊎ ((i : ℕ) × IsRepeat ss i)
repeat_or_once [] = inl tt
repeat_or_once (x ∷ ss) = which (has_selector ss x.selector) refl (repeat_or_once ss)
  where
    here : has_selector ss x.selector ≡ true → (s : SelectorParts) → (x.selector ≡ s) ⊎ Contains (sels ss) s → Contains (sels ss) s
    here e s (inl same) = subst (Contains (sels ss)) same ((has_selector_is ss x.selector).0 e)
    here e s (inr c) = c

    there : (i : ℕ) → IsRepeat ss i → (s : SelectorParts) → (x.selector ≡ s) ⊎ Contains (sels ss) s → Contains (sels (x ∷ remove ss i)) s
    there i again s (inl same) = subst (Contains (sels (x ∷ remove ss i))) same (Contains-here x.selector (sels (remove ss i)))
    there i again s (inr c) = Contains-there x.selector (sels (remove ss i)) s (again.stays s c)

    which : (b : Bool) → has_selector ss x.selector ≡ b → IsOnce (sels ss) ⊎ ((i : ℕ) × IsRepeat ss i) → IsOnce (sels (x ∷ ss)) ⊎ ((i : ℕ) × IsRepeat (x ∷ ss) i)
    which true e rest = inr (0, record { part = omega arith; stays = λ s h. here e s (Contains-cons_cases x.selector (sels ss) s h) })
    which false e (inl once) = inl ((λ c. let f : has_selector ss x.selector ≡ true = (has_selector_is ss x.selector).1 c in let g : false ≡ true = sym e ∙ f in cc), once)
    which false e (inr (i, again)) = inr (suc i, record { part = omega (arith, again.part); stays = λ s h. there i again s (Contains-cons_cases x.selector (sels ss) s h) })

removed_weighs : {X : Type 0} (text : X → List ℕ) (xs : List X) (i : ℕ) → i < length xs → weight text (remove xs i) < weight text xs
removed_weighs text [] i less = absurd (omega (arith, less))
removed_weighs text (x ∷ xs) zero less = let e : weight text xs < length (text x) + 1 + weight text xs = omega arith in e
removed_weighs text (x ∷ xs) (suc i) less =
    let h : i < length xs = omega (arith, less) in
    let ih : weight text (remove xs i) < weight text xs = removed_weighs text xs i h in
    let e : length (text x) + 1 + weight text (remove xs i) < length (text x) + 1 + weight text xs = omega (arith, ih) in e

left_is : (ss : List SelItem) (ds : List DeclItem) (r : RuleParts) → ss ≢ [] → ds ≢ [] → item_if_any ss ds r ≡ Rule r ∷ []
left_is [] ds r some some' = absurd (some refl)
left_is (s ∷ ss) [] r some some' = absurd (some' refl)
left_is (s ∷ ss) (d ∷ ds) r some some' = refl

-- a repeated selector is not the only one
some_left : (ss : List SelItem) (i : ℕ) → IsRepeat ss i → remove ss i ≢ []
some_left [] i again is = absurd (let h : i < 0 = again.part in omega (arith, h))
some_left (x ∷ ss) i again is =
    Contains-nil x.selector (subst (λ (ys : List SelItem). Contains (sels ys) x.selector) is (again.stays x.selector (Contains-here x.selector (sels ss))))

-- ---- The cut

abbrev left_of : RuleParts → ℕ → RuleParts
left_of r i = record { selectors = remove r.selectors i; decls = r.decls }

cut_alike : (source : List ℕ) (items : List Item) (n i : ℕ) (r : RuleParts) → IsSound source items → slice_get items n ≡ Some (Rule r) → IsRepeat r.selectors i →
    AreAlike items (edited (cut_selector n i r) items)
cut_alike source items n i r sound at again =
    let rule : IsSoundRule source r = rule_sound source items n r sound at in
    let by : rule_or_none (left_of r i) ≡ Rule (left_of r i) ∷ [] = left_is (remove r.selectors i) r.decls (left_of r i) (some_left r.selectors i again) rule.has_declarations in
    let p : OneInParts items (edited (cut_selector n i r) items) r (rule_or_none (left_of r i)) = one_in_parts items n (rule_or_none (left_of r i)) (whole_rule n r) r at in
    let new_is : edited (cut_selector n i r) items ≡ p.before ++ (Rule (left_of r i) ∷ p.after) = p.new_is ∙ ap (λ (xs : List Item). p.before ++ (xs ++ p.after)) by in
    let like : IsLike r (left_of r i) = record { selectors = λ s. (again.stays s, removed_in (λ x. x.selector) r.selectors i s); decls = refl } in
    subst (λ (xs : List Item). AreAlike xs (edited (cut_selector n i r) items)) (sym p.old_is)
    (subst (AreAlike (p.before ++ (Rule r ∷ p.after))) (sym new_is) (record {
      there = pair_at p.before p.after r (left_of r i) like;
      back = pair_at p.before p.after (left_of r i) r (like_back r (left_of r i) like);
      kept = kept_alike p.before p.after r (left_of r i);
    }))

-- where nothing is left to do, no rule repeats a selector
none_repeats : (answers : List Answered) (source : List ℕ) (items : List Item) → IsSound source items → IsDone answers source items →
    (n : ℕ) (r : RuleParts) → slice_get items n ≡ Some (Rule r) → (i : ℕ) → IsRepeat r.selectors i → ⊥
none_repeats answers source items sound done n r at i again =
    let e : Edit = cut_selector n i r in
    let alike : AreAlike items (edited e items) = cut_alike source items n i r sound at again in
    let is : IsStep items (CutSel n i) e =
    record { rule = r; rule_at = at; part = again.part; no_pair_goes = λ p h. (h.0, alike.there p h.0 h.1); is = refl } in
    let rule : IsSoundRule source r = rule_sound source items n r sound at in
    let by : rule_or_none (left_of r i) ≡ Rule (left_of r i) ∷ [] = left_is (remove r.selectors i) r.decls (left_of r i) (some_left r.selectors i again) rule.has_declarations in
    let law : size source (edited e items) + rule_weight source r ≡ size source items + (rules_weight source (rule_or_none (left_of r i)) + 0) =
    steps_weigh source items (CutSel n i) e is sound r r at at in
    let brought : rules_weight source (rule_or_none (left_of r i)) ≡ weight (printed_selector source) (remove r.selectors i) + weight (printed_declaration source) r.decls + 0 = ap (rules_weight source) by in
    let less : weight (printed_selector source) (remove r.selectors i) < weight (printed_selector source) r.selectors = removed_weighs (printed_selector source) r.selectors i again.part in
    let taken : rule_weight source r ≡ weight (printed_selector source) r.selectors + weight (printed_declaration source) r.decls = refl in
    let some : size source (edited e items) < size source items = omega (arith, law, brought, less, taken) in
    let saves : size source items ≡ size source (edited e items) + (size source items - size source (edited e items)) = omega (arith, some) in
    let more : 0 < size source items - size source (edited e items) = omega (arith, some) in
    not_blocked answers items e alike (done (CutSel n i) e (size source items - size source (edited e items)) is saves more)

rule_by_rule : (items : List Item) → ((n : ℕ) (r : RuleParts) → slice_get items n ≡ Some (Rule r) → IsOnce (sels r.selectors)) → AllByRecursion RepeatsNoSelector items
rule_by_rule [] each = tt
rule_by_rule (Rule r ∷ items) each = (each 0 r refl, rule_by_rule items (λ n q at. each (suc n) q at))
rule_by_rule (KeptRule k ∷ items) each = (tt, rule_by_rule items (λ n q at. each (suc n) q at))
rule_by_rule (KeptBlock piece ∷ items) each = (tt, rule_by_rule items (λ n q at. each (suc n) q at))

pub repeats_are_cut : (answers : List Answered) (source : List ℕ) (items : List Item) → IsSound source items → IsDone answers source items →
    AllByRecursion RepeatsNoSelector items
repeats_are_cut answers source items sound done = rule_by_rule items (λ n r at. which n r at (repeat_or_once r.selectors))
  where
    which : (n : ℕ) (r : RuleParts) → slice_get items n ≡ Some (Rule r) → IsOnce (sels r.selectors) ⊎ ((i : ℕ) × IsRepeat r.selectors i) → IsOnce (sels r.selectors)
    which n r at (inl once) = once
    which n r at (inr (i, again)) = absurd (none_repeats answers source items sound done n r at i again)
