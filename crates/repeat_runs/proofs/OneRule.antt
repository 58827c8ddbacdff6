-- The one rule of a sheet.
use Rattle.std.proofs.Common.{◌≡◌, ℕ, ◌+◌, true, false, List, [], ◌∷◌, ◌++◌, Some, length, refl, sym, ap, ◌∙◌, append_assoc, arith, ap₂, subst}
use Rattle.std.specs.Prelude.{slice_get, slice_set}
use Rattle.std.proofs.lemmas.Bool.{false≢true}
use Rattle.std.proofs.lemmas.List.{length-append}
use Rattle.cascade_laws.proofs.ForCallers.{rule-same}
use Rattle.css_model.specs.declared.sheet.Item.{Item}
use Rattle.css_model.specs.declared.sheet.Item.TheVariants.{KeptBlock, KeptRule, Rule}
use Rattle.css_model.specs.Sheets.KeptItems.{is_kept}
use Rattle.css_model.specs.Sheets.RuleParts.{RuleParts}
use Rattle.list_facts.proofs.Zips.{cons_head, cons_tail}
use Rattle.repeat_runs.specs.OneRule.{HasNoOnlyRule, IsOnlyRule}
use Rattle.run_laws.specs.Runs.{AreKept, with_rule}

-- so many items come before the rest, and none of them is a rule
pub record ArePassed (items : List Item) (number : ℕ) (rest : List Item) : Type 0 where
  pub before : List Item
  pub split : items ≡ before ++ rest
  pub place : length before ≡ number
  pub kept : AreKept before

pub none_passed : (items : List Item) → ArePassed items 0 items
none_passed items = record { before = []; split = refl; place = refl; kept = tt }

one_kept : (before : List Item) (x : Item) → AreKept before → is_kept x ≡ true → AreKept (before ++ (x ∷ []))
one_kept [] x kept is = (is, tt)
one_kept (y ∷ before) x kept is = (kept.0, one_kept before x kept.1 is)

pub one_passed : (items : List Item) (number : ℕ) (rest : List Item) (x : Item) (others : List Item) → ArePassed items number rest → rest ≡ x ∷ others → is_kept x ≡ true → ArePassed items (number + 1) others
one_passed items number rest x others p is kept = record {
  before = p.before ++ (x ∷ []);
  split = p.split ∙ ap (λ (ys : List Item). p.before ++ ys) is ∙ sym (append_assoc p.before (x ∷ []) others);
  place = (let place = p.place in let e = length-append p.before (x ∷ []) in omega (arith, place, e));
  kept = one_kept p.before x p.kept kept;
}

pub rule_found : (items : List Item) (number : ℕ) (rest : List Item) (x : Item) (others : List Item) → ArePassed items number rest → rest ≡ x ∷ others → is_kept x ≡ false → AreKept others → IsOnlyRule items number
rule_found items number rest (Rule r) others p is rule kept = record {
  before = p.before;
  rule = r;
  after = others;
  split = p.split ∙ ap (λ (ys : List Item). p.before ++ ys) is;
  place = p.place;
  kept_before = p.kept;
  kept_after = kept;
}
rule_found items number rest (KeptRule k) others p is rule kept = absurd (false≢true (sym rule))
rule_found items number rest (KeptBlock piece) others p is rule kept = absurd (false≢true (sym rule))

-- ---- No other one

pub no_rule_kept : (before after : List Item) (r : RuleParts) → AreKept (before ++ (Rule r ∷ after)) → ⊥
no_rule_kept [] after r kept = false≢true kept.0
no_rule_kept (x ∷ before) after r kept = no_rule_kept before after r kept.1

pub one_split : (before before' after after' : List Item) (r r' : RuleParts) → before ++ (Rule r ∷ after) ≡ before' ++ (Rule r' ∷ after') → AreKept before → AreKept before' → (before ≡ before') × (r ≡ r') × (after ≡ after')
one_split [] [] after after' r r' e kept kept' = (refl, rule-same (cons_head (Rule r) (Rule r') after after' e), cons_tail (Rule r) (Rule r') after after' e)
one_split [] (y ∷ before') after after' r r' e kept kept' =
    absurd (false≢true (subst (λ (z : Item). is_kept z ≡ true) (sym (cons_head (Rule r) y after (before' ++ (Rule r' ∷ after')) e)) kept'.0))
one_split (x ∷ before) [] after after' r r' e kept kept' =
    absurd (false≢true (subst (λ (z : Item). is_kept z ≡ true) (cons_head x (Rule r') (before ++ (Rule r ∷ after)) after' e) kept.0))
one_split (x ∷ before) (y ∷ before') after after' r r' e kept kept' =
    let head : x ≡ y = cons_head x y (before ++ (Rule r ∷ after)) (before' ++ (Rule r' ∷ after')) e in
    let rest = one_split before before' after after' r r' (cons_tail x y (before ++ (Rule r ∷ after)) (before' ++ (Rule r' ∷ after')) e) kept.1 kept'.1 in
    (ap₂ (λ (z : Item) (zs : List Item). z ∷ zs) head rest.0, rest.1, rest.2)

pub none_found : (items : List Item) (number : ℕ) (rest : List Item) → ArePassed items number rest → length rest ≡ 0 → HasNoOnlyRule items
none_found items number (x ∷ rest) p none before after r split kept_before kept_after = absurd (omega (arith, none))
none_found items number [] p none before after r split kept_before kept_after =
    no_rule_kept before after r (subst AreKept (sym p.split ∙ split) (kept_nothing p.before p.kept))
  where
    kept_nothing : (xs : List Item) → AreKept xs → AreKept (xs ++ [])
    kept_nothing [] kept = tt
    kept_nothing (y ∷ xs) kept = (kept.0, kept_nothing xs kept.1)

pub more_found : (items : List Item) (number : ℕ) (rest : List Item) (x : Item) (others : List Item) → ArePassed items number rest → rest ≡ x ∷ others → is_kept x ≡ false → (AreKept others → ⊥) → HasNoOnlyRule items
more_found items number rest (Rule q) others p is rule more before after r split kept_before kept_after =
    more (subst AreKept (sym (one_split p.before before others after q r (sym (p.split ∙ ap (λ (ys : List Item). p.before ++ ys) is) ∙ split) p.kept kept_before).2) kept_after)
more_found items number rest (KeptRule k) others p is rule more before after r split kept_before kept_after = false≢true (sym rule)
more_found items number rest (KeptBlock piece) others p is rule more before after r split kept_before kept_after = false≢true (sym rule)

-- ---- The rule by its number

pub rule_there : (before after : List Item) (x : Item) → slice_get (before ++ (x ∷ after)) (length before) ≡ Some x
rule_there [] after x = refl
rule_there (y ∷ before) after x = rule_there before after x

pub rule_put : (before after : List Item) (x y : Item) → slice_set (before ++ (x ∷ after)) (length before) y ≡ before ++ (y ∷ after)
rule_put [] after x y = refl
rule_put (z ∷ before) after x y = ap (λ (zs : List Item). z ∷ zs) (rule_put before after x y)

-- the rule of a sheet with one rule, however it is split
pub rule_at_number : (items : List Item) (number : ℕ) (before after : List Item) (r : RuleParts) → IsOnlyRule items number → items ≡ with_rule before after r → AreKept before → slice_get items number ≡ Some (Rule r)
rule_at_number items number before after r only split kept =
    let same = one_split only.before before only.after after only.rule r (sym only.split ∙ split) only.kept_before kept in
    let place : length before ≡ number = ap length (sym same.0) ∙ only.place in
    subst (λ (k : ℕ). slice_get items k ≡ Some (Rule r)) place (subst (λ (xs : List Item). slice_get xs (length before) ≡ Some (Rule r)) (sym split) (rule_there before after (Rule r)))
