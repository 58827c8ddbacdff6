-- Selectors that are put into a set one after the other.
use Rattle.std.proofs.Common.{◌≡◌, Bool, true, false, cond, List, [], ◌∷◌, refl, sym, ap, ap₂, ◌∙◌}
use Rattle.std.specs.Prelude.{◌&&◌, ◌||◌}
use Rattle.std.specs.List.{list_all, list_any}
use Rattle.css_model.specs.declared.sheet.SelItem.{SelItem}
use Rattle.css_model.specs.Documents.SelectorParts.{SelectorParts}
use Rattle.order_laws.specs.Members.{has_selector, same_selector}
use Rattle.rule_parts.specs.SelectorSets.{AreSelectors, PutsSelector}

-- these keys and the rest are together the selectors of all
abbrev pub AreBeside : List SelItem → List SelectorParts → List SelItem → Type 0
AreBeside rest keys all = (s : SelectorParts) → (list_any (same_selector s) keys || has_selector rest s) ≡ has_selector all s

either : (b o : Bool) → cond b true o ≡ (b || o)
either true o = refl
either false o = refl

moved : (b o r : Bool) → ((b || o) || r) ≡ (o || (b || r))
moved true true r = refl
moved true false r = refl
moved false o r = refl

none_left : (o : Bool) → o ≡ (o || false)
none_left true = refl
none_left false = refl

pub puts : (old new : List SelectorParts) (key : SelectorParts) →
    ((s : SelectorParts) → list_any (same_selector s) new ≡ cond (same_selector key s) true (list_any (same_selector s) old)) → PutsSelector old key new
puts old new key updates s = updates s ∙ either (same_selector key s) (list_any (same_selector s) old)

pub beside_next : (rest behind all : List SelItem) (first : SelItem) (old new : List SelectorParts) → rest ≡ first ∷ behind → AreBeside rest old all →
    PutsSelector old first.selector new → AreBeside behind new all
beside_next rest behind all first old new is beside put s =
    ap (λ (b : Bool). b || has_selector behind s) (put s)
    ∙ moved (same_selector first.selector s) (list_any (same_selector s) old) (has_selector behind s)
    ∙ sym (ap (λ (items : List SelItem). list_any (same_selector s) old || has_selector items s) is)
    ∙ beside s

pub beside_all : (rest all : List SelItem) (keys : List SelectorParts) → rest ≡ [] → AreBeside rest keys all → AreSelectors all keys
beside_all rest all keys is beside s =
    none_left (list_any (same_selector s) keys) ∙ sym (ap (λ (items : List SelItem). list_any (same_selector s) keys || has_selector items s) is) ∙ beside s

pub all_in : (others items : List SelItem) (keys : List SelectorParts) → AreSelectors others keys →
    list_all (λ s. list_any (same_selector s.selector) keys) items ≡ list_all (λ s. has_selector others s.selector) items
all_in others [] keys are = refl
all_in others (x ∷ items) keys are = ap₂ (λ (a b : Bool). a && b) (are x.selector) (all_in others items keys are)
