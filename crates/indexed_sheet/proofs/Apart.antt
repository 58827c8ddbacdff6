-- Rules that have no selector in common.
use Rattle.std.proofs.Common.{◌≡◌, ◌≢◌, ℕ, Bool, false, not, if◌then◌else◌, List, [], ◌∷◌, refl, ap, ◌∙◌}
use Rattle.std.specs.List.{filter}
use Rattle.std.proofs.lemmas.Bool.{false_from_ne_true}
use Rattle.list_facts.proofs.Members.{Contains-here, Contains-there}
use Rattle.css_model.specs.declared.sheet.Item.{Item}
use Rattle.css_model.specs.declared.sheet.SelItem.{SelItem}
use Rattle.order_laws.proofs.ForCallers.{sels, has_selector_is}
use Rattle.order_laws.specs.Members.{has_selector}
use Rattle.step_savings.specs.Apart.{RulesApart}
use Rattle.indexed_sheet.specs.Facts.{HasOwnSelectors}
use Rattle.indexed_sheet.specs.Putting.{HaveNoneInCommon}

-- of two lists with none in common, all of the second are new to the first
pub all_new : (others xs : List SelItem) → HaveNoneInCommon others xs → filter (λ x. not (has_selector others x.selector)) xs ≡ xs
all_new others [] apart = refl
all_new others (x ∷ xs) apart =
    let lacks : has_selector others x.selector ≡ false = false_from_ne_true (has_selector others x.selector) (λ has. apart x.selector ((has_selector_is others x.selector).0 has) (Contains-here x.selector (sels xs))) in
    ap (λ (b : Bool). if not b then x ∷ filter (λ x. not (has_selector others x.selector)) xs else filter (λ x. not (has_selector others x.selector)) xs) lacks
    ∙ ap (λ (ys : List SelItem). x ∷ ys) (all_new others xs (λ s a b. apart s a (Contains-there x.selector (sels xs) s b)))

-- a rule with selectors of its own is apart from another one below it, and from another one above it
pub own_apart : (items : List Item) (n m : ℕ) → m ≢ n → HasOwnSelectors items n → RulesApart items n m
own_apart items n m differ own r q at at' s in_r in_q = own m r q s differ at at' in_r in_q

pub apart_from_own : (items : List Item) (n m : ℕ) → n ≢ m → HasOwnSelectors items m → RulesApart items n m
apart_from_own items n m differ own r q at at' s in_r in_q = own n q r s differ at' at in_q in_r
