-- The order and the number of a rule's selectors do not decide a winner. So two neighbouring rules with the
-- same set of selectors may be joined.
use Rattle.std.proofs.Common.{arith, ◌≡◌, ◌↔◌, ℕ, suc, Bool, true, false, List, [], ◌∷◌, ◌++◌, map, Option, Some, None, IfSome, refl, sym, ap, ap₂, ◌∙◌}
use Rattle.std.proofs.lemmas.List.{map-append}
use Rattle.std.proofs.lemmas.List.Elements.{All-weaker, All-contains, All-contains_itself, filter-append}
use Rattle.std.specs.List.{All, Contains, filter}
use Rattle.std.specs.Option.{option_map}
use Rattle.cascade_laws.proofs.Applying.{one-words, words-one}
use Rattle.cascade_laws.proofs.ApplyingAlike.{one_decl, applied_anywhere, joining_anywhere}
use Rattle.cascade_laws.proofs.Greatest.{winner-greatest, winner-none, none-winner}
use Rattle.cascade_laws.proofs.InOrder.{InOrder, applied-in_order, decl-in_order, weight, better, best, understood_winner, winner-by_order, greatest-winner, alike_wins}
use Rattle.list_facts.proofs.Members.{Contains-filter, Contains-filtered}
use Rattle.cascade_laws.proofs.Ranking.{exceeds-transitive, exceeds-not_transitive}
use Rattle.css_model.specs.declared.sheet.Decl.{Decl}
use Rattle.css_model.specs.declared.sheet.DeclItem.{DeclItem}
use Rattle.css_model.specs.declared.sheet.Item.{Item}
use Rattle.css_model.specs.declared.sheet.Item.TheVariants.{Rule, KeptRule, KeptBlock}
use Rattle.css_model.specs.Cascade.Winner.{Declared, Place, AppliedDeclaration, applied_by_decl, applied_by_decls, applied_by_kept, matching_of, applied_from, applied, exceeds, greatest, outranks, Understood, is_understood, Winner, outcome, winner}
use Rattle.css_model.specs.Documents.Document.{Document, Target}
use Rattle.cascade_laws.specs.Winning.{IsGreatest}
use Rattle.css_model.specs.Cascade.Alike.{WinAlike}
use Rattle.css_model.specs.Sheets.StyleRule.{HaveSameSelectors, joined}
use Rattle.css_model.specs.Documents.Matching.{matches}
use Rattle.css_model.specs.Sheets.RuleParts.{RuleParts}
use Rattle.css_model.specs.Documents.SelectorParts.{SelectorParts}
use Rattle.css_model.specs.Documents.Specificity.{specificity_of}
use Rattle.css_model.specs.Sheets.StyleRule.{selectors_of}
use Rattle.css_model.specs.Text.Lexemes.{after}
use Rattle.css_model.specs.Sheets.Items.{items}
use Rattle.css_model.specs.Text.Kept.{kept}
use Rattle.css_model.specs.Text.Names.{lower}

-- ---- The winner of lists one after the other

-- the better of the best of two lists
abbrev over : Option Winner → Option Winner → Option Winner
over None o = o
over (Some w) o = better w o

better-three : (w v u : Winner) → better w (better v (Some u)) ≡ over (better w (Some v)) (Some u)
better-three w v u = which (exceeds (weight w) (weight v)) (exceeds (weight v) (weight u)) refl refl
  where
    which : (a b : Bool) → exceeds (weight w) (weight v) ≡ a → exceeds (weight v) (weight u) ≡ b → better w (better v (Some u)) ≡ over (better w (Some v)) (Some u)
    which true true h g = let far : exceeds (weight w) (weight u) ≡ true = exceeds-transitive (weight w) (weight v) (weight u) h g in grind (arith, h, g, far)
    which true false h g = grind (arith, h, g)
    which false true h g = grind (arith, h, g)
    which false false h g = let far : exceeds (weight w) (weight u) ≡ false = exceeds-not_transitive (weight w) (weight v) (weight u) refl h g in grind (arith, h, g, far)

over-none : (o : Option Winner) → over o None ≡ o
over-none None = refl
over-none (Some w) = refl

better-over : (w : Winner) (o o' : Option Winner) → better w (over o o') ≡ over (better w o) o'
better-over w None o' = refl
better-over w (Some v) None = sym (over-none (better w (Some v)))
better-over w (Some v) (Some u) = better-three w v u

best-append : (ws vs : List Winner) → best (ws ++ vs) ≡ over (best ws) (best vs)
best-append [] vs = refl
best-append (w ∷ ws) vs = ap (better w) (best-append ws vs) ∙ better-over w (best ws) (best vs)

-- the best of what is understood of entries
abbrev best_of : List Understood → List AppliedDeclaration → Option Winner
best_of us es = best (filter (understood_winner us) (map outcome es))

best_of-append : (us : List Understood) (es fs : List AppliedDeclaration) → best_of us (es ++ fs) ≡ over (best_of us es) (best_of us fs)
best_of-append us es fs =
    ap (λ ws. best (filter (understood_winner us) ws)) (map-append outcome es fs)
    ∙ ap best (filter-append (understood_winner us) (map outcome es) (map outcome fs))
    ∙ best-append (filter (understood_winner us) (map outcome es)) (filter (understood_winner us) (map outcome fs))

winner-best_of : (doc : Document) (target : Target) (meanings : List (List Declared)) (items : List Item) (us : List Understood) → winner doc target meanings items us ≡ best_of us (applied doc target meanings items)
winner-best_of doc target meanings items us = winner-by_order us (applied doc target meanings items) (applied-in_order (matches doc target) 0 meanings items)

best_of-anywhere : (us : List Understood) (matched : SelectorParts → Bool) (n m : ℕ) (meanings : List (List Declared)) (items : List Item) → best_of us (applied_from matched n meanings items) ≡ best_of us (applied_from matched m meanings items)
best_of-anywhere us matched n m meanings items = ap (λ ws. best (filter (understood_winner us) ws)) (applied_anywhere matched n m meanings items)

-- ---- An item before both lists

-- the winners of an item that applies these entries, and of the items behind it
behind_entries : (doc : Document) (target : Target) (meanings : List (List Declared)) (us : List Understood) (es : List AppliedDeclaration) (items : List Item) →
    best_of us (es ++ applied_from (matches doc target) 1 meanings items) ≡ over (best_of us es) (winner doc target meanings items us)
behind_entries doc target meanings us es items =
    best_of-append us es (applied_from (matches doc target) 1 meanings items)
    ∙ ap (over (best_of us es)) (best_of-anywhere us (matches doc target) 1 0 meanings items ∙ sym (winner-best_of doc target meanings items us))

behind_same : (doc : Document) (target : Target) (meanings : List (List Declared)) (us : List Understood) (es : List AppliedDeclaration) (items items' : List Item) →
    winner doc target meanings items us ≡ winner doc target meanings items' us →
    best_of us (es ++ applied_from (matches doc target) 1 meanings items) ≡ best_of us (es ++ applied_from (matches doc target) 1 meanings items')
behind_same doc target meanings us es items items' alike =
    behind_entries doc target meanings us es items ∙ ap (over (best_of us es)) alike ∙ sym (behind_entries doc target meanings us es items')

best_behind : (item : Item) (items items' : List Item) → WinAlike items items' → (doc : Document) (target : Target) (meanings : List (List Declared)) (us : List Understood) →
    best_of us (applied doc target meanings (item ∷ items)) ≡ best_of us (applied doc target meanings (item ∷ items'))
best_behind (Rule rule) items items' alike doc target meanings us =
    behind_same doc target meanings us (applied_by_decls (matching_of (matches doc target) rule) 0 0 rule.decls) items items' (alike doc target meanings us)
best_behind (KeptRule kept) items items' alike doc target [] us = behind_same doc target [] us [] items items' (alike doc target [] us)
best_behind (KeptRule kept) items items' alike doc target (m ∷ meanings) us = behind_same doc target meanings us (applied_by_kept 0 0 m) items items' (alike doc target meanings us)
best_behind (KeptBlock piece) items items' alike doc target [] us = behind_same doc target [] us [] items items' (alike doc target [] us)
best_behind (KeptBlock piece) items items' alike doc target (m ∷ meanings) us = behind_same doc target meanings us (applied_by_kept 0 0 m) items items' (alike doc target meanings us)

-- lists of items that win alike do so behind one more item
pub wins_behind_an_item : (item : Item) (items items' : List Item) → WinAlike items items' → WinAlike (item ∷ items) (item ∷ items')
wins_behind_an_item item items items' alike doc target meanings us =
    winner-best_of doc target meanings (item ∷ items) us
    ∙ best_behind item items items' alike doc target meanings us
    ∙ sym (winner-best_of doc target meanings (item ∷ items') us)

pub wins_behind_items : (before items items' : List Item) → WinAlike items items' → WinAlike (before ++ items) (before ++ items')
wins_behind_items [] items items' alike = alike
wins_behind_items (item ∷ before) items items' alike = wins_behind_an_item item (before ++ items) (before ++ items') (wins_behind_items before items items' alike)

-- ---- Lists with the same members

All-of_members : (P : AppliedDeclaration → Type 0) (es : List AppliedDeclaration) → ((e : AppliedDeclaration) → Contains es e → P e) → All P es
All-of_members P es f = All-weaker (Contains es) P f es (All-contains_itself es)

abbrev HaveSameEntries : List AppliedDeclaration → List AppliedDeclaration → Type 0
HaveSameEntries es fs = (e : AppliedDeclaration) → Contains es e ↔ Contains fs e

greatest-carried : (us : List Understood) (es fs : List AppliedDeclaration) (e : AppliedDeclaration) → HaveSameEntries es fs → IsGreatest us es e → IsGreatest us fs e
greatest-carried us es fs e same g = record {
  applied = (same e).0 g.applied;
  understood = g.understood;
  greatest = All-of_members (λ f. is_understood us f ≡ true → outranks f e ≡ false) fs (λ f inside. All-contains (λ f. is_understood us f ≡ true → outranks f e ≡ false) es f g.greatest ((same f).1 inside));
}

-- entries in order that are the same up to order and number have the same winner
pub same_entries_win : (us : List Understood) (es fs : List AppliedDeclaration) → InOrder fs → HaveSameEntries es fs →
    option_map outcome (greatest (filter (is_understood us) es)) ≡ option_map outcome (greatest (filter (is_understood us) fs))
same_entries_win us es fs order same = which (option_map outcome (greatest (filter (is_understood us) es))) refl (winner-greatest us es)
  where
    which : (o : Option Winner) → option_map outcome (greatest (filter (is_understood us) es)) ≡ o → IfSome o (λ w. (e : AppliedDeclaration) × IsGreatest us es e × (w ≡ outcome e)) →
        option_map outcome (greatest (filter (is_understood us) es)) ≡ option_map outcome (greatest (filter (is_understood us) fs))
    which None none h = none ∙ sym (none-winner us fs
        (All-of_members (λ f. is_understood us f ≡ false) fs (λ f inside. All-contains (λ f. is_understood us f ≡ false) es f (winner-none us es none) ((same f).1 inside))))
    which (Some w) some h = some ∙ ap Some h.2 ∙ sym (greatest-winner us fs h.0 order (greatest-carried us es fs h.0 same h.1))

-- ---- The order and the number of the selectors

abbrev HaveSameMembers : List SelectorParts → List SelectorParts → Type 0
HaveSameMembers ss ts = (s : SelectorParts) → Contains ss s ↔ Contains ts s

entries-carried : (ss ts : List SelectorParts) (p : Place) (d : Decl) (e : AppliedDeclaration) → ((s : SelectorParts) → Contains ss s → Contains ts s) → Contains (applied_by_decl ss p d) e → Contains (applied_by_decl ts p d) e
entries-carried ss ts p d e carried h =
    let w : (s : SelectorParts) × Contains ss s × (e.decl ≡ d) × (e.specificity ≡ specificity_of s) × (e.place ≡ p) = one-words ss p d e h in
    words-one ts p d e w.0 (carried w.0 w.1) w.2 w.3 w.4

same-entries : (ss ts : List SelectorParts) (p : Place) (d : Decl) → HaveSameMembers ss ts → HaveSameEntries (applied_by_decl ss p d) (applied_by_decl ts p d)
same-entries ss ts p d same e = (entries-carried ss ts p d e (λ s. (same s).0), entries-carried ts ss p d e (λ s. (same s).1))

decl-wins : (us : List Understood) (ss ts : List SelectorParts) (item position item' position' : ℕ) (d : Decl) → HaveSameMembers ss ts →
    best_of us (applied_by_decl ss (record { item = item; position = position }) d) ≡ best_of us (applied_by_decl ts (record { item = item'; position = position' }) d)
decl-wins us ss ts item position item' position' d same =
    let p : Place = record { item = item; position = position } in
    let q : Place = record { item = item'; position = position' } in
    sym (winner-by_order us (applied_by_decl ss p d) (decl-in_order ss item position d))
    ∙ same_entries_win us (applied_by_decl ss p d) (applied_by_decl ts p d) (decl-in_order ts item position d) (same-entries ss ts p d same)
    ∙ winner-by_order us (applied_by_decl ts p d) (decl-in_order ts item position d)
    ∙ ap (λ ws. best (filter (understood_winner us) ws)) (one_decl ts p q d)

decls-win : (us : List Understood) (ss ts : List SelectorParts) (item position item' position' : ℕ) (ds : List DeclItem) → HaveSameMembers ss ts →
    best_of us (applied_by_decls ss item position ds) ≡ best_of us (applied_by_decls ts item' position' ds)
decls-win us ss ts item position item' position' [] same = refl
decls-win us ss ts item position item' position' (d ∷ ds) same =
    best_of-append us (applied_by_decl ss (record { item = item; position = position }) d.decl) (applied_by_decls ss item (suc position) ds)
    ∙ ap₂ over (decl-wins us ss ts item position item' position' d.decl same) (decls-win us ss ts item (suc position) item' (suc position') ds same)
    ∙ sym (best_of-append us (applied_by_decl ts (record { item = item'; position = position' }) d.decl) (applied_by_decls ts item' (suc position') ds))

filter-carried : (matched : SelectorParts → Bool) (ss ts : List SelectorParts) (s : SelectorParts) → (Contains ss s → Contains ts s) → Contains (filter matched ss) s → Contains (filter matched ts) s
filter-carried matched ss ts s carried h = Contains-filtered matched ts s (carried (Contains-filter matched ss s h).0) (Contains-filter matched ss s h).1

matching-same : (matched : SelectorParts → Bool) (r q : RuleParts) → HaveSameSelectors r q → HaveSameMembers (matching_of matched r) (matching_of matched q)
matching-same matched r q same s = (filter-carried matched (selectors_of r) (selectors_of q) s (same s).0, filter-carried matched (selectors_of q) (selectors_of r) s (same s).1)

set_first : (after : List Item) (r q : RuleParts) → HaveSameSelectors r q → r.decls ≡ q.decls → WinAlike (Rule r ∷ after) (Rule q ∷ after)
set_first after r q same decls doc target meanings us =
    let matched : SelectorParts → Bool = matches doc target in
    winner-best_of doc target meanings (Rule r ∷ after) us
    ∙ best_of-append us (applied_by_decls (matching_of matched r) 0 0 r.decls) (applied_from matched 1 meanings after)
    ∙ ap (λ o. over o (best_of us (applied_from matched 1 meanings after)))
    (decls-win us (matching_of matched r) (matching_of matched q) 0 0 0 0 r.decls (matching-same matched r q same) ∙ ap (λ ds. best_of us (applied_by_decls (matching_of matched q) 0 0 ds)) decls)
    ∙ sym (best_of-append us (applied_by_decls (matching_of matched q) 0 0 q.decls) (applied_from matched 1 meanings after))
    ∙ sym (winner-best_of doc target meanings (Rule q ∷ after) us)

-- a rule's selectors count as a set
pub set_of_selectors : (before after : List Item) (r q : RuleParts) → HaveSameSelectors r q → r.decls ≡ q.decls → WinAlike (before ++ Rule r ∷ after) (before ++ Rule q ∷ after)
set_of_selectors before after r q same decls = wins_behind_items before (Rule r ∷ after) (Rule q ∷ after) (set_first after r q same decls)

-- the law `JoiningASetKeepsWinners`: the lower rule takes the list of the upper one first
pub joining_a_set : (before after : List Item) (upper lower : RuleParts) → HaveSameSelectors upper lower → WinAlike (before ++ Rule upper ∷ Rule lower ∷ after) (before ++ Rule (joined upper lower) ∷ after)
joining_a_set before after upper lower same doc target meanings us =
    let listed : RuleParts = record { selectors = upper.selectors; decls = lower.decls } in
    wins_behind_items before (Rule upper ∷ Rule lower ∷ after) (Rule upper ∷ Rule listed ∷ after)
    (wins_behind_an_item (Rule upper) (Rule lower ∷ after) (Rule listed ∷ after) (set_first after lower listed (λ s. ((same s).1, (same s).0)) refl)) doc target meanings us
    ∙ alike_wins (before ++ Rule upper ∷ Rule listed ∷ after) (before ++ Rule (joined upper lower) ∷ after) (joining_anywhere before after upper listed refl) doc target meanings us
