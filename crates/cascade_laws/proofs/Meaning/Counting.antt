-- The winner of a sheet is the best of what applies, and a kept item's part in it is its own best.
use Rattle.std.proofs.Common.{◌≡◌, ℕ, suc, Bool, List, [], ◌∷◌, ◌++◌, map, Option, Some, None, refl, sym, ap, ap₂, ◌∙◌}
use Rattle.std.specs.Option.{option_map}
use Rattle.std.specs.List.{filter}
use Rattle.std.proofs.lemmas.List.{map-append, append-nil}
use Rattle.cascade_laws.specs.Joining.{OrderDecidesWinner}
use Rattle.css_model.specs.declared.sheet.Item.{Item}
use Rattle.css_model.specs.declared.sheet.Item.TheVariants.{Rule, KeptRule, KeptBlock}
use Rattle.css_model.specs.Cascade.Winner.{Declared, AppliedDeclaration, applied_by_decls, applied_by_kept, matching_of, applied_from, applied, greatest, Understood, is_understood, Winner, outcome, winner}
use Rattle.css_model.specs.Documents.Document.{Document, Target}
use Rattle.css_model.specs.Documents.Matching.{matches}
use Rattle.css_model.specs.Documents.SelectorParts.{SelectorParts}
use Rattle.cascade_laws.specs.Meaning.Meanings.{winner_of, MeanAlike, without_place, meaning_of_sheet}
use Rattle.cascade_laws.proofs.Meaning.OneItem.{over, best_of, best_of-append, won, winner_of-best}

-- ---- A sheet as one kept item

alone : List Item
alone = KeptBlock (record { start = 0; «end» = 0 }) ∷ []

-- what a list applies, without its places
outcomes : (n k : ℕ) (es : List AppliedDeclaration) → map outcome es ≡ map outcome (applied_by_kept n k (map without_place es))
outcomes n k [] = refl
outcomes n k (e ∷ es) = ap (λ (ws : List Winner). outcome e ∷ ws) (outcomes n (suc k) es)

-- the law `SheetMeansItsWinner`
pub means_winner : OrderDecidesWinner → (doc : Document) (target : Target) (items : List Item) (us : List Understood) (meanings : List (List Declared)) →
    winner_of us (meaning_of_sheet doc target meanings items) ≡ winner doc target meanings items us
unfolding alone
means_winner law doc target items us meanings =
    let m : List Declared = meaning_of_sheet doc target meanings items in
    let es : List AppliedDeclaration = applied doc target meanings items in
    ap (λ (fs : List AppliedDeclaration). option_map outcome (greatest (filter (is_understood us) fs))) (sym (append-nil (applied_by_kept 0 0 m)))
    ∙ sym (law doc doc target target meanings (m ∷ []) items alone us (outcomes 0 0 es ∙ ap (map outcome) (sym (append-nil (applied_by_kept 0 0 m)))))

-- ---- The best of a sheet, item by item

-- a declaration from what wins by it
abbrev back : Winner → Declared
back w = record { decl = record { name = w.name; value = w.value; important = w.important }; specificity = w.specificity }

back-won : (o : Option Declared) → option_map back (option_map won o) ≡ o
back-won None = refl
back-won (Some d) = refl

same_best : (us : List Understood) (m m' : List Declared) → winner_of us m ≡ winner_of us m' → best_of us m ≡ best_of us m'
same_best us m m' same =
    sym (back-won (best_of us m)) ∙ ap (option_map back) (sym (winner_of-best us m) ∙ same ∙ winner_of-best us m') ∙ back-won (best_of us m')

placeless : (n k : ℕ) (m : List Declared) → map without_place (applied_by_kept n k m) ≡ m
placeless n k [] = refl
placeless n k (d ∷ m) = ap (λ (ds : List Declared). d ∷ ds) (placeless n (suc k) m)

-- the best of entries and of those behind them
best_joined : (us : List Understood) (es fs : List AppliedDeclaration) → best_of us (map without_place (es ++ fs)) ≡ over (best_of us (map without_place es)) (best_of us (map without_place fs))
best_joined us es fs = ap (best_of us) (map-append without_place es fs) ∙ best_of-append us (map without_place es) (map without_place fs)

-- the best behind what a kept item applies
best_kept : (us : List Understood) (n : ℕ) (m : List Declared) (fs : List AppliedDeclaration) → best_of us (map without_place (applied_by_kept n 0 m ++ fs)) ≡ over (best_of us m) (best_of us (map without_place fs))
best_kept us n m fs = best_joined us (applied_by_kept n 0 m) fs ∙ ap (λ (ds : List Declared). over (best_of us ds) (best_of us (map without_place fs))) (placeless n 0 m)

behind_kept : (us : List Understood) (n : ℕ) (m m' : List Declared) (fs gs : List AppliedDeclaration) → winner_of us m ≡ winner_of us m' →
    best_of us (map without_place fs) ≡ best_of us (map without_place gs) →
    best_of us (map without_place (applied_by_kept n 0 m ++ fs)) ≡ best_of us (map without_place (applied_by_kept n 0 m' ++ gs))
behind_kept us n m m' fs gs same rest = best_kept us n m fs ∙ ap₂ over (same_best us m m' same) rest ∙ sym (best_kept us n m' gs)

best_alike : (us : List Understood) (matched : SelectorParts → Bool) (n : ℕ) (items : List Item) (meanings meanings' : List (List Declared)) → MeanAlike us meanings meanings' →
    best_of us (map without_place (applied_from matched n meanings items)) ≡ best_of us (map without_place (applied_from matched n meanings' items))
best_alike us matched n [] meanings meanings' alike = refl
best_alike us matched n (Rule r ∷ items) meanings meanings' alike =
    let es : List AppliedDeclaration = applied_by_decls (matching_of matched r) n 0 r.decls in
    best_joined us es (applied_from matched (suc n) meanings items)
    ∙ ap (over (best_of us (map without_place es))) (best_alike us matched (suc n) items meanings meanings' alike)
    ∙ sym (best_joined us es (applied_from matched (suc n) meanings' items))
best_alike us matched n (KeptRule k ∷ items) [] [] alike = refl
best_alike us matched n (KeptRule k ∷ items) [] (m' ∷ meanings') alike = absurd alike
best_alike us matched n (KeptRule k ∷ items) (m ∷ meanings) [] alike = absurd alike
best_alike us matched n (KeptRule k ∷ items) (m ∷ meanings) (m' ∷ meanings') alike =
    behind_kept us n m m' (applied_from matched (suc n) meanings items) (applied_from matched (suc n) meanings' items) alike.0 (best_alike us matched (suc n) items meanings meanings' alike.1)
best_alike us matched n (KeptBlock p ∷ items) [] [] alike = refl
best_alike us matched n (KeptBlock p ∷ items) [] (m' ∷ meanings') alike = absurd alike
best_alike us matched n (KeptBlock p ∷ items) (m ∷ meanings) [] alike = absurd alike
best_alike us matched n (KeptBlock p ∷ items) (m ∷ meanings) (m' ∷ meanings') alike =
    behind_kept us n m m' (applied_from matched (suc n) meanings items) (applied_from matched (suc n) meanings' items) alike.0 (best_alike us matched (suc n) items meanings meanings' alike.1)

-- the law `MeaningsCountByWinners`
pub count_by_winners : OrderDecidesWinner → (doc : Document) (target : Target) (items : List Item) (us : List Understood) (meanings meanings' : List (List Declared)) →
    MeanAlike us meanings meanings' → winner doc target meanings items us ≡ winner doc target meanings' items us
count_by_winners law doc target items us meanings meanings' alike =
    sym (means_winner law doc target items us meanings)
    ∙ winner_of-best us (meaning_of_sheet doc target meanings items)
    ∙ ap (option_map won) (best_alike us (matches doc target) 0 items meanings meanings' alike)
    ∙ sym (winner_of-best us (meaning_of_sheet doc target meanings' items))
    ∙ means_winner law doc target items us meanings'
