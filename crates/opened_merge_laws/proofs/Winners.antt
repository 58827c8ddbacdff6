-- Sheets that are twins but for what kept blocks say have the same winners, whatever kept items apply.
use Rattle.std.proofs.Common.{◌≡◌, ℕ, suc, List, [], ◌∷◌, ◌++◌, map, refl, ap, ap₂}
use Rattle.std.specs.Option.{option_map}
use Rattle.std.specs.List.{filter}
use Rattle.css_model.specs.declared.sheet.DeclItem.{DeclItem}
use Rattle.css_model.specs.declared.sheet.Item.{Item}
use Rattle.css_model.specs.declared.sheet.Item.TheVariants.{Rule, KeptRule, KeptBlock}
use Rattle.css_model.specs.Cascade.Winner.{AppliedDeclaration, Declared, Understood, applied_by_decl, applied_by_decls, applied_by_kept, applied_from, greatest, is_understood, matching_of, outcome, winner}
use Rattle.css_model.specs.Documents.Document.{Document, Target}
use Rattle.css_model.specs.Documents.Matching.{matches}
use Rattle.css_model.specs.Documents.SelectorParts.{SelectorParts}
use Rattle.css_model.specs.Sheets.RuleParts.{RuleParts}
use Rattle.plan_laws.specs.Planned.{AreTwinsButBlocks}
use Rattle.plan_laws.proofs.ForCallers.{same_decls, same_selectors}
use Rattle.sheet_laws.specs.Twins.{AreTwinRules}
use Rattle.std.specs.Prelude.{Bool}

-- what declarations apply hangs on nothing but what they say
by_decls : (matching : List SelectorParts) (item position : ℕ) (ds ds' : List DeclItem) → map (λ d. d.decl) ds ≡ map (λ d. d.decl) ds' → applied_by_decls matching item position ds ≡ applied_by_decls matching item position ds'
by_decls matching item position [] [] same = refl
by_decls matching item position [] (d' ∷ ds') same = absurd cc
by_decls matching item position (d ∷ ds) [] same = absurd cc
by_decls matching item position (d ∷ ds) (d' ∷ ds') same =
    let first : d.decl ≡ d'.decl = cc in
    let rest : map (λ d. d.decl) ds ≡ map (λ d. d.decl) ds' = cc in
    ap₂ (λ (xs ys : List AppliedDeclaration). xs ++ ys) (ap (applied_by_decl matching (record { item = item; position = position })) first) (by_decls matching item (suc position) ds ds' rest)

by_rules : (matched : SelectorParts → Bool) (item : ℕ) (source source' : List ℕ) (r r' : RuleParts) → AreTwinRules source source' r r' →
    applied_by_decls (matching_of matched r) item 0 r.decls ≡ applied_by_decls (matching_of matched r') item 0 r'.decls
by_rules matched item source source' r r' twins =
    rw (ap (filter matched) (same_selectors source source' r r' twins)) (by_decls (matching_of matched r') item 0 r.decls r'.decls (same_decls source source' r r' twins))

by_items : (matched : SelectorParts → Bool) (source source' : List ℕ) (n : ℕ) (meanings : List (List Declared)) (items items' : List Item) → AreTwinsButBlocks source source' items items' →
    applied_from matched n meanings items ≡ applied_from matched n meanings items'
by_items matched source source' n meanings [] [] t = refl
by_items matched source source' n meanings [] (x' ∷ items') t = absurd t
by_items matched source source' n meanings (x ∷ items) [] t = absurd t
by_items matched source source' n meanings (Rule r ∷ items) (Rule r' ∷ items') t =
    ap₂ (λ (xs ys : List AppliedDeclaration). xs ++ ys) (by_rules matched n source source' r r' t.0) (by_items matched source source' (suc n) meanings items items' t.1)
by_items matched source source' n [] (KeptRule k ∷ items) (KeptRule k' ∷ items') t = by_items matched source source' (suc n) [] items items' t.1
by_items matched source source' n (m ∷ meanings) (KeptRule k ∷ items) (KeptRule k' ∷ items') t =
    ap (λ (ys : List AppliedDeclaration). applied_by_kept n 0 m ++ ys) (by_items matched source source' (suc n) meanings items items' t.1)
by_items matched source source' n [] (KeptBlock p ∷ items) (KeptBlock p' ∷ items') t = by_items matched source source' (suc n) [] items items' t.1
by_items matched source source' n (m ∷ meanings) (KeptBlock p ∷ items) (KeptBlock p' ∷ items') t =
    ap (λ (ys : List AppliedDeclaration). applied_by_kept n 0 m ++ ys) (by_items matched source source' (suc n) meanings items items' t.1)
by_items matched source source' n meanings (Rule r ∷ items) (KeptRule k' ∷ items') t = absurd t.0
by_items matched source source' n meanings (Rule r ∷ items) (KeptBlock p' ∷ items') t = absurd t.0
by_items matched source source' n meanings (KeptRule k ∷ items) (Rule r' ∷ items') t = absurd t.0
by_items matched source source' n meanings (KeptRule k ∷ items) (KeptBlock p' ∷ items') t = absurd t.0
by_items matched source source' n meanings (KeptBlock p ∷ items) (Rule r' ∷ items') t = absurd t.0
by_items matched source source' n meanings (KeptBlock p ∷ items) (KeptRule k' ∷ items') t = absurd t.0

pub twins_win_alike : (source source' : List ℕ) (items items' : List Item) → AreTwinsButBlocks source source' items items' →
    (doc : Document) (target : Target) (meanings : List (List Declared)) (us : List Understood) → winner doc target meanings items us ≡ winner doc target meanings items' us
twins_win_alike source source' items items' t doc target meanings us =
    ap (λ (es : List AppliedDeclaration). option_map outcome (greatest (filter (is_understood us) es))) (by_items (matches doc target) source source' 0 meanings items items' t)
