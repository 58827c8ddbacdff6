-- What the rules apply is what the sheet applies, where kept items apply nothing.
use Rattle.std.proofs.Common.{◌≡◌, ℕ, suc, ◌+◌, Bool, List, [], ◌∷◌, ◌++◌, map, refl, ap, ap₂, ◌∙◌, add-one}
use Rattle.css_model.specs.declared.sheet.Decl.{Decl}
use Rattle.css_model.specs.declared.sheet.DeclItem.{DeclItem}
use Rattle.css_model.specs.declared.sheet.Item.{Item}
use Rattle.css_model.specs.declared.sheet.Item.TheVariants.{Rule, KeptRule, KeptBlock}
use Rattle.css_model.specs.Cascade.Winner.{AppliedDeclaration, Place, applied_by_decl, applied_by_decls, applied_from, matching_of}
use Rattle.css_model.specs.Documents.SelectorParts.{SelectorParts}
use Rattle.css_model.specs.Documents.Specificity.{specificity_of}
use Rattle.cascade_eval.specs.Entries.{by_rules, weighed, weighed_all}
use Rattle.cascade_eval.specs.Winners.{no_meanings}

weighed_is : (matching : List SelectorParts) (place : Place) (decl : Decl) → weighed (map (λ selector. specificity_of selector) matching) place decl ≡ applied_by_decl matching place decl
weighed_is [] place decl = refl
weighed_is (s ∷ matching) place decl =
    ap (λ (es : List AppliedDeclaration). record { decl = decl; specificity = specificity_of s; place = place } ∷ es) (weighed_is matching place decl)

weighed_all_is : (matching : List SelectorParts) (item position : ℕ) (decls : List DeclItem) →
    weighed_all (map (λ selector. specificity_of selector) matching) item position decls ≡ applied_by_decls matching item position decls
weighed_all_is matching item position [] = refl
weighed_all_is matching item position (d ∷ decls) =
    ap₂ (λ (xs ys : List AppliedDeclaration). xs ++ ys) (weighed_is matching (record { item = item; position = position }) d.decl) (weighed_all_is matching item (position + 1) decls ∙ ap (λ (m : ℕ). applied_by_decls matching item m decls) (add-one position))

later_rules : (matched : SelectorParts → Bool) (n : ℕ) (items : List Item) → by_rules matched (n + 1) items ≡ applied_from matched (n + 1) (no_meanings items) items →
    by_rules matched (n + 1) items ≡ applied_from matched (suc n) (no_meanings items) items
later_rules matched n items h = h ∙ ap (λ (m : ℕ). applied_from matched m (no_meanings items) items) (add-one n)

pub rules_apply : (matched : SelectorParts → Bool) (n : ℕ) (items : List Item) → by_rules matched n items ≡ applied_from matched n (no_meanings items) items
rules_apply matched n [] = refl
rules_apply matched n (Rule r ∷ items) =
    ap₂ (λ (xs ys : List AppliedDeclaration). xs ++ ys) (weighed_all_is (matching_of matched r) n 0 r.decls) (later_rules matched n items (rules_apply matched (n + 1) items))
rules_apply matched n (KeptRule kept ∷ items) = later_rules matched n items (rules_apply matched (n + 1) items)
rules_apply matched n (KeptBlock piece ∷ items) = later_rules matched n items (rules_apply matched (n + 1) items)
