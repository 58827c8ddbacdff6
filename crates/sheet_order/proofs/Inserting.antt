-- Pairs put into a table one by one.
use Rattle.std.proofs.Common.{◌≡◌, ℕ, List, [], ◌∷◌, ◌++◌, map, reverse, ap, ◌∙◌}
use Rattle.std.specs.List.{flat_map}
use Rattle.std.proofs.lemmas.List.Concat.{flat_map-cons}
use Rattle.std.proofs.lemmas.List.Sums.{fold-append}
use Rattle.css_model.specs.declared.sheet.Decl.{Decl}
use Rattle.css_model.specs.Documents.SelectorParts.{SelectorParts}
use Rattle.indexmap.specs.IndexSet.{insert_key}
use Rattle.order_laws.specs.Members.{same_pair}
use Rattle.order_laws.specs.Places.{PlacedPair, placed}
use Rattle.sheet_order.proofs.Lists.{reverse_push}
use Rattle.sheet_order.specs.Keys.{inserted, products_back}

pub inserted_append : (found xs ys : List PlacedPair) → inserted found (xs ++ ys) ≡ inserted (inserted found xs) ys
inserted_append found xs ys = fold-append (insert_key (λ p q. same_pair q.pair p.pair)) found xs ys

pub products_next : (found : List PlacedPair) (item : ℕ) (before : List (ℕ × SelectorParts)) (last : ℕ × SelectorParts) (decls : List (ℕ × Decl)) →
    inserted found (products_back item (before ++ last ∷ []) decls) ≡ inserted (inserted found (map (placed item last) decls)) (products_back item before decls)
products_next found item before last decls =
    ap (λ xs. inserted found (flat_map (λ s. map (placed item s) decls) xs)) (reverse_push before last)
    ∙ ap (inserted found) (flat_map-cons (λ s. map (placed item s) decls) last (reverse before))
    ∙ inserted_append found (map (placed item last) decls) (products_back item before decls)
