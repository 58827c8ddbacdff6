-- What holds of each token holds of those of each item.
use Rattle.std.proofs.Common.{ℕ, zero, suc, List, [], ◌∷◌, take}
use Rattle.std.specs.List.{AllByRecursion}
use Rattle.css_model.specs.declared.token.Lexeme.{Lexeme}
use Rattle.css_model.specs.Sheets.Items.{items_from, item_len, is_between_items}
use Rattle.css_model.specs.Lists.{less_one}
use Rattle.list_facts.proofs.Elements.{all_if, all_take}

pub all_items : (P : Lexeme → Type 0) (left : ℕ) (xs : List Lexeme) → AllByRecursion P xs → AllByRecursion (AllByRecursion P) (items_from left xs)
all_items P left [] all = tt
all_items P (suc left) (x ∷ xs) (first, all) = all_items P left xs all
all_items P zero (x ∷ xs) (first, all) =
    let n = item_len (x ∷ xs) in
    all_if (AllByRecursion P) (is_between_items x.kind) (items_from 0 xs) (take n (x ∷ xs) ∷ items_from (less_one n) xs) (all_items P 0 xs all)
    (all_take P n (x ∷ xs) (first, all), all_items P (less_one n) xs all)
