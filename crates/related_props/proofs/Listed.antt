-- What the table says of a part.
use Rattle.std.proofs.Common.{◌≡◌, ℕ, List, [], ◌∷◌, map, refl, arith}
use Rattle.std.specs.Prelude.{find}
use Rattle.std.specs.List.{list_any}
use Rattle.std.specs.Option.{option_map}
use Rattle.std.specs.Borrow.{Bor}
use Rattle.css_model.specs.Lists.{same_text}
use Rattle.css_model.specs.Cascade.Family.{family_in}
use Rattle.related_props.specs.declared.table.Row.{Row}
use Rattle.related_props.specs.Table.{row_of, words_of}

-- the words of a row
any_of_words : (part : List ℕ) (words : List (Bor (List ℕ))) →
    list_any (λ other. same_text part other) (words_of words) ≡ list_any (λ word. same_text part word.now) words
any_of_words part [] = refl
any_of_words part (w ∷ words) = grind (arith, any_of_words part words)

-- the family of the first row that has the part
pub family_of_row : (part : List ℕ) (table : List Row) →
    option_map (λ row. row.family.now) (find (λ row. list_any (λ word. same_text part word.now) row.parts.now) table) ≡ family_in (map row_of table) part
family_of_row part [] = refl
family_of_row part (row ∷ table) = grind (arith, any_of_words part row.parts.now, family_of_row part table)
