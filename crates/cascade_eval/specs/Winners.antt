-- Which declarations of a sheet win for the target of an example, where no kept item applies anything (own).
use Rattle.std.specs.Prelude.{◌≡◌, ℕ, ◌++◌, if◌then◌else◌, List, [], ◌∷◌, Option, map}
use Rattle.std.specs.List.{filter_map}
use Rattle.css_model.specs.declared.example.Example.{Example}
use Rattle.css_model.specs.declared.sheet.DeclItem.{DeclItem}
use Rattle.css_model.specs.declared.sheet.Item.{Item}
use Rattle.css_model.specs.declared.sheet.Item.TheVariants.{Rule, KeptRule, KeptBlock}
use Rattle.css_model.specs.Cascade.Winner.{AppliedDeclaration, Declared, Understood, Winner, applied, winner}
use Rattle.css_model.specs.Documents.RunDocuments.{expand, target_of}
use Rattle.css_model.specs.Lists.{same_text}
use Rattle.css_model.specs.Sheets.KeptItems.{kept_items}
use Rattle.cascade_eval.specs.declared.won.Won.{Won}
use Rattle.cascade_eval.specs.Entries.{AscendingNames}

-- the empty list as the meaning of each kept item
abbrev pub no_meanings : List Item → List (List Declared)
no_meanings items = map (λ item. []) (kept_items items)

-- what a sheet applies to the target of an example
abbrev pub applied_in : Example → List Item → List AppliedDeclaration
applied_in x items = applied (expand x) (target_of x) (no_meanings items) items

-- all values that declarations, and those of a sheet's rules, give a property
abbrev pub values_in : List ℕ → List DeclItem → List Understood
values_in name [] = []
values_in name (d ∷ decls) = if same_text d.decl.name name then (record { name = d.decl.name; value = d.decl.value } ∷ values_in name decls) else values_in name decls

abbrev pub values_of : List ℕ → List Item → List Understood
values_of name [] = []
values_of name (Rule r ∷ items) = values_in name r.decls ++ values_of name items
values_of name (KeptRule kept ∷ items) = values_of name items
values_of name (KeptBlock piece ∷ items) = values_of name items

-- the winner among all values of a property
abbrev pub winner_of : Example → List Item → List ℕ → Option Winner
winner_of x items name = winner (expand x) (target_of x) (no_meanings items) items (values_of name items)

abbrev pub outcome_of : Won → Winner
outcome_of won = record { name = won.decl.name; value = won.decl.value; important = won.decl.important; specificity = won.weight }

-- for each name of a declaration that applies the winner, ascending by the names' code points
pub record AreWinners (x : Example) (items : List Item) (wons : List Won) : Type 0 where
  pub names : List (List ℕ)
  pub ascend : AscendingNames names (applied_in x items)
  pub won : map (λ won. outcome_of won) wons ≡ filter_map (winner_of x items) names
