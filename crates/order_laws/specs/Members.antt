-- Whether selectors, declarations and pairs are the same, and whether one is among others.
use Rattle.std.specs.Prelude.{ℕ, ◌==◌, Bool, ◌&&◌, List}
use Rattle.std.specs.List.{list_any}
use Rattle.css_model.specs.contracts.selector.SelectorPartialEq.TheImpl as selector
use Rattle.css_model.specs.contracts.sheet.DeclPartialEq.TheImpl as decl
use Rattle.css_model.specs.declared.sheet.Decl.{Decl}
use Rattle.css_model.specs.declared.sheet.DeclItem.{DeclItem}
use Rattle.css_model.specs.declared.sheet.SelItem.{SelItem}
use Rattle.css_model.specs.Cascade.Order.{Pair}
use Rattle.css_model.specs.Documents.SelectorParts.{SelectorParts}

abbrev pub same_selector : SelectorParts → SelectorParts → Bool
same_selector = (selector.ghosts).eq

abbrev pub same_decl : Decl → Decl → Bool
same_decl = (decl.ghosts).eq

abbrev pub same_pair : Pair → Pair → Bool
same_pair p q = same_selector p.selector q.selector && same_decl p.decl q.decl

-- whether a selector is among these
abbrev pub has_selector : List SelItem → SelectorParts → Bool
has_selector items s = list_any (λ x. same_selector x.selector s) items

-- whether a declaration is among these
abbrev pub has_decl : List DeclItem → Decl → Bool
has_decl items d = list_any (λ x. same_decl x.decl d) items

-- whether a number is among these
abbrev pub has_number : List ℕ → ℕ → Bool
has_number numbers n = list_any (λ m. m == n) numbers
