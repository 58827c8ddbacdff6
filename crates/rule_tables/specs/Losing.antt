-- Which parts a rule can lose, by the pairs of the other rules (own).
use Rattle.std.specs.Prelude.{◌≡◌, ◌⊎◌, ℕ, List, Some, map, slice_get}
use Rattle.std.specs.List.{Contains, remove}
use Rattle.css_model.specs.declared.sheet.Decl.{Decl}
use Rattle.css_model.specs.declared.sheet.DeclItem.{DeclItem}
use Rattle.css_model.specs.declared.sheet.SelItem.{SelItem}
use Rattle.css_model.specs.Documents.SelectorParts.{SelectorParts}
use Rattle.css_model.specs.Sheets.RuleParts.{RuleParts}
use Rattle.css_model.specs.Sheets.StyleRule.{selectors_of}
use Rattle.rule_tables.specs.Pairs.{AnotherHasBoth}
use Rattle.rule_tables.specs.Tables.{OrderKeyed}
use Rattle.step_laws.specs.Steps.{decls_of}

-- The rule has this declaration again at another number, or each of its pairs stands in a rule with another order key.
abbrev pub DeclIsSpare : List OrderKeyed → ℕ → RuleParts → ℕ → DeclItem → Type 0
DeclIsSpare rules own r i d =
    Contains (map (λ (x : DeclItem). x.decl) (remove r.decls i)) d.decl
    ⊎ ((s : SelectorParts) → Contains (selectors_of r) s → AnotherHasBoth rules own s d.decl)

-- And so a selector.
abbrev pub SelectorIsSpare : List OrderKeyed → ℕ → RuleParts → ℕ → SelItem → Type 0
SelectorIsSpare rules own r i s =
    Contains (map (λ (x : SelItem). x.selector) (remove r.selectors i)) s.selector
    ⊎ ((d : Decl) → Contains (decls_of r) d → AnotherHasBoth rules own s.selector d)

-- the rule has a declaration of this number, and it can go
abbrev pub CanLoseDecl : List OrderKeyed → ℕ → RuleParts → ℕ → Type 0
CanLoseDecl rules own r i = (d : DeclItem) × (slice_get r.decls i ≡ Some d) × DeclIsSpare rules own r i d

abbrev pub CanLoseSelector : List OrderKeyed → ℕ → RuleParts → ℕ → Type 0
CanLoseSelector rules own r i = (s : SelItem) × (slice_get r.selectors i ≡ Some s) × SelectorIsSpare rules own r i s

-- the rule has the declaration of this number at no other number
abbrev pub HasDeclOnce : RuleParts → ℕ → Type 0
HasDeclOnce r i = (d : DeclItem) → slice_get r.decls i ≡ Some d → Contains (map (λ (x : DeclItem). x.decl) (remove r.decls i)) d.decl → ⊥

abbrev pub HasSelectorOnce : RuleParts → ℕ → Type 0
HasSelectorOnce r i = (s : SelItem) → slice_get r.selectors i ≡ Some s → Contains (map (λ (x : SelItem). x.selector) (remove r.selectors i)) s.selector → ⊥
