-- What the rules of a sheet apply, by the specificities of the selectors that match (own).
use Rattle.std.specs.Prelude.{ℕ, ◌+◌, ◌≤◌, Bool, List, [], ◌∷◌, ◌++◌, length, map}
use Rattle.std.specs.Cmp.Lexicographic.{slice_cmp}
use Rattle.std.specs.Ordering.{nat_cmp}
use Rattle.std.specs.List.{All, AllByRecursion, Contains}
use Rattle.std.specs.List.Sorted.{IsStrictlySortedBy}
use Rattle.css_model.specs.declared.selector.Specificity.{Specificity}
use Rattle.css_model.specs.declared.sheet.Decl.{Decl}
use Rattle.css_model.specs.declared.sheet.DeclItem.{DeclItem}
use Rattle.css_model.specs.declared.sheet.Item.{Item}
use Rattle.css_model.specs.declared.sheet.Item.TheVariants.{Rule, KeptRule, KeptBlock}
use Rattle.css_model.specs.Cascade.Winner.{AppliedDeclaration, Place, matching_of}
use Rattle.css_model.specs.Documents.SelectorParts.{SelectorParts}
use Rattle.css_model.specs.Documents.Specificity.{specificity_of}
use Rattle.css_model.specs.Sheets.Limits.{max_compounds, max_simples}
use Rattle.css_model.specs.Sheets.RuleParts.{RuleParts}

-- a selector with no more compounds, and simple selectors in each, than those of the profile have
pub record IsSmall (selector : SelectorParts) : Type 0 where
  pub few : length selector.chain ≤ max_compounds
  pub compounds : All (λ compound. length compound ≤ max_simples) selector.chain

abbrev pub HasSmallSelectors : Item → Type 0
HasSmallSelectors (Rule r) = AllByRecursion (λ s. IsSmall s.selector) r.selectors
HasSmallSelectors (KeptRule kept) = Unit {0}
HasSmallSelectors (KeptBlock piece) = Unit {0}

-- the specificities of the selectors of a rule that match
abbrev pub weights_of : (SelectorParts → Bool) → RuleParts → List Specificity
weights_of matched rule = map (λ selector. specificity_of selector) (matching_of matched rule)

-- one declaration, with each of these specificities
abbrev pub weighed : List Specificity → Place → Decl → List AppliedDeclaration
weighed weights place decl = map (λ weight. record { decl = decl; specificity = weight; place = place }) weights

-- the declarations of a rule of this number, the first of which has this position
abbrev pub weighed_all : List Specificity → (item position : ℕ) → List DeclItem → List AppliedDeclaration
weighed_all weights item position [] = []
weighed_all weights item position (d ∷ decls) = weighed weights (record { item = item; position = position }) d.decl ++ weighed_all weights item (position + 1) decls

-- what the rules apply, the first item having this number
abbrev pub by_rules : (SelectorParts → Bool) → ℕ → List Item → List AppliedDeclaration
by_rules matched item [] = []
by_rules matched item (Rule r ∷ items) = weighed_all (weights_of matched r) item 0 r.decls ++ by_rules matched (item + 1) items
by_rules matched item (KeptRule kept ∷ items) = by_rules matched (item + 1) items
by_rules matched item (KeptBlock piece ∷ items) = by_rules matched (item + 1) items

-- what one item of this number applies
abbrev pub by_item : (SelectorParts → Bool) → ℕ → Item → List AppliedDeclaration
by_item matched number (Rule r) = weighed_all (weights_of matched r) number 0 r.decls
by_item matched number (KeptRule kept) = []
by_item matched number (KeptBlock piece) = []

-- the names of these declarations, each once, ascending by code points
pub record AscendingNames (names : List (List ℕ)) (entries : List AppliedDeclaration) : Type 0 where
  pub ascending : IsStrictlySortedBy (slice_cmp nat_cmp) names
  pub all : All (λ e. Contains names e.decl.name) entries
