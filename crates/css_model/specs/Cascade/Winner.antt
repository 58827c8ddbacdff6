-- The cascade: which declarations of a sheet apply to a target, and which one wins (CSS Cascading 3,
-- sections 5 and 6, for declarations of one origin).
use Rattle.std.specs.Prelude.{ℕ, suc, Bool, false, ◌&&◌, ◌||◌, if◌then◌else◌, ◌==◌, nat_lt, List, [], ◌∷◌, ◌++◌, map, Option, Some, None, ◌<◌, ◌⊎◌, ◌≡◌}
use Rattle.std.specs.List.{All, Contains, filter, list_any}
use Rattle.std.specs.Option.{option_map}
use Rattle.css_model.specs.declared.selector.Specificity.{Specificity}
use Rattle.css_model.specs.declared.sheet.Decl.{Decl}
use Rattle.css_model.specs.declared.sheet.DeclItem.{DeclItem}
use Rattle.css_model.specs.declared.sheet.Item.{Item}
use Rattle.css_model.specs.declared.sheet.Item.TheVariants.{Rule, KeptRule, KeptBlock}
use Rattle.css_model.specs.Documents.Document.{Document, Target}
use Rattle.css_model.specs.Lists.{same_text}
use Rattle.css_model.specs.Documents.Matching.{matches}
use Rattle.css_model.specs.Sheets.RuleParts.{RuleParts}
use Rattle.css_model.specs.Documents.SelectorParts.{SelectorParts}
use Rattle.css_model.specs.Documents.Specificity.{specificity_of}
use Rattle.css_model.specs.Sheets.StyleRule.{selectors_of}

-- a declaration, with the specificity that it applies with (CSS Cascading 3, section 6)
pub record Declared : Type 0 where
  pub decl : Decl
  pub specificity : Specificity

-- A place in a sheet, by the order of appearance (CSS Cascading 3, section 6): the item, and the
-- position in it.
pub record Place : Type 0 where
  pub item : ℕ
  pub position : ℕ

-- one place is later than another: in a later item, or behind it in the same one
abbrev pub IsLater : Place → Place → Type 0
IsLater p q = (q.item < p.item) ⊎ ((p.item ≡ q.item) × (q.position < p.position))

-- a declaration that applies to a target, with its specificity and its place (CSS Cascading 3,
-- section 5)
pub record AppliedDeclaration : Type 0 where
  pub decl : Decl
  pub specificity : Specificity
  pub place : Place

-- What the kept items of a sheet apply to a target, which nobody here can tell (own): one list for
-- each kept item, in their order. A kept rule applies some of its own declarations, a kept block
-- whatever it likes. A kept item changes nothing about the other items (own; `@namespace` would, so it
-- must not be kept). The laws hold for any lists, also for others than these.
abbrev pub AreMeanings : List Item → List (List Declared) → Type 0
AreMeanings [] [] = Unit {0}
AreMeanings [] (m ∷ meanings) = ⊥
AreMeanings (Rule rule ∷ items) meanings = AreMeanings items meanings
AreMeanings (KeptRule kept ∷ items) [] = ⊥
AreMeanings (KeptRule kept ∷ items) (m ∷ meanings) = All (λ e. Contains kept.decls e.decl) m × AreMeanings items meanings
AreMeanings (KeptBlock piece ∷ items) [] = ⊥
AreMeanings (KeptBlock piece ∷ items) (m ∷ meanings) = AreMeanings items meanings

-- one declaration of a rule applies once for each of the rule's selectors that matches (Selectors 3,
-- section 5, and CSS Cascading 3, section 6: each with the specificity of its selector)
abbrev pub applied_by_decl : List SelectorParts → Place → Decl → List AppliedDeclaration
applied_by_decl matching place decl = map (λ selector. record { decl = decl; specificity = specificity_of selector; place = place }) matching

-- the declarations of a rule of this number, the first of which has this position
abbrev pub applied_by_decls : List SelectorParts → ℕ → ℕ → List DeclItem → List AppliedDeclaration
applied_by_decls matching item position [] = []
applied_by_decls matching item position (d ∷ decls) = applied_by_decl matching (record { item = item; position = position }) d.decl ++ applied_by_decls matching item (suc position) decls

-- what a kept item of this number applies, the first entry of which has this position (own)
abbrev pub applied_by_kept : ℕ → ℕ → List Declared → List AppliedDeclaration
applied_by_kept item position [] = []
applied_by_kept item position (m ∷ meaning) = record { decl = m.decl; specificity = m.specificity; place = record { item = item; position = position } } ∷ applied_by_kept item (suc position) meaning

-- the selectors of a rule that match, in the order of the source (Selectors 3, section 5)
abbrev pub matching_of : (SelectorParts → Bool) → RuleParts → List SelectorParts
matching_of matched rule = filter matched (selectors_of rule)

-- what the items apply, the first of which has this number; a kept item without a list applies nothing
abbrev pub applied_from : (SelectorParts → Bool) → ℕ → List (List Declared) → List Item → List AppliedDeclaration
applied_from matched item meanings [] = []
applied_from matched item meanings (Rule rule ∷ items) = applied_by_decls (matching_of matched rule) item 0 rule.decls ++ applied_from matched (suc item) meanings items
applied_from matched item [] (KeptRule kept ∷ items) = applied_from matched (suc item) [] items
applied_from matched item (m ∷ meanings) (KeptRule kept ∷ items) = applied_by_kept item 0 m ++ applied_from matched (suc item) meanings items
applied_from matched item [] (KeptBlock piece ∷ items) = applied_from matched (suc item) [] items
applied_from matched item (m ∷ meanings) (KeptBlock piece ∷ items) = applied_by_kept item 0 m ++ applied_from matched (suc item) meanings items

-- The declarations of a sheet that apply to a target, understood or not (CSS Cascading 3, section 5,
-- without its last condition, which `is_understood` adds): those of each rule
-- with a selector that matches, and those that the kept items apply.
abbrev pub applied : Document → Target → List (List Declared) → List Item → List AppliedDeclaration
applied doc target meanings items = applied_from (matches doc target) 0 meanings items

-- A declaration that a browser understands: it knows the property, and the value is one of it
-- (CSS Cascading 3, section 5). Every selector of the model counts as understood (own).
pub record Understood : Type 0 where
  pub name : List ℕ
  pub value : List ℕ

-- whether an entry's declaration is one of those that are understood (CSS Cascading 3, section 5)
abbrev pub is_understood : List Understood → AppliedDeclaration → Bool
is_understood us e = list_any (λ u. same_text u.name e.decl.name && same_text u.value e.decl.value) us

-- The cascade sorts by these numbers, the first that differs deciding (CSS Cascading 3, section 6):
-- importance, the three counts of the specificity, and the two of the place.
abbrev pub rank : AppliedDeclaration → List ℕ
rank e = (if e.decl.important then 1 else 0) ∷ e.specificity.a ∷ e.specificity.b ∷ e.specificity.c ∷ e.place.item ∷ e.place.position ∷ []

-- at the first place where two lists of numbers differ, the first list has the greater number (own)
abbrev pub exceeds : List ℕ → List ℕ → Bool
exceeds (x ∷ xs) (y ∷ ys) = nat_lt y x || x == y && exceeds xs ys
exceeds _ _ = false

-- whether one entry wins over another (CSS Cascading 3, section 6)
abbrev pub outranks : AppliedDeclaration → AppliedDeclaration → Bool
outranks e f = exceeds (rank e) (rank f)

-- the greater of two entries; of equal ones the second
abbrev pub greater : AppliedDeclaration → Option AppliedDeclaration → Option AppliedDeclaration
greater e None = Some e
greater e (Some f) = if outranks e f then Some e else Some f

-- the greatest entry of a list, if it has one (CSS Cascading 3, section 6)
abbrev pub greatest : List AppliedDeclaration → Option AppliedDeclaration
greatest [] = None
greatest (e ∷ es) = greater e (greatest es)

-- What wins: a declaration, and the specificity that it applies with. Without its place, so that
-- winners of two sheets can be compared; with importance and specificity, so that a winner can be put
-- against those of other sheets (own).
pub record Winner : Type 0 where
  pub name : List ℕ
  pub value : List ℕ
  pub important : Bool
  pub specificity : Specificity

-- an entry without its place (own)
abbrev pub outcome : AppliedDeclaration → Winner
outcome e = record { name = e.decl.name; value = e.decl.value; important = e.decl.important; specificity = e.specificity }

-- The winner of the cascade for a target (CSS Cascading 3, section 6): the greatest of the applied
-- declarations that are understood, if there is one. `us` stands at once for what a browser
-- understands and for which properties set one longhand (own): the declarations that compete for a
-- longhand are those of one property and of its shorthands (section 3). A list is enough, as a sheet
-- has finitely many declarations. The laws hold for each list `us`.
abbrev pub winner : Document → Target → List (List Declared) → List Item → List Understood → Option Winner
winner doc target meanings items us = option_map outcome (greatest (filter (is_understood us) (applied doc target meanings items)))
