-- The list of all steps while it is made: by kind, first number and second number.
use Rattle.std.specs.Prelude.{◌≡◌, ◌↔◌, ◌⊎◌, ℕ, ◌<◌, List, Option, Some, None, length, slice_get}
use Rattle.std.specs.List.{AllPairs, Contains}
use Rattle.css_model.specs.declared.sheet.Item.{Item}
use Rattle.css_model.specs.declared.sheet.Item.TheVariants.{Rule, KeptRule, KeptBlock}
use Rattle.step_kinds.specs.declared.kind.Kind.{Kind}
use Rattle.step_kinds.specs.declared.kind.Kind.TheVariants.{DeclCut, SelCut, SelJoinUp, SelJoinDown, DeclJoinUp, DeclJoinDown, Sharing}
use Rattle.step_kinds.specs.StepsByKind.{kind_number, kind_of, second_of}
use Rattle.step_laws.specs.declared.step.Step.{Step}
use Rattle.step_laws.specs.Steps.{HasStep, StandsBefore, first_item}

-- how many declarations, or selectors, an item has that is a rule
abbrev pub decl_number : Option Item → ℕ
decl_number None = 0
decl_number (Some (Rule r)) = length r.decls
decl_number (Some (KeptRule k)) = 0
decl_number (Some (KeptBlock piece)) = 0

abbrev pub selector_number : Option Item → ℕ
selector_number None = 0
selector_number (Some (Rule r)) = length r.selectors
selector_number (Some (KeptRule k)) = 0
selector_number (Some (KeptBlock piece)) = 0

-- how many second numbers a step of this kind and first number may have
abbrev pub seconds : List Item → Kind → ℕ → ℕ
seconds items DeclCut first = decl_number (slice_get items first)
seconds items SelCut first = selector_number (slice_get items first)
seconds items SelJoinUp first = length items
seconds items SelJoinDown first = length items
seconds items DeclJoinUp first = length items
seconds items DeclJoinDown first = length items
seconds items Sharing first = length items

-- a step comes before this kind and these numbers
abbrev pub IsBelow : ℕ → ℕ → ℕ → Step → Type 0
IsBelow kind first second k =
    (kind_number (kind_of k) < kind)
    ⊎ ((kind_number (kind_of k) ≡ kind) × ((first_item k < first) ⊎ ((first_item k ≡ first) × (second_of k < second))))

-- the list has the steps of a sheet that come before this kind and these numbers, in their order
pub record ListsTo (items : List Item) (kind first second : ℕ) (list : List Step) : Type 0 where
  pub exact : (k : Step) → Contains list k ↔ (HasStep items k × IsBelow kind first second k)
  pub ascends : AllPairs StandsBefore list
