-- The two ways in which an item, or pairs of it, may move in a step (own).
use Rattle.std.specs.Prelude.{ℕ, ◌<◌, Bool, true, false, if◌then◌else◌, List, [], ◌∷◌, Option, Some, slice_get}
use Rattle.css_model.specs.declared.sheet.Decl.{Decl}
use Rattle.css_model.specs.declared.sheet.Item.{Item}
use Rattle.css_model.specs.declared.sheet.Item.TheVariants.{Rule}
use Rattle.order_laws.specs.Members.{has_decl}
use Rattle.pending_laws.specs.declared.way.Way.{Way}
use Rattle.pending_laws.specs.declared.way.Way.TheVariants.{Up, Down}
use Rattle.pending_laws.specs.Scopes.{Scope, Ups, Downs, IsDown, IsDownward, IsUp}
use Rattle.step_laws.specs.declared.step.Step.{Step}
use Rattle.step_laws.specs.declared.step.Step.TheVariants.{JoinSelUp, JoinSelDown, JoinDeclUp, JoinDeclDown, Share}
use Rattle.step_laws.specs.Steps.{first_item, last_item}

-- a join in which an item moves in a way
abbrev pub IsMove : Way → Step → Type 0
IsMove Up k = IsUp k
IsMove Down k = IsDown k

-- a step in which pairs of an item move in a way: a join or, down, a share
abbrev pub MovesPairs : Way → Step → Type 0
MovesPairs Up k = IsUp k
MovesPairs Down k = IsDownward k

-- the item whose pairs move in it
abbrev pub mover : Way → Step → ℕ
mover Up k = last_item k
mover Down k = first_item k

-- and the one that they move to
abbrev pub partner : Way → Step → ℕ
partner Up k = first_item k
partner Down k = last_item k

-- whether an item is a rule with a declaration
abbrev pub is_rule_with : Option Item → Decl → Bool
is_rule_with (Some (Rule r)) d = has_decl r.decls d
is_rule_with _ d = false

-- Whether a step moves the pairs of the mover with a declaration: a share moves those that the lower rule has, too, and a join all.
abbrev pub moves_decl : List Item → Step → Decl → Bool
moves_decl items (Share x y) d = is_rule_with (slice_get items y) d
moves_decl items _ d = true

-- The steps in a way from the item of number `m` to that of number `o` that move a declaration, whether the sheet has them or not.
abbrev pub moves_to : List Item → Decl → Way → (m o : ℕ) → List Step
moves_to items d Up m o = JoinSelUp o m ∷ JoinDeclUp o m ∷ []
moves_to items d Down m o = JoinSelDown m o ∷ JoinDeclDown m o ∷ (if is_rule_with (slice_get items o) d then Share m o ∷ [] else [])

-- the scope of all steps in which pairs of an item move in a way
abbrev pub scope_of : Way → Scope
scope_of Up = Ups
scope_of Down = Downs

-- in a way a number is past another one
abbrev pub IsPast : Way → (place n : ℕ) → Type 0
IsPast Up place n = n < place
IsPast Down place n = place < n
