-- Steps by their kind and two numbers (own).
use Rattle.std.specs.Prelude.{ℕ}
use Rattle.step_kinds.specs.declared.kind.Kind.{Kind}
use Rattle.step_kinds.specs.declared.kind.Kind.TheVariants.{DeclCut, SelCut, SelJoinUp, SelJoinDown, DeclJoinUp, DeclJoinDown, Sharing}
use Rattle.step_laws.specs.declared.step.Step.{Step}
use Rattle.step_laws.specs.declared.step.Step.TheVariants.{CutDecl, CutSel, JoinSelUp, JoinSelDown, JoinDeclUp, JoinDeclDown, Share}

-- the step of a kind, of these two items or of a part of an item
abbrev pub step_of_kind : Kind → ℕ → ℕ → Step
step_of_kind DeclCut n i = CutDecl n i
step_of_kind SelCut n i = CutSel n i
step_of_kind SelJoinUp x y = JoinSelUp x y
step_of_kind SelJoinDown x y = JoinSelDown x y
step_of_kind DeclJoinUp x y = JoinDeclUp x y
step_of_kind DeclJoinDown x y = JoinDeclDown x y
step_of_kind Sharing x y = Share x y

-- the kind of a step, and its second number; `first_item` is the first one
abbrev pub kind_of : Step → Kind
kind_of (CutDecl n i) = DeclCut
kind_of (CutSel n i) = SelCut
kind_of (JoinSelUp x y) = SelJoinUp
kind_of (JoinSelDown x y) = SelJoinDown
kind_of (JoinDeclUp x y) = DeclJoinUp
kind_of (JoinDeclDown x y) = DeclJoinDown
kind_of (Share x y) = Sharing

abbrev pub second_of : Step → ℕ
second_of (CutDecl n i) = i
second_of (CutSel n i) = i
second_of (JoinSelUp x y) = y
second_of (JoinSelDown x y) = y
second_of (JoinDeclUp x y) = y
second_of (JoinDeclDown x y) = y
second_of (Share x y) = y

-- the number of a kind in their order
abbrev pub kind_number : Kind → ℕ
kind_number DeclCut = 0
kind_number SelCut = 1
kind_number SelJoinUp = 2
kind_number SelJoinDown = 3
kind_number DeclJoinUp = 4
kind_number DeclJoinDown = 5
kind_number Sharing = 6
