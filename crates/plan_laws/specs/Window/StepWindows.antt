-- The window of a step: from its first item to its last one.
use Rattle.std.specs.Prelude.{ℕ, ◌+◌, List, [], ◌∷◌, ◌++◌, take, drop, slice_range}
use Rattle.css_model.specs.declared.sheet.Item.{Item}
use Rattle.order_laws.specs.Edits.{Change, Edit, edited}
use Rattle.step_laws.specs.declared.step.Step.{Step}
use Rattle.step_laws.specs.declared.step.Step.TheVariants.{CutDecl, CutSel, JoinSelUp, JoinSelDown, JoinDeclUp, JoinDeclDown, Share}
use Rattle.step_laws.specs.Steps.{IsStep, last_item}
use Rattle.plan_laws.specs.Window.Windows.{IsWindow}

-- Where it begins, by the number of an item. Of a cut it begins with the sheet, since what is cut may stand
-- anywhere above.
abbrev pub window_start : Step → ℕ
window_start (CutDecl n i) = 0
window_start (CutSel n i) = 0
window_start (JoinSelUp x y) = x
window_start (JoinSelDown x y) = x
window_start (JoinDeclUp x y) = x
window_start (JoinDeclDown x y) = x
window_start (Share x y) = x

-- where what lies before the last item begins: behind the first one, of which a cut has none
abbrev pub middle_start : Step → ℕ
middle_start (CutDecl n i) = 0
middle_start (CutSel n i) = 0
middle_start (JoinSelUp x y) = x + 1
middle_start (JoinSelDown x y) = x + 1
middle_start (JoinDeclUp x y) = x + 1
middle_start (JoinDeclDown x y) = x + 1
middle_start (Share x y) = x + 1

-- the first item, what lies between, and the last item
abbrev pub first_part : List Item → Step → List Item
first_part items k = slice_range items (window_start k) (middle_start k)

abbrev pub middle_part : List Item → Step → List Item
middle_part items k = slice_range items (middle_start k) (last_item k)

abbrev pub last_part : List Item → Step → List Item
last_part items k = slice_range items (last_item k) (last_item k + 1)

-- what stands in the places of the first and of the last item, of a cut in that of the last one alone
abbrev pub first_left : List Change → List Item
first_left [] = []
first_left (c ∷ []) = []
first_left (c ∷ d ∷ changes) = c.by

abbrev pub last_left : List Change → List Item
last_left [] = []
last_left (c ∷ []) = c.by
last_left (c ∷ d ∷ changes) = d.by

-- the parts of a sheet by a window of three parts, of which the first and the last one change
abbrev pub IsWindowOf : List Item → Step → Edit → Type 0
IsWindowOf items k e = IsWindow items (edited e items) e.moved (take (window_start k) items)
    (first_part items k ++ (middle_part items k ++ last_part items k))
    (first_left e.changes ++ (middle_part items k ++ last_left e.changes))
    (drop (last_item k + 1) items)

-- Each step has a window.
abbrev pub StepsHaveWindows : Type 0
StepsHaveWindows = (items : List Item) (k : Step) (e : Edit) → IsStep items k e → IsWindowOf items k e
