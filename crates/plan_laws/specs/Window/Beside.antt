-- What a step reverses does not stand in the receiver of a join by selectors alone.
use Rattle.std.specs.Prelude.{◌≡◌, ℕ, ◌+◌, true, List, ◌++◌, slice_range}
use Rattle.css_model.specs.declared.sheet.Item.{Item}
use Rattle.css_model.specs.Cascade.Order.{Pair, HasPair, IsBefore}
use Rattle.order_laws.specs.Edits.{Edit, is_moved}
use Rattle.order_laws.specs.Reversing.{Differ}
use Rattle.step_laws.specs.declared.step.Step.{Step}
use Rattle.step_laws.specs.declared.step.Step.TheVariants.{CutDecl, CutSel, JoinSelUp, JoinSelDown, JoinDeclUp, JoinDeclDown, Share}
use Rattle.step_laws.specs.Steps.{IsStep, last_item}
use Rattle.plan_laws.specs.Window.StepWindows.{window_start, first_part, middle_part, last_part, first_left, last_left}

-- The first item of a window, by its number, without the rule that a join by selectors moves another one up into.
abbrev pub beside_first : Step → ℕ
beside_first (CutDecl n i) = window_start (CutDecl n i)
beside_first (CutSel n i) = window_start (CutSel n i)
beside_first (JoinSelUp x y) = x + 1
beside_first (JoinSelDown x y) = window_start (JoinSelDown x y)
beside_first (JoinDeclUp x y) = window_start (JoinDeclUp x y)
beside_first (JoinDeclDown x y) = window_start (JoinDeclDown x y)
beside_first (Share x y) = window_start (Share x y)

-- and the number behind its last one, without the rule that such a join moves another one down into
abbrev pub beside_end : Step → ℕ
beside_end (CutDecl n i) = last_item (CutDecl n i) + 1
beside_end (CutSel n i) = last_item (CutSel n i) + 1
beside_end (JoinSelUp x y) = last_item (JoinSelUp x y) + 1
beside_end (JoinSelDown x y) = y
beside_end (JoinDeclUp x y) = last_item (JoinDeclUp x y) + 1
beside_end (JoinDeclDown x y) = last_item (JoinDeclDown x y) + 1
beside_end (Share x y) = last_item (Share x y) + 1

-- the items from the one to the other
abbrev pub beside_part : List Item → Step → List Item
beside_part items k = slice_range items (beside_first k) (beside_end k)

-- What has another order with a moved pair in the window of a step afterwards stands beside the receiver, too.
abbrev pub ReversedStandBeside : Type 0
ReversedStandBeside = (items : List Item) (k : Step) (e : Edit) → IsStep items k e → (p q : Pair) → is_moved e.moved p ≡ true →
    Differ (IsBefore (first_part items k ++ (middle_part items k ++ last_part items k)) p q) (IsBefore (first_left e.changes ++ (middle_part items k ++ last_left e.changes)) p q) →
    HasPair (beside_part items k) q
