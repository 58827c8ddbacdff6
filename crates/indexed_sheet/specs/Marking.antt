-- What becomes of the marks of an indexed sheet while a step is taken, and where a step finds an order key.
use Rattle.std.specs.Prelude.{◌≡◌, ◌⊎◌, ℕ, suc, ◌+◌, ◌<◌, ◌≤◌, List, [], ◌∷◌, Some, length, slice_get}
use Rattle.std.specs.List.{All}
use Rattle.order_laws.specs.Edits.{Edit}
use Rattle.step_laws.specs.declared.step.Step.{Step}
use Rattle.step_laws.specs.declared.step.Step.TheVariants.{CutDecl, CutSel, JoinSelUp, JoinSelDown, JoinDeclUp, JoinDeclDown, Share}
use Rattle.plan_laws.specs.Barrier.Renumbering.{Leaves, new_number}
use Rattle.indexed_sheet.specs.declared.marks.Mark.{Mark}
use Rattle.indexed_sheet.specs.IndexedParts.{IndexedParts}
use Rattle.indexed_sheet.specs.MarkList.{IsOrderKeyAt}
use Rattle.indexed_sheet.specs.Putting.{put_at}

-- A mark is that of an item that an edit leaves. The item has this number after the edit.
pub record IsLeft (old : IndexedParts) (e : Edit) (n : ℕ) (m : Mark) : Type 0 where
  pub number : ℕ
  pub leaves : Leaves e number
  pub mark_at : slice_get old.marks number ≡ Some m
  pub is : n ≡ new_number e old.items number

-- After an edit each item that it leaves keeps its mark. Each other one is created later than all before.
pub record AreKept (old new : IndexedParts) (e : Edit) : Type 0 where
  pub kept : (n : ℕ) (m : Mark) → Leaves e n → slice_get old.marks n ≡ Some m → slice_get new.marks (new_number e old.items n) ≡ Some m
  pub created : (n : ℕ) (m : Mark) → slice_get new.marks n ≡ Some m → (old.next ≤ m.item_id) ⊎ IsLeft old e n m

-- The marks with so many new ones instead of the one of this number. All of them are created from `next` on.
-- If there is one, it has the order key of the mark that it replaces.
pub record AreRenewed (old new : List Mark) (next n count : ℕ) : Type 0 where
  pub made : List Mark
  pub count_is : length made ≡ count
  pub later : All (λ m. next ≤ m.item_id) made
  pub order_key : (m : Mark) → made ≡ m ∷ [] → IsOrderKeyAt old m.order_key n
  pub is : new ≡ put_at n made old

-- an order key is left before the mark of this number, which is not the first one
abbrev pub HasOrderKeyBefore : List Mark → ℕ → Type 0
HasOrderKeyBefore marks y = (n : ℕ) (m above : Mark) → y ≡ suc n → slice_get marks n ≡ Some above → slice_get marks y ≡ Some m → above.order_key + 1 < m.order_key

-- the new rule of a share finds an order key between its neighbours
abbrev pub HasOrderKeyFor : List Mark → Step → Type 0
HasOrderKeyFor marks (CutDecl n i) = Unit {0}
HasOrderKeyFor marks (CutSel n i) = Unit {0}
HasOrderKeyFor marks (JoinSelUp x y) = Unit {0}
HasOrderKeyFor marks (JoinSelDown x y) = Unit {0}
HasOrderKeyFor marks (JoinDeclUp x y) = Unit {0}
HasOrderKeyFor marks (JoinDeclDown x y) = Unit {0}
HasOrderKeyFor marks (Share x y) = HasOrderKeyBefore marks y
