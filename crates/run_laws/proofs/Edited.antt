-- An edit of one item between others.
use Rattle.std.proofs.Common.{◌≡◌, ℕ, suc, ◌+◌, List, [], ◌∷◌, ◌++◌, Some, length, refl, ap₂, arith}
use Rattle.std.specs.Prelude.{slice_get}
use Rattle.css_model.specs.declared.sheet.Item.{Item}
use Rattle.order_laws.proofs.ForCallers.{instead_here, instead_there, unchanged}
use Rattle.order_laws.specs.Edits.{Change, Moved, edited, slots_from}
use Rattle.order_laws.specs.Slots.{new_items}
use Rattle.step_laws.specs.StepEdits.{one_change}

abbrev change : ℕ → List Item → Change
change n by = record { at = n; by = by }

here : (k m : ℕ) (by before : List Item) (x : Item) (after : List Item) → m ≡ k + length before →
    new_items (slots_from k (change m by ∷ []) (before ++ (x ∷ after))) ≡ before ++ (by ++ after)
here k m by [] x after is =
    let f : m ≡ k + 0 = is in
    ap₂ (λ (xs ys : List Item). xs ++ ys) (instead_here (change m by) [] k x (omega (arith, f)))
    (unchanged (change m by ∷ []) (k + 1) after (λ i y later. instead_there (change m by) [] i y (λ e. let g : m ≡ i = e in omega (arith, f, g, later))))
here k m by (y ∷ before) x after is =
    let f : m ≡ k + suc (length before) = is in
    ap₂ (λ (xs ys : List Item). xs ++ ys) (instead_there (change m by) [] k y (λ e. let g : m ≡ k = e in omega (arith, f, g)))
    (here (k + 1) m by before x after (omega (arith, f)))

pub edited_here : (by : List Item) (moved : Moved) (before : List Item) (x : Item) (after : List Item) →
    edited (one_change (length before) by moved) (before ++ (x ∷ after)) ≡ before ++ (by ++ after)
edited_here by moved before x after = here 0 (length before) by before x after (omega arith)

pub at_here : (before : List Item) (x : Item) (after : List Item) → slice_get (before ++ (x ∷ after)) (length before) ≡ Some x
at_here [] x after = refl
at_here (y ∷ before) x after = at_here before x after
