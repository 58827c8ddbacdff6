-- An edit of one item, or of two, puts others in their places.
use Rattle.std.proofs.Common.{◌≡◌, ◌≢◌, ◌⊎◌, ℕ, zero, suc, ◌+◌, ◌<◌, ◌≤◌, List, [], ◌∷◌, ◌++◌, length, get_or, take, Some, refl, sym, ap, ap₂, subst, ◌∙◌, inl, inr, arith}
use Rattle.std.specs.Prelude.{slice_get}
use Rattle.std.specs.List.{All, AllByRecursion}
use Rattle.css_model.specs.declared.sheet.Item.{Item}
use Rattle.order_laws.proofs.ForCallers.{instead_here, instead_there, unchanged}
use Rattle.order_laws.specs.Edits.{Change, Edit, slots_from}
use Rattle.order_laws.specs.Slots.{new_items}
use Rattle.plan_laws.specs.Barrier.Renumbering.{Leaves, new_number}
use Rattle.indexed_sheet.specs.declared.marks.Mark.{Mark}
use Rattle.indexed_sheet.specs.IndexedParts.{IndexedParts}
use Rattle.indexed_sheet.specs.Marking.{AreKept, AreRenewed, IsLeft}
use Rattle.indexed_sheet.specs.Putting.{put_at}
use Rattle.indexed_sheet.proofs.PutNumbers.{stays, is_new_or_left, WasLeft, both_stay, is_new_or_left_of_both, WasLeftOfBoth}
use Rattle.indexed_sheet.proofs.Puts.{put_length}

abbrev Apart : List Change → ℕ → Type 0
Apart changes n = AllByRecursion (λ (c : Change). c.at ≢ n) changes

abbrev pub change : ℕ → List Item → Change
change n by = record { at = n; by = by }

-- behind the number of a change it does nothing
past : (c : Change) (changes : List Change) (n : ℕ) (items : List Item) → c.at < n → new_items (slots_from n (c ∷ changes) items) ≡ new_items (slots_from n changes items)
past c changes n [] less = refl
past c changes n (x ∷ items) less =
    ap₂ (λ (xs ys : List Item). xs ++ ys) (instead_there c changes n x (λ e. let f : c.at ≡ n = e in omega (arith, f, less)))
    (past c changes (n + 1) items (omega (arith, less)))

one_from : (s n : ℕ) (by items : List Item) → new_items (slots_from s (change (s + n) by ∷ []) items) ≡ put_at n by items
one_from s n by [] = refl
one_from s zero by (x ∷ items) =
    ap₂ (λ (xs ys : List Item). xs ++ ys) (instead_here (change (s + 0) by) [] s x (omega arith))
    (unchanged (change (s + 0) by ∷ []) (s + 1) items (λ k y later. instead_there (change (s + 0) by) [] k y (λ e. let f : s + 0 ≡ k = e in omega (arith, f, later))))
one_from s (suc n) by (x ∷ items) =
    let e : (s + 1) + n ≡ s + suc n = omega arith in
    ap₂ (λ (xs ys : List Item). xs ++ ys) (instead_there (change (s + suc n) by) [] s x (λ e. let f : s + suc n ≡ s = e in omega (arith, f)))
    (subst (λ (m : ℕ). new_items (slots_from (s + 1) (change m by ∷ []) items) ≡ put_at n by items) e (one_from (s + 1) n by items))

two_from : (s x y : ℕ) (above below items : List Item) → x < y → new_items (slots_from s (change (s + x) above ∷ change (s + y) below ∷ []) items) ≡ put_at x above (put_at y below items)
two_from s x y above below [] less = refl
two_from s x zero above below (z ∷ items) less = absurd (omega (arith, less))
two_from s zero (suc y) above below (z ∷ items) less =
    let e : (s + 1) + y ≡ s + suc y = omega arith in
    ap₂ (λ (xs ys : List Item). xs ++ ys) (instead_here (change (s + 0) above) (change (s + suc y) below ∷ []) s z (omega arith))
    (past (change (s + 0) above) (change (s + suc y) below ∷ []) (s + 1) items (let f : s + 0 < s + 1 = omega arith in f)
    ∙ subst (λ (m : ℕ). new_items (slots_from (s + 1) (change m below ∷ []) items) ≡ put_at y below items) e (one_from (s + 1) y below items))
two_from s (suc x) (suc y) above below (z ∷ items) less =
    let e : (s + 1) + x ≡ s + suc x = omega arith in
    let f : (s + 1) + y ≡ s + suc y = omega arith in
    ap₂ (λ (xs ys : List Item). xs ++ ys)
    (instead_there (change (s + suc x) above) (change (s + suc y) below ∷ []) s z (λ h. let g : s + suc x ≡ s = h in omega (arith, g))
    ∙ instead_there (change (s + suc y) below) [] s z (λ h. let g : s + suc y ≡ s = h in omega (arith, g)))
    (subst (λ (m : ℕ). new_items (slots_from (s + 1) (change m above ∷ change (s + suc y) below ∷ []) items) ≡ put_at x above (put_at y below items)) e
    (subst (λ (m : ℕ). new_items (slots_from (s + 1) (change ((s + 1) + x) above ∷ change m below ∷ []) items) ≡ put_at x above (put_at y below items)) f
    (two_from (s + 1) x y above below items (omega (arith, less)))))

pub one_put : (n : ℕ) (by items : List Item) → new_items (slots_from 0 (change n by ∷ []) items) ≡ put_at n by items
one_put n by items = subst (λ (m : ℕ). new_items (slots_from 0 (change m by ∷ []) items) ≡ put_at n by items) (let e : 0 + n ≡ n = omega arith in e) (one_from 0 n by items)

pub two_put : (x y : ℕ) (above below items : List Item) → x < y → new_items (slots_from 0 (change x above ∷ change y below ∷ []) items) ≡ put_at x above (put_at y below items)
two_put x y above below items less =
    let e : 0 + x ≡ x = omega arith in
    let f : 0 + y ≡ y = omega arith in
    subst (λ (m : ℕ). new_items (slots_from 0 (change m above ∷ change y below ∷ []) items) ≡ put_at x above (put_at y below items)) e
    (subst (λ (m : ℕ). new_items (slots_from 0 (change (0 + x) above ∷ change m below ∷ []) items) ≡ put_at x above (put_at y below items)) f
    (two_from 0 x y above below items less))

-- ---- Marks behind a step

-- behind an edit of one item
pub kept_one : (old new : IndexedParts) (e : Edit) (n : ℕ) (by : List Item) → e.changes ≡ change n by ∷ [] → length old.marks ≡ length old.items →
    AreRenewed old.marks new.marks old.next n (length by) → AreKept old new e
kept_one old new e n by is same renewed = record { kept = kept; created = created }
  where
    number_is : (k : ℕ) → new_number e old.items k ≡ length (put_at n by (take k old.items))
    number_is k = ap (λ (cs : List Change). length (new_items (slots_from 0 cs (take k old.items)))) is ∙ ap (λ (xs : List Item). length xs) (one_put n by (take k old.items))

    leaves_is : (k : ℕ) → Leaves e k → n ≢ k
    leaves_is k leaves = (subst (λ (cs : List Change). Apart cs k) is leaves).0

    kept : (k : ℕ) (m : Mark) → Leaves e k → slice_get old.marks k ≡ Some m → slice_get new.marks (new_number e old.items k) ≡ Some m
    kept k m leaves at =
        ap₂ (λ (ms : List Mark) (i : ℕ). slice_get ms i) renewed.is (number_is k)
        ∙ stays n k by renewed.made old.items old.marks m renewed.count_is same (leaves_is k leaves) at

    was_left : (j : ℕ) (m : Mark) → WasLeft n by old.items old.marks j m → IsLeft old e j m
    was_left j m w = record {
      number = w.number;
      leaves = subst (λ (cs : List Change). Apart cs w.number) (sym is) (w.apart, tt);
      mark_at = w.at;
      is = w.is ∙ sym (number_is w.number);
    }

    which : (j : ℕ) (m : Mark) → (old.next ≤ m.item_id) ⊎ WasLeft n by old.items old.marks j m → (old.next ≤ m.item_id) ⊎ IsLeft old e j m
    which j m (inl new) = inl new
    which j m (inr w) = inr (was_left j m w)

    created : (j : ℕ) (m : Mark) → slice_get new.marks j ≡ Some m → (old.next ≤ m.item_id) ⊎ IsLeft old e j m
    created j m at = which j m (is_new_or_left (λ (m : Mark). old.next ≤ m.item_id) n j by renewed.made old.items old.marks m renewed.count_is same renewed.later
        (ap (λ (ms : List Mark). slice_get ms j) (sym renewed.is) ∙ at))

-- behind an edit of two items
pub kept_two : (old between new : IndexedParts) (e : Edit) (x y : ℕ) (above below : List Item) → x < y → e.changes ≡ change x above ∷ change y below ∷ [] →
    length old.marks ≡ length old.items → AreRenewed old.marks between.marks old.next y (length below) → old.next ≤ between.next →
    AreRenewed between.marks new.marks between.next x (length above) → AreKept old new e
kept_two old between new e x y above below less is same first further second = record { kept = kept; created = created }
  where
    number_is : (k : ℕ) → new_number e old.items k ≡ length (put_at x above (put_at y below (take k old.items)))
    number_is k = ap (λ (cs : List Change). length (new_items (slots_from 0 cs (take k old.items)))) is ∙ ap (λ (xs : List Item). length xs) (two_put x y above below (take k old.items) less)

    apart : (k : ℕ) → Leaves e k → (x ≢ k) × (y ≢ k)
    apart k leaves = (let h : Apart (change x above ∷ change y below ∷ []) k = subst (λ (cs : List Change). Apart cs k) is leaves in (h.0, h.1.0))

    marks_are : new.marks ≡ put_at x second.made (put_at y first.made old.marks)
    marks_are = second.is ∙ ap (put_at x second.made) first.is

    as_many : length (put_at y first.made old.marks) ≡ length (put_at y below old.items)
    as_many = put_length y below first.made old.items old.marks first.count_is same

    later : All (λ (m : Mark). old.next ≤ m.item_id) second.made
    later k d within = (let h : between.next ≤ (get_or second.made k d).item_id = second.later k d within in omega (arith, h, further))

    kept : (k : ℕ) (m : Mark) → Leaves e k → slice_get old.marks k ≡ Some m → slice_get new.marks (new_number e old.items k) ≡ Some m
    kept k m leaves at =
        ap₂ (λ (ms : List Mark) (i : ℕ). slice_get ms i) marks_are (number_is k)
        ∙ both_stay x y k above below second.made first.made old.items old.marks m second.count_is first.count_is as_many same less (apart k leaves).0 (apart k leaves).1 at

    was_left : (j : ℕ) (m : Mark) → WasLeftOfBoth x above y below old.items old.marks j m → IsLeft old e j m
    was_left j m w = record {
      number = w.number;
      leaves = subst (λ (cs : List Change). Apart cs w.number) (sym is) (w.apart, (w.apart', tt));
      mark_at = w.at;
      is = w.is ∙ sym (number_is w.number);
    }

    which : (j : ℕ) (m : Mark) → (old.next ≤ m.item_id) ⊎ WasLeftOfBoth x above y below old.items old.marks j m → (old.next ≤ m.item_id) ⊎ IsLeft old e j m
    which j m (inl new) = inl new
    which j m (inr w) = inr (was_left j m w)

    created : (j : ℕ) (m : Mark) → slice_get new.marks j ≡ Some m → (old.next ≤ m.item_id) ⊎ IsLeft old e j m
    created j m at = which j m (is_new_or_left_of_both (λ (m : Mark). old.next ≤ m.item_id) x y j above below second.made first.made old.items old.marks m second.count_is first.count_is as_many same less
        later first.later (ap (λ (ms : List Mark). slice_get ms j) (sym marks_are) ∙ at))
