-- A rule that is moved: the edit's items are the items with the rule moved, and it is a rearrangement.
use Rattle.std.proofs.Common.{◌≡◌, ◌≢◌, ◌⊎◌, ℕ, zero, suc, ◌+◌, ◌<◌, ◌≤◌, ◌==◌, Bool, true, false, if◌then◌else◌, List, [], ◌∷◌, ◌++◌, Some, None, refl, sym, ap, ap₂, ◌∙◌, subst, inl, inr, arith}
use Rattle.std.specs.Prelude.{slice_get, nat_lt}
use Rattle.std.specs.List.{All, insert, remove}
use Rattle.std.proofs.lemmas.Bool.{cond-true, cond-false, false≢true, both_ways, cond_both, false_from_ne_true, or_left}
use Rattle.std.proofs.lemmas.Bool.Decides.{Decides-eqb, Decides-ltb}
use Rattle.cascade_laws.proofs.ForCallers.{some-same}
use Rattle.css_model.specs.declared.sheet.DeclItem.{DeclItem}
use Rattle.css_model.specs.declared.sheet.Item.{Item}
use Rattle.css_model.specs.declared.sheet.Item.TheVariants.{Rule}
use Rattle.css_model.specs.Cascade.Winner.{Place}
use Rattle.cascade_laws.specs.Families.{RelatingIsDecided}
use Rattle.css_model.specs.Cascade.Order.{Pair, HasPair, Keeps}
use Rattle.css_model.specs.Sheets.RuleParts.{RuleParts}
use Rattle.order_laws.specs.Edits.{Change, instead, slots_from, edited, whole_rule, is_moved, StandsIn, IsRearrangement}
use Rattle.order_laws.specs.Moving.{item_moved, moving}
use Rattle.order_laws.specs.Reversed.{IsApart, reversed}
use Rattle.order_laws.specs.Slots.{new_items, IsFair}
use Rattle.order_laws.proofs.Appended.{has_append}
use Rattle.order_laws.proofs.EditedItems.{instead_here, instead_there, unchanged, all_fair, has_new}
use Rattle.order_laws.proofs.FairSlots.{AllMoved, same_fair, none_fair, front_fair, back_fair}
use Rattle.order_laws.proofs.PlaceOrder.{which_less}
use Rattle.order_laws.proofs.ReversedList.{reversing_apart_keeps}
use Rattle.order_laws.proofs.RulePairs.{InRule, in_decl, has_rule, moved_is}

-- ---- One change from a number on

abbrev OnlyAt : List Change → ℕ → ℕ → Type 0
OnlyAt changes n i = (k : ℕ) (x : Item) → n ≤ k → k ≢ n + i → instead changes k x ≡ x ∷ []

-- from the next number on, the item that changes has one less
only_next : (changes : List Change) (n i : ℕ) → OnlyAt changes n (suc i) → OnlyAt changes (n + 1) i
only_next changes n i only k x low apart = only k x (omega arith) (λ e. apart (omega arith))

abbrev SameAt : List Change → ℕ → List Item → Type 0
SameAt changes n by = (x : Item) → instead changes n x ≡ by

same_next : (changes : List Change) (n i : ℕ) (by : List Item) → SameAt changes (n + suc i) by → SameAt changes (n + 1 + i) by
same_next changes n i by same = let e : n + suc i ≡ n + 1 + i = omega arith in subst (λ (m : ℕ). SameAt changes m by) e same

same_first : (changes : List Change) (n : ℕ) (by : List Item) → SameAt changes (n + 0) by → SameAt changes n by
same_first changes n by same = let e : n + 0 ≡ n = omega arith in subst (λ (m : ℕ). SameAt changes m by) e same

-- an item goes
without : (changes : List Change) (n i : ℕ) (items : List Item) (y : Item) → slice_get items i ≡ Some y → SameAt changes (n + i) [] → OnlyAt changes n i → new_items (slots_from n changes items) ≡ remove items i
without changes n i [] y at gone only = absurd (let e : None ≡ Some y = at in cc)
without changes n zero (x ∷ items) y at gone only =
    ap₂ (λ (xs ys : List Item). xs ++ ys) (same_first changes n [] gone x) (unchanged changes (n + 1) items (λ k z low. only k z (omega arith) (λ e. absurd (omega (arith, e, low)))))
without changes n (suc i) (x ∷ items) y at gone only =
    ap₂ (λ (xs ys : List Item). xs ++ ys) (only n x (omega arith) (λ e. absurd (omega (arith, e)))) (without changes (n + 1) i items y at (same_next changes n i [] gone) (only_next changes n i only))

-- an item comes behind another one
behind_one : (changes : List Change) (n i : ℕ) (items : List Item) (y new : Item) → slice_get items i ≡ Some y → SameAt changes (n + i) (y ∷ new ∷ []) → OnlyAt changes n i → new_items (slots_from n changes items) ≡ insert items (suc i) new
behind_one changes n i [] y new at comes only = absurd (let e : None ≡ Some y = at in cc)
behind_one changes n zero (x ∷ items) y new at comes only =
    ap₂ (λ (xs ys : List Item). xs ++ ys) (same_first changes n (y ∷ new ∷ []) comes x) (unchanged changes (n + 1) items (λ k z low. only k z (omega arith) (λ e. absurd (omega (arith, e, low)))))
    ∙ ap (λ (z : Item). z ∷ new ∷ items) (sym (some-same at))
behind_one changes n (suc i) (x ∷ items) y new at comes only =
    ap₂ (λ (xs ys : List Item). xs ++ ys) (only n x (omega arith) (λ e. absurd (omega (arith, e)))) (behind_one changes (n + 1) i items y new at (same_next changes n i (y ∷ new ∷ []) comes) (only_next changes n i only))

-- ---- Two changes

abbrev OnlyAtBoth : List Change → ℕ → ℕ → ℕ → Type 0
OnlyAtBoth changes n i j = (k : ℕ) (x : Item) → n ≤ k → k ≢ n + i → k ≢ n + j → instead changes k x ≡ x ∷ []

both_next : (changes : List Change) (n i j : ℕ) → OnlyAtBoth changes n (suc i) (suc j) → OnlyAtBoth changes (n + 1) i j
both_next changes n i j only k x low apart apart' = only k x (omega arith) (λ e. apart (omega arith)) (λ e. apart' (omega arith))

moved_down : (changes : List Change) (n i j : ℕ) (items : List Item) (y new : Item) → i < j → slice_get items j ≡ Some y → SameAt changes (n + i) [] → SameAt changes (n + j) (y ∷ new ∷ []) → OnlyAtBoth changes n i j →
    new_items (slots_from n changes items) ≡ insert (remove items i) j new
moved_down changes n i j [] y new less at gone comes only = absurd (let e : None ≡ Some y = at in cc)
moved_down changes n i zero (x ∷ items) y new less at gone comes only = absurd (omega arith)
moved_down changes n zero (suc j) (x ∷ items) y new less at gone comes only =
    ap₂ (λ (xs ys : List Item). xs ++ ys) (same_first changes n [] gone x)
    (behind_one changes (n + 1) j items y new at (same_next changes n j (y ∷ new ∷ []) comes) (λ k z low apart. only k z (omega arith) (λ e. absurd (omega (arith, e, low))) (λ e. apart (omega arith))))
moved_down changes n (suc i) (suc j) (x ∷ items) y new less at gone comes only =
    ap₂ (λ (xs ys : List Item). xs ++ ys) (only n x (omega arith) (λ e. absurd (omega (arith, e))) (λ e. absurd (omega (arith, e))))
    (moved_down changes (n + 1) i j items y new (omega arith) at (same_next changes n i [] gone) (same_next changes n j (y ∷ new ∷ []) comes) (both_next changes n i j only))

moved_up : (changes : List Change) (n i j : ℕ) (items : List Item) (y z new : Item) → j < i → slice_get items j ≡ Some y → slice_get items i ≡ Some z → SameAt changes (n + i) [] → SameAt changes (n + j) (new ∷ y ∷ []) → OnlyAtBoth changes n i j →
    new_items (slots_from n changes items) ≡ insert (remove items i) j new
moved_up changes n i j [] y z new less at at' gone comes only = absurd (let e : None ≡ Some y = at in cc)
moved_up changes n zero j (x ∷ items) y z new less at at' gone comes only = absurd (omega arith)
moved_up changes n (suc i) zero (x ∷ items) y z new less at at' gone comes only =
    ap₂ (λ (xs ys : List Item). xs ++ ys) (same_first changes n (new ∷ y ∷ []) comes x)
    (without changes (n + 1) i items z at' (same_next changes n i [] gone) (λ k w low apart. only k w (omega arith) (λ e. apart (omega arith)) (λ e. absurd (omega (arith, e, low)))))
    ∙ ap (λ (w : Item). new ∷ w ∷ remove items i) (sym (some-same at))
moved_up changes n (suc i) (suc j) (x ∷ items) y z new less at at' gone comes only =
    ap₂ (λ (xs ys : List Item). xs ++ ys) (only n x (omega arith) (λ e. absurd (omega (arith, e))) (λ e. absurd (omega (arith, e))))
    (moved_up changes (n + 1) i j items y z new (omega arith) at at' (same_next changes n i [] gone) (same_next changes n j (new ∷ y ∷ []) comes) (both_next changes n i j only))

-- ---- The edit that moves a rule

abbrev beside : ℕ → ℕ → RuleParts → Item → List Item
beside from to r other = if nat_lt from to then other ∷ Rule r ∷ [] else Rule r ∷ other ∷ []

abbrev changes_of : ℕ → ℕ → RuleParts → Item → List Change
changes_of from to r other = record { at = from; by = [] } ∷ record { at = to; by = beside from to r other } ∷ []

gone_at : (from to : ℕ) (r : RuleParts) (other : Item) → SameAt (changes_of from to r other) from []
gone_at from to r other x = instead_here (record { at = from; by = [] }) (record { at = to; by = beside from to r other } ∷ []) from x refl

comes_at : (from to : ℕ) (r : RuleParts) (other : Item) → from ≢ to → SameAt (changes_of from to r other) to (beside from to r other)
comes_at from to r other apart x =
    instead_there (record { at = from; by = [] }) (record { at = to; by = beside from to r other } ∷ []) to x apart
    ∙ instead_here (record { at = to; by = beside from to r other }) [] to x refl

stays_at : (from to : ℕ) (r : RuleParts) (other : Item) (k : ℕ) (x : Item) → k ≢ from → k ≢ to → instead (changes_of from to r other) k x ≡ x ∷ []
stays_at from to r other k x apart apart' =
    instead_there (record { at = from; by = [] }) (record { at = to; by = beside from to r other } ∷ []) k x (λ e. apart (sym e))
    ∙ instead_there (record { at = to; by = beside from to r other }) [] k x (λ e. apart' (sym e))

moves : (items : List Item) (from to : ℕ) (r : RuleParts) (other : Item) → slice_get items from ≡ Some (Rule r) → slice_get items to ≡ Some other → from ≢ to →
    edited (moving from to r other) items ≡ item_moved items from to (Rule r)
moves items from to r other at at' apart = which (which_less from to)
  where
    shift : (m : ℕ) → m ≡ 0 + m
    shift m = omega arith

    gone : SameAt (changes_of from to r other) (0 + from) []
    gone = subst (λ (m : ℕ). SameAt (changes_of from to r other) m []) (shift from) (gone_at from to r other)

    comes : (by : List Item) → beside from to r other ≡ by → SameAt (changes_of from to r other) (0 + to) by
    comes by e = subst (λ (m : ℕ). SameAt (changes_of from to r other) m by) (shift to) (λ x. comes_at from to r other apart x ∙ e)

    only : OnlyAtBoth (changes_of from to r other) 0 from to
    only k x low not_from not_to = stays_at from to r other k x (λ e. not_from (omega (arith, e))) (λ e. not_to (omega (arith, e)))

    which : (from < to) ⊎ (from ≡ to) ⊎ (to < from) → edited (moving from to r other) items ≡ item_moved items from to (Rule r)
    which (inl less) =
        moved_down (changes_of from to r other) 0 from to items other (Rule r) less at' gone (comes (other ∷ Rule r ∷ []) (cond-true (nat_lt from to) (other ∷ Rule r ∷ []) (Rule r ∷ other ∷ []) ((Decides-ltb from to).1 less))) only
    which (inr (inl e)) = absurd (apart e)
    which (inr (inr less)) =
        let no : nat_lt from to ≡ false = false_from_ne_true (nat_lt from to) (λ h. let l : from < to = (Decides-ltb from to).0 h in absurd (omega (arith, l, less))) in
        moved_up (changes_of from to r other) 0 from to items other (Rule r) (Rule r) less at' at gone (comes (Rule r ∷ other ∷ []) (cond-false (nat_lt from to) (other ∷ Rule r ∷ []) (Rule r ∷ other ∷ []) no)) only

-- ---- It is a rearrangement

all_moved : (n : ℕ) (r : RuleParts) → AllMoved (is_moved (whole_rule n r)) r
all_moved n r p still h = both_ways (is_moved (whole_rule n r) p) still ((moved_is (whole_rule n r) p).1 h)

fair_at : (from to : ℕ) (r : RuleParts) (other : Item) → IsFair (is_moved (whole_rule from r)) (record { old = other; new = beside from to r other })
fair_at from to r other =
    cond_both (nat_lt from to) (other ∷ Rule r ∷ []) (Rule r ∷ other ∷ []) (λ xs. IsFair (is_moved (whole_rule from r)) (record { old = other; new = xs }))
    (λ before. back_fair (is_moved (whole_rule from r)) other r (other ∷ []) (all_moved from r) (same_fair (is_moved (whole_rule from r)) other))
    (λ behind. front_fair (is_moved (whole_rule from r)) other r (other ∷ []) (all_moved from r) (same_fair (is_moved (whole_rule from r)) other))

each_fair : (items : List Item) (from to : ℕ) (r : RuleParts) (other : Item) → slice_get items from ≡ Some (Rule r) → slice_get items to ≡ Some other → from ≢ to →
    (i : ℕ) (x : Item) → slice_get items i ≡ Some x → IsFair (is_moved (whole_rule from r)) (record { old = x; new = instead (changes_of from to r other) (0 + i) x })
each_fair items from to r other at at' apart i x here =
    let e : i ≡ 0 + i = omega arith in
    subst (λ (m : ℕ). IsFair (is_moved (whole_rule from r)) (record { old = x; new = instead (changes_of from to r other) m x })) e (which (i == from) refl (i == to) refl)
  where
    fair_by : (by : List Item) → instead (changes_of from to r other) i x ≡ by → IsFair (is_moved (whole_rule from r)) (record { old = x; new = by }) → IsFair (is_moved (whole_rule from r)) (record { old = x; new = instead (changes_of from to r other) i x })
    fair_by by e fair = subst (λ (xs : List Item). IsFair (is_moved (whole_rule from r)) (record { old = x; new = xs })) (sym e) fair

    which : (a : Bool) → (i == from) ≡ a → (b : Bool) → (i == to) ≡ b → IsFair (is_moved (whole_rule from r)) (record { old = x; new = instead (changes_of from to r other) i x })
    which true f b g =
        let same : i ≡ from = (Decides-eqb i from).0 f in
        let rule : Rule r ≡ x = some-same (sym at ∙ ap (slice_get items) (sym same) ∙ here) in
        fair_by [] (subst (λ (m : ℕ). instead (changes_of from to r other) m x ≡ []) (sym same) (gone_at from to r other x))
        (subst (λ (y : Item). IsFair (is_moved (whole_rule from r)) (record { old = y; new = [] })) rule (none_fair (is_moved (whole_rule from r)) r (all_moved from r)))
    which false f true g =
        let same : i ≡ to = (Decides-eqb i to).0 g in
        let item : other ≡ x = some-same (sym at' ∙ ap (slice_get items) (sym same) ∙ here) in
        fair_by (beside from to r other) (subst (λ (m : ℕ). instead (changes_of from to r other) m x ≡ beside from to r other) (sym same) (comes_at from to r other apart x))
        (subst (λ (y : Item). IsFair (is_moved (whole_rule from r)) (record { old = y; new = beside from to r other })) item (fair_at from to r other))
    which false f false g =
        fair_by (x ∷ []) (stays_at from to r other i x (λ e. false≢true (sym f ∙ (Decides-eqb i from).1 e)) (λ e. false≢true (sym g ∙ (Decides-eqb i to).1 e))) (same_fair (is_moved (whole_rule from r)) x)

stands_from : (items : List Item) (n : ℕ) (r : RuleParts) (p : Pair) → slice_get items n ≡ Some (Rule r) → is_moved (whole_rule n r) p ≡ true → StandsIn (n ∷ []) items p
stands_from items n r p at moved =
    let w : InRule r p = (moved_is (whole_rule n r) p).0 moved in
    let d : (k : ℕ) × (x : DeclItem) × (slice_get r.decls k ≡ Some x) × (x.decl ≡ p.decl) = in_decl r.decls p.decl w.1 in
    let place : Place = record { item = n; position = d.0 } in
    (place, record { rule = r; decl = d.1; rule_at = at; selector_in = w.0; decl_at = d.2; decl_is = d.3 }, or_left (n == n) false ((Decides-eqb n n).1 refl))

-- the rule stands in its new place
has_beside : (from to : ℕ) (r : RuleParts) (other : Item) (p : Pair) → InRule r p → HasPair (beside from to r other) p
has_beside from to r other p h =
    cond_both (nat_lt from to) (other ∷ Rule r ∷ []) (Rule r ∷ other ∷ []) (λ xs. HasPair xs p)
    (λ before. (has_append (other ∷ []) (Rule r ∷ []) p).1 (inr ((has_rule r p).1 h)))
    (λ behind. (has_append (Rule r ∷ []) (other ∷ []) p).1 (inl ((has_rule r p).1 h)))

pub moving_rearranges : (items : List Item) (from to : ℕ) (r : RuleParts) (other : Item) → slice_get items from ≡ Some (Rule r) → slice_get items to ≡ Some other → from ≢ to →
    IsRearrangement items (moving from to r other) × (edited (moving from to r other) items ≡ item_moved items from to (Rule r))
moving_rearranges items from to r other at at' apart = (
  record {
    fair = all_fair (is_moved (whole_rule from r)) (changes_of from to r other) 0 items (each_fair items from to r other at at' apart);
    from = λ p moved. stands_from items from r p at moved;
    to = λ p moved. has_new (changes_of from to r other) 0 items to other p at' (there p ((moved_is (whole_rule from r) p).0 moved));
  },
  moves items from to r other at at' apart,
)
  where
    there : (p : Pair) → InRule r p → HasPair (instead (changes_of from to r other) (0 + to) other) p
    there p h =
        let e : to ≡ 0 + to = omega arith in
        subst (λ (m : ℕ). HasPair (instead (changes_of from to r other) m other) p) e (subst (λ (xs : List Item). HasPair xs p) (sym (comes_at from to r other apart other)) (has_beside from to r other p h))

pub moving_apart_keeps : RelatingIsDecided → (source : List ℕ) (items : List Item) (from to : ℕ) (r : RuleParts) (other : Item) → slice_get items from ≡ Some (Rule r) → slice_get items to ≡ Some other → from ≢ to →
    All (λ x. IsApart x.moved.pair x.other) (reversed items (item_moved items from to (Rule r)) (whole_rule from r)) → Keeps source items source (item_moved items from to (Rule r))
moving_apart_keeps relating source items from to r other at at' different apart =
    let w : IsRearrangement items (moving from to r other) × (edited (moving from to r other) items ≡ item_moved items from to (Rule r)) = moving_rearranges items from to r other at at' different in
    subst (λ (xs : List Item). Keeps source items source xs) w.1
    (reversing_apart_keeps relating source items (moving from to r other) w.0
    (subst (λ (xs : List Item). All (λ x. IsApart x.moved.pair x.other) (reversed items xs (whole_rule from r))) (sym w.1) apart))
