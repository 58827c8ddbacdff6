-- An edit item by item: what its slots are, and what is edited where.
use Rattle.std.proofs.Common.{◌≡◌, ◌≢◌, ℕ, zero, suc, ◌+◌, ◌≤◌, ◌==◌, Bool, List, [], ◌∷◌, ◌++◌, Some, None, refl, sym, ap, ap₂, subst, inl, inr, arith}
use Rattle.std.specs.Prelude.{slice_get}
use Rattle.std.specs.List.{All}
use Rattle.std.proofs.lemmas.Bool.{cond-true, cond-false, false_from_ne_true}
use Rattle.std.proofs.lemmas.Bool.Decides.{Decides-eqb}
use Rattle.std.proofs.lemmas.List.Elements.{All-cons, All-nil}
use Rattle.cascade_laws.proofs.ForCallers.{some-same}
use Rattle.css_model.specs.declared.sheet.Item.{Item}
use Rattle.css_model.specs.declared.sheet.Item.TheVariants.{Rule}
use Rattle.css_model.specs.Cascade.Order.{Pair, HasPair}
use Rattle.css_model.specs.Sheets.RuleParts.{RuleParts}
use Rattle.order_laws.specs.Edits.{Change, instead, slots_from}
use Rattle.order_laws.specs.Slots.{old_items, new_items, IsFair}
use Rattle.order_laws.proofs.Appended.{has_append}
use Rattle.order_laws.proofs.RulePairs.{InRule, has_rule}

-- the old items are the items
pub old_same : (n : ℕ) (changes : List Change) (items : List Item) → old_items (slots_from n changes items) ≡ items
old_same n changes [] = refl
old_same n changes (x ∷ items) = ap (λ (xs : List Item). x ∷ xs) (old_same (n + 1) changes items)

-- ---- What stands instead of an item

pub instead_here : (c : Change) (changes : List Change) (n : ℕ) (x : Item) → c.at ≡ n → instead (c ∷ changes) n x ≡ c.by
instead_here c changes n x e = cond-true (c.at == n) c.by (instead changes n x) ((Decides-eqb c.at n).1 e)

pub instead_there : (c : Change) (changes : List Change) (n : ℕ) (x : Item) → c.at ≢ n → instead (c ∷ changes) n x ≡ instead changes n x
instead_there c changes n x apart = cond-false (c.at == n) c.by (instead changes n x) (false_from_ne_true (c.at == n) (λ h. apart ((Decides-eqb c.at n).0 h)))

-- where nothing changes from a number on, the items stay
pub unchanged : (changes : List Change) (n : ℕ) (items : List Item) → ((k : ℕ) (x : Item) → n ≤ k → instead changes k x ≡ x ∷ []) → new_items (slots_from n changes items) ≡ items
unchanged changes n [] same = refl
unchanged changes n (x ∷ items) same =
    ap₂ (λ (xs ys : List Item). xs ++ ys) (same n x (omega arith)) (unchanged changes (n + 1) items (λ k y later. same k y (omega arith)))

-- ---- Fair slots

-- slots are fair where each is
pub all_fair : (moved : Pair → Bool) (changes : List Change) (n : ℕ) (items : List Item) → ((i : ℕ) (x : Item) → slice_get items i ≡ Some x → IsFair moved (record { old = x; new = instead changes (n + i) x })) → All (IsFair moved) (slots_from n changes items)
all_fair moved changes n [] fair = All-nil (IsFair moved)
all_fair moved changes n (x ∷ items) fair =
    All-cons (IsFair moved) (record { old = x; new = instead changes n x }) (slots_from (n + 1) changes items)
    (let e : n + 0 ≡ n = omega arith in subst (λ (m : ℕ). IsFair moved (record { old = x; new = instead changes m x })) e (fair 0 x refl))
    (all_fair moved changes (n + 1) items (λ i y at. let e : n + suc i ≡ (n + 1) + i = omega arith in subst (λ (m : ℕ). IsFair moved (record { old = y; new = instead changes m y })) e (fair (suc i) y at)))

-- ---- Pairs of the new items

-- what stands instead of an item stands in the new items
pub has_new : (changes : List Change) (n : ℕ) (items : List Item) (i : ℕ) (x : Item) (p : Pair) → slice_get items i ≡ Some x → HasPair (instead changes (n + i) x) p → HasPair (new_items (slots_from n changes items)) p
has_new changes n [] i x p at h = absurd (let e : None ≡ Some x = at in cc)
has_new changes n (y ∷ items) zero x p at h =
    let e : n + 0 ≡ n = omega arith in
    (has_append (instead changes n y) (new_items (slots_from (n + 1) changes items)) p).1
    (inl (subst (λ (z : Item). HasPair (instead changes n z) p) (sym (some-same at)) (subst (λ (m : ℕ). HasPair (instead changes m x) p) e h)))
has_new changes n (y ∷ items) (suc i) x p at h =
    let e : n + suc i ≡ (n + 1) + i = omega arith in
    (has_append (instead changes n y) (new_items (slots_from (n + 1) changes items)) p).1
    (inr (has_new changes (n + 1) items i x p at (subst (λ (m : ℕ). HasPair (instead changes m x) p) e h)))

-- a rule's pairs stand in the sheet
pub has_at : (items : List Item) (n : ℕ) (r : RuleParts) (p : Pair) → slice_get items n ≡ Some (Rule r) → InRule r p → HasPair items p
has_at [] n r p at h = absurd (let e : None ≡ Some (Rule r) = at in cc)
has_at (x ∷ items) zero r p at h = (has_append (x ∷ []) items p).1 (inl (subst (λ (z : Item). HasPair (z ∷ []) p) (sym (some-same at)) ((has_rule r p).1 h)))
has_at (x ∷ items) (suc n) r p at h = (has_append (x ∷ []) items p).1 (inr (has_at items n r p at h))
