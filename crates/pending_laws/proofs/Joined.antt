-- The rule that a join makes, and the items that it leaves.
use Rattle.std.proofs.Common.{◌≡◌, ◌≢◌, ◌⊎◌, ℕ, zero, suc, ◌+◌, List, [], ◌∷◌, length, take, Some, None, refl, sym, ap, ◌∙◌, subst, inl, inr, arith}
use Rattle.std.specs.Prelude.{slice_get}
use Rattle.std.specs.List.{Contains, remove}
use Rattle.cascade_laws.proofs.ForCallers.{some-same}
use Rattle.css_model.specs.declared.sheet.Item.{Item}
use Rattle.css_model.specs.declared.sheet.Item.TheVariants.{Rule}
use Rattle.css_model.specs.Cascade.Order.{Pair, HasPair}
use Rattle.css_model.specs.Sheets.RuleParts.{RuleParts}
use Rattle.pending_laws.proofs.Elsewhere.{stands_elsewhere}
use Rattle.pending_laws.proofs.Standing.{Apart, WasLeft, WasPutIn, has_come, rule_elsewhere, standing, RuleElsewhere}
use Rattle.list_facts.proofs.Members.{Contains-nil, Contains-cons_cases}
use Rattle.order_laws.specs.Edits.{Change, Edit, Moved, edited, slots_from}
use Rattle.order_laws.specs.Slots.{new_items}
use Rattle.step_laws.specs.StepEdits.{AreRules, two_changes}
use Rattle.plan_laws.specs.Barrier.Renumbering.{Leaves, new_number}
use Rattle.plan_laws.specs.Barrier.SideBySide.{HasCome}

-- An edit takes two rules, and puts one in, in the place of one of them.
pub record IsJoined (items : List Item) (d : Edit) (u l made : RuleParts) (x y z : ℕ) : Type 0 where
  pub rules : AreRules items x y u l
  pub leaves : (n : ℕ) → Leaves d n → (x ≢ n) × (y ≢ n)
  pub puts_in : (c : Change) (k : ℕ) (item : Item) → Contains d.changes c → slice_get c.by k ≡ Some item → (item ≡ Rule made) × (c.at ≡ z) × (k ≡ 0)

abbrev change : ℕ → List Item → Change
change n by = record { at = n; by = by }

-- ---- Joins are so

none_in : (k : ℕ) (item : Item) → slice_get [] k ≡ Some item → ⊥
none_in k item at = let e : None ≡ Some item = at in cc

one_in : (made : RuleParts) (k : ℕ) (item : Item) → slice_get (Rule made ∷ []) k ≡ Some item → (item ≡ Rule made) × (k ≡ 0)
one_in made zero item at = (sym (some-same at), refl)
one_in made (suc k) item at = absurd (none_in k item at)

pub joined_up : (items : List Item) (u l made : RuleParts) (x y : ℕ) (m : Moved) → AreRules items x y u l → IsJoined items (two_changes x (Rule made ∷ []) y [] m) u l made x y x
joined_up items u l made x y m rules = record { rules = rules; leaves = (λ n h. (h.0, h.1.0)); puts_in = puts_in }
  where
    second : (c : Change) (k : ℕ) (item : Item) → (change y [] ≡ c) ⊎ Contains [] c → slice_get c.by k ≡ Some item → (item ≡ Rule made) × (c.at ≡ x) × (k ≡ 0)
    second c k item (inl e) at = absurd (none_in k item (subst (λ (b : Change). slice_get b.by k ≡ Some item) (sym e) at))
    second c k item (inr h) at = absurd (Contains-nil c h)

    first : (c : Change) (k : ℕ) (item : Item) → (change x (Rule made ∷ []) ≡ c) ⊎ Contains (change y [] ∷ []) c → slice_get c.by k ≡ Some item → (item ≡ Rule made) × (c.at ≡ x) × (k ≡ 0)
    first c k item (inl e) at =
        let w : (item ≡ Rule made) × (k ≡ 0) = one_in made k item (subst (λ (b : Change). slice_get b.by k ≡ Some item) (sym e) at) in
        (w.0, sym (ap (λ (b : Change). b.at) e), w.1)
    first c k item (inr h) at = second c k item (Contains-cons_cases (change y []) [] c h) at

    puts_in : (c : Change) (k : ℕ) (item : Item) → Contains (change x (Rule made ∷ []) ∷ change y [] ∷ []) c → slice_get c.by k ≡ Some item → (item ≡ Rule made) × (c.at ≡ x) × (k ≡ 0)
    puts_in c k item inside = first c k item (Contains-cons_cases (change x (Rule made ∷ [])) (change y [] ∷ []) c inside)

pub joined_down : (items : List Item) (u l made : RuleParts) (x y : ℕ) (m : Moved) → AreRules items x y u l → IsJoined items (two_changes x [] y (Rule made ∷ []) m) u l made x y y
joined_down items u l made x y m rules = record { rules = rules; leaves = (λ n h. (h.0, h.1.0)); puts_in = puts_in }
  where
    second : (c : Change) (k : ℕ) (item : Item) → (change y (Rule made ∷ []) ≡ c) ⊎ Contains [] c → slice_get c.by k ≡ Some item → (item ≡ Rule made) × (c.at ≡ y) × (k ≡ 0)
    second c k item (inl e) at =
        let w : (item ≡ Rule made) × (k ≡ 0) = one_in made k item (subst (λ (b : Change). slice_get b.by k ≡ Some item) (sym e) at) in
        (w.0, sym (ap (λ (b : Change). b.at) e), w.1)
    second c k item (inr h) at = absurd (Contains-nil c h)

    first : (c : Change) (k : ℕ) (item : Item) → (change x [] ≡ c) ⊎ Contains (change y (Rule made ∷ []) ∷ []) c → slice_get c.by k ≡ Some item → (item ≡ Rule made) × (c.at ≡ y) × (k ≡ 0)
    first c k item (inl e) at = absurd (none_in k item (subst (λ (b : Change). slice_get b.by k ≡ Some item) (sym e) at))
    first c k item (inr h) at = second c k item (Contains-cons_cases (change y (Rule made ∷ [])) [] c h) at

    puts_in : (c : Change) (k : ℕ) (item : Item) → Contains (change x [] ∷ change y (Rule made ∷ []) ∷ []) c → slice_get c.by k ≡ Some item → (item ≡ Rule made) × (c.at ≡ y) × (k ≡ 0)
    puts_in c k item inside = first c k item (Contains-cons_cases (change x []) (change y (Rule made ∷ []) ∷ []) c inside)

-- ---- What stands behind one

module _ (items : List Item) (d : Edit) (u l made : RuleParts) (x y z : ℕ) (is : IsJoined items d u l made x y z) where
  made_number : (m : ℕ) (item : Item) → WasPutIn d.changes 0 items m item → (item ≡ Rule made) × (m ≡ new_number d items z)
  made_number m item w =
      let p : (item ≡ Rule made) × (w.change.at ≡ z) × (w.place ≡ 0) = is.puts_in w.change w.place item w.inside w.at in
      let number : w.number ≡ z = (let e = w.number_is in let f = p.1 in omega (arith, e, f)) in
      let none : w.place ≡ 0 = p.2 in
      let same : length (new_items (slots_from 0 d.changes (take w.number items))) ≡ new_number d items z = ap (λ (n : ℕ). length (new_items (slots_from 0 d.changes (take n items)))) number in
      (p.0, (let g = w.is in omega (arith, g, same, none)))

  -- what the join did not leave is the rule that it made
  pub is_made : (m : ℕ) (item : Item) → slice_get (edited d items) m ≡ Some item → (HasCome d items m → ⊥) → (item ≡ Rule made) × (m ≡ new_number d items z)
  is_made m item at not_come = which (standing d.changes 0 items m item at)
    where
      which : WasLeft d.changes 0 items m item ⊎ WasPutIn d.changes 0 items m item → (item ≡ Rule made) × (m ≡ new_number d items z)
      which (inl w) = absurd (not_come (has_come d items m item w))
      which (inr w) = made_number m item w

  -- each other item is none of the two
  pub was_other : (m : ℕ) (item : Item) → slice_get (edited d items) m ≡ Some item → m ≢ new_number d items z → (n : ℕ) × (x ≢ n) × (y ≢ n) × (slice_get items n ≡ Some item)
  was_other m item at apart = which (standing d.changes 0 items m item at)
    where
      which : WasLeft d.changes 0 items m item ⊎ WasPutIn d.changes 0 items m item → (n : ℕ) × (x ≢ n) × (y ≢ n) × (slice_get items n ≡ Some item)
      which (inl w) =
          let e : 0 + w.number ≡ w.number = omega arith in
          let other : (x ≢ w.number) × (y ≢ w.number) = is.leaves w.number (subst (Apart d.changes) e w.apart) in
          (w.number, other.0, other.1, w.at)
      which (inr w) = absurd (apart (made_number m item w).1)

  -- and so a pair that stands elsewhere than in the rule that was made stood elsewhere than in each of the two
  pub stood_elsewhere : (m : ℕ) → m ≡ new_number d items z → (p : Pair) → HasPair (remove (edited d items) m) p → HasPair (remove items x) p × HasPair (remove items y) p
  stood_elsewhere m m_is p h =
      let w : RuleElsewhere (edited d items) m p = rule_elsewhere (edited d items) m p h in
      let o : (n : ℕ) × (x ≢ n) × (y ≢ n) × (slice_get items n ≡ Some (Rule w.2)) = was_other w.0 (Rule w.2) w.3 (λ e. w.1 (e ∙ sym m_is)) in
      (stands_elsewhere items o.0 x w.2 p o.3 w.4 (λ e. o.1 (sym e)), stands_elsewhere items o.0 y w.2 p o.3 w.4 (λ e. o.2 (sym e)))
