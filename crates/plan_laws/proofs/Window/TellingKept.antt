-- What a window tells of kept items.
use Rattle.std.proofs.Common.{◌≡◌, ◌↔◌, ◌⊎◌, ℕ, zero, suc, ◌+◌, ◌-◌, ◌<◌, ◌≤◌, true, List, [], ◌∷◌, ◌++◌, length, Some, None, refl, sym, ap, ◌∙◌, subst, inl, inr, arith}
use Rattle.std.specs.Prelude.{slice_get}
use Rattle.std.proofs.lemmas.List.Elements.{filter-append}
use Rattle.std.proofs.lemmas.Option.{slice_get_within}
use Rattle.css_model.specs.declared.sheet.Item.{Item}
use Rattle.css_model.specs.declared.sheet.Item.TheVariants.{Rule, KeptRule, KeptBlock}
use Rattle.css_model.specs.Cascade.Order.{Pair, IsPairAt, HasPair, IsLast, IsBeforeKept}
use Rattle.css_model.specs.Cascade.Winner.{Place}
use Rattle.css_model.specs.Sheets.KeptItems.{is_kept, kept_before, kept_items}
use Rattle.order_laws.proofs.ForCallers.{has_append, last_or_none, last_of, LastBehind, BehindInTwo, behind_in_two}
use Rattle.order_laws.specs.Edits.{Moved, is_moved}
use Rattle.order_laws.specs.Reversing.{Differ, ReversesKept}
use Rattle.plan_laws.specs.Window.Windows.{IsWindow}

-- ---- Lists

get_behind : {X : Type 0} → (xs ys : List X) (i : ℕ) → slice_get (xs ++ ys) (length xs + i) ≡ slice_get ys i
get_behind {X} [] ys i = let e : 0 + i ≡ i = omega arith in ap (slice_get ys) e
get_behind {X} (x ∷ xs) ys i = let e : length (x ∷ xs) + i ≡ suc (length xs + i) = omega arith in ap (slice_get (x ∷ xs ++ ys)) e ∙ get_behind xs ys i

get_before : {X : Type 0} → (xs ys : List X) (i : ℕ) → i < length xs → slice_get (xs ++ ys) i ≡ slice_get xs i
get_before {X} [] ys i less = absurd (omega arith)
get_before {X} (x ∷ xs) ys zero less = refl
get_before {X} (x ∷ xs) ys (suc i) less = get_before xs ys i (omega arith)

few_before : (i : ℕ) (items : List Item) → kept_before i items ≤ length (kept_items items)
few_before zero items = omega arith
few_before (suc i) [] = omega arith
few_before (suc i) (Rule r ∷ items) = few_before i items
few_before (suc i) (KeptRule k ∷ items) = let h : kept_before i items ≤ length (kept_items items) = few_before i items in omega (arith, h)
few_before (suc i) (KeptBlock k ∷ items) = let h : kept_before i items ≤ length (kept_items items) = few_before i items in omega (arith, h)

-- the kept item of a number within the window
kept_at : (above within behind : List Item) (n : ℕ) → n < length (kept_items within) →
    slice_get (kept_items (above ++ (within ++ behind))) (length (kept_items above) + n) ≡ slice_get (kept_items within) n
kept_at above within behind n less =
    ap (λ (xs : List Item). slice_get xs (length (kept_items above) + n)) (filter-append is_kept above (within ++ behind))
    ∙ get_behind (kept_items above) (kept_items (within ++ behind)) n
    ∙ ap (λ (xs : List Item). slice_get xs n) (filter-append is_kept within behind)
    ∙ get_before (kept_items within) (kept_items behind) n less

-- ---- The kept items before the last of a pair

-- a pair stands behind no more than so many
abbrev Behind : List Item → Pair → ℕ → Type 0
Behind items p number = (k : ℕ) × LastBehind items p k × (k ≤ number)

behind_is : (items : List Item) (p : Pair) (number : ℕ) → IsBeforeKept items p number ↔ Behind items p number
behind_is items p number = (λ b. (kept_before b.place.item items, record { place = b.place; stands = b.stands; number = refl }, b.before), λ h. back h.0 h.1 h.2)
  where
    back : (k : ℕ) (l : LastBehind items p k) → k ≤ number → IsBeforeKept items p number
    back k l less = let e = l.number in record { place = l.place; stands = l.stands; before = omega (arith, e, less) }

-- a pair that stands has so many before it, no more than there are
some_behind : (items : List Item) (p : Pair) → HasPair items p → (k : ℕ) × LastBehind items p k × (k ≤ length (kept_items items))
some_behind items p h =
    let l = last_of items p h in
    (kept_before l.0.item items, record { place = l.0; stands = l.1; number = refl }, few_before l.0.item items)

-- ---- By a window

le_or_less : (m n : ℕ) → (m ≤ n) ⊎ (n < m)
le_or_less zero n = inl (omega arith)
le_or_less (suc m) zero = inr (omega arith)
le_or_less (suc m) (suc n) = which (le_or_less m n)
  where
    which : (m ≤ n) ⊎ (n < m) → (suc m ≤ suc n) ⊎ (suc n < suc m)
    which (inl h) = inl (omega (arith, h))
    which (inr h) = inr (omega (arith, h))

module _ (above within behind : List Item) (p : Pair) where
  abbrev whole : List Item
  whole = above ++ (within ++ behind)

  -- of a pair that stands behind the window
  in_behind : HasPair behind p → (k : ℕ) → LastBehind whole p k ↔ ((j : ℕ) × LastBehind behind p j × (k ≡ length (kept_items above) + (length (kept_items within) + j)))
  in_behind stands k = (λ l. there ((behind_in_two above (within ++ behind) p k).0 l), λ h. back h.0 h.1 h.2)
    where
      rest : (n : ℕ) → k ≡ length (kept_items above) + n → BehindInTwo within behind p n → (j : ℕ) × LastBehind behind p j × (k ≡ length (kept_items above) + (length (kept_items within) + j))
      rest n e (inl h) = let g = h.2 in (h.0, h.1, omega (arith, e, g))
      rest n e (inr h) = absurd (h.0 stands)

      there : BehindInTwo above (within ++ behind) p k → (j : ℕ) × LastBehind behind p j × (k ≡ length (kept_items above) + (length (kept_items within) + j))
      there (inl h) = rest h.0 h.2 ((behind_in_two within behind p h.0).0 h.1)
      there (inr h) = absurd (h.0 ((has_append within behind p).1 (inr stands)))

      back : (j : ℕ) → LastBehind behind p j → k ≡ length (kept_items above) + (length (kept_items within) + j) → LastBehind whole p k
      back j l e = (behind_in_two above (within ++ behind) p k).1 (inl (length (kept_items within) + j, (behind_in_two within behind p (length (kept_items within) + j)).1 (inl (j, l, refl)), e))

  -- of one that stands within it alone
  in_window : (HasPair behind p → ⊥) → HasPair within p → (k : ℕ) → LastBehind whole p k ↔ ((n : ℕ) × LastBehind within p n × (k ≡ length (kept_items above) + n))
  in_window none stands k = (λ l. there ((behind_in_two above (within ++ behind) p k).0 l), λ h. back h.0 h.1 h.2)
    where
      rest : (n : ℕ) → BehindInTwo within behind p n → LastBehind within p n
      rest n (inl h) = absurd (none (h.1.place, h.1.stands.stands))
      rest n (inr h) = h.1

      there : BehindInTwo above (within ++ behind) p k → (n : ℕ) × LastBehind within p n × (k ≡ length (kept_items above) + n)
      there (inl h) = (h.0, rest h.0 ((behind_in_two within behind p h.0).0 h.1), h.2)
      there (inr h) = absurd (h.0 ((has_append within behind p).1 (inl stands)))

      back : (n : ℕ) → LastBehind within p n → k ≡ length (kept_items above) + n → LastBehind whole p k
      back n l e = (behind_in_two above (within ++ behind) p k).1 (inl (n, (behind_in_two within behind p n).1 (inr (none, l)), e))

  -- it stands before the kept item of a number of the window
  pub before_here : (HasPair behind p → ⊥) → HasPair within p → (n : ℕ) → IsBeforeKept whole p (length (kept_items above) + n) ↔ IsBeforeKept within p n
  before_here none stands n = (λ b. there ((behind_is whole p (length (kept_items above) + n)).0 b), λ b. back ((behind_is within p n).0 b))
    where
      there : Behind whole p (length (kept_items above) + n) → IsBeforeKept within p n
      there (k, l, less) =
          let w : (m : ℕ) × LastBehind within p m × (k ≡ length (kept_items above) + m) = (in_window none stands k).0 l in
          let e : k ≡ length (kept_items above) + w.0 = w.2 in
          (behind_is within p n).1 (w.0, w.1, omega (arith, e, less))

      back : Behind within p n → IsBeforeKept whole p (length (kept_items above) + n)
      back (k, l, less) = (behind_is whole p (length (kept_items above) + n)).1 (length (kept_items above) + k, (in_window none stands (length (kept_items above) + k)).1 (k, l, refl), omega (arith, less))

  -- the kept item that it stands before is not above the window
  not_above : (HasPair behind p → ⊥) → HasPair within p → (number : ℕ) → IsBeforeKept whole p number → length (kept_items above) ≤ number
  not_above none stands number b = there ((behind_is whole p number).0 b)
    where
      there : Behind whole p number → length (kept_items above) ≤ number
      there (k, l, less) =
          let w : (m : ℕ) × LastBehind within p m × (k ≡ length (kept_items above) + m) = (in_window none stands k).0 l in
          let e : k ≡ length (kept_items above) + w.0 = w.2 in
          omega (arith, e, less)

-- the order of a pair that stands behind does not change
same_behind : (above within within' behind : List Item) (p : Pair) → length (kept_items within) ≡ length (kept_items within') → HasPair behind p → (number : ℕ) →
    IsBeforeKept (above ++ (within ++ behind)) p number → IsBeforeKept (above ++ (within' ++ behind)) p number
same_behind above within within' behind p same stands number b = there ((behind_is (above ++ (within ++ behind)) p number).0 b)
  where
    there : Behind (above ++ (within ++ behind)) p number → IsBeforeKept (above ++ (within' ++ behind)) p number
    there (k, l, less) =
        let w : (j : ℕ) × LastBehind behind p j × (k ≡ length (kept_items above) + (length (kept_items within) + j)) = (in_behind above within behind p stands k).0 l in
        let e : k ≡ length (kept_items above) + (length (kept_items within) + w.0) = w.2 in
        (behind_is (above ++ (within' ++ behind)) p number).1 (k, (in_behind above within' behind p stands k).1 (w.0, w.1, omega (arith, e, same)), less)

-- a pair that does not stand before a kept item of this number stands behind one of this number
fewer : (within : List Item) (p : Pair) (n : ℕ) → HasPair within p → (IsBeforeKept within p n → ⊥) → n < length (kept_items within)
fewer within p n stands not = let l : (k : ℕ) × LastBehind within p k × (k ≤ length (kept_items within)) = some_behind within p stands in which l.0 l.1 l.2 (le_or_less l.0 n)
  where
    which : (k : ℕ) → LastBehind within p k → k ≤ length (kept_items within) → (k ≤ n) ⊎ (n < k) → n < length (kept_items within)
    which k l most (inl less) = absurd (not ((behind_is within p n).1 (k, l, less)))
    which k l most (inr more) = omega (arith, more, most)

module _ (m : Moved) (above within within' behind : List Item) (w : IsWindow (above ++ (within ++ behind)) (above ++ (within' ++ behind)) m above within within' behind) (p : Pair) (number : ℕ) where
  abbrev In : Type 0
  In = (n : ℕ) × (number ≡ length (kept_items above) + n) × ReversesKept within within' m p n × (HasPair behind p → ⊥)

  same : length (kept_items within) ≡ length (kept_items within')
  same = ap (λ (xs : List Item). length xs) w.kept

  stands' : is_moved m p ≡ true → (HasPair behind p → ⊥) → HasPair within' p
  stands' moved none = which (w.stands p moved).1
    where
      which : HasPair within' p ⊎ HasPair behind p → HasPair within' p
      which (inl h) = h
      which (inr h) = absurd (none h)

  made : (h : ReversesKept (above ++ (within ++ behind)) (above ++ (within' ++ behind)) m p number) → (HasPair behind p → ⊥) → (n : ℕ) → number ≡ length (kept_items above) + n →
      n < length (kept_items within) → Differ (IsBeforeKept within p n) (IsBeforeKept within' p n) → In
  made h none n e less order = (n, e, record { item = h.item; moved = h.moved; item_at = at; weighs = h.weighs; order = order }, none)
    where
      at : slice_get (kept_items within) n ≡ Some h.item
      at = sym (kept_at above within behind n less) ∙ ap (λ (k : ℕ). slice_get (kept_items (above ++ (within ++ behind))) k) (sym e) ∙ h.item_at

  alone : (h : ReversesKept (above ++ (within ++ behind)) (above ++ (within' ++ behind)) m p number) → (HasPair behind p → ⊥) → Differ (IsBeforeKept (above ++ (within ++ behind)) p number) (IsBeforeKept (above ++ (within' ++ behind)) p number) → In
  alone h none (inl (b, not)) =
      let a : HasPair within p = (w.stands p h.moved).0 in
      let a' : HasPair within' p = stands' h.moved none in
      let less : length (kept_items above) ≤ number = not_above above within behind p none a number b in
      let e : number ≡ length (kept_items above) + (number - length (kept_items above)) = omega (arith, less) in
      let n : ℕ = number - length (kept_items above) in
      let b' : IsBeforeKept within p n = (before_here above within behind p none a n).0 (subst (λ (k : ℕ). IsBeforeKept (above ++ (within ++ behind)) p k) e b) in
      let not' : IsBeforeKept within' p n → ⊥ = λ c. not (subst (λ (k : ℕ). IsBeforeKept (above ++ (within' ++ behind)) p k) (sym e) ((before_here above within' behind p none a' n).1 c)) in
      let few : n < length (kept_items within') = fewer within' p n a' not' in
      made h none n e (let s = same in omega (arith, few, s)) (inl (b', not'))
  alone h none (inr (not, b)) =
      let a : HasPair within p = (w.stands p h.moved).0 in
      let a' : HasPair within' p = stands' h.moved none in
      let less : length (kept_items above) ≤ number = not_above above within' behind p none a' number b in
      let e : number ≡ length (kept_items above) + (number - length (kept_items above)) = omega (arith, less) in
      let n : ℕ = number - length (kept_items above) in
      let b' : IsBeforeKept within' p n = (before_here above within' behind p none a' n).0 (subst (λ (k : ℕ). IsBeforeKept (above ++ (within' ++ behind)) p k) e b) in
      let not' : IsBeforeKept within p n → ⊥ = λ c. not (subst (λ (k : ℕ). IsBeforeKept (above ++ (within ++ behind)) p k) (sym e) ((before_here above within behind p none a n).1 c)) in
      let few : n < length (kept_items within) = fewer within p n a not' in
      made h none n e few (inr (not', b'))

  there : ReversesKept (above ++ (within ++ behind)) (above ++ (within' ++ behind)) m p number → In
  there h = which (last_or_none behind p) h.order
    where
      which : ((q : Place) × IsLast behind p q) ⊎ ((q : Place) → IsPairAt behind p q → ⊥) → Differ (IsBeforeKept (above ++ (within ++ behind)) p number) (IsBeforeKept (above ++ (within' ++ behind)) p number) → In
      which (inl l) (inl (b, not)) = absurd (not (same_behind above within within' behind p same (l.0, l.1.stands) number b))
      which (inl l) (inr (not, b)) = absurd (not (same_behind above within' within behind p (sym same) (l.0, l.1.stands) number b))
      which (inr none) order = alone h (λ g. none g.0 g.1) order

  back : In → ReversesKept (above ++ (within ++ behind)) (above ++ (within' ++ behind)) m p number
  back (n, e, h, none) = record { item = h.item; moved = h.moved; item_at = at; weighs = h.weighs; order = order h.order }
    where
      at : slice_get (kept_items (above ++ (within ++ behind))) number ≡ Some h.item
      at = ap (λ (k : ℕ). slice_get (kept_items (above ++ (within ++ behind))) k) e ∙ kept_at above within behind n (slice_get_within (kept_items within) n h.item h.item_at) ∙ h.item_at

      order : Differ (IsBeforeKept within p n) (IsBeforeKept within' p n) → Differ (IsBeforeKept (above ++ (within ++ behind)) p number) (IsBeforeKept (above ++ (within' ++ behind)) p number)
      order (inl (b, not)) = inl (
        subst (λ (k : ℕ). IsBeforeKept (above ++ (within ++ behind)) p k) (sym e) ((before_here above within behind p none (w.stands p h.moved).0 n).1 b),
        λ c. not ((before_here above within' behind p none (stands' h.moved none) n).0 (subst (λ (k : ℕ). IsBeforeKept (above ++ (within' ++ behind)) p k) e c)),
      )
      order (inr (not, b)) = inr (
        λ c. not ((before_here above within behind p none (w.stands p h.moved).0 n).0 (subst (λ (k : ℕ). IsBeforeKept (above ++ (within ++ behind)) p k) e c)),
        subst (λ (k : ℕ). IsBeforeKept (above ++ (within' ++ behind)) p k) (sym e) ((before_here above within' behind p none (stands' h.moved none) n).1 b),
      )

pub windows_tell_kept : (items items' : List Item) (m : Moved) (above within within' behind : List Item) → IsWindow items items' m above within within' behind →
    (p : Pair) (number : ℕ) → ReversesKept items items' m p number ↔ ((n : ℕ) × (number ≡ length (kept_items above) + n) × ReversesKept within within' m p n × (HasPair behind p → ⊥))
windows_tell_kept items items' m above within within' behind w p number =
    let v : IsWindow (above ++ (within ++ behind)) (above ++ (within' ++ behind)) m above within within' behind = record { old_is = refl; new_is = refl; stands = w.stands; none_comes = w.none_comes; kept = w.kept } in
    subst (λ (x : List Item). ReversesKept x items' m p number ↔ ((n : ℕ) × (number ≡ length (kept_items above) + n) × ReversesKept within within' m p n × (HasPair behind p → ⊥))) (sym w.old_is)
    (subst (λ (y : List Item). ReversesKept (above ++ (within ++ behind)) y m p number ↔ ((n : ℕ) × (number ≡ length (kept_items above) + n) × ReversesKept within within' m p n × (HasPair behind p → ⊥))) (sym w.new_is)
    (there m above within within' behind v p number, back m above within within' behind v p number))
