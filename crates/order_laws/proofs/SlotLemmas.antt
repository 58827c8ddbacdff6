-- Sheets of fair slots: what is not moved keeps its order, and so the sheet is kept.
use Rattle.std.proofs.Common.{◌≡◌, ◌↔◌, ◌⊎◌, ℕ, zero, suc, ◌+◌, ◌≤◌, true, false, Bool, List, [], ◌∷◌, ◌++◌, map, length, Some, None, refl, sym, ap, ap₂, ◌∙◌, inl, inr, arith}
use Rattle.std.specs.Prelude.{slice_get}
use Rattle.std.specs.List.{All}
use Rattle.std.proofs.lemmas.Bool.{false≢true}
use Rattle.std.proofs.lemmas.List.Elements.{All-head, All-tail, filter-append}
use Rattle.cascade_laws.proofs.ForCallers.{some-same, weigh_back, meet_back}
use Rattle.css_model.specs.declared.sheet.Item.{Item}
use Rattle.css_model.specs.declared.sheet.Item.TheVariants.{Rule, KeptRule, KeptBlock}
use Rattle.css_model.specs.Cascade.Winner.{Place}
use Rattle.css_model.specs.Sheets.KeptItems.{is_kept, kept_before, kept_items}
use Rattle.css_model.specs.Cascade.Order.{Meet, Pair, IsPairAt, HasPair, IsLast, Weigh, WeighsKept, IsBefore, IsBeforeKept, Keeps}
use Rattle.css_model.specs.Sheets.Spelling.{content}
use Rattle.order_laws.specs.Slots.{Slot, old_items, new_items, IsFair}
use Rattle.order_laws.proofs.LastPlaces.{last_of}
use Rattle.order_laws.proofs.Appended.{has_append, BeforeInTwo, before_in_two, LastBehind, BehindInTwo, behind_in_two}

-- ---- Two lists of two parts whose parts agree

-- what two lists of items have in common, for a pair
abbrev SamePairs : List Item → List Item → Pair → Type 0
SamePairs xs xs' p = HasPair xs p ↔ HasPair xs' p

same_has : (xs xs' ys ys' : List Item) (p : Pair) → SamePairs xs xs' p → SamePairs ys ys' p → SamePairs (xs ++ ys) (xs' ++ ys') p
same_has xs xs' ys ys' p h g = (λ a. (has_append xs' ys' p).1 (there ((has_append xs ys p).0 a)), λ a. (has_append xs ys p).1 (back ((has_append xs' ys' p).0 a)))
  where
    there : HasPair xs p ⊎ HasPair ys p → HasPair xs' p ⊎ HasPair ys' p
    there (inl a) = inl (h.0 a)
    there (inr a) = inr (g.0 a)

    back : HasPair xs' p ⊎ HasPair ys' p → HasPair xs p ⊎ HasPair ys p
    back (inl a) = inl (h.1 a)
    back (inr a) = inr (g.1 a)

before_carried : (xs xs' ys ys' : List Item) (p q : Pair) → SamePairs xs xs' p → SamePairs ys ys' p → SamePairs ys ys' q →
    (IsBefore xs p q → IsBefore xs' p q) → (IsBefore ys p q → IsBefore ys' p q) → BeforeInTwo xs ys p q → BeforeInTwo xs' ys' p q
before_carried xs xs' ys ys' p q hp gp gq front rest (inl b) = inl (rest b)
before_carried xs xs' ys ys' p q hp gp gq front rest (inr (inl (has, none, later))) = inr (inl (hp.0 has, λ h. none (gp.1 h), gq.0 later))
before_carried xs xs' ys ys' p q hp gp gq front rest (inr (inr (none, none', b))) = inr (inr (λ h. none (gp.1 h), λ h. none' (gq.1 h), front b))

behind_carried : (xs xs' ys ys' : List Item) (p : Pair) (n : ℕ) → length (kept_items xs) ≡ length (kept_items xs') → SamePairs ys ys' p →
    (LastBehind xs p n → LastBehind xs' p n) → ((k : ℕ) → LastBehind ys p k → LastBehind ys' p k) → BehindInTwo xs ys p n → BehindInTwo xs' ys' p n
behind_carried xs xs' ys ys' p n same g front rest (inl (k, b, e)) = inl (k, rest k b, e ∙ ap (λ (c : ℕ). c + k) same)
behind_carried xs xs' ys ys' p n same g front rest (inr (none, b)) = inr (λ h. none (g.1 h), front b)

-- ---- One slot

-- one rule alone, or rules alone, have no kept item before anything
no_kept : (xs : List Item) (i : ℕ) → kept_items xs ≡ [] → kept_before i xs ≡ 0
no_kept [] zero h = refl
no_kept [] (suc i) h = refl
no_kept (x ∷ xs) zero h = refl
no_kept (Rule r ∷ xs) (suc i) h = no_kept xs i h
no_kept (KeptRule k ∷ xs) (suc i) h = absurd (let e : length (KeptRule k ∷ kept_items xs) ≡ 0 = ap length h in omega arith)
no_kept (KeptBlock k ∷ xs) (suc i) h = absurd (let e : length (KeptBlock k ∷ kept_items xs) ≡ 0 = ap length h in omega arith)

behind_in_rules : (xs ys : List Item) (p : Pair) (n : ℕ) → kept_items xs ≡ [] → kept_items ys ≡ [] → SamePairs xs ys p → LastBehind xs p n → LastBehind ys p n
behind_in_rules xs ys p n none none' same b =
    let l : (q : Place) × IsLast ys p q = last_of ys p (same.0 (b.place, b.stands.stands)) in
    record { place = l.0; stands = l.1; number = no_kept ys l.0.item none' ∙ sym (no_kept xs b.place.item none) ∙ b.number }

-- a kept item has no pair
kept_has_none : (x : Item) → is_kept x ≡ true → (p : Pair) → HasPair (x ∷ []) p → ⊥
kept_has_none x kept p h = at h.0.item h.0.position h.1
  where
    at : (n k : ℕ) → IsPairAt (x ∷ []) p (record { item = n; position = k }) → ⊥
    at zero k g = absurd (false≢true (sym (ap is_kept (some-same g.rule_at)) ∙ kept))
    at (suc n) k g = absurd (let e : None ≡ Some (Rule g.rule) = g.rule_at in cc)

behind_in_slot : (moved : Pair → Bool) (s : Slot) → IsFair moved s → (p : Pair) (n : ℕ) → moved p ≡ false → LastBehind (s.old ∷ []) p n ↔ LastBehind s.new p n
behind_in_slot moved s fair p n still = which s.old refl
  where
    rule : kept_items (s.old ∷ []) ≡ [] → LastBehind (s.old ∷ []) p n ↔ LastBehind s.new p n
    rule none = (
      behind_in_rules (s.old ∷ []) s.new p n none (fair.kept ∙ none) (fair.pairs p still),
      behind_in_rules s.new (s.old ∷ []) p n (fair.kept ∙ none) none ((fair.pairs p still).1, (fair.pairs p still).0),
    )

    kept : is_kept s.old ≡ true → LastBehind (s.old ∷ []) p n ↔ LastBehind s.new p n
    kept h = (
      λ b. absurd (kept_has_none s.old h p (b.place, b.stands.stands)),
      λ b. absurd (kept_has_none s.old h p ((fair.pairs p still).1 (b.place, b.stands.stands))),
    )

    which : (x : Item) → s.old ≡ x → LastBehind (s.old ∷ []) p n ↔ LastBehind s.new p n
    which (Rule r) e = rule (ap (λ (x : Item). kept_items (x ∷ [])) e)
    which (KeptRule k) e = kept (ap is_kept e)
    which (KeptBlock k) e = kept (ap is_kept e)

-- ---- All slots

pub pairs_still : (moved : Pair → Bool) (slots : List Slot) → All (IsFair moved) slots → (p : Pair) → moved p ≡ false → SamePairs (old_items slots) (new_items slots) p
pairs_still moved [] fair p still = (λ h. h, λ h. h)
pairs_still moved (s ∷ slots) fair p still =
    same_has (s.old ∷ []) s.new (old_items slots) (new_items slots) p ((All-head (IsFair moved) s slots fair).pairs p still) (pairs_still moved slots (All-tail (IsFair moved) s slots fair) p still)

-- two members that are not moved keep their order
pub order_still : (moved : Pair → Bool) (slots : List Slot) → All (IsFair moved) slots → (p q : Pair) → moved p ≡ false → moved q ≡ false → IsBefore (old_items slots) p q ↔ IsBefore (new_items slots) p q
order_still moved [] fair p q still still' = (λ h. h, λ h. h)
order_still moved (s ∷ slots) fair p q still still' =
    let here : IsFair moved s = All-head (IsFair moved) s slots fair in
    let rest : All (IsFair moved) slots = All-tail (IsFair moved) s slots fair in
    let xs : List Item = s.old ∷ [] in
    let hp : SamePairs (s.old ∷ []) s.new p = here.pairs p still in
    let gp : SamePairs (old_items slots) (new_items slots) p = pairs_still moved slots rest p still in
    let gq : SamePairs (old_items slots) (new_items slots) q = pairs_still moved slots rest q still' in
    let front : IsBefore (s.old ∷ []) p q ↔ IsBefore s.new p q = here.order p q still still' in
    let later : IsBefore (old_items slots) p q ↔ IsBefore (new_items slots) p q = order_still moved slots rest p q still still' in (
      λ b. (before_in_two s.new (new_items slots) p q).1 (before_carried (s.old ∷ []) s.new (old_items slots) (new_items slots) p q hp gp gq front.0 later.0 ((before_in_two (s.old ∷ []) (old_items slots) p q).0 b)),
      λ b. (before_in_two (s.old ∷ []) (old_items slots) p q).1
          (before_carried s.new (s.old ∷ []) (new_items slots) (old_items slots) p q (hp.1, hp.0) (gp.1, gp.0) (gq.1, gq.0) front.1 later.1 ((before_in_two s.new (new_items slots) p q).0 b)),
    )

behind_still : (moved : Pair → Bool) (slots : List Slot) → All (IsFair moved) slots → (p : Pair) (n : ℕ) → moved p ≡ false → LastBehind (old_items slots) p n ↔ LastBehind (new_items slots) p n
behind_still moved [] fair p n still = (λ h. h, λ h. h)
behind_still moved (s ∷ slots) fair p n still =
    let here : IsFair moved s = All-head (IsFair moved) s slots fair in
    let rest : All (IsFair moved) slots = All-tail (IsFair moved) s slots fair in
    let g : SamePairs (old_items slots) (new_items slots) p = pairs_still moved slots rest p still in
    let front : LastBehind (s.old ∷ []) p n ↔ LastBehind s.new p n = behind_in_slot moved s here p n still in
    let count : length (kept_items s.new) ≡ length (kept_items (s.old ∷ [])) = ap length here.kept in (
      λ b. (behind_in_two s.new (new_items slots) p n).1
          (behind_carried (s.old ∷ []) s.new (old_items slots) (new_items slots) p n (sym count) g front.0 (λ k. (behind_still moved slots rest p k still).0) ((behind_in_two (s.old ∷ []) (old_items slots) p n).0 b)),
      λ b. (behind_in_two (s.old ∷ []) (old_items slots) p n).1
          (behind_carried s.new (s.old ∷ []) (new_items slots) (old_items slots) p n count (g.1, g.0) front.1 (λ k. (behind_still moved slots rest p k still).1) ((behind_in_two s.new (new_items slots) p n).0 b)),
    )

pub kept_order_still : (moved : Pair → Bool) (slots : List Slot) → All (IsFair moved) slots → (p : Pair) (n : ℕ) → moved p ≡ false → IsBeforeKept (old_items slots) p n ↔ IsBeforeKept (new_items slots) p n
kept_order_still moved slots fair p n still = (
  λ b. again ((behind_still moved slots fair p (kept_before b.place.item (old_items slots)) still).0 (record { place = b.place; stands = b.stands; number = refl })) b.before,
  λ b. again' ((behind_still moved slots fair p (kept_before b.place.item (new_items slots)) still).1 (record { place = b.place; stands = b.stands; number = refl })) b.before,
)
  where
    again : {k : ℕ} → LastBehind (new_items slots) p k → k ≤ n → IsBeforeKept (new_items slots) p n
    again l h = let e : kept_before l.place.item (new_items slots) ≤ n = omega (arith, l.number, h) in record { place = l.place; stands = l.stands; before = e }

    again' : {k : ℕ} → LastBehind (old_items slots) p k → k ≤ n → IsBeforeKept (old_items slots) p n
    again' l h = let e : kept_before l.place.item (old_items slots) ≤ n = omega (arith, l.number, h) in record { place = l.place; stands = l.stands; before = e }

pub same_kept : (moved : Pair → Bool) (slots : List Slot) → All (IsFair moved) slots → kept_items (old_items slots) ≡ kept_items (new_items slots)
same_kept moved [] fair = refl
same_kept moved (s ∷ slots) fair =
    filter-append is_kept (s.old ∷ []) (old_items slots)
    ∙ ap₂ (λ (xs ys : List Item). xs ++ ys) (sym (All-head (IsFair moved) s slots fair).kept) (same_kept moved slots (All-tail (IsFair moved) s slots fair))
    ∙ sym (filter-append is_kept s.new (new_items slots))

-- ---- The sheet is kept

-- a moved pair keeps its order with each pair that it weighs with and meets
abbrev pub KeepsOrderOfPairs : (Pair → Bool) → List Item → List Item → Type 0
KeepsOrderOfPairs moved items items' = (p q : Pair) → moved p ≡ true → Weigh p q → Meet p.selector q.selector →
    (IsBefore items p q ↔ IsBefore items' p q) × (IsBefore items q p ↔ IsBefore items' q p)

-- a moved pair keeps its order with each kept item that it weighs with
abbrev pub KeepsOrderOfKept : (Pair → Bool) → List Item → List Item → Type 0
KeepsOrderOfKept moved items items' = (p : Pair) (number : ℕ) (item : Item) → moved p ≡ true →
    slice_get (kept_items items) number ≡ Some item → WeighsKept p item → IsBeforeKept items p number ↔ IsBeforeKept items' p number

pub fair_slots_keep : (moved : Pair → Bool) (source : List ℕ) (slots : List Slot) →
    All (IsFair moved) slots →
    ((p : Pair) → HasPair (old_items slots) p ↔ HasPair (new_items slots) p) →
    KeepsOrderOfPairs moved (old_items slots) (new_items slots) →
    KeepsOrderOfKept moved (old_items slots) (new_items slots) →
    Keeps source (old_items slots) source (new_items slots)
fair_slots_keep moved source slots fair pairs order kept_order = record {
  pairs = pairs;
  kept = ap (map (content source)) (same_kept moved slots fair);
  order = λ p q w m. which p q w m (moved p) refl (moved q) refl;
  kept_order = λ p n x at w. kept p n x at w (moved p) refl;
}
  where
    which : (p q : Pair) → Weigh p q → Meet p.selector q.selector → (b : Bool) → moved p ≡ b → (c : Bool) → moved q ≡ c → IsBefore (old_items slots) p q ↔ IsBefore (new_items slots) p q
    which p q w m true h c g = (order p q h w m).0
    which p q w m false h true g = (order q p g (weigh_back p q w) (meet_back p.selector q.selector m)).1
    which p q w m false h false g = order_still moved slots fair p q h g

    kept : (p : Pair) (n : ℕ) (x : Item) → slice_get (kept_items (old_items slots)) n ≡ Some x → WeighsKept p x → (b : Bool) → moved p ≡ b → IsBeforeKept (old_items slots) p n ↔ IsBeforeKept (new_items slots) p n
    kept p n x at w true h = kept_order p n x h at w
    kept p n x at w false h = kept_order_still moved slots fair p n h
