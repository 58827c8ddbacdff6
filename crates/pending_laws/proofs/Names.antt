-- Steps whose items are told by names, which stay while the items do.
use Rattle.std.proofs.Common.{◌≡◌, ◌⊎◌, ℕ, ◌<◌, true, List, [], ◌∷◌, length, Some, refl, sym, ap, ap₂, ◌∙◌, inl, inr, arith}
use Rattle.std.specs.Prelude.{slice_get, slice_index}
use Rattle.std.proofs.lemmas.Bool.{false≢true, false_from_ne_true}
use Rattle.std.proofs.lemmas.Bool.Decides.{nat_tests}
use Rattle.std.proofs.lemmas.Option.{get_or_from_slice_get, slice_get-get_or}
use Rattle.cascade_laws.proofs.ForCallers.{exceeds-irreflexive, exceeds-not_transitive}
use Rattle.css_model.specs.declared.sheet.Item.{Item}
use Rattle.css_model.specs.Cascade.Winner.{exceeds}
use Rattle.order_laws.specs.Edits.{Edit}
use Rattle.plan_laws.specs.Cover.{Priority, IsSooner}
use Rattle.step_laws.specs.declared.step.Step.{Step}
use Rattle.step_laws.specs.declared.step.Step.TheVariants.{CutDecl, CutSel, JoinSelUp, JoinSelDown, JoinDeclUp, JoinDeclDown, Share}
use Rattle.step_laws.specs.Steps.{rank, first_item, last_item}
use Rattle.plan_laws.specs.Barrier.Hindering.{priority_of}
use Rattle.plan_laws.specs.Barrier.Renumbering.{Leaves, new_number, renumbered}
use Rattle.pending_laws.specs.Priorities.{named, AreOrderKeys}

-- ---- Names that stay

-- the name of an item that an edit left is that of the item before
pub same_name : (items : List Item) (d : Edit) (names names' : List ℕ) → length names ≡ length items → ((n b : ℕ) → Leaves d n → slice_get names n ≡ Some b → slice_get names' (new_number d items n) ≡ Some b) →
    (n : ℕ) → Leaves d n → n < length items → slice_index names' (new_number d items n) ≡ slice_index names n
same_name items d names names' beside kept n leaves less =
    get_or_from_slice_get names' (new_number d items n) (slice_index names n) 0 (kept n (slice_index names n) leaves (slice_get-get_or names n 0 (omega (arith, beside, less))))

-- one numbering after the other
pub again : (f g h : ℕ → ℕ) (k : Step) → g (f (first_item k)) ≡ h (first_item k) → g (f (last_item k)) ≡ h (last_item k) → renumbered g (renumbered f k) ≡ renumbered h k
again f g h (CutDecl n i) first last = ap (λ m. CutDecl m i) first
again f g h (CutSel n i) first last = ap (λ m. CutSel m i) first
again f g h (JoinSelUp x y) first last = ap₂ (λ m n. JoinSelUp m n) first last
again f g h (JoinSelDown x y) first last = ap₂ (λ m n. JoinSelDown m n) first last
again f g h (JoinDeclUp x y) first last = ap₂ (λ m n. JoinDeclUp m n) first last
again f g h (JoinDeclDown x y) first last = ap₂ (λ m n. JoinDeclDown m n) first last
again f g h (Share x y) first last = ap₂ (λ m n. Share m n) first last

pub new_first : (f : ℕ → ℕ) (k : Step) → first_item (renumbered f k) ≡ f (first_item k)
new_first f (CutDecl n i) = refl
new_first f (CutSel n i) = refl
new_first f (JoinSelUp x y) = refl
new_first f (JoinSelDown x y) = refl
new_first f (JoinDeclUp x y) = refl
new_first f (JoinDeclDown x y) = refl
new_first f (Share x y) = refl

pub new_last : (f : ℕ → ℕ) (k : Step) → last_item (renumbered f k) ≡ f (last_item k)
new_last f (CutDecl n i) = refl
new_last f (CutSel n i) = refl
new_last f (JoinSelUp x y) = refl
new_last f (JoinSelDown x y) = refl
new_last f (JoinDeclUp x y) = refl
new_last f (JoinDeclDown x y) = refl
new_last f (Share x y) = refl

-- ---- The order of priorities

pub rank_length : (k : Step) → length (rank k) ≡ 3
rank_length (CutDecl n i) = refl
rank_length (CutSel n i) = refl
rank_length (JoinSelUp x y) = refl
rank_length (JoinSelDown x y) = refl
rank_length (JoinDeclUp x y) = refl
rank_length (JoinDeclDown x y) = refl
rank_length (Share x y) = refl

-- no priority comes before itself
pub not_itself : (t : Priority) → IsSooner t t → ⊥
not_itself t (inl h) = absurd (omega (arith, h))
not_itself t (inr h) = false≢true (sym (exceeds-irreflexive (rank t.step)) ∙ h.1)

-- what comes before neither of two in a row does not come before the last
pub not_sooner : (s t u : Priority) → (IsSooner s t → ⊥) → (IsSooner t u → ⊥) → IsSooner s u → ⊥
not_sooner s t u first second (inl h) =
    let a : t.saving < s.saving → ⊥ = (λ l. first (inl l)) in
    let b : u.saving < t.saving → ⊥ = (λ l. second (inl l)) in
    absurd (omega (arith, a, b, h))
not_sooner s t u first second (inr h) =
    let a : t.saving < s.saving → ⊥ = (λ l. first (inl l)) in
    let b : u.saving < t.saving → ⊥ = (λ l. second (inl l)) in
    let same : s.saving ≡ u.saving = h.0 in
    let e : s.saving ≡ t.saving = omega (arith, a, b, same) in
    let g : t.saving ≡ u.saving = omega (arith, a, b, same) in
    false≢true (sym (exceeds-not_transitive (rank u.step) (rank t.step) (rank s.step) (rank_length u.step ∙ sym (rank_length t.step))
    (false_from_ne_true (exceeds (rank u.step) (rank t.step)) (λ l. second (inr (g, l))))
    (false_from_ne_true (exceeds (rank t.step) (rank s.step)) (λ l. first (inr (e, l))))) ∙ h.1)

-- ---- By order keys

-- two numbers of an item and a part, or of two items, in their order
abbrev InOrder : ℕ → ℕ → ℕ → ℕ → Type 0
InOrder x y x' y' = (x < x') ⊎ ((x ≡ x') × (y < y'))

of_exceeds : (c x y x' y' : ℕ) → exceeds (c ∷ x' ∷ y' ∷ []) (c ∷ x ∷ y ∷ []) ≡ true → InOrder x y x' y'
of_exceeds c x y x' y' h = grind (arith, nat_tests)

to_exceeds : (c x y x' y' : ℕ) → InOrder x y x' y' → exceeds (c ∷ x' ∷ y' ∷ []) (c ∷ x ∷ y ∷ []) ≡ true
to_exceeds c x y x' y' h = grind (arith, nat_tests)

module _ (items : List Item) (order_keys : List ℕ) (are : AreOrderKeys items order_keys) where
  abbrev order_key : ℕ → ℕ
  order_key n = slice_index order_keys n

  order_key_order : (x y : ℕ) → y < length items → x < y → order_key x < order_key y
  order_key_order x y less before = are.ascend x y 0 before (let e = are.beside in omega (arith, e, less))

  two_items : (c x y x' y' : ℕ) → x' < length items → y' < length items → exceeds (c ∷ x' ∷ y' ∷ []) (c ∷ x ∷ y ∷ []) ≡ true → exceeds (c ∷ order_key x' ∷ order_key y' ∷ []) (c ∷ order_key x ∷ order_key y ∷ []) ≡ true
  two_items c x y x' y' first last h = to_exceeds c (order_key x) (order_key y) (order_key x') (order_key y') (which (of_exceeds c x y x' y' h))
    where
      which : InOrder x y x' y' → InOrder (order_key x) (order_key y) (order_key x') (order_key y')
      which (inl g) = inl (order_key_order x x' first g)
      which (inr g) = inr (ap (λ n. slice_index order_keys n) g.0, order_key_order y y' last g.1)

  one_item : (c x i x' i' : ℕ) → x' < length items → exceeds (c ∷ x' ∷ i' ∷ []) (c ∷ x ∷ i ∷ []) ≡ true → exceeds (c ∷ order_key x' ∷ i' ∷ []) (c ∷ order_key x ∷ i ∷ []) ≡ true
  one_item c x i x' i' first h = to_exceeds c (order_key x) i (order_key x') i' (which (of_exceeds c x i x' i' h))
    where
      which : InOrder x i x' i' → InOrder (order_key x) i (order_key x') i'
      which (inl g) = inl (order_key_order x x' first g)
      which (inr g) = inr (ap (λ n. slice_index order_keys n) g.0, g.1)

  rank_order_keyed : (j k : Step) → (first_item k < length items) × (last_item k < length items) → exceeds (rank k) (rank j) ≡ true → exceeds (rank (renumbered (λ m. slice_index order_keys m) k)) (rank (renumbered (λ m. slice_index order_keys m) j)) ≡ true
  rank_order_keyed (CutDecl x i) (CutDecl x' i') w h = one_item 0 x i x' i' w.0 h
  rank_order_keyed (CutSel x i) (CutSel x' i') w h = one_item 1 x i x' i' w.0 h
  rank_order_keyed (JoinSelUp x y) (JoinSelUp x' y') w h = two_items 2 x y x' y' w.0 w.1 h
  rank_order_keyed (JoinSelDown x y) (JoinSelDown x' y') w h = two_items 3 x y x' y' w.0 w.1 h
  rank_order_keyed (JoinDeclUp x y) (JoinDeclUp x' y') w h = two_items 4 x y x' y' w.0 w.1 h
  rank_order_keyed (JoinDeclDown x y) (JoinDeclDown x' y') w h = two_items 5 x y x' y' w.0 w.1 h
  rank_order_keyed (Share x y) (Share x' y') w h = two_items 6 x y x' y' w.0 w.1 h
  rank_order_keyed j k w h = h

  -- the order of two priorities of the sheet is told by order keys
  pub sooner_order_keyed : (m n : ℕ) (j k : Step) → (first_item k < length items) × (last_item k < length items) → IsSooner (priority_of m j) (priority_of n k) → IsSooner (named order_keys m j) (named order_keys n k)
  sooner_order_keyed m n j k w (inl h) = inl h
  sooner_order_keyed m n j k w (inr h) = inr (h.0, rank_order_keyed j k w h.1)
