-- The items that a step moves pairs out of.
use Rattle.std.proofs.Common.{◌≡◌, ◌⊎◌, ℕ, ◌+◌, ◌-◌, ◌<◌, ◌≤◌, true, List, [], ◌∷◌, Option, Some, None, refl, sym, ap, ◌∙◌, subst, inl, inr, arith}
use Rattle.std.specs.Prelude.{slice_get}
use Rattle.std.specs.List.{Contains}
use Rattle.std.proofs.lemmas.Bool.{false≢true}
use Rattle.std.proofs.lemmas.Bool.Decides.{nat_tests}
use Rattle.css_model.specs.declared.sheet.Item.{Item}
use Rattle.css_model.specs.Sheets.RuleParts.{RuleParts}
use Rattle.order_index.proofs.EntryFacts.{moved_out_of}
use Rattle.order_index.specs.Afterwards.{edit_at}
use Rattle.order_index.specs.Places.{ArePlaces}
use Rattle.order_index.specs.Told.{IsAtPlace, IsFar, far_of, reversed_by}
use Rattle.order_index.specs.Walked.{first_source, last_source}
use Rattle.order_laws.specs.Edits.{Moved}
use Rattle.order_laws.specs.Members.{has_number}
use Rattle.order_laws.specs.Places.{ListedStandsLast}
use Rattle.order_laws.specs.Reversed.{ListedIsReversed, Reversal, distance, other_place}
use Rattle.plan_laws.specs.Window.StepWindows.{middle_start, window_start}
use Rattle.sheet_order.proofs.ForCallers.{moved_is}
use Rattle.sheet_order.specs.Taking.{moved_common, moved_in, moved_of, moved_rule, rule_in}
use Rattle.step_laws.specs.declared.step.Step.{Step}
use Rattle.step_laws.specs.declared.step.Step.TheVariants.{CutDecl, CutSel, JoinSelUp, JoinSelDown, JoinDeclUp, JoinDeclDown, Share}
use Rattle.step_laws.specs.Steps.{IsStep, last_item}

-- ---- Which they are

of_one : (n m : ℕ) → has_number (n ∷ []) m ≡ true → m ≡ n
of_one n m h = grind (arith, nat_tests)

of_two : (x y m : ℕ) → has_number (x ∷ y ∷ []) m ≡ true → (m ≡ x) ⊎ (m ≡ y)
of_two x y m h = grind (arith, nat_tests)

of_rule : (n m : ℕ) (o : Option RuleParts) → has_number (moved_rule n o).out_of m ≡ true → m ≡ n
of_rule n m None h = absurd (false≢true h)
of_rule n m (Some r) h = of_one n m h

of_common : (x y m : ℕ) (u l : Option RuleParts) → has_number (moved_common x y u l).out_of m ≡ true → (m ≡ x) ⊎ (m ≡ y)
of_common x y m None l h = absurd (false≢true h)
of_common x y m (Some u) None h = absurd (false≢true h)
of_common x y m (Some u) (Some l) h = of_two x y m h

of_step : (items : List Item) (k : Step) (m : ℕ) → has_number (moved_in items (moved_of k)).out_of m ≡ true → (m ≡ first_source k) ⊎ (m ≡ last_source k)
of_step items (CutDecl n i) m h = inl (of_rule n m (rule_in (slice_get items n)) h)
of_step items (CutSel n i) m h = inl (of_rule n m (rule_in (slice_get items n)) h)
of_step items (JoinSelUp x y) m h = inl (of_rule y m (rule_in (slice_get items y)) h)
of_step items (JoinSelDown x y) m h = inl (of_rule x m (rule_in (slice_get items x)) h)
of_step items (JoinDeclUp x y) m h = inl (of_rule y m (rule_in (slice_get items y)) h)
of_step items (JoinDeclDown x y) m h = inl (of_rule x m (rule_in (slice_get items x)) h)
of_step items (Share x y) m h = of_common x y m (rule_in (slice_get items x)) (rule_in (slice_get items y)) h

-- ---- Where they are

pub sources_within : (k : Step) → middle_start k ≤ last_item k → (window_start k ≤ first_source k) × (first_source k ≤ last_source k) × (last_source k ≤ last_item k)
sources_within (CutDecl n i) h = (omega arith, omega arith, omega arith)
sources_within (CutSel n i) h = (omega arith, omega arith, omega arith)
sources_within (JoinSelUp x y) h = (omega (arith, h), omega arith, omega arith)
sources_within (JoinSelDown x y) h = (omega arith, omega arith, omega (arith, h))
sources_within (JoinDeclUp x y) h = (omega (arith, h), omega arith, omega arith)
sources_within (JoinDeclDown x y) h = (omega arith, omega arith, omega (arith, h))
sources_within (Share x y) h = (omega arith, omega (arith, h), omega arith)

module _ (listed : ListedIsReversed) (stands : ListedStandsLast) (items : List Item) (k : Step) (is : IsStep items k (edit_at items k)) where
  source_of : (r : Reversal) → Contains (reversed_by items k) r → (r.moved.place.item ≡ first_source k) ⊎ (r.moved.place.item ≡ last_source k)
  source_of r there =
      of_step items k r.moved.place.item
      (subst (λ (x : Moved). has_number x.out_of r.moved.place.item ≡ true) (sym (moved_is items k (edit_at items k) is)) (moved_out_of listed stands items k r there))

  -- each entry so far is at one of the places
  pub places_cover : (far upper lower : ℕ) (places : List (Option ℕ)) → upper ≡ first_source k → lower ≡ last_source k → ArePlaces far upper lower places → (s : Reversal) → Contains (reversed_by items k) s → IsFar far s → (i : ℕ) × (i < 4) × IsAtPlace places far i s
  places_cover far upper lower places upper_is lower_is are s there of = let w = are.all (other_place s.other).item (which (source_of s there)) in (w.0, w.1, (w.2, of))
    where
      which : (s.moved.place.item ≡ first_source k) ⊎ (s.moved.place.item ≡ last_source k) → (distance (other_place s.other).item upper ≡ far) ⊎ (distance (other_place s.other).item lower ≡ far)
      which (inl e) = inl (ap (distance (other_place s.other).item) (upper_is ∙ sym e) ∙ of)
      which (inr e) = inr (ap (distance (other_place s.other).item) (lower_is ∙ sym e) ∙ of)

  near : (start last a b : ℕ) → start ≤ a → a ≤ last → start ≤ b → b ≤ last → distance a b < last - start + 1
  near start last a b al ah bl bh = omega (arith, al, ah, bl, bh)

  -- none is farther than the window is long
  pub far_cover : (start last : ℕ) → start ≡ window_start k → last ≡ last_item k → middle_start k ≤ last_item k → (s : Reversal) → (start ≤ (other_place s.other).item) × ((other_place s.other).item ≤ last) → Contains (reversed_by items k) s →
      (i : ℕ) × (i < last - start + 1) × IsFar i s
  far_cover start last start_is last_is middle s within there = (far_of s, which (source_of s there), refl)
    where
      which : (s.moved.place.item ≡ first_source k) ⊎ (s.moved.place.item ≡ last_source k) → far_of s < last - start + 1
      which (inl e) =
          let w = sources_within k middle in
          let low = w.0 in
          let order = w.1 in
          let high = w.2 in
          near start last (other_place s.other).item s.moved.place.item within.0 within.1 (omega (arith, low, e, start_is)) (omega (arith, order, high, e, last_is))
      which (inr e) =
          let w = sources_within k middle in
          let low = w.0 in
          let order = w.1 in
          let high = w.2 in
          near start last (other_place s.other).item s.moved.place.item within.0 within.1 (omega (arith, low, order, e, start_is)) (omega (arith, high, e, last_is))
