-- What a plan holds of the steps of a sheet, behind a step.
use Rattle.std.proofs.Common.{◌≡◌, ◌⊎◌, ℕ, ◌<◌, Bool, true, false, List, sym, subst, inl, inr}
use Rattle.std.specs.List.{Contains}
use Rattle.css_model.specs.declared.sheet.Item.{Item}
use Rattle.css_model.specs.Sheets.Sound.{IsSound}
use Rattle.order_laws.specs.Edits.{Edit, edited}
use Rattle.plan_laws.specs.Cover.{Priority, IsSooner, IsCovered}
use Rattle.step_laws.specs.declared.step.Step.{Step}
use Rattle.step_laws.specs.Free.{Answered, AreAmong, IsBlocked}
use Rattle.step_laws.specs.Sizes.{Saves}
use Rattle.step_laws.specs.Steps.{IsStep, first_item, last_item}
use Rattle.plan_laws.specs.Barrier.Hindering.{Hindrance, OfPair, OfKept, Hinders, HinderedIsBlocked, HasRoom, IsUntouched, Watched, priority_of}
use Rattle.plan_laws.specs.Barrier.Renumbering.{new_number, renumbered, renumbered_edit}
use Rattle.plan_laws.specs.Barrier.SideBySide.{HasCome}
use Rattle.pending_laws.specs.Before.{HasBeen, StepsHaveBeen}
use Rattle.pending_laws.specs.Behind.{GoesOn, HinderedGoesOn}
use Rattle.pending_laws.proofs.Been.{renumbers}
use Rattle.pending_laws.specs.Pending.{StepsArePending, IsCarriedOver, AreQueued}

-- ---- What is pending

module _ (have_been : StepsHaveBeen) (hindered_on : HinderedGoesOn) (answers : List Answered) (source : List ℕ) (items : List Item) (j : Step) (d : Edit)
    (waits : ℕ → Step → Bool) (watched : List Watched) (waits' : ℕ → Step → Bool) (watched' : List Watched) (step : IsStep items j d) (sound : IsSound source items) (room : HasRoom items) (over : IsCarriedOver source items d waits watched waits' watched')
    (pending : StepsArePending answers source items waits watched) where
  abbrev Holds : ℕ → Step → Edit → Type 0
  Holds n k e = (waits' n k ≡ true) ⊎ ((h : Hindrance) × Contains watched' (record { priority = priority_of n k; by = h }) × Hinders answers (edited d items) e h)

  -- a step that goes on
  on_holds : (k : Step) (e : Edit) (n : ℕ) → GoesOn items d k e → Saves source items e n → 0 < n → Holds n (renumbered (new_number d items) k) (renumbered_edit (new_number d items) e)
  on_holds k e n on saves some = which (pending k e n on.before saves some)
    where
      which : (waits n k ≡ true) ⊎ ((h : Hindrance) × Contains watched (record { priority = priority_of n k; by = h }) × Hinders answers items e h) → Holds n (renumbered (new_number d items) k) (renumbered_edit (new_number d items) e)
      which (inl w) = inl (over.queue k e n on saves some w)
      which (inr (h, among, hinders)) = still (over.blocked k e n h on saves some among)
        where
          still : (IsUntouched d h × Contains watched' (record { priority = priority_of n (renumbered (new_number d items) k); by = h })) ⊎ (waits' n (renumbered (new_number d items) k) ≡ true) →
              Holds n (renumbered (new_number d items) k) (renumbered_edit (new_number d items) e)
          still (inl (untouched, among')) = inr (h, among', hindered_on answers items j d k e room step on h untouched hinders)
          still (inr w) = inl w

  pub pending_on : StepsArePending answers source (edited d items) waits' watched'
  pending_on k' e' n is saves some = which (over.made k' e' n is saves some)
    where
      which : (HasCome d items (first_item k') × HasCome d items (last_item k')) ⊎ (waits' n k' ≡ true) → Holds n k' e'
      which (inr w) = inl w
      which (inl come) =
          let b : HasBeen source items d k' e' = have_been source items j d k' e' step sound room is come.0 come.1 in
          let on : GoesOn items d b.step b.edit = record { before = b.is_step; others = b.others; behind = renumbers items d k' b.step e' b.edit b.step_is b.edit_is is } in
          subst (λ (k : Step). Holds n k e') (sym b.step_is) (subst (λ (x : Edit). Holds n (renumbered (new_number d items) b.step) x) (sym b.edit_is)
          (on_holds b.step b.edit n on ((b.saves n).1 saves) some))

-- more answers hinder no less
pub more_hinder : (answers answers' : List Answered) (items : List Item) (e : Edit) → AreAmong answers answers' → (h : Hindrance) → Hinders answers items e h → Hinders answers' items e h
more_hinder answers answers' items e among (OfPair p q) hinders = (hinders.0, among (record { first = p.selector; second = q.selector; is_apart = false }) hinders.1)
more_hinder answers answers' items e among (OfKept p number) hinders = hinders

pub watch : (answers answers' : List Answered) (source : List ℕ) (items : List Item) (waits : ℕ → Step → Bool) (watched : List Watched) (waits' : ℕ → Step → Bool) (watched' : List Watched) →
    AreAmong answers answers' → ((a : Watched) → Contains watched a → Contains watched' a) →
    ((k : Step) (e : Edit) (n : ℕ) → IsStep items k e → Saves source items e n → 0 < n → waits n k ≡ true →
    (waits' n k ≡ true) ⊎ ((h : Hindrance) × Contains watched' (record { priority = priority_of n k; by = h }) × Hinders answers' items e h)) →
    StepsArePending answers source items waits watched → StepsArePending answers' source items waits' watched'
watch answers answers' source items waits watched waits' watched' among more queue pending k e n is saves some = which (pending k e n is saves some)
  where
    which : (waits n k ≡ true) ⊎ ((h : Hindrance) × Contains watched (record { priority = priority_of n k; by = h }) × Hinders answers items e h) →
        (waits' n k ≡ true) ⊎ ((h : Hindrance) × Contains watched' (record { priority = priority_of n k; by = h }) × Hinders answers' items e h)
    which (inl w) = queue k e n is saves some w
    which (inr (h, in_watched, hinders)) = inr (h, more (record { priority = priority_of n k; by = h }) in_watched, more_hinder answers answers' items e among h hinders)

pub covered : HinderedIsBlocked → (answers : List Answered) (source : List ℕ) (items : List Item) (waits : ℕ → Step → Bool) (watched : List Watched) (priorities : List Priority) →
    StepsArePending answers source items waits watched → AreQueued source items waits priorities → IsCovered answers source items priorities
covered block answers source items waits watched priorities pending queued k e n is saves some = which (pending k e n is saves some)
  where
    which : (waits n k ≡ true) ⊎ ((h : Hindrance) × Contains watched (record { priority = priority_of n k; by = h }) × Hinders answers items e h) →
        IsBlocked answers items e ⊎ ((t : Priority) × Contains priorities t × (IsSooner (priority_of n k) t → ⊥))
    which (inl w) = inr (queued k e n is saves some w)
    which (inr (h, in_watched, hinders)) = inl (block answers items e h hinders)
