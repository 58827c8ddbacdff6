-- What a plan holds of the steps of a sheet, behind a step.
use Rattle.std.proofs.Common.{◌≡◌, ◌⊎◌, ℕ, ◌<◌, List, length, Some, sym, ◌∙◌, subst, inl, inr, arith}
use Rattle.std.specs.Prelude.{slice_get}
use Rattle.std.specs.List.{Contains}
use Rattle.std.proofs.lemmas.Bool.{false≢true}
use Rattle.cascade_laws.proofs.ForCallers.{exceeds-irreflexive}
use Rattle.css_model.specs.declared.sheet.Item.{Item}
use Rattle.css_model.specs.declared.sheet.Item.TheVariants.{Rule}
use Rattle.css_model.specs.Sheets.Limits.{max_items}
use Rattle.css_model.specs.Sheets.RuleParts.{RuleParts}
use Rattle.css_model.specs.Sheets.Sound.{IsSound}
use Rattle.order_laws.specs.Edits.{Edit, edited}
use Rattle.plan_laws.specs.Cover.{Priority, IsSooner, IsCovered}
use Rattle.step_laws.specs.declared.step.Step.{Step}
use Rattle.step_laws.specs.declared.step.Step.TheVariants.{CutDecl, CutSel, JoinSelUp, JoinSelDown, JoinDeclUp, JoinDeclDown, Share}
use Rattle.step_laws.specs.Free.{Answered, IsBlocked, by_pair, by_kept}
use Rattle.step_laws.specs.Leading.{ComesFirst}
use Rattle.step_laws.specs.Left.{StepsStaySound}
use Rattle.step_laws.specs.Sizes.{Saves}
use Rattle.step_laws.specs.Steps.{rank, IsStep, first_item, last_item}
use Rattle.plan_laws.specs.Barrier.Hindering.{Hindrance, OfPair, OfKept, Hinders, IsUntouched, Watched, priority_of, ArePending, HasRoom, IsReindexed}
use Rattle.plan_laws.specs.Barrier.Renumbering.{new_number, renumbered, renumbered_edit, IsOfOthers, IsOfTwo, AreSideBySide, HindrancesGoOn, KeptHindrancesGoOn}
use Rattle.plan_laws.specs.Barrier.SideBySide.{StepsAreSideBySide, HasCome, SavingsGoOn}
use Rattle.plan_laws.proofs.Barrier.Behind.{joins_stay}
use Rattle.plan_laws.proofs.Barrier.Coming.{steps_come_back}
use Rattle.plan_laws.proofs.Barrier.Renumbers.{items_stay}

pub hindered_blocked : (answers : List Answered) (items : List Item) (e : Edit) (h : Hindrance) → Hinders answers items e h → IsBlocked answers items e
hindered_blocked answers items e (OfPair p q) hinders = by_pair p q hinders.0 hinders.1
hindered_blocked answers items e (OfKept p number) hinders = by_kept p number hinders

-- what hinders goes on where it is not touched
hinders_on : HindrancesGoOn → KeptHindrancesGoOn → (answers : List Answered) (items : List Item) (d e : Edit) → AreSideBySide items d e → (h : Hindrance) → IsUntouched d h → Hinders answers items e h →
    Hinders answers (edited d items) (renumbered_edit (new_number d items) e) h
hinders_on pairs kept answers items d e both (OfPair p q) still hinders = (pairs items d e both p q still.0 still.1 hinders.0, hinders.1)
hinders_on pairs kept answers items d e both (OfKept p number) still hinders = kept items d e both p number still hinders

-- the rules of a step
rules_of : (items : List Item) (k : Step) (e : Edit) → IsOfTwo k → IsStep items k e → (upper : RuleParts) × (lower : RuleParts) × (slice_get items (first_item k) ≡ Some (Rule upper)) × (slice_get items (last_item k) ≡ Some (Rule lower))
rules_of items (CutDecl n i) e two is = absurd two
rules_of items (CutSel n i) e two is = absurd two
rules_of items (JoinSelUp x y) e two j = (j.upper, j.lower, j.rules.upper_at, j.rules.lower_at)
rules_of items (JoinSelDown x y) e two j = (j.upper, j.lower, j.rules.upper_at, j.rules.lower_at)
rules_of items (JoinDeclUp x y) e two j = (j.upper, j.lower, j.rules.upper_at, j.rules.lower_at)
rules_of items (JoinDeclDown x y) e two j = (j.upper, j.lower, j.rules.upper_at, j.rules.lower_at)
rules_of items (Share x y) e two j = (j.upper, j.lower, j.rules.upper_at, j.rules.lower_at)

module _ (side : StepsAreSideBySide) (savings : SavingsGoOn) (pairs : HindrancesGoOn) (kept : KeptHindrancesGoOn) (stay_sound : StepsStaySound) (answers : List Answered) (source : List ℕ) (items : List Item) (j : Step) (d : Edit)
    (queue : List Priority) (watched : List Watched) (queue' : List Priority) (watched' : List Watched) (step : IsStep items j d) (sound : IsSound source items) (room : HasRoom items) (reindexed : IsReindexed source items d queue watched queue' watched') where
  abbrev Holds : ℕ → Step → Edit → Type 0
  Holds n k e = Contains queue' (priority_of n k) ⊎ ((h : Hindrance) × Contains watched' (record { priority = priority_of n k; by = h }) × Hinders answers (edited d items) e h)

  -- a step of other items
  old_holds : (k : Step) (e : Edit) (n : ℕ) → IsOfTwo k → IsOfOthers d k → IsStep items k e → Saves source (edited d items) (renumbered_edit (new_number d items) e) n → 0 < n → ArePending answers source items queue watched →
      Holds n (renumbered (new_number d items) k) (renumbered_edit (new_number d items) e)
  old_holds k e n two others is saves some pending = which (pending k e n two is before some)
    where
      few : length (edited d items) < max_items
      few = room.1 j d step

      behind : IsStep (edited d items) (renumbered (new_number d items) k) (renumbered_edit (new_number d items) e)
      behind = joins_stay items d k e two others (inr few) is

      both : AreSideBySide items d e
      both = side items j k d e step is two others (inr few) (inr (room.1 k e is))

      before : Saves source items e n
      before =
          let w : (upper : RuleParts) × (lower : RuleParts) × (slice_get items (first_item k) ≡ Some (Rule upper)) × (slice_get items (last_item k) ≡ Some (Rule lower)) = rules_of items k e two is in
          (savings source items (edited d items) (new_number d items) k e w.0 w.1 sound (stay_sound source items j d step sound) is behind w.2 w.3
          (items_stay d items (first_item k) (Rule w.0) others.0 w.2) (items_stay d items (last_item k) (Rule w.1) others.1 w.3) n).1 saves

      which : Contains queue (priority_of n k) ⊎ ((h : Hindrance) × Contains watched (record { priority = priority_of n k; by = h }) × Hinders answers items e h) → Holds n (renumbered (new_number d items) k) (renumbered_edit (new_number d items) e)
      which (inl waits) = inl (reindexed.waits n k waits others)
      which (inr (h, among, hinders)) = still (reindexed.blocked n k h among others)
        where
          still : (IsUntouched d h × Contains watched' (record { priority = priority_of n (renumbered (new_number d items) k); by = h })) ⊎ Contains queue' (priority_of n (renumbered (new_number d items) k)) →
              Holds n (renumbered (new_number d items) k) (renumbered_edit (new_number d items) e)
          still (inl (untouched, among')) = inr (h, among', hinders_on pairs kept answers items d e both h untouched hinders)
          still (inr waits) = inl waits

  all_hold : ArePending answers source items queue watched → ArePending answers source (edited d items) queue' watched'
  all_hold pending k' e' n two is saves some = which (reindexed.made k' e' n two is saves some)
    where
      which : (HasCome d items (first_item k') × HasCome d items (last_item k')) ⊎ Contains queue' (priority_of n k') → Holds n k' e'
      which (inr waits) = inl waits
      which (inl come) =
          let w = steps_come_back items d k' e' two (inr room.0) is come.0 come.1 in
          let old : Holds n (renumbered (new_number d items) w.0) (renumbered_edit (new_number d items) w.1) =
          old_holds w.0 w.1 n w.3 w.4 w.2 (subst (λ (x : Edit). Saves source (edited d items) x n) w.6 saves) some pending in
          subst (λ (k : Step). Holds n k e') (sym w.5) (subst (λ (x : Edit). Holds n (renumbered (new_number d items) w.0) x) (sym w.6) old)

pub pending_goes_on : StepsAreSideBySide → SavingsGoOn → HindrancesGoOn → KeptHindrancesGoOn → StepsStaySound → (answers : List Answered) (source : List ℕ) (items : List Item) (j : Step) (d : Edit)
    (queue : List Priority) (watched : List Watched) (queue' : List Priority) (watched' : List Watched) →
    IsStep items j d → IsSound source items → HasRoom items → IsReindexed source items d queue watched queue' watched' →
    ArePending answers source items queue watched → ArePending answers source (edited d items) queue' watched'
pending_goes_on side savings pairs kept stay_sound answers source items j d queue watched queue' watched' step sound room reindexed =
    all_hold side savings pairs kept stay_sound answers source items j d queue watched queue' watched' step sound room reindexed

-- ---- The cover

no_sooner : (n : ℕ) (k : Step) → ComesFirst n k n k → ⊥
no_sooner n k (inl h) = absurd (omega (arith, h))
no_sooner n k (inr h) = false≢true (sym (exceeds-irreflexive (rank k)) ∙ h.1)

pub pending_covered : (answers : List Answered) (source : List ℕ) (items : List Item) (queue : List Priority) (watched : List Watched) → ArePending answers source items queue watched →
    ((k : Step) (e : Edit) (n : ℕ) → (IsOfTwo k → ⊥) → IsStep items k e → Saves source items e n → 0 < n → IsBlocked answers items e ⊎ Contains queue (priority_of n k)) →
    IsCovered answers source items queue
pending_covered answers source items queue watched pending cuts k e n is saves some = by_kind k is
  where
    Covered : Step → Type 0
    Covered k = IsBlocked answers items e ⊎ ((t : Priority) × Contains queue t × (IsSooner (priority_of n k) t → ⊥))

    waits : (k : Step) → Contains queue (priority_of n k) → Covered k
    waits k contained = inr (priority_of n k, contained, no_sooner n k)

    two : (k : Step) → IsOfTwo k → IsStep items k e → Covered k
    two k is_two step = which (pending k e n is_two step saves some)
      where
        which : Contains queue (priority_of n k) ⊎ ((h : Hindrance) × Contains watched (record { priority = priority_of n k; by = h }) × Hinders answers items e h) → Covered k
        which (inl contained) = waits k contained
        which (inr (h, among, hinders)) = inl (hindered_blocked answers items e h hinders)

    one : (k : Step) → (IsOfTwo k → ⊥) → IsStep items k e → Covered k
    one k not_two step = which (cuts k e n not_two step saves some)
      where
        which : IsBlocked answers items e ⊎ Contains queue (priority_of n k) → Covered k
        which (inl blocked) = inl blocked
        which (inr contained) = waits k contained

    by_kind : (k : Step) → IsStep items k e → Covered k
    by_kind (CutDecl m i) step = one (CutDecl m i) (λ h. h) step
    by_kind (CutSel m i) step = one (CutSel m i) (λ h. h) step
    by_kind (JoinSelUp x y) step = two (JoinSelUp x y) tt step
    by_kind (JoinSelDown x y) step = two (JoinSelDown x y) tt step
    by_kind (JoinDeclUp x y) step = two (JoinDeclUp x y) tt step
    by_kind (JoinDeclDown x y) step = two (JoinDeclDown x y) tt step
    by_kind (Share x y) step = two (Share x y) tt step
